-- The cursor, one line further.
use Prim.Native.Nat.{ℕ, zero, suc, ◌+◌, ◌-◌, ◌*◌, ◌/◌, ◌≤◌, ◌<◌}
use mathlib.Core.Path.{◌≡◌, refl, sym, ap, subst, ◌∙◌}
use mathlib.Core.Bool.{Bool, true, false, not, cond}
use mathlib.Core.List.{List, [], ◌∷◌, ◌++◌, map, append_assoc, append-nil}
use native.Mathlib.Omega.{arith}
use lib.ListN.{length, drop, get_or, length-append}
use lib.Seq.{drop_at}
use lib.Dec.{eqb, leb, ltb}
use borrow.Author.Tests.{eqb-true, eqb-false, ltb-true, ltb-false}
use Rattle.format.specs.Bytes.{any}
use Rattle.format.specs.Lines.{Piece}
use Rattle.format.specs.Records as records
use Rattle.format.specs.Records.{Record, header, reference, group, program, comment, code, key, Line, refused_line, read}
use Rattle.format.specs.Reading.{clash, of_kind, admitted}
use Rattle.byte_slices.specs.First.{first_line}
use Rattle.byte_slices.specs.Stands.{Stands, Each}
use Rattle.accepted.specs.Pieces.{pieces}
use Rattle.accepted.proofs.OfKind.{of_kind-append}
use Rattle.accepted.specs.First.{first_at}
use Rattle.accepted.proofs.Ahead.{ahead, ahead_none, ahead-one, next-within, next_more, ahead-stands}
use Rattle.record.specs.Head.{head_of, record_head, stretch_of}
use Rattle.record.specs.declared.Head.{Head}
use Rattle.record.specs.declared.Head.TheVariants as head
use Rattle.read_admission.specs.Admission.{line_refusal, is_taken, barring, programs_of}
use Rattle.read_admission.proofs.Admission.{stood, used-is, barring-is, refusal-none, refusal-some}
use Rattle.read_admission.proofs.Programs.{programs-one}
use Rattle.format.specs.Carrying.{kept_of}
use Rattle.carry_laws.specs.Judged.{judged_from}
use Rattle.carry_laws.proofs.Judged.{kept_append, judged-append}
use Rattle.carry_laws.proofs.Count.{judged-length, skips-kept}
use Rattle.carry_laws.proofs.Keys.{key-lines}
use Rattle.format.specs.Slots.{Held}
use Rattle.key_index.specs.KeySlots.{start, is_first_key}
use Rattle.key_index.specs.HeldKeys.{key_values_of}
use Rattle.accepted.specs.Ended.{Ended}
use Rattle.key_index.proofs.HeldKeys.{entering-length}
use Rattle.accepted.proofs.LineKeys.{line-ended}
use Rattle.carry_keys.specs.Blocks.{head_keys, keyed_front, start_of, after_keyed, record_if_read, read_in, filled_for}
use Rattle.carry_keys.proofs.Walk.{front-one, start-ahead, block-split}
use Rattle.carry_keys.proofs.Firsts.{firsts}
use Rattle.carry_lines.specs.Kept.{used_by, ids_after, until_at, filled_at, advanced}
use Rattle.carry_lines.specs.Going.{judged_lines, refusal_first, refusal_at, Block, Going}
use Rattle.key_look.specs.Seed.{plain_seed}
use Rattle.key_look.specs.declared.Seed.{Seed}
use Rattle.carry_lines.specs.declared.Cursor.{Cursor}
use Rattle.carry_lines.proofs.Kept.{advanced-kept, advanced-skipped, until-same, until-next, filled-same, filled_next, filled-length}
use Rattle.carry_lines.proofs.Ids.{met-taken, kept-ended, kept-held, kept-few, skipped-ids}

read_kept : (strict : Bool) (ps : List Piece) → read_in strict ps ≡ kept_of (map (records.line strict) ps)
unfolding read_in kept_of record_if_read
read_kept strict [] = refl
read_kept strict (p ∷ ps) = go (records.line strict p) (read_kept strict ps)
  where
    go : (l : Line) → read_in strict ps ≡ kept_of (map (records.line strict) ps) → record_if_read l ++ read_in strict ps ≡ kept_of (l ∷ map (records.line strict) ps)
    go (refused_line n) ih = ih
    go (read r) ih = ap (λ l. r ∷ l) ih

module _ (strict : Bool) (t : List ℕ) (from : ℕ) (area ids : List ℕ) (c : Cursor) (small : length t ≤ 16777216) (g : Going strict t from area ids c) (h : c.at < length t) where
  -- the line, and the place after it
  abbrev p : Piece
  p = first_at c.at t

  abbrev next : ℕ
  next = c.at + (first_line (drop c.at t)).next

  -- what was kept before it
  abbrev pub before : List Record
  before = kept_of (judged_from strict [] g.passed)

  pub kept-lines : c.kept ≤ c.line
  kept-lines = omega (arith, g.counted, skips-kept 0 (judged_from strict [] g.passed), judged-length strict [] g.passed, g.number)

  -- ---- the lines judged

  pub lines-here : drop c.line (judged_lines strict t from) ≡ admitted strict before p ∷ judged_from strict (before ++ kept_of (admitted strict before p ∷ [])) (ahead t next)
  unfolding judged_lines judged_from
  lines-here =
      ap (drop c.line) (ap (judged_from strict []) g.split ∙ judged-append strict [] g.passed (ahead t c.at))
      ∙ drop_at (judged_from strict [] g.passed) (judged_from strict before (ahead t c.at)) c.line (judged-length strict [] g.passed ∙ sym g.number)
      ∙ ap (judged_from strict before) (ahead-one t c.at h)

  pub refusal-here : refusal_at c.line (judged_lines strict t from) ≡ line_refusal (admitted strict before p)
  unfolding refusal_at refusal_first
  refusal-here = ap refusal_first lines-here

  -- ---- in the block that the line is in, by the numbers `seed`: those of the cursor, where no block begins here

  module _ (seed : Seed) (keeps : (c.at ≡ c.until → ⊥) → seed ≡ c.seed) where
    -- ---- the block

    abbrev filled : List ℕ
    filled = filled_at seed strict t from area c.at c.until

    abbrev until : ℕ
    until = until_at strict t (length area) c.at c.until

    pub filled-long : length filled ≡ length area
    filled-long = go (eqb c.at c.until) refl
      where
        go : (b : Bool) → eqb c.at c.until ≡ b → length filled ≡ length area
        go true e = ap length (filled_next seed strict t c.at c.until from area (eqb-true c.at c.until e)) ∙ filled-length seed strict t (length area) from c.at
        go false e = ap length (filled-same seed strict t c.at c.until from area (eqb-false c.at c.until e))

    -- where it begins, and this line is in it
    fresh : c.at ≡ c.until → (k : Block seed strict t from filled g.passed c.at until) × (0 < length k.rest)
    fresh e =
        let m : ℕ = length area / 4 * 3 in
        let u : until ≡ after_keyed strict m c.at t = until-next strict t c.at c.until (length area) e in
        let front : keyed_front strict m (ahead t c.at) ≡ p ∷ keyed_front strict (m - head_keys (head_of (records.line strict p))) (ahead t next) =
        ap (keyed_front strict m) (ahead-one t c.at h) ∙ front-one strict p (ahead t next) m (m - head_keys (head_of (records.line strict p))) (omega (arith, g.some)) refl in (
          record {
            begin = c.at;
            old = g.passed;
            done = [];
            rest = keyed_front strict m (ahead t c.at);
            split = g.split;
            front = sym (append-nil g.passed);
            lines = ap (λ n. keyed_front strict (n / 4 * 3) (ahead t c.at)) filled-long;
            ahead = block-split seed strict t m c.at g.inside ∙ ap (λ n. keyed_front strict m (ahead t c.at) ++ ahead t n) (sym u);
            filled = filled_next seed strict t c.at c.until from area e ∙ ap (λ n. filled_for seed strict t n from c.at) (sym filled-long);
          },
          omega (arith, ap length front),
        )

    -- lines from another place on are others
    apart : (c.at ≡ c.until → ⊥) → ahead t c.at ≡ ahead t c.until → ⊥
    apart n e = go (ltb c.until (length t)) refl
      where
        go : (b : Bool) → ltb c.until (length t) ≡ b → ⊥
        go true q = n (sym (start-ahead t c.at g.inside) ∙ ap (start_of (length t)) e ∙ start-ahead t c.until (omega (arith, ltb-true c.until (length t) q)))
        go false q = let z : suc (length (ahead t next)) ≡ 0 = ap length (sym (ahead-one t c.at h) ∙ e ∙ ahead_none t c.until (ltb-false c.until (length t) q)) in omega (arith, z)

    -- or is not left yet
    same : (c.at ≡ c.until → ⊥) → (k : Block seed strict t from filled g.passed c.at until) × (0 < length k.rest)
    same n =
        rw (filled-same seed strict t c.at c.until from area n, until-same strict t c.at c.until (length area) n, keeps n) (g.block n, some (g.block n).rest (g.block n).ahead)
      where
        some : (rest : List Piece) → ahead t c.at ≡ rest ++ ahead t c.until → 0 < length rest
        some [] e = absurd (apart n e)
        some (q ∷ rest) e = omega arith

    inside : (k : Block seed strict t from filled g.passed c.at until) × (0 < length k.rest)
    inside = go (eqb c.at c.until) refl
      where
        go : (b : Bool) → eqb c.at c.until ≡ b → (k : Block seed strict t from filled g.passed c.at until) × (0 < length k.rest)
        go true e = fresh (eqb-true c.at c.until e)
        go false e = same (eqb-false c.at c.until e)

    abbrev block : Block seed strict t from filled g.passed c.at until
    block = inside.0

    -- this line is the first of those left
    rest-one : (rest : List Piece) (us : List Piece) → 0 < length rest → p ∷ ahead t next ≡ rest ++ us → (qs : List Piece) × (rest ≡ p ∷ qs) × (ahead t next ≡ qs ++ us)
    rest-one [] us s e = absurd (omega (arith, s))
    rest-one (q ∷ qs) us s e = (qs, ap (λ y. y ∷ qs) (sym (ap (λ x. get_or x 0 q) e)), ap (drop 1) e)

    after : (qs : List Piece) × (block.rest ≡ p ∷ qs) × (ahead t next ≡ qs ++ ahead t until)
    after = rest-one block.rest (ahead t until) inside.1 (sym (ahead-one t c.at h) ∙ block.ahead)

    -- ---- the line's key

    stands : Stands t 0 p
    stands = ahead-stands t c.at h

    abbrev x : Head
    x = head_of (records.line strict p)

    -- the area says of an SQ or RG what the kept records say
    first-used : (r : Record) → records.line strict p ≡ read r → eqb (code r) 1 ≡ false → eqb (code r) 4 ≡ false → not (is_first_key seed t filled (record_head r)) ≡ any (clash r) before
    unfolding any
    first-used r is a b =
        let k = block in
        let lines : keyed_front strict (length filled / 4 * 3) (ahead t k.begin) ≡ k.done ++ (p ∷ after.0) = k.lines ∙ ap (λ l. k.done ++ l) after.1 in
        ap (λ s. not (is_first_key seed t s (record_head r))) k.filled
        ∙ ap not (firsts seed strict t (length filled) from k.begin k.old k.done after.0 p k.split lines small r is)
        ∙ not-not (any (clash r) (read_in strict (k.old ++ k.done)))
        ∙ ap (any (clash r)) (ap (read_in strict) (sym k.front) ∙ read_kept strict g.passed)
        ∙ sym (key-lines strict r a b [] g.passed)
      where
        not-not : (b : Bool) → not (not b) ≡ b
        not-not true = refl
        not-not false = refl

    -- the area and the slots of programs say of a record what the kept records say
    told-record : (r : Record) → records.line strict p ≡ read r
        → barring (used_by seed t filled ids (record_head r)) c.kept c.programs (record_head r) ≡ barring (is_taken before t (record_head r)) c.kept c.programs (record_head r)
    unfolding barring used_by is_taken record_head pieces Each code key
    told-record (header v fs) is = refl
    told-record (reference q n fs) is =
        ap (λ b. cond {A = ℕ} b 18 0) (first-used (reference q n fs) is refl refl ∙ sym (used-is t before (reference q n fs) 2 q refl refl (stood strict t p stands (reference q n fs) is).0))
    told-record (group q fs) is =
        ap (λ b. cond {A = ℕ} b 18 0) (first-used (group q fs) is refl refl ∙ sym (used-is t before (group q fs) 3 q refl refl (stood strict t p stands (group q fs) is).0))
    told-record (program q fs) is =
        ap (λ b. cond b 18 (cond (leb 1024 c.programs) 19 0)) (met-taken t ids before g.room g.held g.ended (stretch_of q) (length fs))
    told-record (comment q) is = refl

    barring-here : barring (is_taken before t x) (length before) c.programs x ≡ line_refusal (admitted strict before p)
    barring-here = ap (λ n. barring (is_taken before t x) (length before) n x) g.told ∙ barring-is t before strict p stands

    -- what is judged of it
    pub judged : barring (used_by seed t filled ids x) c.kept c.programs x ≡ line_refusal (admitted strict before p)
    unfolding head_of barring
    judged =
        go (records.line strict p) refl
        ∙ ap (λ n. barring (is_taken before t x) n c.programs x) g.counted
        ∙ barring-here
      where
        go : (l : Line) → records.line strict p ≡ l → barring (used_by seed t filled ids (head_of l)) c.kept c.programs (head_of l) ≡ barring (is_taken before t (head_of l)) c.kept c.programs (head_of l)
        go (refused_line n) e = refl
        go (read r) e = told-record r e

    -- ---- one line further

    abbrev passed : List Piece
    passed = g.passed ++ (p ∷ [])

    kept_on : kept_of (judged_from strict [] passed) ≡ before ++ kept_of (admitted strict before p ∷ [])
    unfolding judged_from
    kept_on = ap kept_of (judged-append strict [] g.passed (p ∷ [])) ∙ kept_append (judged_from strict [] g.passed) (admitted strict before p ∷ [])

    split-on : ahead t from ≡ passed ++ ahead t next
    split-on = g.split ∙ ap (λ l. g.passed ++ l) (ahead-one t c.at h) ∙ sym (append_assoc g.passed (p ∷ []) (ahead t next))

    block_on : Block seed strict t from filled passed next until
    block_on =
        let k = block in
        record {
          begin = k.begin;
          old = k.old;
          done = k.done ++ (p ∷ []);
          rest = after.0;
          split = k.split;
          front = ap (λ l. l ++ (p ∷ [])) k.front ∙ append_assoc k.old k.done (p ∷ []);
          lines = k.lines ∙ ap (λ l. k.done ++ l) after.1 ∙ sym (append_assoc k.done (p ∷ []) after.0);
          ahead = after.2;
          filled = k.filled;
        }

    pub ids-length : (b : Bool) (y : Head) → length (ids_after b t ids y) ≡ length ids
    unfolding ids_after
    ids-length b (head.Refused n) = refl
    ids-length b (head.Header v n) = refl
    ids-length b (head.ReferenceSequence q l n) = refl
    ids-length b (head.ReadGroup q n) = refl
    ids-length b (head.Program q n) = entering-length plain_seed b t ids (head.Program q n)
    ids-length b (head.Comment q) = refl

    abbrev slots : List ℕ
    slots = ids_after (ltb c.programs 1024) t ids x

    -- it is skipped
    going-skipped : (n : ℕ) → n ≡ line_refusal (admitted strict before p) → (n ≡ 0 → ⊥) → Going strict t from filled slots (advanced c next until seed x n)
    unfolding kept_of
    going-skipped n e s =
        let k : kept_of (judged_from strict [] passed) ≡ before = kept_on ∙ ap (λ l. before ++ kept_of (l ∷ [])) (refusal-some strict before p n (sym e) s) ∙ append-nil before in
        let same : slots ≡ ids =
        skipped-ids t ids before g.room g.held g.ended c.programs g.told g.few x
        (λ z. s (e ∙ sym barring-here ∙ z)) in
        rw (advanced-skipped c next until seed x n s, same)
        (record {
          passed = passed;
          split = split-on;
          inside = next-within t c.at h;
          slow = omega (arith, g.slow, next_more t c.at h);
          number = omega (arith, g.number, length-append g.passed (p ∷ []));
          counted = g.counted ∙ ap length (sym k);
          told = g.told ∙ ap (λ rs. length (of_kind 4 rs)) (sym k);
          ended = subst (λ rs. Each (Ended t) (of_kind 4 rs)) (sym k) g.ended;
          held = subst (λ rs. Held (start plain_seed t (length ids)) ids (key_values_of plain_seed (of_kind 4 rs))) (sym k) g.held;
          few = g.few;
          some = omega (arith, g.some, filled-long);
          room = g.room;
          block = λ _. block_on;
        })

    -- it is kept
    going-kept : 0 ≡ line_refusal (admitted strict before p) → Going strict t from filled slots (advanced c next until seed x 0)
    unfolding kept_of head_of
    going-kept e =
        let a = refusal-none strict before p (sym e) in
        let r : Record = a.0 in
        let is : x ≡ record_head r = ap head_of a.1 in
        let k : kept_of (judged_from strict [] passed) ≡ before ++ (r ∷ []) = kept_on ∙ ap (λ l. before ++ kept_of (l ∷ [])) a.2 in
        let stand = stood strict t p stands r a.1 in
        let end : Ended t r = line-ended strict t c.at r small a.1 stand in
        let free : barring (is_taken before t (record_head r)) (length before) c.programs (record_head r) ≡ 0 =
        ap (λ y. barring (is_taken before t y) (length before) c.programs y) (sym is) ∙ barring-here ∙ sym e in
        let long : length slots ≡ length ids = ids-length (ltb c.programs 1024) x in
        rw (advanced-kept c next until seed x 0 refl)
        (record {
          passed = passed;
          split = split-on;
          inside = next-within t c.at h;
          slow = omega (arith, g.slow, next_more t c.at h);
          number = omega (arith, g.number, length-append g.passed (p ∷ []));
          counted = omega (arith, g.counted, ap length k, length-append before (r ∷ []));
          told = omega (arith, g.told, ap (λ rs. length (of_kind 4 rs)) k, ap length (of_kind-append 4 before (r ∷ [])), length-append (of_kind 4 before) (of_kind 4 (r ∷ [])), programs-one r, ap programs_of is);
          ended = subst (λ rs. Each (Ended t) (of_kind 4 rs)) (sym k) (kept-ended t ids before g.room g.held g.ended c.programs g.told g.few r end);
          held = subst (λ rs. Held (start plain_seed t (length slots)) slots (key_values_of plain_seed (of_kind 4 rs))) (sym k)
              (rw (long, is) (kept-held t ids before g.room g.held g.ended c.programs g.told g.few r end stand free));
          few = rw is (kept-few t ids before g.room g.held g.ended c.programs g.told g.few r free);
          some = omega (arith, g.some, filled-long);
          room = long ∙ g.room;
          block = λ _. block_on;
        })

    pub going_on : (n : ℕ) → n ≡ line_refusal (admitted strict before p) → Going strict t from filled slots (advanced c next until seed x n)
    going_on zero e = going-kept e
    going_on (suc n) e = going-skipped (suc n) e (λ z. omega (arith, z))
