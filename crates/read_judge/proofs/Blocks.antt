-- The index during the loop over lines: it holds the keys of the lines of one block, and of the lines ahead it is known which one, if any,
-- is the first with a key of an earlier block.
use Prim.Native.Nat.{ℕ, ◌+◌, ◌*◌, ◌/◌, ◌≤◌, ◌<◌}
use mathlib.Core.Path.{◌≡◌, refl, sym, ap, ap₂, subst, ◌∙◌}
use mathlib.Core.Bool.{Bool, true, false, ◌||◌, cond, false≢true}
use mathlib.Core.List.{List, [], ◌∷◌, ◌++◌, append_assoc, append-nil}
use native.Mathlib.Omega.{arith}
use lib.ListN.{length, take, drop, replicate, length-append, length-replicate, drop_of_length-le}
use lib.Dec.{eqb, ltb}
use borrow.Author.Tests.{ne_eqb, eq-eqb, ltb-true}
use Rattle.format.specs.Lines.{Piece, lines_from}
use Rattle.format.specs.Records as records
use Rattle.format.specs.Records.{Record, Line, refused_line, read}
use Rattle.format.specs.Reading.{admitted}
use Rattle.format.specs.Catalogue.{catalogue}
use Rattle.format.specs.Slots.{Held}
use Rattle.format.proofs.Slots.{held_none}
use Rattle.byte_slices.specs.First.{first_line}
use Rattle.byte_slices.specs.Stands.{Stands, Each}
use Rattle.byte_slices.proofs.Lines.{lines_none}
use Rattle.accepted.specs.Pieces.{pieces}
use Rattle.accepted.proofs.Onward.{lines-count}
use Rattle.accepted.proofs.Ahead.{ahead-one}
use Rattle.record.specs.declared.Head.{Head}
use Rattle.record.specs.Head.{head_of, record_head}
use Rattle.read_admission.proofs.Admission.{stood}
use Rattle.read_admission.specs.Admission.{is_taken, programs_of}
use Rattle.key_index.specs.KeySlots.{start, is_found, after_entering}
use Rattle.key_index.specs.HeldKeys.{values_of, key_values_of}
use Rattle.accepted.specs.Ended.{Ended}
use Rattle.accepted.proofs.LineKeys.{line-ended}
use Rattle.key_index.proofs.HeldKeys.{told_in, told_none, told-append, told-taken, found-told, keys-snoc, ended-snoc, entering-length, entering-holds, values-few}
use Rattle.read_judge.specs.declared.Block.{Block}
use Rattle.read_judge.specs.Blocks.{clash_of, turned, emptied}
use Rattle.read_judge.proofs.Judging.{Judging, judging-start, judging-on, line-stands}
use Rattle.key_look.specs.declared.Seed.{Seed}

-- emptying leaves the length
pub emptied-length : (slots : List ℕ) (n : ℕ) (b : Block) → length (emptied slots n b) ≡ length slots
unfolding emptied
emptied-length slots n b = go (ltb n b.until)
  where
    go : (c : Bool) → length (cond c slots (replicate (length slots) 0)) ≡ length slots
    go true = refl
    go false = length-replicate (length slots) 0

module _ (seed : Seed) where
  -- ---- which line ahead has a key of an earlier block

  -- of the lines `ps`, counted from `n`, up to `clash`: only that one has a key among the values `vs`
  unfoldable pub Ahead : Bool → List ℕ → List ℕ → ℕ → ℕ → List Piece → Type 0
  unfolding told_in head_of
  Ahead strict t vs clash n [] = Unit
  Ahead strict t vs clash n (p ∷ ps) = (told_in seed t vs (head_of (records.line strict p)) ≡ eqb n clash) × (eqb n clash ≡ false → Ahead strict t vs clash (n + 1) ps)

  -- no key, no line
  ahead_none : (strict : Bool) (t : List ℕ) (clash n : ℕ) (ps : List Piece) → n + length ps ≤ clash → Ahead strict t [] clash n ps
  unfolding Ahead
  ahead_none strict t clash n [] h = tt
  ahead_none strict t clash n (p ∷ ps) h =
      (told_none seed t (head_of (records.line strict p)) ∙ sym (ne_eqb n clash (λ e. omega (arith, h, e))), λ e. ahead_none strict t clash (n + 1) ps (omega (arith, h)))

  module _ (strict : Bool) (t slots : List ℕ) (clash : ℕ) where
    -- a line that is passed is not the one
    clash-apart : (n m : ℕ) (ps : List Piece) → n < m → eqb n clash ≡ false → eqb n (clash_of seed strict t slots clash m ps) ≡ false
    unfolding clash_of
    clash-apart n m [] l e = e
    clash-apart n m (p ∷ ps) l e = go (eqb m clash) (is_found seed t slots (head_of (records.line strict p))) (clash-apart n (m + 1) ps (omega (arith, l)) e)
      where
        go : (a b : Bool) → eqb n (clash_of seed strict t slots clash (m + 1) ps) ≡ false → eqb n (cond a clash (cond b m (clash_of seed strict t slots clash (m + 1) ps))) ≡ false
        go true b ih = e
        go false true ih = ne_eqb n m (λ q. omega (arith, l, q))
        go false false ih = ih

    -- the values in the slots are of an earlier block from now on
    ahead_more : (old new : List ℕ) → 0 < length slots → Held (start seed t (length slots)) slots new → (n : ℕ) (ps : List Piece) → Ahead strict t old clash n ps
        → Ahead strict t (old ++ new) (clash_of seed strict t slots clash n ps) n ps
    unfolding Ahead clash_of
    ahead_more old new s g n [] a = tt
    ahead_more old new s g n (p ∷ ps) a = go (eqb n clash) refl (is_found seed t slots x) refl (λ e. ahead_more old new s g (n + 1) ps (a.1 e))
      where
        x : Head
        x = head_of (records.line strict p)

        told : told_in seed t (old ++ new) x ≡ (eqb n clash || is_found seed t slots x)
        told = told-append seed t old new x ∙ ap₂ (λ b c. b || c) a.0 (sym (found-told seed t slots new s g x))

        go : (b : Bool) → eqb n clash ≡ b → (c : Bool) → is_found seed t slots x ≡ c → (eqb n clash ≡ false → Ahead strict t (old ++ new) (clash_of seed strict t slots clash (n + 1) ps) (n + 1) ps)
            → (told_in seed t (old ++ new) x ≡ eqb n (cond b clash (cond c n (clash_of seed strict t slots clash (n + 1) ps))))
            × (eqb n (cond b clash (cond c n (clash_of seed strict t slots clash (n + 1) ps))) ≡ false → Ahead strict t (old ++ new) (cond b clash (cond c n (clash_of seed strict t slots clash (n + 1) ps))) (n + 1) ps)
        go true e c f ih = (told ∙ ap (λ b. b || is_found seed t slots x) e ∙ sym e, λ z. absurd (false≢true (sym z ∙ e)))
        go false e true f ih = (told ∙ ap₂ (λ b c. b || c) e f ∙ sym (eq-eqb n n refl), λ z. absurd (false≢true (sym z ∙ eq-eqb n n refl)))
        go false e false f ih = (told ∙ ap₂ (λ b c. b || c) e f ∙ sym (clash-apart n (n + 1) ps (omega arith) e), λ z. ih e)

  -- ---- the lines ahead, one by one

  module _ (strict : Bool) (t slots : List ℕ) (clash at n : ℕ) where
    pub clash-none : length t ≤ at → clash_of seed strict t slots clash n (lines_from at (drop at t)) ≡ clash
    unfolding clash_of
    clash-none h = ap (λ l. clash_of seed strict t slots clash n (lines_from at l)) (drop_of_length-le t h) ∙ ap (clash_of seed strict t slots clash n) (lines_none at)

    module _ (h : at < length t) where
      step : clash_of seed strict t slots clash n (lines_from at (drop at t))
          ≡ cond (eqb n clash) clash (cond (is_found seed t slots (head_of (records.line strict (record { at = at; bytes = take (first_line (drop at t)).len (drop at t) })))) n
          (clash_of seed strict t slots clash (n + 1) (lines_from (at + (first_line (drop at t)).next) (drop (at + (first_line (drop at t)).next) t))))
      unfolding clash_of
      step = ap (clash_of seed strict t slots clash n) (ahead-one t at h)

      pub clash-here : n ≡ clash → clash_of seed strict t slots clash n (lines_from at (drop at t)) ≡ clash
      clash-here e = step ∙ simp (eq-eqb n clash e)

      module _ (y : Head) (is : y ≡ head_of (records.line strict (record { at = at; bytes = take (first_line (drop at t)).len (drop at t) }))) (no : n ≡ clash → ⊥) where
        passed : clash_of seed strict t slots clash n (lines_from at (drop at t))
            ≡ cond (is_found seed t slots y) n (clash_of seed strict t slots clash (n + 1) (lines_from (at + (first_line (drop at t)).next) (drop (at + (first_line (drop at t)).next) t)))
        passed = step ∙ rw (ne_eqb n clash no, is) refl

        pub clash-met : is_found seed t slots y ≡ true → clash_of seed strict t slots clash n (lines_from at (drop at t)) ≡ n
        clash-met e = passed ∙ ap (λ b. cond b n (clash_of seed strict t slots clash (n + 1) (lines_from (at + (first_line (drop at t)).next) (drop (at + (first_line (drop at t)).next) t)))) e

        pub clash-on : is_found seed t slots y ≡ false
            → clash_of seed strict t slots clash n (lines_from at (drop at t)) ≡ clash_of seed strict t slots clash (n + 1) (lines_from (at + (first_line (drop at t)).next) (drop (at + (first_line (drop at t)).next) t))
        clash-on e = passed ∙ ap (λ b. cond b n (clash_of seed strict t slots clash (n + 1) (lines_from (at + (first_line (drop at t)).next) (drop (at + (first_line (drop at t)).next) t)))) e

  -- ---- the loop

  pub record Blocking (strict : Bool) (t area₀ area : List ℕ) (b : Block) (at n programs size : ℕ) (j : Judging strict t at n programs size) : Type 0 where
    pub ended : Each (Ended t) j.before
    pub old : List ℕ
    pub new : List ℕ
    pub parts : key_values_of seed j.before ≡ old ++ new
    pub held : Held (start seed t (length area)) area new
    pub long : length area ≡ length area₀
    pub some : 4 ≤ length area
    pub due : n ≤ b.until
    pub room : length new + b.until ≤ n + length area / 4 * 3
    pub ahead : Ahead strict t old b.clash n (lines_from at (drop at t))

  pub blocking-start : (strict : Bool) (t area : List ℕ) → length t ≤ 16777216 → 4 ≤ length area → Held (start seed t (length area)) area []
      → Blocking strict t area area (record { until = length area / 4 * 3; clash = 16777217 }) 0 0 0 0 (judging-start strict t)
  unfolding judging-start Each key_values_of
  blocking-start strict t area small s g =
      record {
        ended = tt;
        old = [];
        new = [];
        parts = refl;
        held = g;
        long = refl;
        some = s;
        due = omega arith;
        room = omega arith;
        ahead = ahead_none strict t 16777217 0 (lines_from 0 t) (omega (arith, lines-count 0 t, small));
      }

  module _ (strict : Bool) (t area₀ area : List ℕ) (b : Block) (at n programs size : ℕ) (j : Judging strict t at n programs size) (x : Blocking strict t area₀ area b at n programs size j) where
    -- where the next block begins
    pub blocking-turn : Blocking strict t area₀ (emptied area n b) (turned seed strict t area at n b) at n programs size j
    unfolding emptied turned
    blocking-turn = go (ltb n b.until) refl
      where
        go : (c : Bool) → ltb n b.until ≡ c
            → Blocking strict t area₀ (cond c area (replicate (length area) 0)) (cond c b (record { until = n + length area / 4 * 3; clash = clash_of seed strict t area b.clash n (lines_from at (drop at t)) })) at n programs size j
        go true e = x
        go false e =
            let l : length (replicate {A = ℕ} (length area) 0) ≡ length area = length-replicate (length area) 0 in
            record {
              ended = x.ended;
              old = x.old ++ x.new;
              new = [];
              parts = x.parts ∙ sym (append-nil (x.old ++ x.new));
              held = held_none (start seed t (length (replicate {A = ℕ} (length area) 0))) (length area);
              long = l ∙ x.long;
              some = omega (arith, l, x.some);
              due = omega arith;
              room = omega (arith, ap (λ m. m / 4 * 3) l);
              ahead = ahead_more strict t area b.clash x.old x.new (omega (arith, x.some)) x.held n (lines_from at (drop at t)) x.ahead;
            }

    pub turn-until : n < (turned seed strict t area at n b).until
    unfolding turned
    turn-until = go (ltb n b.until) refl
      where
        go : (c : Bool) → ltb n b.until ≡ c → n < (cond c b (record { until = n + length area / 4 * 3; clash = clash_of seed strict t area b.clash n (lines_from at (drop at t)) })).until
        go true e = ltb-true n b.until e
        go false e = omega (arith, x.some)

    module _ (h : at < length t) where
      now-ahead : Ahead strict t x.old b.clash n (record { at = at; bytes = take (first_line (drop at t)).len (drop at t) } ∷ lines_from (at + (first_line (drop at t)).next) (drop (at + (first_line (drop at t)).next) t))
      now-ahead = subst (Ahead strict t x.old b.clash n) (ahead-one t at h) x.ahead

      -- the index and the line that is known say whether its key was used
      pub used-known : (y : Head) → y ≡ head_of (records.line strict (record { at = at; bytes = take (first_line (drop at t)).len (drop at t) })) → (is_found seed t area y || eqb n b.clash) ≡ is_taken j.before t y
      unfolding Ahead
      used-known y e =
          ap₂ (λ c d. c || d) (found-told seed t area x.new (omega (arith, x.some)) x.held y) (sym now-ahead.0 ∙ ap (told_in seed t x.old) (sym e))
          ∙ turn-or (told_in seed t x.new y) (told_in seed t x.old y)
          ∙ sym (told-append seed t x.old x.new y)
          ∙ ap (λ l. told_in seed t l y) (sym x.parts)
          ∙ told-taken seed t j.before x.ended y
        where
          turn-or : (c d : Bool) → (c || d) ≡ (d || c)
          turn-or true true = refl
          turn-or true false = refl
          turn-or false true = refl
          turn-or false false = refl

      module _ (small : length t ≤ 16777216) (before : n < b.until) (r : Record) (is : records.line strict (record { at = at; bytes = take (first_line (drop at t)).len (drop at t) }) ≡ read r)
          (ok : admitted strict j.before (record { at = at; bytes = take (first_line (drop at t)).len (drop at t) }) ≡ read r)
          (fresh : (is_found seed t area (record_head r) || eqb n b.clash) ≡ false)
          (entry : ℕ) (long : length (catalogue (j.before ++ (r ∷ []))) ≡ length (catalogue j.before) + entry) (bound : entry ≤ 32 * (first_line (drop at t)).next) where
        stand : Each (Stands t 0) (pieces r)
        stand = stood strict t (record { at = at; bytes = take (first_line (drop at t)).len (drop at t) }) (line-stands strict t at n programs size j h) r is

        end : Ended t r
        end = line-ended strict t at r small is stand

        same : length (after_entering seed true t area (record_head r)) ≡ length area
        same = entering-length seed true t area (record_head r)

        left : (c d : Bool) → (c || d) ≡ false → c ≡ false
        left true d e = e
        left false d e = refl

        right : (c d : Bool) → (c || d) ≡ false → d ≡ false
        right true d e = absurd (false≢true (sym e))
        right false d e = e

        pub blocking-on : Blocking strict t area₀ (after_entering seed true t area (record_head r)) b (at + (first_line (drop at t)).next) (n + 1) (programs + programs_of (record_head r)) (size + entry)
            (judging-on strict t at n programs size j h r is ok entry long bound)
        unfolding judging-on Ahead
        blocking-on =
            record {
              ended = ended-snoc t j.before r x.ended end;
              old = x.old;
              new = x.new ++ values_of seed r;
              parts = keys-snoc seed j.before r ∙ ap (λ l. l ++ values_of seed r) x.parts ∙ append_assoc x.old x.new (values_of seed r);
              held = subst (λ m. Held (start seed t m) (after_entering seed true t area (record_head r)) (x.new ++ values_of seed r)) (sym same)
                  (entering-holds seed t area x.new (omega (arith, x.some)) x.held (omega (arith, x.room, before, x.some)) r end stand (left (is_found seed t area (record_head r)) (eqb n b.clash) fresh));
              long = same ∙ x.long;
              some = omega (arith, same, x.some);
              due = omega (arith, before);
              room = omega (arith, x.room, length-append x.new (values_of seed r), values-few seed r, ap (λ m. m / 4 * 3) same);
              ahead = now-ahead.1 (right (is_found seed t area (record_head r)) (eqb n b.clash) fresh);
            }
