-- `read_judge::judge_along` meets its contract: the lines before are records, and what is ahead decides.
use Prim.Native.Nat.{ℕ, suc, ◌+◌, ◌-◌, ◌*◌, ◌≤◌, ◌<◌}
use mathlib.Core.Path.{◌≡◌, refl, sym, ap, subst, ◌∙◌}
use mathlib.Core.Bool.{Bool, true, false, ◌&&◌, ◌||◌, cond, false≢true}
use mathlib.Core.List.{List, [], ◌∷◌, ◌++◌}
use native.Mathlib.Omega.{arith}
use lib.ListN.{length, take, drop, length-take, length-drop}
use Rattle.format.specs.Lines.{Piece}
use lib.Dec.{eqb}
use Rattle.format.specs.Records.{Record, read, line, code}
use Rattle.format.specs.Reading.{admitted, of_kind}
use Rattle.format.specs.Catalogue.{catalogue}
use Rattle.byte_slices.specs.First.{first_line}
use Rattle.byte_slices.specs.Stands.{Stands}
use Rattle.byte_slices.proofs.First.{first-le, first-within}
use Rattle.byte_slices.proofs.Before.{rest}
use Rattle.accepted.specs.Read.{is_read}
use Rattle.record.specs.declared.Head.{Head}
use Rattle.record.specs.Head.{head_of, record_head}
use Rattle.read_admission.specs.Admission.{line_refusal, is_taken, barring}
use Rattle.read_admission.proofs.Admission.{barring-is, unbarred-new, refusal-none, refusal-some}
use Rattle.read_admission.proofs.Few.{others-few}
use Rattle.read_admission.proofs.Programs.{programs-most}
use Rattle.key_index.specs.KeySlots.{is_found}
use Rattle.key_index.specs.Keyed.{KeyInText}
use Rattle.key_index.proofs.HeldKeys.{head-placed, entering-length}
use Rattle.catalogue_lines.specs.Line.{record_bytes}
use Rattle.catalogue_lines.specs.Parts.{size_of_head, others_of, own_entry}
use Rattle.catalogue_lines.proofs.Records.{catalogue-length, own-others, size-length}
use Rattle.catalogue_lines.proofs.Entries.{size-most}
use Rattle.read_judge.specs.Parsed.{parsed_by}
use Rattle.read_judge.proofs.Once.{Once, once-start, once-end, once-on}
use Rattle.key_index.specs.Counting.{counted_slots}
use Rattle.key_index.proofs.counting.Calm.{counted-most, calm-few}
use Rattle.read_judge.specs.Busy.{kept_busy}
use Rattle.read_judge.proofs.Busy.{calm-many, calm-known, busy-keyless}
use Rattle.key_index.proofs.Looking.{head-looks-few}
use Rattle.read_judge.proofs.Blocks.{emptied-length, Blocking, blocking-start, blocking-turn, turn-until, used-known, blocking-on}
use Rattle.read_judge.proofs.Judging.{judging-start, judging-on, judging-end, judging-refused, next-within, len-within, next-some, len_is, line-stands}
use Rattle.read_judge.proofs.judge_along.Goals as goal
use Rattle.read_judge.proofs.judge_along.Goals.{After-barred-n, After-find_or_enter-found, After-first_line-cut, After-next_block-block, After-parse_line-parsed, Else-at-text, Else-is_busy, Else-n-ne0}

-- ---- in a step of the loop

-- the first of the lines ahead
cut_at : (c : After-first_line-cut) → c.first_line-cut.result ≡ first_line (drop c.loop-at.at c.args.text.now)
cut_at c = c.first_line-cut.ensures ∙ ap first_line (rest c.loop-at.at c.args.text.now)

-- there is a line ahead
below : (c : Else-at-text) → c.loop-at.at < length c.args.text.now
below c = omega (arith, c.loop-at.invariant.0.inside, c.if-at-text.false)

cut : (c : Else-at-text) → c.first_line-cut.result ≡ first_line (drop c.loop-at.at c.args.text.now)
cut c = cut_at (goal.at.Else-at-text c).After-first_line-cut

inside : (c : Else-at-text)
    → let t = c.args.text.now in
    (c.loop-at.at + c.first_line-cut.result.len ≤ length t) × (c.loop-at.at + c.first_line-cut.result.next ≤ length t) × (0 < c.first_line-cut.result.next)
inside c =
    let a = c.args in
    let h = below c in
    let e = cut c in (
      rw e (len-within a.way.strict a.text.now c.loop-at.at c.loop-at.line c.loop-at.programs c.loop-at.size c.loop-at.invariant.0 h),
      rw e (next-within a.way.strict a.text.now c.loop-at.at c.loop-at.line c.loop-at.programs c.loop-at.size c.loop-at.invariant.0 h),
      rw e (next-some a.way.strict a.text.now c.loop-at.at c.loop-at.line c.loop-at.programs c.loop-at.size c.loop-at.invariant.0 h),
    )

piece : Else-at-text → Piece
piece c =
    let t = c.args.text.now in
    record { at = c.loop-at.at; bytes = take (first_line (drop c.loop-at.at t)).len (drop c.loop-at.at t) }

stands : (c : Else-at-text) → Stands c.args.text.now 0 (piece c)
unfolding piece
stands c =
    let a = c.args in
    line-stands a.way.strict a.text.now c.loop-at.at c.loop-at.line c.loop-at.programs c.loop-at.size c.loop-at.invariant.0 (below c)

-- its head
head-is : (c : After-parse_line-parsed)
    → c.parse_line-parsed.result.head ≡ head_of (line c.args.way.strict (piece (goal.at.After-parse_line-parsed c).Else-at-text))
unfolding piece parsed_by
head-is c =
    let a = c.args in
    let n : c.loop-at.at + c.first_line-cut.result.len - c.loop-at.at ≡ c.first_line-cut.result.len = omega arith in
    ap (λ x. x.head) c.parse_line-parsed.ensures ∙ ap (λ b. head_of (line a.way.strict (record { at = c.loop-at.at; bytes = take b (drop c.loop-at.at a.text.now) }))) (n ∙ ap (λ x. x.len) (cut (goal.at.After-parse_line-parsed c).Else-at-text))

placed-head : (c : After-parse_line-parsed)
    → KeyInText (length c.args.text.now) c.parse_line-parsed.result.head
unfolding piece
placed-head c =
    let a = c.args in
    subst (KeyInText (length a.text.now)) (sym (head-is c)) (head-placed a.way.strict a.text.now c.loop-at.at c.requires.text_len_bound (stands (goal.at.After-parse_line-parsed c).Else-at-text))

-- what is known of its block and of its key
turned-is : (c : After-next_block-block)
    → let a = c.args in
    (a.way.seed.keyed ≡ false → c.next_block-block.result.clash ≡ 16777218 → ⊥)
    → Blocking a.way.seed a.way.strict a.text.now a.area.now c.next_block-block.new.area c.next_block-block.result c.loop-at.at c.loop-at.line c.loop-at.programs c.loop-at.size c.loop-at.invariant.0
turned-is c calm =
    let a = c.args in
    rw (c.next_block-block.ensures.block calm, c.next_block-block.ensures.wrote) (blocking-turn a.way.seed a.way.strict a.text.now a.area.now c.loop-at.area c.loop-at.block c.loop-at.at c.loop-at.line c.loop-at.programs c.loop-at.size c.loop-at.invariant.0 c.loop-at.invariant.1)

until : (c : After-next_block-block)
    → let a = c.args in
    (a.way.seed.keyed ≡ false → c.next_block-block.result.clash ≡ 16777218 → ⊥)
    → c.loop-at.line < c.next_block-block.result.until
until c calm =
    let a = c.args in
    rw (c.next_block-block.ensures.block calm) (turn-until a.way.seed a.way.strict a.text.now a.area.now c.loop-at.area c.loop-at.block c.loop-at.at c.loop-at.line c.loop-at.programs c.loop-at.size c.loop-at.invariant.0 c.loop-at.invariant.1)

used : (c : After-next_block-block) (y : Head)
    → let a = c.args in
    (a.way.seed.keyed ≡ false → c.next_block-block.result.clash ≡ 16777218 → ⊥) → y ≡ c.parse_line-parsed.result.head → (is_found a.way.seed a.text.now c.next_block-block.new.area y || eqb c.loop-at.line c.next_block-block.result.clash) ≡ is_taken c.loop-at.invariant.0.before a.text.now y
unfolding piece
used c y calm e =
    let a = c.args in
    used-known a.way.seed a.way.strict a.text.now a.area.now c.next_block-block.new.area c.next_block-block.result c.loop-at.at c.loop-at.line c.loop-at.programs c.loop-at.size c.loop-at.invariant.0 (turned-is c calm) (below (goal.at.After-next_block-block c).Else-at-text) y (e ∙ head-is (goal.at.After-next_block-block c).After-parse_line-parsed)

-- the area is as long as before
long_after : (c : After-find_or_enter-found)
    → length c.find_or_enter-found.new.area ≡ length c.args.area.now
long_after c =
    let a = c.args in
    ap length c.find_or_enter-found.ensures.wrote ∙ entering-length a.way.seed true a.text.now c.next_block-block.new.area c.parse_line-parsed.result.head
    ∙ ap length c.next_block-block.ensures.wrote ∙ emptied-length c.loop-at.area c.loop-at.line c.loop-at.block ∙ c.loop-at.invariant.1.long

-- not too many slots were looked at
calm : (c : Else-is_busy)
    → let a = c.args in
    a.way.seed.keyed ≡ false → c.next_block-block.result.clash ≡ 16777218 → ⊥
calm c =
    let a = c.args in
    calm-known a.way.seed.keyed c.next_block-block.result.clash c.loop-at.line c.counted-slots.result (sym c.is_busy.ensures ∙ c.if-is_busy.false)

few-slots : (c : Else-is_busy)
    → c.counted-slots.result ≤ 65536 + 16 * c.loop-at.line
few-slots c =
    let a = c.args in
    let k : Bool = a.way.seed.keyed in
    let clash : ℕ = c.next_block-block.result.clash in
    let all : ℕ = counted_slots k c.loop-at.slots c.find_or_enter-found.result.slots in
    let calm : kept_busy k clash c.loop-at.line all ≡ false = ap (kept_busy k clash c.loop-at.line) (sym c.counted-slots.ensures) ∙ sym c.is_busy.ensures ∙ c.if-is_busy.false in
    let e = calm-few k c.loop-at.line c.loop-at.slots c.find_or_enter-found.result.slots (calm-many k clash c.loop-at.line all calm) c.loop-at.invariant.3 in
    omega (arith, c.counted-slots.ensures, e)

barring-told : (c : After-barred-n)
    → let a = c.args in
    c.barred-n.result ≡ barring (is_taken c.loop-at.invariant.0.before a.text.now c.parse_line-parsed.result.head) c.loop-at.line c.loop-at.programs c.parse_line-parsed.result.head
barring-told c =
    c.barred-n.ensures
    ∙ ap (λ t. barring t c.loop-at.line c.loop-at.programs c.parse_line-parsed.result.head)
    (ap (λ b. b || eqb c.loop-at.line c.next_block-block.result.clash) c.find_or_enter-found.ensures.known ∙ used (goal.at.After-barred-n c).After-next_block-block c.parse_line-parsed.result.head (calm (goal.at.After-barred-n c).Else-is_busy) refl)

-- whether it may follow the lines before
number : (c : After-barred-n)
    → c.barred-n.result ≡ line_refusal (admitted c.args.way.strict c.loop-at.invariant.0.before (piece (goal.at.After-barred-n c).Else-at-text))
number c =
    let a = c.args in
    let j = c.loop-at.invariant.0 in
    let h = head_of (line a.way.strict (piece (goal.at.After-barred-n c).Else-at-text)) in
    barring-told c
    ∙ ap (λ x. barring (is_taken j.before a.text.now x) c.loop-at.line c.loop-at.programs x) (head-is (goal.at.After-barred-n c).After-parse_line-parsed)
    ∙ ap (λ n. barring (is_taken j.before a.text.now h) n c.loop-at.programs h) (sym j.counted)
    ∙ ap (λ n. barring (is_taken j.before a.text.now h) (length j.before) n h) j.told
    ∙ barring-is a.text.now j.before a.way.strict (piece (goal.at.After-barred-n c).Else-at-text) (stands (goal.at.After-barred-n c).Else-at-text)

-- it is one more record
accepted : (c : Else-n-ne0)
    → let a = c.args in
    (r : Record) × (line a.way.strict (piece (goal.at.Else-n-ne0 c).Else-at-text) ≡ read r) × (admitted a.way.strict c.loop-at.invariant.0.before (piece (goal.at.Else-n-ne0 c).Else-at-text) ≡ read r)
accepted c =
    refusal-none c.args.way.strict c.loop-at.invariant.0.before (piece (goal.at.Else-n-ne0 c).Else-at-text) (sym (number (goal.at.Else-n-ne0 c).After-barred-n) ∙ c.if-n-ne0.false)

record_is : (c : Else-n-ne0) → c.parse_line-parsed.result.head ≡ record_head (accepted c).0
unfolding head_of
record_is c = head-is (goal.at.Else-n-ne0 c).After-parse_line-parsed ∙ ap head_of (accepted c).1

-- its key was new
fresh : (c : Else-n-ne0)
    → let a = c.args in
    (is_found a.way.seed a.text.now c.next_block-block.new.area (record_head (accepted c).0) || eqb c.loop-at.line c.next_block-block.result.clash) ≡ false
fresh c =
    let a = c.args in
    let b = c.loop-at.invariant.0.before in
    let x = record_head (accepted c).0 in
    used (goal.at.Else-n-ne0 c).After-next_block-block x (calm (goal.at.Else-n-ne0 c).Else-is_busy) (sym (record_is c))
    ∙ unbarred-new a.text.now b c.loop-at.line c.loop-at.programs x
    (ap (λ y. barring (is_taken b a.text.now y) c.loop-at.line c.loop-at.programs y) (sym (record_is c)) ∙ sym (barring-told (goal.at.Else-n-ne0 c).After-barred-n) ∙ c.if-n-ne0.false)

-- it has no more other fields than bytes, and its entries are within bounds
few : (c : Else-n-ne0)
    → others_of c.parse_line-parsed.result.head ≤ (first_line (drop c.loop-at.at c.args.text.now)).len
unfolding piece
few c =
    let a = c.args in
    let n = len_is a.way.strict a.text.now c.loop-at.at c.loop-at.line c.loop-at.programs c.loop-at.size c.loop-at.invariant.0 (below (goal.at.Else-n-ne0 c).Else-at-text) in
    omega (arith, ap others_of (record_is c), own-others (accepted c).0, others-few a.way.strict (piece (goal.at.Else-n-ne0 c).Else-at-text) (accepted c).0 (accepted c).1, n)

head-most : (h : Head) → size_of_head h ≤ 21 + 11 * others_of h
unfolding size_of_head
head-most h = omega (arith, size-most (own_entry 0 h))

entry-most : (c : Else-n-ne0)
    → size_of_head c.parse_line-parsed.result.head ≤ 32 * c.first_line-cut.result.next
entry-most c =
    let t = c.args.text.now in
    omega (arith, head-most c.parse_line-parsed.result.head, few c, first-le (drop c.loop-at.at t), ap (λ x. x.next) (cut (goal.at.Else-n-ne0 c).Else-at-text), (inside (goal.at.Else-n-ne0 c).Else-at-text).2)

-- whether no tag is repeated up to its end
once_after : (c : Else-n-ne0)
    → let t = c.args.text.now in
    Once t c.parse_line-parsed.result.once (c.loop-at.at + (first_line (drop c.loop-at.at t)).next) (c.loop-at.line + 1) (c.loop-at.invariant.0.before ++ ((accepted c).0 ∷ []))
unfolding piece parsed_by
once_after c =
    let a = c.args in
    let t = c.args.text.now in
    let n : c.loop-at.at + c.first_line-cut.result.len - c.loop-at.at ≡ c.first_line-cut.result.len = omega arith in
    let e : c.parse_line-parsed.result.once ≡ (c.loop-at.once && (a.way.strict || is_read (line true (piece (goal.at.Else-n-ne0 c).Else-at-text)))) = ap (λ x. x.once) c.parse_line-parsed.ensures ∙ ap (λ b. c.loop-at.once && (a.way.strict || is_read (line true (record { at = c.loop-at.at; bytes = take b (drop c.loop-at.at t) })))) (n ∙ ap (λ x. x.len) (cut (goal.at.Else-n-ne0 c).Else-at-text)) in
    subst (λ b. Once t b (c.loop-at.at + (first_line (drop c.loop-at.at t)).next) (c.loop-at.line + 1) (c.loop-at.invariant.0.before ++ ((accepted c).0 ∷ []))) (sym e)
    (once-on a.way.strict t c.loop-at.once c.loop-at.at c.loop-at.line c.loop-at.invariant.0.before c.loop-at.invariant.2 (below (goal.at.Else-n-ne0 c).Else-at-text) (accepted c).0 (accepted c).2)

kind-few : (k : ℕ) (rs : List Record) → length (of_kind k rs) ≤ length rs
unfolding of_kind
kind-few k [] = omega arith
kind-few k (r ∷ rs) = go (eqb (code r) k) (kind-few k rs)
  where
    go : (t : Bool) → length (of_kind k rs) ≤ length rs → length (cond t (r ∷ of_kind k rs) (of_kind k rs)) ≤ suc (length rs)
    go true h = omega arith
    go false h = omega arith

pub loop-at-init : goal.loop-at-init
unfolding judging-start
loop-at-init c = (judging-start c.args.way.strict c.args.text.now, blocking-start c.args.way.seed c.args.way.strict c.args.text.now c.args.area.now c.requires.text_len_bound c.requires.in_bounds c.requires.held, once-start c.args.text.now, omega arith)

pub slice_bounds-first_line-count : goal.slice_bounds-first_line-count
slice_bounds-first_line-count c = omega (arith, c.loop-at.invariant.0.inside)

pub slice_bounds-first_line-start : goal.slice_bounds-first_line-start
slice_bounds-first_line-start c = omega (arith, c.loop-at.invariant.0.inside)

pub slice_bounds-first_line-end : goal.slice_bounds-first_line-end
slice_bounds-first_line-end c = omega arith

pub overflow_add-next : goal.overflow_add-next
overflow_add-next c =
    let t = c.args.text.now in
    omega (arith, ap (λ x. x.next) (cut_at (goal.at.overflow_add-next c).After-first_line-cut), first-within (drop c.loop-at.at t), length-drop c.loop-at.at t, c.loop-at.invariant.0.inside)

pub shape_of-area-then-at-text : goal.shape_of-area-then-at-text
shape_of-area-then-at-text c =
    c.loop-at.invariant.1.long

pub returns-then-at-text : goal.returns-then-at-text
returns-then-at-text c =
    let a = c.args in record {
      judged = (λ _. c.ended.ensures.judged
          ∙ judging-end a.way.strict a.text.now c.loop-at.at c.loop-at.line c.loop-at.programs c.loop-at.size c.loop-at.invariant.0 c.loop-at.once
          (once-end a.text.now c.loop-at.once c.loop-at.at c.loop-at.line c.loop-at.invariant.0.before c.loop-at.invariant.2 (omega (arith, c.if-at-text.true))) (omega (arith, c.if-at-text.true)));
      busy = (λ q. absurd (false≢true (sym c.ended.ensures.busy ∙ q)));
      looks = omega (arith, c.ended.ensures.lines, c.ended.ensures.slots, c.loop-at.invariant.3);
    }

pub overflow_add-end : goal.overflow_add-end
overflow_add-end c = omega (arith, inside (goal.at.overflow_add-end c).Else-at-text)

pub slice_bounds-parse_line-count : goal.slice_bounds-parse_line-count
slice_bounds-parse_line-count c = omega arith

pub slice_bounds-parse_line-start : goal.slice_bounds-parse_line-start
slice_bounds-parse_line-start c = omega arith

pub slice_bounds-parse_line-end : goal.slice_bounds-parse_line-end
slice_bounds-parse_line-end c = omega (arith, inside (goal.at.slice_bounds-parse_line-end c).Else-at-text)

pub parse_line-parsed-requires : goal.parse_line-parsed-requires
parse_line-parsed-requires c =
    let t = c.args.text.now in
    omega (arith, inside (goal.at.parse_line-parsed-requires c).Else-at-text, length-take (c.loop-at.at + c.first_line-cut.result.len - c.loop-at.at) (drop c.loop-at.at t), c.requires.text_len_bound)

pub next_block-block-requires : goal.next_block-block-requires
next_block-block-requires c = record {
  text_len_bound = c.requires.text_len_bound;
  area_nonzero = omega (arith, c.loop-at.invariant.1.some);
  line_le_at = c.loop-at.invariant.0.slow;
  at_in_bounds = c.loop-at.invariant.0.inside;
}

pub find_or_enter-found-requires : goal.find_or_enter-found-requires
find_or_enter-found-requires c = record {
  text_len_bound = c.requires.text_len_bound;
  area_nonzero = omega (arith, ap length c.next_block-block.ensures.wrote, emptied-length c.loop-at.area c.loop-at.line c.loop-at.block, c.loop-at.invariant.1.some);
  key_in_text = placed-head (goal.at.find_or_enter-found-requires c).After-parse_line-parsed;
}

pub counted-slots-requires : goal.counted-slots-requires
counted-slots-requires c =
    omega (arith, c.loop-at.invariant.3, c.loop-at.invariant.0.slow, c.loop-at.invariant.0.inside, c.requires.text_len_bound)

pub is_busy-requires : goal.is_busy-requires
is_busy-requires c =
    omega (arith, c.loop-at.invariant.0.slow, c.loop-at.invariant.0.inside, c.requires.text_len_bound)

pub shape_of-area-then-is_busy : goal.shape_of-area-then-is_busy
shape_of-area-then-is_busy c = long_after (goal.at.shape_of-area-then-is_busy c).After-find_or_enter-found

-- given up: plain numbers, and one key more was looked for
pub returns-then-is_busy : goal.returns-then-is_busy
returns-then-is_busy c =
    let a = c.args in
    let x = c.parse_line-parsed.result.head in
    let plain = busy-keyless a.way.seed.keyed c.next_block-block.result.clash c.loop-at.line c.counted-slots.result (sym c.is_busy.ensures ∙ c.if-is_busy.true) in
    let long : length c.next_block-block.new.area ≡ length a.area.now = ap length c.next_block-block.ensures.wrote ∙ emptied-length c.loop-at.area c.loop-at.line c.loop-at.block ∙ c.loop-at.invariant.1.long in
    let more = head-looks-few a.way.seed a.text.now c.next_block-block.new.area x (omega (arith, long, c.requires.in_bounds)) in record {
      judged = (λ q. absurd (false≢true (sym q ∙ c.given_up.ensures.busy)));
      busy = (λ _. plain);
      looks = omega (arith, c.given_up.ensures.lines, c.given_up.ensures.slots, c.counted-slots.ensures, counted-most a.way.seed.keyed c.loop-at.slots c.find_or_enter-found.result.slots, c.find_or_enter-found.ensures.slots, more, long, c.loop-at.invariant.3);
    }

pub overflow_cast-refusal : goal.overflow_cast-refusal
overflow_cast-refusal c =
    omega (arith, c.loop-at.invariant.0.slow, inside (goal.at.overflow_cast-refusal c).Else-at-text, c.requires.text_len_bound)

pub shape_of-area-then-n-ne0 : goal.shape_of-area-then-n-ne0
shape_of-area-then-n-ne0 c = long_after (goal.at.shape_of-area-then-n-ne0 c).After-find_or_enter-found

pub returns-then-n-ne0 : goal.returns-then-n-ne0
unfolding piece
returns-then-n-ne0 c =
    let a = c.args in record {
      judged = (λ _. c.ended-then-n-ne0.ensures.judged
          ∙ judging-refused a.way.strict a.text.now c.loop-at.at c.loop-at.line c.loop-at.programs c.loop-at.size c.loop-at.invariant.0 (below (goal.at.returns-then-n-ne0 c).Else-at-text) c.barred-n.result
          (refusal-some a.way.strict c.loop-at.invariant.0.before (piece (goal.at.returns-then-n-ne0 c).Else-at-text) c.barred-n.result (sym (number (goal.at.returns-then-n-ne0 c).After-barred-n)) c.if-n-ne0.true));
      busy = (λ k. absurd (false≢true (sym c.ended-then-n-ne0.ensures.busy ∙ k)));
      looks = omega (arith, c.ended-then-n-ne0.ensures.lines, c.ended-then-n-ne0.ensures.slots, few-slots (goal.at.returns-then-n-ne0 c).Else-is_busy);
    }

pub overflow_add-programs : goal.overflow_add-programs
overflow_add-programs c =
    let j = c.loop-at.invariant.0 in
    omega (arith, c.programs_of-programs.ensures, programs-most c.parse_line-parsed.result.head, j.told, kind-few 4 j.before, j.counted, j.slow, inside (goal.at.overflow_add-programs c).Else-at-text)

pub entries_size-size-requires : goal.entries_size-size-requires
entries_size-size-requires c =
    omega (arith, few (goal.at.entries_size-size-requires c).Else-n-ne0, ap (λ x. x.len) (cut (goal.at.entries_size-size-requires c).Else-at-text), (inside (goal.at.entries_size-size-requires c).Else-at-text).0, c.requires.text_len_bound)

pub overflow_add-size : goal.overflow_add-size
overflow_add-size c =
    omega (arith, c.entries_size-size.ensures, entry-most (goal.at.overflow_add-size c).Else-n-ne0, c.loop-at.invariant.0.small, (inside (goal.at.overflow_add-size c).Else-at-text).1, c.requires.text_len_bound)

pub overflow_add-line : goal.overflow_add-line
overflow_add-line c =
    omega (arith, c.loop-at.invariant.0.slow, (inside (goal.at.overflow_add-line c).Else-at-text).1)

pub loop-at-smaller : goal.loop-at-smaller
loop-at-smaller c = omega (arith, inside (goal.at.loop-at-smaller c).Else-at-text)

pub loop-at-preserved : goal.loop-at-preserved
unfolding piece judging-on
loop-at-preserved c =
    let a = c.args in
    let j = c.loop-at.invariant.0 in
    let r = (accepted (goal.at.loop-at-preserved c).Else-n-ne0).0 in
    let size : c.entries_size-size.result ≡ length (record_bytes (length j.before) (read r)) =
    c.entries_size-size.ensures ∙ ap size_of_head (head-is (goal.at.loop-at-preserved c).After-parse_line-parsed) ∙ size-length (length j.before) (line a.way.strict (piece (goal.at.loop-at-preserved c).Else-at-text)) ∙ ap (λ x. length (record_bytes (length j.before) x)) (accepted (goal.at.loop-at-preserved c).Else-n-ne0).1 in
    let bound : c.entries_size-size.result ≤ 32 * (first_line (drop c.loop-at.at a.text.now)).next = omega (arith, c.entries_size-size.ensures, entry-most (goal.at.loop-at-preserved c).Else-n-ne0, ap (λ x. x.next) (cut (goal.at.loop-at-preserved c).Else-at-text)) in
    let long : length (catalogue (j.before ++ (r ∷ []))) ≡ length (catalogue j.before) + c.entries_size-size.result = catalogue-length j.before r ∙ ap (λ n. length (catalogue j.before) + n) (sym size) in
    rw (cut (goal.at.loop-at-preserved c).Else-at-text, c.programs_of-programs.ensures, c.find_or_enter-found.ensures.wrote, record_is (goal.at.loop-at-preserved c).Else-n-ne0) (
      judging-on a.way.strict a.text.now c.loop-at.at c.loop-at.line c.loop-at.programs c.loop-at.size j (below (goal.at.loop-at-preserved c).Else-at-text) r (accepted (goal.at.loop-at-preserved c).Else-n-ne0).1 (accepted (goal.at.loop-at-preserved c).Else-n-ne0).2 c.entries_size-size.result long bound,
      blocking-on a.way.seed a.way.strict a.text.now a.area.now c.next_block-block.new.area c.next_block-block.result c.loop-at.at c.loop-at.line c.loop-at.programs c.loop-at.size j (turned-is (goal.at.loop-at-preserved c).After-next_block-block (calm (goal.at.loop-at-preserved c).Else-is_busy)) (below (goal.at.loop-at-preserved c).Else-at-text) c.requires.text_len_bound (until (goal.at.loop-at-preserved c).After-next_block-block (calm (goal.at.loop-at-preserved c).Else-is_busy)) r (accepted (goal.at.loop-at-preserved c).Else-n-ne0).1 (accepted (goal.at.loop-at-preserved c).Else-n-ne0).2
          (fresh (goal.at.loop-at-preserved c).Else-n-ne0) c.entries_size-size.result long bound,
      once_after (goal.at.loop-at-preserved c).Else-n-ne0,
      omega (arith, few-slots (goal.at.loop-at-preserved c).Else-is_busy),
    )
