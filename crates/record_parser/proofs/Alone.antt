-- The line of SN and LN alone: two turns of the walk over its fields, and the line ends.
use Prim.Native.Nat.{ℕ, ◌+◌, ◌-◌, ◌≤◌, ◌<◌, ◌^◌}
use mathlib.Core.Path.{◌≡◌, refl, sym, ap, ◌∙◌}
use mathlib.Core.Bool.{Bool, true, false, ◌&&◌, and-false}
use mathlib.Core.List.{List}
use native.Mathlib.Omega.{arith}
use lib.ListN.{length, drop, get_or, set, replicate, length-drop}
use lib.Seq.{drop-drop, get_or-drop}
use borrow.Author.Tests.{ne_eqb, lt-ltb}
use Rattle.std.specs.Prelude.{Ok}
use Rattle.format.specs.Bytes.{any}
use Rattle.format.specs.Decimal.{span}
use Rattle.format.specs.Fields.{tagged, is_tag, is_value, is_wide, allows, field, value_field, length_field}
use Rattle.format.specs.Keys.{is_key}
use Rattle.format.specs.Records.{fielded}
use Rattle.format.specs.declared.Kind.TheVariants.{ReferenceSequence}
use Rattle.byte_slices.specs.Upto.{before}
use Rattle.byte_slices.proofs.Before.{before-length}
use Rattle.byte_slices.proofs.Lines.{upto_le}
use Rattle.decimal.specs.Number.{number_of, digits_number, number_at_front}
use Rattle.field.specs.Parsed.{kept_by, sized_by, length_field_by, parsed_of}
use Rattle.field.specs.Taken.{taken_of}
use Rattle.field.proofs.value.Taken.{a-value}
use Rattle.field.proofs.Judged.{value-kept, value-length}
use Rattle.field.proofs.Place.{field-in-place, place-colon, colon-value}
use Rattle.field.proofs.Shown.{valued-length}
use Rattle.field_length.specs.Parsed.{parsed_length_of}
use Rattle.field_length.proofs.Sized.{length_by, length-sized, span-before}
use Rattle.field_tag.specs.Numbers.{is_version, is_length}
use Rattle.record.specs.declared.Keys.{Keys}
use Rattle.record.specs.declared.Head.TheVariants as head
use Rattle.record.specs.Head.{head_of}
use Rattle.record.specs.Keys.{no_keys, with_field, head_from}
use Rattle.record_parser.specs.Marks.{mark_place, marks_of}
use Rattle.std.specs.Prelude.{Some}
use Rattle.record_parser.specs.Plain.{TagAt, LengthTold}
use Rattle.record_parser.proofs.Made.{same-answer}
use Rattle.record_parser.proofs.Walked.{Walked, Turned, turned}
use Rattle.record_parser.proofs.Step.{walked_start, turn_end, turn-shown, told-again, walked}

-- a field whose tag and colon are there is judged by its value
value-at : (src : List ℕ) (at a : ℕ) → TagAt src at a → is_tag a 78 ≡ true
    → field ReferenceSequence 0 (before 9 (drop (at + 1) src)) ≡ value_field ReferenceSequence a 78 3 (before 9 (drop (at + 4) src))
value-at src at a h t =
    let s : List ℕ = drop (at + 1) src in
    let n : length (drop (at + 1) src) ≡ length src - (at + 1) = length-drop (at + 1) src in
    let one : at + 1 + 0 ≡ at + 1 = omega arith in
    let two : at + 1 + 1 ≡ at + 2 = omega arith in
    let three : at + 1 + 2 ≡ at + 3 = omega arith in
    let four : at + 1 + 3 ≡ at + 4 = omega arith in
    let x : get_or (drop (at + 1) src) 0 0 ≡ a = get_or-drop (at + 1) src 0 0 ∙ ap (λ i. get_or src i 0) one ∙ h.first in
    let y : get_or (drop (at + 1) src) 1 0 ≡ 78 = get_or-drop (at + 1) src 1 0 ∙ ap (λ i. get_or src i 0) two ∙ h.second in
    let z : get_or (drop (at + 1) src) 2 0 ≡ 58 = get_or-drop (at + 1) src 2 0 ∙ ap (λ i. get_or src i 0) three ∙ h.colon in
    field-in-place ReferenceSequence 0 s
    ∙ place-colon ReferenceSequence 0 s (omega (arith, n, h.room)) (rw (x, y) t)
    ∙ colon-value ReferenceSequence (get_or s 0 0) (get_or s 1 0) 3 s (omega (arith, n, h.room)) z
    ∙ ap (λ b. value_field ReferenceSequence b (get_or s 1 0) 3 (before 9 (drop 3 s))) x
    ∙ ap (λ b. value_field ReferenceSequence a b 3 (before 9 (drop 3 s))) y
    ∙ ap (λ v. value_field ReferenceSequence a 78 3 (before 9 v)) (drop-drop 3 (at + 1) src ∙ ap (λ i. drop i src) four)

-- the name ends within the line
pub name-within : (src : List ℕ) (n : ℕ) → n ≡ taken_of is_value (before 9 (drop 7 src)) → (n ≡ 0 → ⊥) → 7 ≤ length src → 7 + n ≤ length src
name-within src n e z h =
    let v = (a-value is_value (before 9 (drop 7 src)) (λ y. z (e ∙ y))).1 in
    omega (arith, e, v, before-length 9 (drop 7 src), upto_le 9 (drop 7 src), length-drop 7 src)

-- a length that is read whole, and is none too long, is that of LN
pub length-told : (s : List ℕ) (n : ℕ) → number_at_front (2 ^ 64) s ≡ Ok (number_of n (length s)) → n < 2 ^ 31 → (n ≡ 0 → ⊥) → LengthTold s (Some n)
unfolding number_at_front length_by
length-told s n e h z =
    sym
    (length-sized 0 (span (before 9 s)).0 (span (before 9 s)).1
    ∙ ap (λ ds. length_by (digits_number (2 ^ 64) ds)) (span-before s)
    ∙ ap length_by e
    ∙ simp (ne_eqb n 0 z, lt-ltb n (2 ^ 31) h))

module _ (src : List ℕ) (n l d : ℕ) (sn : TagAt src 3 83) (name : n ≡ taken_of is_value (before 9 (drop 7 src))) (some : n ≡ 0 → ⊥) (ln : TagAt src (7 + n) 76)
    (number : Ok (number_of l d) ≡ parsed_length_of (length_field 0 (span (before 9 (drop (11 + n) src))))) (ends : d ≡ length src - (11 + n)) where
  name-answer : Ok (kept_by 83 78 n) ≡ parsed_of ReferenceSequence (field ReferenceSequence 0 (before 9 (drop 4 src)))
  unfolding is_tag is_length is_version taken_of allows is_wide
  name-answer =
      sym
      (ap (parsed_of ReferenceSequence) (value-at src 3 83 sn refl)
      ∙ value-kept 83 78 3 (before 9 (drop 7 src)) ReferenceSequence refl refl (λ z. some (name ∙ z))
      ∙ ap (λ k. Ok (kept_by 83 78 k)) (sym name))

  length-answer : Ok (sized_by d l) ≡ parsed_of ReferenceSequence (field ReferenceSequence 0 (before 9 (drop (7 + n + 1) src)))
  unfolding is_tag is_length length_field_by
  length-answer =
      let e : 7 + n + 4 ≡ 11 + n = omega arith in
      sym
      (ap (parsed_of ReferenceSequence) (value-at src (7 + n) 76 ln refl)
      ∙ value-length 76 78 3 (before 9 (drop (7 + n + 4) src)) ReferenceSequence refl
      ∙ ap (λ i. length_field_by (parsed_length_of (length_field 0 (span (before 9 (drop i src)))))) e
      ∙ ap length_field_by (sym number))

  module _ (at : ℕ) (strict : Bool) where
    abbrev clear : List Bool
    clear = replicate (marks_of false) false

    start : Walked ReferenceSequence src at strict false clear no_keys 3
    start = walked_start ReferenceSequence src at strict false clear no_keys (omega (arith, sn.room)) refl refl

    -- ---- SN

    name-turn : Turned ReferenceSequence (at + 3) (drop 4 src) (kept_by 83 78 n)
    name-turn = turned ReferenceSequence (at + 3) (drop 4 src) (Ok (kept_by 83 78 n)) name-answer (kept_by 83 78 n) refl

    abbrev name-again : Bool
    name-again = any (tagged name-turn.field.tag₀ name-turn.field.tag₁) start.fields

    name-once : name-again ≡ false
    unfolding mark_place marks_of
    name-once = sym (told-again ReferenceSequence src at strict false clear no_keys 3 start (omega (arith, sn.room)) sn.tab (kept_by 83 78 n) name-turn)

    abbrev name-seen : List Bool
    name-seen = set clear (mark_place false 83 78) true

    abbrev name-keys : Keys
    name-keys = with_field ReferenceSequence (kept_by 83 78 n) (at + 3 + 4) name-again no_keys

    named : Walked ReferenceSequence src at strict false name-seen name-keys (7 + n)
    named =
        walked ReferenceSequence src at strict false clear no_keys 3 start (omega (arith, sn.room)) sn.tab (kept_by 83 78 n) name-turn
        (ap (λ u. strict && u) name-once ∙ and-false strict)

    -- ---- LN

    length-turn : Turned ReferenceSequence (at + (7 + n)) (drop (7 + n + 1) src) (sized_by d l)
    length-turn = turned ReferenceSequence (at + (7 + n)) (drop (7 + n + 1) src) (Ok (sized_by d l)) length-answer (sized_by d l) refl

    abbrev length-again : Bool
    length-again = any (tagged length-turn.field.tag₀ length-turn.field.tag₁) named.fields

    length-once : length-again ≡ false
    unfolding mark_place marks_of
    length-once =
        sym (told-again ReferenceSequence src at strict false name-seen name-keys (7 + n) named (omega (arith, ln.room)) ln.tab (sized_by d l) length-turn)

    abbrev both-seen : List Bool
    both-seen = set name-seen (mark_place false 76 78) true

    abbrev both-keys : Keys
    both-keys = with_field ReferenceSequence (sized_by d l) (at + (7 + n) + 4) length-again name-keys

    measured : Walked ReferenceSequence src at strict false both-seen both-keys (7 + n + 4 + d)
    measured =
        walked ReferenceSequence src at strict false name-seen name-keys (7 + n) named (omega (arith, ln.room)) ln.tab (sized_by d l) length-turn
        (ap (λ u. strict && u) length-once ∙ and-false strict)

    -- it is at least 1
    length_some : l ≡ 0 → ⊥
    unfolding is_length
    length_some z =
        let s = turn-shown ReferenceSequence (at + (7 + n)) (drop (7 + n + 1) src) (sized_by d l) length-turn in
        let t : is_length ReferenceSequence length-turn.field.tag₀ length-turn.field.tag₁ ≡ true = rw (← s.first, ← s.second) refl in
        length-turn.told.sized t (ap (λ g. g.length) (same-answer (valued-length ReferenceSequence length-turn.field t) length-turn.answer) ∙ z)

    -- ---- the line ends

    both-make : head_from ReferenceSequence both-keys ≡ head.ReferenceSequence (record { at = at + 7; len = n }) l 0
    unfolding with_field head_from is_key is_version is_length
    both-make = let e : at + 3 + 4 ≡ at + 7 = omega arith in rw (ne_eqb n 0 some, ne_eqb l 0 length_some, e) refl

    pub plain-made : head.ReferenceSequence (record { at = at + 7; len = n }) l 0 ≡ head_of (fielded strict ReferenceSequence (at + 3) (drop 3 src))
    plain-made = sym both-make ∙ turn_end ReferenceSequence src at strict false both-seen both-keys (7 + n + 4 + d) measured (omega (arith, ends))
