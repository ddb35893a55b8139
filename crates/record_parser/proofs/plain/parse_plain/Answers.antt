-- `record_parser::plain::parse_plain` meets its contract: a line that passes every test is one of SN and LN alone.
use Prim.Native.Nat.{ℕ, ◌+◌, ◌≤◌}
use mathlib.Core.Path.{◌≡◌, refl, ap, ◌∙◌}
use mathlib.Core.List.{List}
use native.Mathlib.Omega.{arith}
use lib.ListN.{length, drop, length-drop}
use borrow.Author.Tests.{not-false}
use Rattle.format.specs.Fields.{is_value}
use Rattle.byte_slices.specs.Upto.{before}
use Rattle.byte_slices.proofs.Before.{rest}
use Rattle.field.specs.Taken.{taken_of}
use Rattle.std.specs.Prelude.{Some}
use Rattle.record_parser.specs.Plain.{TagAt, LengthTold, plain_head}
use Rattle.record_parser.proofs.Alone.{name-within, plain-made}
use Rattle.record_parser.proofs.plain.parse_plain.Goals as goal
use Rattle.record_parser.proofs.plain.parse_plain.Goals.{Else-name_len-eq0, Else-not-has_tag_at, Else-not-has_tag_at-2, Else-not-is_between}

abbrev line : Else-not-is_between → List ℕ
line c = c.args.src.now

-- SN is there
sn : (c : Else-not-has_tag_at) → TagAt (line (goal.at.Else-not-has_tag_at c).Else-not-is_between) 3 83
sn c = c.has_tag_at.ensures (not-false _ c.if-not-has_tag_at.false-raw)

-- its name, which ends within the line
name : (c : Else-name_len-eq0) → c.value_len-name_len.result ≡ taken_of is_value (before 9 (drop 7 (line (goal.at.Else-name_len-eq0 c).Else-not-is_between)))
name c = c.value_len-name_len.ensures ∙ ap (λ v. taken_of is_value (before 9 v)) (rest 7 (line (goal.at.Else-name_len-eq0 c).Else-not-is_between))

name-room : (c : Else-name_len-eq0) → 7 + c.value_len-name_len.result ≤ length (line (goal.at.Else-name_len-eq0 c).Else-not-is_between)
name-room c =
    let s = line (goal.at.Else-name_len-eq0 c).Else-not-is_between in
    name-within s c.value_len-name_len.result (name c) c.if-name_len-eq0.false (omega (arith, (sn (goal.at.Else-name_len-eq0 c).Else-not-has_tag_at).room))

-- LN is there
ln : (c : Else-not-has_tag_at-2)
    → TagAt (line (goal.at.Else-not-has_tag_at-2 c).Else-not-is_between) (7 + c.value_len-name_len.result) 76
ln c = c.has_tag_at-2.ensures (not-false _ c.if-not-has_tag_at-2.false-raw)

pub returns-then-not-is_between : goal.returns-then-not-is_between
unfolding plain_head
returns-then-not-is_between c at strict = refl

pub returns-then-not-has_tag_at : goal.returns-then-not-has_tag_at
unfolding plain_head
returns-then-not-has_tag_at c at strict = refl

pub slice_bounds-value_len-count : goal.slice_bounds-value_len-count
slice_bounds-value_len-count c = omega (arith, (sn c).room)

pub slice_bounds-value_len-start : goal.slice_bounds-value_len-start
slice_bounds-value_len-start c = omega (arith, (sn c).room)

pub returns-then-name_len-eq0 : goal.returns-then-name_len-eq0
unfolding plain_head
returns-then-name_len-eq0 c at strict = refl

pub overflow_add-name_len : goal.overflow_add-name_len
overflow_add-name_len c = omega (arith, name-room c)

pub has_tag_at-requires-2 : goal.has_tag_at-requires-2
has_tag_at-requires-2 c = name-room c

pub returns-then-not-has_tag_at-2 : goal.returns-then-not-has_tag_at-2
unfolding plain_head
returns-then-not-has_tag_at-2 c at strict = refl

pub overflow_add-name_len-2 : goal.overflow_add-name_len-2
overflow_add-name_len-2 c = omega (arith, (ln c).room)

pub slice_bounds-whole_length-count : goal.slice_bounds-whole_length-count
slice_bounds-whole_length-count c = omega (arith, (ln c).room)

pub slice_bounds-whole_length-start : goal.slice_bounds-whole_length-start
slice_bounds-whole_length-start c = omega (arith, (ln c).room)

pub returns-in_err-length : goal.returns-in_err-length
unfolding plain_head
returns-in_err-length c at strict = rw c.from_residual.ensures refl

pub returns : goal.returns
unfolding plain_head
returns c at strict =
    let s = line (goal.at.returns c).Else-not-is_between in
    let n = c.value_len-name_len.result in
    let l = c.in_ok-length.length in
    let e : LengthTold (drop (11 + n) s) (Some l) = rw (rest (11 + n) s) at c.in_ok-length.ensures in
    plain-made s n l _ (sn (goal.at.returns c).Else-not-has_tag_at) (name (goal.at.returns c).Else-name_len-eq0) c.if-name_len-eq0.false (ln (goal.at.returns c).Else-not-has_tag_at-2) e (length-drop (11 + n) s) at strict
