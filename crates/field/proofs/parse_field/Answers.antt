-- `field::parse_field` meets its contract: the bytes are judged in place, one after the other.
use Prim.Native.Nat.{ℕ, ◌-◌}
use mathlib.Core.Path.{◌≡◌, sym, ap, ◌∙◌}
use native.Mathlib.Omega.{arith}
use mathlib.Core.List.{List}
use lib.ListN.{length, get_or, take, drop}
use borrow.Author.Tests.{not-true, not-false}
use Rattle.std.specs.Prelude.{Result}
use Rattle.format.specs.Fields.{field, value_field}
use Rattle.format.specs.declared.Kind.{Kind}
use Rattle.byte_slices.specs.Upto.{before}
use Rattle.field.specs.Parsed.{parsed_of}
use Rattle.field.specs.declared.ParsedField.{ParsedField}
use Rattle.byte_slices.proofs.Before.{rest}
use Rattle.field.proofs.Place.{colon_at, field-in-place, place_short, place-tag, place-colon, colon-none, colon-other, colon-value}
use Rattle.field.proofs.parse_field.Goals as goal
use Rattle.field.proofs.parse_field.Goals.{Else-not-is_tag}

-- where the tag was found: what is due is the colon
tagged : (c : Else-not-is_tag)
    → field c.args.kind 0 (before 9 c.args.src.now)
    ≡ colon_at
    c.args.kind
    (get_or c.args.src.now 0 0)
    (get_or c.args.src.now 1 0)
    3
    (drop 2 c.args.src.now)
tagged c =
    let i = c.args in
    field-in-place i.kind 0 i.src.now
    ∙ place-colon i.kind 0 i.src.now (omega arith) (sym c.is_tag.ensures ∙ not-false _ c.if-not-is_tag.false-raw)

pub returns-then-src-lt2 : goal.returns-then-src-lt2
unfolding parsed_of
returns-then-src-lt2 c =
    let i = c.args in
    sym (ap (parsed_of i.kind) (field-in-place i.kind 0 i.src.now ∙ place_short i.kind 0 i.src.now c.if-src-lt2.true))

pub returns-then-not-is_tag : goal.returns-then-not-is_tag
unfolding parsed_of
returns-then-not-is_tag c =
    let i = c.args in
    sym
    (ap
    (parsed_of i.kind)
    (field-in-place i.kind 0 i.src.now
    ∙ place-tag i.kind 0 i.src.now (omega arith) (sym c.is_tag.ensures ∙ not-true _ c.if-not-is_tag.true-raw)))

pub returns-then-src-eq2 : goal.returns-then-src-eq2
unfolding parsed_of
returns-then-src-eq2 c =
    let i = c.args in
    sym
    (ap
    (parsed_of i.kind)
    (tagged (goal.at.returns-then-src-eq2 c).Else-not-is_tag ∙ colon-none i.kind _ _ 3 i.src.now c.if-src-eq2.true))

pub returns-then-src-ne58 : goal.returns-then-src-ne58
unfolding parsed_of
returns-then-src-ne58 c =
    let i = c.args in
    sym
    (ap
    (parsed_of i.kind)
    (tagged (goal.at.returns-then-src-ne58 c).Else-not-is_tag ∙ colon-other i.kind _ _ 3 i.src.now (omega arith) c.if-src-ne58.true))

-- what is read from the rest of the slice is read from the piece
at_value : (k : Kind) (s : List ℕ) (r : Result ParsedField ℕ)
    → field k 0 (before 9 s) ≡ value_field k (get_or s 0 0) (get_or s 1 0) 3 (before 9 (drop 3 s))
    → r ≡ parsed_of k (value_field k (get_or s 0 0) (get_or s 1 0) 3 (before 9 (take (length s - 3) (drop 3 s))))
    → r ≡ parsed_of k (field k 0 (before 9 s))
at_value k s r e h = rw (e, ← rest 3 s) h

pub returns : goal.returns
returns c =
    let i = c.args in
    at_value
    i.kind
    i.src.now
    _
    (tagged (goal.at.returns c).Else-not-is_tag ∙ colon-value i.kind _ _ 3 i.src.now (omega arith) c.if-src-ne58.false)
    c.parse_field_value.ensures
