-- `field::parse_field_value` meets its contract: the kind and the tag say how the value is read.
use Prim.Native.Nat.{ℕ}
use mathlib.Core.Path.{◌≡◌, refl, sym, ap, ◌∙◌}
use mathlib.Core.Bool.{Bool}
use mathlib.Core.List.{List}
use native.Mathlib.Omega.{arith}
use lib.ListN.{length, take}
use lib.Seq.{length-take-le}
use Rattle.std.specs.Prelude.{Ok}
use Rattle.format.specs.Version.{version}
use Rattle.byte_slices.proofs.Lines.{upto_le}
use Rattle.byte_slices.specs.Upto.{upto, before}
use Rattle.field.specs.Taken.{taken_of}
use Rattle.field.proofs.value.Taken.{a-value}
use Rattle.field.specs.Parsed.{kept_by, versioned_by}
use Rattle.byte_slices.proofs.Before.{before-length}
use Rattle.field.proofs.Judged.{value-length, value_none, value-version, value-kept}
use Rattle.field.proofs.parse_field_value.Goals as goal

-- `n` bytes were taken as a value
module _ (p : List ℕ → Bool) (s : List ℕ) (n : ℕ) (e : n ≡ taken_of p (before 9 s)) (z : n ≡ 0 → ⊥) where
  some : taken_of p (before 9 s) ≡ 0 → ⊥
  some q = z (e ∙ q)

  all-of-it : n ≡ upto 9 s
  all-of-it = e ∙ (a-value p (before 9 s) some).1 ∙ before-length 9 s

  fits : n ≡ length (take n s)
  fits = sym (length-take-le n s (omega (arith, all-of-it, upto_le 9 s)))

  spelt : versioned_by (length (take n s)) (version (take n s)) ≡ versioned_by (taken_of p (before 9 s)) (version (before 9 s))
  unfolding before
  spelt = rw (sym fits, sym e, sym all-of-it) refl

pub returns-then-is_length : goal.returns-then-is_length
returns-then-is_length c =
    let a = c.args in
    let v = before 9 a.src.now in
    let t = sym c.is_length.ensures ∙ c.if-is_length.true in
    c.parse_length_value.ensures ∙ sym (value-length a.a a.b 3 v a.kind t)

pub returns-then-len-eq0 : goal.returns-then-len-eq0
returns-then-len-eq0 c =
    let a = c.args in
    sym (value_none a.a a.b 3 (before 9 a.src.now) a.kind (sym c.is_length.ensures ∙ c.if-is_length.false) (sym c.allowed_len-len.ensures ∙ c.if-len-eq0.true))

pub slice_bounds-parse_version_value-end : goal.slice_bounds-parse_version_value-end
slice_bounds-parse_version_value-end c =
    fits _ _ _ c.allowed_len-len.ensures c.if-len-eq0.false

pub returns-then-is_version : goal.returns-then-is_version
returns-then-is_version c =
    let a = c.args in
    c.parse_version_value.ensures
    ∙ spelt _ _ _ c.allowed_len-len.ensures c.if-len-eq0.false
    ∙ sym (value-version a.a a.b 3 (before 9 a.src.now) a.kind (sym c.is_version.ensures ∙ c.if-is_version.true) (some _ _ _ c.allowed_len-len.ensures c.if-len-eq0.false))

pub returns : goal.returns
returns c =
    let a = c.args in
    ap Ok (c.kept.ensures ∙ ap (kept_by a.a a.b) c.allowed_len-len.ensures)
    ∙ sym
    (value-kept a.a a.b 3 (before 9 a.src.now) a.kind (sym c.is_length.ensures ∙ c.if-is_length.false) (sym c.is_version.ensures ∙ c.if-is_version.false)
    (some _ _ _ c.allowed_len-len.ensures c.if-len-eq0.false))
