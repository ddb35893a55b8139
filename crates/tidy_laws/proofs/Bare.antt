-- What depends on records without their offsets only: the kind, the tidy text, and why a record may not follow others.
use Prim.Native.Nat.{ℕ}
use mathlib.Core.Path.{◌≡◌, refl, sym, ap, ◌∙◌}
use mathlib.Core.Bool.{Bool, true, false, cond}
use mathlib.Core.List.{List, [], ◌∷◌, ◌++◌, map, map-append}
use lib.Dec.{eqb}
use Rattle.format.specs.Fields.{Field}
use Rattle.format.specs.Records.{Record, header, reference, group, program, comment, code}
use Rattle.format.specs.Reading.{of_kind}
use Rattle.format.specs.Tidy.{field_text, fields_text, record_text, text, in_order, tidy}
use Rattle.tidy_laws.specs.Bare.{bare_bytes, bare_field, bare, bares, Equal}

-- ---- the kind

pub code-bare : (r : Record) → code (bare r) ≡ code r
unfolding code bare
code-bare (header v fs) = refl
code-bare (reference p n fs) = refl
code-bare (group p fs) = refl
code-bare (program p fs) = refl
code-bare (comment p) = refl

pub kind-bare : (k : ℕ) (rs : List Record) → of_kind k (map bare rs) ≡ map bare (of_kind k rs)
unfolding of_kind
kind-bare k [] = refl
kind-bare k (r ∷ rs) = rw (code-bare r) (go (eqb (code r) k) (kind-bare k rs))
  where
    go : (t : Bool) → of_kind k (map bare rs) ≡ map bare (of_kind k rs)
        → cond t (bare r ∷ of_kind k (map bare rs)) (of_kind k (map bare rs)) ≡ map bare (cond t (r ∷ of_kind k rs) (of_kind k rs))
    go true ih = ap (λ l. bare r ∷ l) ih
    go false ih = ih

-- ---- the tidy text

pub fields-bare : (fs : List Field) → fields_text (map bare_field fs) ≡ fields_text fs
unfolding fields_text bare_field bare_bytes
fields-bare [] = refl
fields-bare (f ∷ fs) = ap (λ l. field_text f.tag₀ f.tag₁ f.value.bytes ++ l) (fields-bare fs)

pub record-bare : (r : Record) → record_text (bare r) ≡ record_text r
unfolding record_text bare bare_bytes
record-bare (header v fs) = rw (fields-bare fs) refl
record-bare (reference p n fs) = rw (fields-bare fs) refl
record-bare (group p fs) = rw (fields-bare fs) refl
record-bare (program p fs) = rw (fields-bare fs) refl
record-bare (comment p) = refl

pub text-bare : (rs : List Record) → text (map bare rs) ≡ text rs
unfolding text
text-bare [] = refl
text-bare (r ∷ rs) = rw (record-bare r, text-bare rs) refl

pub order-bare : (rs : List Record) → map bare (in_order rs) ≡ bares 1 rs ++ bares 2 rs ++ bares 3 rs ++ bares 4 rs ++ bares 5 rs
unfolding in_order bares
order-bare rs = simp map-append

-- equal headers have one tidy text
pub tidy-equal : (rs qs : List Record) → Equal rs qs → tidy rs ≡ tidy qs
unfolding tidy
tidy-equal rs qs e =
    let same : map bare (in_order rs) ≡ map bare (in_order qs) = rw (order-bare rs, order-bare qs, e.hd, e.sq, e.rg, e.pg, e.co) refl in
    sym (text-bare (in_order rs)) ∙ ap text same ∙ text-bare (in_order qs)
