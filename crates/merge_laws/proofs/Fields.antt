-- The fields of programs do not depend on where they are in the text.
use Prim.Native.Nat.{ℕ, ◌+◌, ◌<◌}
use mathlib.Core.Path.{◌≡◌, refl, sym, ap, ◌∙◌}
use mathlib.Core.Bool.{Bool, true, false, cond}
use mathlib.Core.List.{List, [], ◌∷◌, ◌++◌, map, map-append}
use native.Mathlib.Omega.{arith}
use lib.ListN.{length, get_or, length-map, get_or-append}
use Rattle.format.specs.Fields.{Field, tagged, without}
use Rattle.format.specs.Records.{Record, header, reference, group, program, comment, others}
use Rattle.format.specs.Reading.{of_kind}
use Rattle.format.specs.Programs.{program_of, programs}
use Rattle.format.specs.Calls.{records}
use Rattle.program_chains.proofs.Walks.{map_at}
use Rattle.tidy_laws.specs.Bare.{bare_bytes, bare_field, bare, bares}
use Rattle.merge_laws.specs.IsMerge.{other_fields, fields_at}

without-bare : (a b : ℕ) (fs : List Field) → map bare_field (without a b (map bare_field fs)) ≡ map bare_field (without a b fs)
unfolding without tagged bare_field bare_bytes
without-bare a b [] = refl
without-bare a b (f ∷ fs) = go (tagged a b f) (without-bare a b fs)
  where
    go : (t : Bool) → map bare_field (without a b (map bare_field fs)) ≡ map bare_field (without a b fs)
        → map bare_field (cond t (without a b (map bare_field fs)) (bare_field f ∷ without a b (map bare_field fs))) ≡ map bare_field (cond t (without a b fs) (f ∷ without a b fs))
    go true ih = ih
    go false ih = ap (λ gs. bare_field f ∷ gs) ih

other-bare : (r : Record) → other_fields (bare r) ≡ other_fields r
unfolding other_fields others bare
other-bare (header v fs) = without-bare 80 80 fs
other-bare (reference p n fs) = without-bare 80 80 fs
other-bare (group p fs) = without-bare 80 80 fs
other-bare (program p fs) = without-bare 80 80 fs
other-bare (comment p) = refl

others-bare : (rs : List Record) → map other_fields (map bare rs) ≡ map other_fields rs
others-bare [] = refl
others-bare (r ∷ rs) = rw (other-bare r) (ap (λ fs. other_fields r ∷ fs) (others-bare rs))

pub fields-bare : (rs : List Record) (k : ℕ) → fields_at rs k ≡ get_or (map other_fields (bares 4 rs)) k []
unfolding fields_at bares
fields-bare rs k = ap (λ fs. get_or fs k []) (sym (others-bare (of_kind 4 rs)))

bares-count : (rs : List Record) → length (map other_fields (bares 4 rs)) ≡ length (programs rs)
unfolding bares programs
bares-count rs = length-map (map bare (of_kind 4 rs)) other_fields ∙ length-map (of_kind 4 rs) bare ∙ sym (length-map (of_kind 4 rs) program_of)

-- more programs after them
pub fields-front : (rs qs more : List Record) → bares 4 qs ≡ bares 4 rs ++ more → (k : ℕ) → k < length (programs rs) → fields_at qs k ≡ fields_at rs k
fields-front rs qs more e k h =
    fields-bare qs k ∙ ap (λ bs. get_or (map other_fields bs) k []) e ∙ ap (λ fs. get_or fs k []) (map-append other_fields (bares 4 rs) more)
    ∙ get_or-append (map other_fields (bares 4 rs)) (map other_fields more) [] k (omega (arith, bares-count rs)) ∙ sym (fields-bare rs k)

-- the fields of a program among records without offsets
pub bares-length : (rs : List Record) → length (bares 4 rs) ≡ length (programs rs)
bares-length rs = sym (length-map (bares 4 rs) other_fields) ∙ bares-count rs

pub fields-one : (rs : List Record) (k : ℕ) → k < length (programs rs) → fields_at rs k ≡ other_fields (get_or (bares 4 rs) k (comment (bare_bytes [])))
fields-one rs k h = fields-bare rs k ∙ map_at other_fields (bares 4 rs) k (comment (bare_bytes [])) [] (omega (arith, bares-length rs))
