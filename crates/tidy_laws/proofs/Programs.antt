-- Links and IDs do not depend on where an ID or a PP is in the text: equal programs have equal links and IDs.
use Prim.Native.Nat.{ℕ, ◌+◌}
use mathlib.Core.Path.{◌≡◌, refl, sym, ap, ap₂, ◌∙◌}
use mathlib.Core.Bool.{Bool, true, false, cond}
use mathlib.Core.List.{List, [], ◌∷◌, map}
use mathlib.Core.Option.{Option, none, some}
use lib.ListN.{length, get_or, length-map, get_or-map}
use Rattle.format.specs.Bytes.{same}
use Rattle.format.specs.Lines.{Piece}
use Rattle.format.specs.Fields.{Field, tagged, later, last_of}
use Rattle.format.specs.Records.{Record, header, reference, group, program, comment, key, others}
use Rattle.format.specs.Reading.{of_kind}
use Rattle.format.specs.Programs.{Program, bytes_of, program_of, programs, ordinal_from, found, link, links}
use Rattle.format.specs.Adding.{no_program}
use Rattle.tidy_laws.specs.Bare.{bare_bytes, bare_field, bare, bares}
use Rattle.tidy_laws.proofs.Barred.{bare_key}

-- a program without offsets
bare_program : Program → Program
bare_program p = record { id = p.id; previous = bare_key p.previous }

last-bare : (a b : ℕ) (fs : List Field) → last_of a b (map bare_field fs) ≡ bare_key (last_of a b fs)
unfolding last_of tagged bare_field bare_key
last-bare a b [] = refl
last-bare a b (f ∷ fs) = rw (last-bare a b fs) (go (tagged a b f) (last_of a b fs))
  where
    go : (t : Bool) (o : Option Piece) → later (cond t (some (bare_bytes f.value.bytes)) none) (bare_key o) ≡ bare_key (later (cond t (some f.value) none) o)
    go t (some p) = unfold later in refl
    go true none = unfold later in refl
    go false none = unfold later in refl

program-bare : (r : Record) → program_of (bare r) ≡ bare_program (program_of r)
unfolding program_of bare bytes_of key others bare_bytes bare_program
program-bare (header v fs) = ap (λ o. record { id = []; previous = o }) (last-bare 80 80 fs)
program-bare (reference p n fs) = ap (λ o. record { id = p.bytes; previous = o }) (last-bare 80 80 fs)
program-bare (group p fs) = ap (λ o. record { id = p.bytes; previous = o }) (last-bare 80 80 fs)
program-bare (program p fs) = ap (λ o. record { id = p.bytes; previous = o }) (last-bare 80 80 fs)
program-bare (comment p) = unfold last_of bare_key in refl

programs-bare : (rs : List Record) → map program_of (map bare rs) ≡ map bare_program (map program_of rs)
programs-bare [] = refl
programs-bare (r ∷ rs) = ap₂ (λ p ps. p ∷ ps) (program-bare r) (programs-bare rs)

ordinal-bare : (k : ℕ) (id : List ℕ) (ps : List Program) → ordinal_from k id (map bare_program ps) ≡ ordinal_from k id ps
unfolding ordinal_from bare_program
ordinal-bare k id [] = refl
ordinal-bare k id (p ∷ ps) = ap (cond (same id p.id) (some k)) (ordinal-bare (k + 1) id ps)

link-bare : (ps : List Program) (o : Option Piece) → link (map bare_program ps) (bare_key o) ≡ link ps o
unfolding link bare_key bare_bytes
link-bare ps none = refl
link-bare ps (some p) = ap found (ordinal-bare 0 p.bytes ps)

links-bare : (ps qs : List Program) → map (λ p. link (map bare_program ps) p.previous) (map bare_program qs) ≡ map (λ p. link ps p.previous) qs
unfolding bare_program
links-bare ps [] = refl
links-bare ps (q ∷ qs) = ap₂ (λ l ls. l ∷ ls) (link-bare ps q.previous) (links-bare ps qs)

-- equal programs have equal links
pub links-equal : (rs qs : List Record) → bares 4 rs ≡ bares 4 qs → links (programs rs) ≡ links (programs qs)
unfolding bares links programs
links-equal rs qs e = sym (links-bare (programs rs) (programs rs)) ∙ ap (λ ps. map (λ p. link ps p.previous) ps) (sym (programs-bare (of_kind 4 rs)) ∙ ap (map program_of) e ∙ programs-bare (of_kind 4 qs)) ∙ links-bare (programs qs) (programs qs)

-- ---- IDs

abbrev id-of : Record → List ℕ
id-of r = (program_of r).id

id-bare : (r : Record) → id-of (bare r) ≡ id-of r
unfolding bare_program
id-bare r = ap (λ p. p.id) (program-bare r)

ids-bare : (rs : List Record) → map id-of (map bare rs) ≡ map id-of rs
ids-bare [] = refl
ids-bare (r ∷ rs) = ap₂ (λ p ps. p ∷ ps) (id-bare r) (ids-bare rs)

map-map : (rs : List Record) → map (λ p. p.id) (map program_of rs) ≡ map id-of rs
map-map [] = refl
map-map (r ∷ rs) = ap (λ ps. id-of r ∷ ps) (map-map rs)

at-id : (ps : List Program) (k : ℕ) → get_or (map (λ p. p.id) ps) k [] ≡ (get_or ps k no_program).id
unfolding no_program
at-id ps k = get_or-map (λ p. p.id) ps k no_program

-- equal programs have equal IDs
pub ids-equal : (rs qs : List Record) → bares 4 rs ≡ bares 4 qs → (k : ℕ) → (get_or (programs rs) k no_program).id ≡ (get_or (programs qs) k no_program).id
unfolding bares programs
ids-equal rs qs e k =
    let same-ids : map (λ p. p.id) (map program_of (of_kind 4 rs)) ≡ map (λ p. p.id) (map program_of (of_kind 4 qs)) =
    map-map (of_kind 4 rs) ∙ sym (ids-bare (of_kind 4 rs)) ∙ ap (map id-of) e ∙ ids-bare (of_kind 4 qs) ∙ sym (map-map (of_kind 4 qs)) in
    sym (at-id (map program_of (of_kind 4 rs)) k) ∙ ap (λ ids. get_or ids k []) same-ids ∙ at-id (map program_of (of_kind 4 qs)) k

-- as many
pub count-equal : (rs qs : List Record) → bares 4 rs ≡ bares 4 qs → length (of_kind 4 rs) ≡ length (of_kind 4 qs)
unfolding bares
count-equal rs qs e = sym (length-map (of_kind 4 rs) bare) ∙ ap length e ∙ length-map (of_kind 4 qs) bare
