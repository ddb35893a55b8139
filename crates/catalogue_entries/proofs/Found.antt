-- The records from the one that is asked for on, and the entries of a whole catalogue.
use Prim.Native.Nat.{ℕ, zero, suc, ◌+◌}
use mathlib.Core.Path.{◌≡◌, refl, ap, ◌∙◌}
use mathlib.Core.Bool.{Bool, true, false, cond}
use mathlib.Core.List.{List, [], ◌∷◌}
use lib.ListN.{get_elem?}
use lib.Dec.{eqb}
use Rattle.format.specs.Records.{Record, code}
use Rattle.format.specs.Reading.{of_kind}
use Rattle.format.specs.Catalogue.{catalogue}
use Rattle.catalogue_entries.specs.Entries.{FitsEntry, entries_of, entries_in}
use Rattle.byte_slices.specs.Stands.{Each}
use Rattle.catalogue_entries.proofs.Walk.{entries-back}
use Rattle.catalogue_entries.proofs.Records.{catalogue-entries}

-- the records from that of kind `k` on that has `i` of that kind before it; none if there is none
unfoldable pub records_from : ℕ → ℕ → List Record → List Record
unfolding code
records_from k i [] = []
records_from k zero (r ∷ rs) = cond (eqb (code r) k) (r ∷ rs) (records_from k zero rs)
records_from k (suc i) (r ∷ rs) = cond (eqb (code r) k) (records_from k i rs) (records_from k (suc i) rs)

-- the line that it is on where the first of all is on the line `l`
unfoldable pub line_from : ℕ → ℕ → ℕ → List Record → ℕ
unfolding code
line_from k i l [] = l
line_from k zero l (r ∷ rs) = cond (eqb (code r) k) l (line_from k zero (l + 1) rs)
line_from k (suc i) l (r ∷ rs) = cond (eqb (code r) k) (line_from k i (l + 1) rs) (line_from k (suc i) (l + 1) rs)

-- the first of those records is the one asked for
pub first-record : (k i : ℕ) (rs : List Record) → get_elem? (of_kind k rs) i ≡ get_elem? (records_from k i rs) 0
unfolding of_kind records_from
first-record k i [] = refl
first-record k zero (r ∷ rs) = go (eqb (code r) k) (first-record k zero rs)
  where
    go : (t : Bool) → get_elem? (of_kind k rs) 0 ≡ get_elem? (records_from k 0 rs) 0
        → get_elem? (cond t (r ∷ of_kind k rs) (of_kind k rs)) 0 ≡ get_elem? (cond t (r ∷ rs) (records_from k 0 rs)) 0
    go true ih = refl
    go false ih = ih
first-record k (suc i) (r ∷ rs) = go (eqb (code r) k) (first-record k i rs) (first-record k (suc i) rs)
  where
    go : (t : Bool) → get_elem? (of_kind k rs) i ≡ get_elem? (records_from k i rs) 0 → get_elem? (of_kind k rs) (suc i) ≡ get_elem? (records_from k (suc i) rs) 0
        → get_elem? (cond t (r ∷ of_kind k rs) (of_kind k rs)) (suc i) ≡ get_elem? (cond t (records_from k i rs) (records_from k (suc i) rs)) 0
    go true ih jh = ih
    go false ih jh = jh

-- ---- a walk over a catalogue

pub entries-catalogue : (rs : List Record) → Each FitsEntry (entries_of rs) → entries_in (catalogue rs) ≡ entries_of rs
entries-catalogue rs h = ap entries_in (catalogue-entries rs) ∙ entries-back (entries_of rs) h
