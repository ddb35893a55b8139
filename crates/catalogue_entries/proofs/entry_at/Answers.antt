-- `catalogue_entries::entry_at` meets its contract: the kind's size says whether the whole entry is there.
use Prim.Native.Nat.{ℕ, suc, ◌+◌, ◌-◌, ◌≤◌, ◌<◌}
use mathlib.Core.Path.{◌≡◌, refl, ◌∙◌}
use mathlib.Core.List.{List, ◌∷◌}
use native.Mathlib.Omega.{arith}
use native.Mathlib.Numerals.{add-one}
use lib.ListN.{length, drop, get_or, length-drop, drop_of_length-le}
use lib.Seq.{drop-cons}
use borrow.Author.Tests.{le-leb, lt-leb}
use Rattle.catalogue_entries.specs.declared.Entry.TheVariants.{End}
use Rattle.catalogue_entries.specs.Entries.{kind_size, entry_with, entry_of}
use Rattle.catalogue_entries.proofs.entry_at.Goals as goal

module _ (s : List ℕ) (at : ℕ) where
  nothing : length s ≤ at → End ≡ entry_of (drop at s)
  unfolding entry_of
  nothing h = rw drop_of_length-le refl

  opened : at < length s → length s - at ≡ length (get_or s at 0 ∷ drop (suc at) s)
  opened h = omega (arith, length-drop (suc at) s)

  short : at < length s → length s - at < kind_size (get_or s at 0) → End ≡ entry_of (drop at s)
  unfolding entry_of
  short h k =
      let l : length (get_or s at 0 ∷ drop (suc at) s) < kind_size (get_or s at 0) = omega (arith, opened h) in
      rw (drop-cons s at 0 h, lt-leb (kind_size (get_or s at 0)) (length (get_or s at 0 ∷ drop (suc at) s)) l) refl

  whole : at < length s → kind_size (get_or s at 0) ≤ length s - at → entry_with (get_or s at 0) (drop (at + 1) s) ≡ entry_of (drop at s)
  unfolding entry_of
  whole h k =
      let l : kind_size (get_or s at 0) ≤ length (get_or s at 0 ∷ drop (suc at) s) = omega (arith, opened h) in
      rw (drop-cons s at 0 h, le-leb (kind_size (get_or s at 0)) (length (get_or s at 0 ∷ drop (suc at) s)) l, add-one at) refl

pub returns-then-catalogue-at : goal.returns-then-catalogue-at
returns-then-catalogue-at c = nothing _ _ c.if-catalogue-at.true

pub returns-then-catalogue-at-2 : goal.returns-then-catalogue-at-2
returns-then-catalogue-at-2 c =
    let a = c.args in
    short a.catalogue.now a.at (omega arith) (omega (arith, c.kind_size.ensures))

pub returns : goal.returns
returns c =
    let a = c.args in
    c.body_at.ensures ∙ whole a.catalogue.now a.at (omega arith) (omega (arith, c.kind_size.ensures))
