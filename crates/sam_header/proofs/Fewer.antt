-- There are too few leaves for their number to reach the hops, whichever engine answers.
use Prim.Native.Nat.{ℕ}
use mathlib.Core.Path.{◌≡◌, refl}
use mathlib.Core.List.{List}
use Rattle.format.specs.Calls.{Answer, refused, yes, leafing}
use Rattle.format.specs.Table.{leafing_table}
use Rattle.format.specs.declared.Node.{Node}
use Rattle.programs.specs.Answers.{leaves_answer_of}
use Rattle.programs.proofs.Bound.{leaves-few}
use Rattle.programs_by_table.specs.Answers.{without_table}
use Rattle.programs_by_table.proofs.Same.{same-as-first}
use Rattle.sam_header_words.specs.Words.{FewLeaves}

module _ (t c : List ℕ) (room : ℕ) where
  pub few-first : FewLeaves (leaves_answer_of (leafing t c room))
  few-first = go (leafing t c room) refl
    where
      go : (a : Answer (List ℕ × ℕ)) → leafing t c room ≡ a → FewLeaves (leaves_answer_of a)
      go (refused n l) e = unfold FewLeaves leaves_answer_of in tt
      go (yes (xs, h)) e = unfold FewLeaves leaves_answer_of in leaves-few t c room xs h e

  pub few-seated : (seats : ℕ) → FewLeaves (leaves_answer_of (without_table (leafing_table t c room seats)))
  few-seated seats = go (leafing_table t c room seats) refl
    where
      go : (a : Answer (List ℕ × ℕ × List Node)) → leafing_table t c room seats ≡ a → FewLeaves (leaves_answer_of (without_table a))
      go (refused n l) e = unfold FewLeaves leaves_answer_of without_table in tt
      go (yes (xs, h, ns)) e = unfold FewLeaves leaves_answer_of without_table in leaves-few t c room xs h ((same-as-first t c room seats).answers xs h ns e).0
