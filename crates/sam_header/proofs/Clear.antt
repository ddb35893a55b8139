-- An answer of carrying on, leaves, key or field that is not a refusal and not the stand-in keeps bit 63 clear.
use Prim.Native.Nat.{ℕ, ◌+◌, ◌*◌, ◌/◌, ◌^◌, ◌≤◌, ◌<◌}
use mathlib.Core.Path.{◌≡◌, refl, sym, ap, subst}
use mathlib.Core.List.{List}
use native.Mathlib.Omega.{arith}
use lib.ListN.{length}
use Rattle.format.specs.Lines.{Piece}
use Rattle.format.specs.Calls.{Answer, refused, yes, keying, valuing, leafing}
use Rattle.format.specs.Table.{leafing_table}
use Rattle.format.specs.declared.Node.{Node}
use Rattle.calls.specs.Answers.{key_answer_of, value_place_of}
use Rattle.calls.proofs.OwnCatalogue.{key-short, value-short}
use Rattle.programs.specs.Answers.{leaves_answer_of}
use Rattle.programs.proofs.Bound.{hops-few, leaves-few}
use Rattle.programs_by_table.specs.Answers.{without_table}
use Rattle.programs_by_table.proofs.Same.{same-as-first}
use Rattle.format.specs.Carrying.{carrying}
use Rattle.carry_laws.proofs.Bound.{carried-few}
use Rattle.carry_on.specs.Answers.{carried_of}
use Rattle.sam_header_words.specs.Words.{carried_word, FitsHalves, leaves_word, pair_word, key_word, field_word}

place-clear : (p : Piece) → p.at + length p.bytes ≤ 16777216 → pair_word p.at (length p.bytes) < 2 ^ 63
unfolding pair_word
place-clear p h = omega (arith, h)

pub carried-clear : (t : List ℕ) (room table : ℕ) (xs ys : List ℕ) → carrying t room table ≡ yes (xs, ys) → carried_word (carried_of (carrying t room table)) < 2 ^ 63
unfolding carried_word carried_of pair_word
carried-clear t room table xs ys is =
    let f = carried-few t room table xs ys is in
    let z : length ys / 2 * 2 ^ 32 + length xs < 2 ^ 63 = omega (arith, f) in
    subst (λ a. carried_word (carried_of a) < 2 ^ 63) (sym is) z

-- both counts of carrying on fit 32 bits
pub carried-halves : (t : List ℕ) (room table : ℕ) → FitsHalves (carried_of (carrying t room table))
unfolding FitsHalves carried_of
carried-halves t room table = go (carrying t room table) refl
  where
    go : (a : Answer (List ℕ × List ℕ)) → carrying t room table ≡ a → FitsHalves (carried_of a)
    go (refused n l) is = tt
    go (yes (xs, ys)) is = let f = carried-few t room table xs ys is in (omega (arith, f.0), omega (arith, f.1))

module _ (t c : List ℕ) where
  -- the hops and the number of leaves, whichever engine answers
  told-clear : (room : ℕ) (xs : List ℕ) (h : ℕ) → leafing t c room ≡ yes (xs, h) → h * 2 ^ 32 + length xs < 2 ^ 63
  told-clear room xs h is = omega (arith, hops-few t c room xs h is, leaves-few t c room xs h is)

  pub leaves-clear : (room : ℕ) (xs : List ℕ) (h : ℕ) → leafing t c room ≡ yes (xs, h) → leaves_word (leaves_answer_of (leafing t c room)) < 2 ^ 63
  unfolding leaves_word leaves_answer_of pair_word
  leaves-clear room xs h is = subst (λ a. leaves_word (leaves_answer_of a) < 2 ^ 63) (sym is) (told-clear room xs h is)

  pub seated-clear : (room seats : ℕ) (xs : List ℕ) (h : ℕ) (ns : List Node) → leafing_table t c room seats ≡ yes (xs, h, ns)
      → leaves_word (leaves_answer_of (without_table (leafing_table t c room seats))) < 2 ^ 63
  unfolding leaves_word leaves_answer_of without_table pair_word
  seated-clear room seats xs h ns is =
      subst (λ a. leaves_word (leaves_answer_of (without_table a)) < 2 ^ 63) (sym is) (told-clear room xs h ((same-as-first t c room seats).answers xs h ns is).0)

  pub key-clear : (k i : ℕ) (p : Piece) → keying t c k i ≡ yes p → key_word (key_answer_of (keying t c k i)) < 2 ^ 63
  unfolding key_word key_answer_of
  key-clear k i p is = subst (λ a. key_word (key_answer_of a) < 2 ^ 63) (sym is) (place-clear p (key-short t c k i p is))

  pub field-clear : (k i a b : ℕ) (p : Piece) → valuing t c k i a b ≡ yes p → field_word (value_place_of (valuing t c k i a b)) < 2 ^ 63
  unfolding field_word value_place_of
  field-clear k i a b p is = subst (λ v. field_word (value_place_of v) < 2 ^ 63) (sym is) (place-clear p (value-short t c k i a b p is))
