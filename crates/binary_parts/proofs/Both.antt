-- The text and the reference list, with nothing after them; and the four bytes before them.
use Prim.Native.Nat.{ℕ, ◌+◌, ◌≤◌}
use mathlib.Core.Path.{◌≡◌, refl, sym, ◌∙◌}
use mathlib.Core.Bool.{Bool, true, false, cond, false≢true}
use mathlib.Core.List.{List}
use mathlib.Core.Option as maybe
use mathlib.Core.Option.{none, some}
use Rattle.std.specs.Prelude.{None, Some}
use borrow.Author.Tests.{leb-true, leb-false}
use lib.Dec.{leb}
use lib.ListN.{length, take, drop}
use Rattle.format.specs.Bytes.{none?, starts}
use Rattle.byte_slices.proofs.Equal.{starts-short}
use Rattle.format.specs.References.{Reference}
use Rattle.format.specs.Binary.{and_then, take_number, take_sized, take_list, take_both, magic, binary_parts}
use Rattle.binary_parts.specs.declared.NumberAt.{NumberAt}
use Rattle.binary_parts.specs.declared.RunAt.{RunAt}
use Rattle.binary_parts.specs.Parts.{number_taken, run_from, is_whole, listed, parts_from}

module _ (s : List ℕ) (at : ℕ) where
  pub both-none : take_sized (drop at s) ≡ run_from s None → take_both (drop at s) ≡ parts_from s None
  unfolding take_both and_then run_from parts_from
  both-none e = rw e refl

  module _ (t : RunAt) (e : take_sized (drop at s) ≡ run_from s (Some t)) where
    pub both-short : take_number (drop (t.at + t.len) s) ≡ number_taken s None → take_both (drop at s) ≡ parts_from s None
    unfolding take_both and_then run_from number_taken parts_from
    both-short k = rw (e, k) refl

    module _ (n : NumberAt) (k : take_number (drop (t.at + t.len) s) ≡ number_taken s (Some n)) where
      text : List ℕ
      text = take t.len (drop t.at s)

      both-is : take_both (drop at s) ≡ cond (is_whole (take_list n.value (drop n.next s))) (some (text, listed (take_list n.value (drop n.next s)))) none
      unfolding take_both and_then run_from number_taken is_whole listed text
      both-is = rw (e, k) (go (take_list n.value (drop n.next s)))
        where
          go : (l : maybe.Option (List Reference × List ℕ)) → and_then {B = List ℕ × List Reference} l (λ list. cond (none? list.1) (some (text, list.0)) none) ≡ cond (is_whole l) (some (text, listed l)) none
          go none = refl
          go (some p) = refl

      pub both-more : is_whole (take_list n.value (drop n.next s)) ≡ false → take_both (drop at s) ≡ parts_from s None
      unfolding parts_from
      both-more i = both-is ∙ rw i refl

      pub both-whole : is_whole (take_list n.value (drop n.next s)) ≡ true
          → take_both (drop at s) ≡ parts_from s (Some (record { text = t.at; len = t.len; list = n.next; count = n.value }))
      unfolding parts_from text
      both-whole i = both-is ∙ rw i refl

-- ---- `BAM` and 1

module _ (s : List ℕ) where
  pub started : starts magic s ≡ true → binary_parts s ≡ take_both (drop 4 s)
  unfolding binary_parts
  started h = rw h refl

  pub other-start : starts magic s ≡ false → binary_parts s ≡ none
  unfolding binary_parts
  other-start h = rw h refl

  pub start-long : starts magic s ≡ true → 4 ≤ length s
  unfolding magic
  start-long h = go (leb 4 (length s)) refl
    where
      go : (t : Bool) → leb 4 (length s) ≡ t → 4 ≤ length s
      go true q = leb-true 4 (length s) q
      go false q = absurd (false≢true (sym (starts-short magic s (leb-false 4 (length s) q)) ∙ h))
