-- What is taken off the bytes from a place on: the places say what is there.
use Prim.Native.Nat.{ℕ, ◌+◌, ◌-◌, ◌≤◌, ◌<◌}
use mathlib.Core.Path.{◌≡◌, refl, ◌∙◌}
use mathlib.Core.List.{List}
use mathlib.Core.Option.{none, some}
use native.Mathlib.Omega.{arith}
use lib.ListN.{length, take, drop, length-drop}
use lib.Seq.{drop-drop}
use borrow.Author.Tests.{le-leb, lt-leb}
use Rattle.format.specs.Little.{of_little}
use Rattle.format.specs.Binary.{and_then, take_bytes, take_number, take_sized, closed_name, take_reference}
use Rattle.binary_parts.specs.declared.NumberAt.{NumberAt}
use Rattle.binary_parts.specs.declared.RunAt.{RunAt}
use Rattle.binary_parts.specs.Parts.{number_taken, run_from, reference_in, reference_from}
use Rattle.std.specs.Prelude.{None, Some}

-- ---- bytes and numbers

module _ (s : List ℕ) (at n : ℕ) where
  bytes-short : length s - at < n → take_bytes n (drop at s) ≡ none
  unfolding take_bytes
  bytes-short k = rw (lt-leb n (length (drop at s)) (omega (arith, length-drop at s))) refl

  bytes-at : n ≤ length s - at → take_bytes n (drop at s) ≡ some (take n (drop at s), drop (at + n) s)
  unfolding take_bytes
  bytes-at k = rw (le-leb n (length (drop at s)) (omega (arith, length-drop at s)), drop-drop n at s) refl

module _ (s : List ℕ) (at : ℕ) where
  pub number_short : length s - at < 4 → take_number (drop at s) ≡ none
  unfolding take_number and_then
  number_short k = rw (bytes-short s at 4 k) refl

  pub number-at : 4 ≤ length s - at → take_number (drop at s) ≡ some (of_little (take 4 (drop at s)), drop (at + 4) s)
  unfolding take_number and_then
  number-at k = rw (bytes-at s at 4 k) refl

-- ---- a run of bytes after its length

module _ (s : List ℕ) (at : ℕ) where
  pub sized-none : take_number (drop at s) ≡ number_taken s None → take_sized (drop at s) ≡ run_from s None
  unfolding take_sized and_then number_taken run_from
  sized-none e = rw e refl

  module _ (n : NumberAt) (e : take_number (drop at s) ≡ number_taken s (Some n)) where
    sized-is : take_sized (drop at s) ≡ take_bytes n.value (drop n.next s)
    unfolding take_sized and_then number_taken
    sized-is = rw e refl

    pub sized-short : length s - n.next < n.value → take_sized (drop at s) ≡ none
    sized-short k = sized-is ∙ bytes-short s n.next n.value k

    pub sized-at : n.value ≤ length s - n.next → take_sized (drop at s) ≡ some (take n.value (drop n.next s), drop (n.next + n.value) s)
    sized-at k = sized-is ∙ bytes-at s n.next n.value k

-- ---- a reference

module _ (s : List ℕ) (at : ℕ) where
  pub reference-none : take_sized (drop at s) ≡ run_from s None → take_reference (drop at s) ≡ reference_from s None
  unfolding take_reference and_then run_from reference_from
  reference-none e = rw e refl

  module _ (r : RunAt) (e : take_sized (drop at s) ≡ run_from s (Some r)) where
    pub reference-open : closed_name (take r.len (drop r.at s)) ≡ none → take_reference (drop at s) ≡ reference_from s None
    unfolding take_reference and_then run_from reference_from
    reference-open o = rw (e, o) refl

    module _ (m : ℕ) (o : closed_name (take r.len (drop r.at s)) ≡ some (take m (drop r.at s))) where
      pub reference-short : take_number (drop (r.at + r.len) s) ≡ number_taken s None → take_reference (drop at s) ≡ reference_from s None
      unfolding take_reference and_then run_from number_taken reference_from
      reference-short k = rw (e, o, k) refl

      pub reference-at : (n : NumberAt) → take_number (drop (r.at + r.len) s) ≡ number_taken s (Some n)
          → take_reference (drop at s) ≡ reference_from s (Some (record { name = r.at; len = m; size = n.value; next = n.next }))
      unfolding take_reference and_then run_from number_taken reference_from reference_in
      reference-at n k = rw (e, o, k) refl
