-- What is answered is what is there, step by step.
use Prim.Native.Nat.{ℕ, ◌+◌, ◌-◌, ◌≤◌, ◌<◌}
use mathlib.Core.Path.{◌≡◌, refl}
use mathlib.Core.Bool.{true, false}
use mathlib.Core.List.{List}
use lib.ListN.{length, take, drop}
use lib.Dec.{eqb}
use borrow.Author.Tests.{lt-ltb, le-ltb, le-leb, lt-leb}
use Rattle.format.specs.Little.{of_little}
use Rattle.format.specs.Bytes.{starts}
use Rattle.format.specs.Programs.{last_or}
use Rattle.format.specs.Binary.{take_list, magic}
use Rattle.binary_parts.specs.Parts.{is_whole}
use Rattle.binary_parts.specs.declared.NumberAt.{NumberAt}
use Rattle.binary_parts.specs.declared.RunAt.{RunAt}
use Rattle.binary_parts.specs.declared.PartsAt.{PartsAt}
use Rattle.binary_parts.specs.Places.{number_at, run_by, run_at, reference_by, reference_at, both_by, both_at, parts_at}
use Rattle.std.specs.Prelude.{Option, None, Some}

module _ (s : List ℕ) (at : ℕ) where
  pub number-none : length s - at < 4 → None ≡ number_at s at
  unfolding number_at
  number-none h = rw (lt-ltb (length s - at) 4 h) refl

  pub number-some : 4 ≤ length s - at → (v : ℕ) → v ≡ of_little (take 4 (drop at s)) → Some (record { value = v; next = at + 4 }) ≡ number_at s at
  unfolding number_at
  number-some h v e = rw (le-ltb (length s - at) 4 h, e) refl

  pub run_none : None ≡ number_at s at → None ≡ run_at s at
  unfolding run_at
  run_none e = rw (← e) refl

  module _ (n : NumberAt) (e : Some n ≡ number_at s at) where
    pub run_short : length s - n.next < n.value → None ≡ run_at s at
    unfolding run_at run_by
    run_short k = rw (← e, lt-leb n.value (length s - n.next) k) refl

    pub run-whole : n.value ≤ length s - n.next → Some (record { at = n.next; len = n.value }) ≡ run_at s at
    unfolding run_at run_by
    run-whole k = rw (← e, le-leb n.value (length s - n.next) k) refl

  pub reference-none-at : None ≡ run_at s at → None ≡ reference_at s at
  unfolding reference_at
  reference-none-at e = rw (← e) refl

  pub both-none-at : None ≡ run_at s at → None ≡ both_at s at
  unfolding both_at
  both-none-at e = rw (← e) refl

  module _ (r : RunAt) (e : Some r ≡ run_at s at) where
    pub reference-open-at : eqb (last_or 1 (take r.len (drop r.at s))) 0 ≡ false → None ≡ reference_at s at
    unfolding reference_at reference_by
    reference-open-at f = rw (← e, f) refl

    pub reference-short-at : None ≡ number_at s (r.at + r.len) → eqb (last_or 1 (take r.len (drop r.at s))) 0 ≡ true → None ≡ reference_at s at
    unfolding reference_at reference_by
    reference-short-at g f = rw (← e, ← g, f) refl

    pub reference-whole-at : (n : NumberAt) → Some n ≡ number_at s (r.at + r.len) → eqb (last_or 1 (take r.len (drop r.at s))) 0 ≡ true
        → Some (record { name = r.at; len = r.len - 1; size = n.value; next = n.next }) ≡ reference_at s at
    unfolding reference_at reference_by
    reference-whole-at n g f = rw (← e, ← g, f) refl

    pub both-short-at : None ≡ number_at s (r.at + r.len) → None ≡ both_at s at
    unfolding both_at
    both-short-at g = rw (← e, ← g) refl

    module _ (n : NumberAt) (g : Some n ≡ number_at s (r.at + r.len)) where
      pub both-more-at : is_whole (take_list n.value (drop n.next s)) ≡ false → None ≡ both_at s at
      unfolding both_at both_by
      both-more-at i = rw (← e, ← g, i) refl

      pub both-whole-at : is_whole (take_list n.value (drop n.next s)) ≡ true
          → Some (record { text = r.at; len = r.len; list = n.next; count = n.value }) ≡ both_at s at
      unfolding both_at both_by
      both-whole-at i = rw (← e, ← g, i) refl

module _ (s : List ℕ) where
  pub parts-started : (p : Option PartsAt) → p ≡ both_at s 4 → starts magic s ≡ true → p ≡ parts_at s
  unfolding parts_at
  parts-started p e h = rw h e

  pub parts-other : starts magic s ≡ false → None ≡ parts_at s
  unfolding parts_at
  parts-other h = rw h refl
