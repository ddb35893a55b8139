-- The parts one after another: each is there or cut.
use Prim.Native.Nat.{ℕ, suc, ◌+◌, ◌-◌, ◌≤◌, ◌<◌}
use mathlib.Core.Path.{◌≡◌, refl, ap, ◌∙◌}
use mathlib.Core.Bool.{Bool, true, false, cond}
use mathlib.Core.List.{List}
use native.Mathlib.Omega.{arith}
use lib.ListN.{length, get_or}
use lib.Dec.{leb}
use borrow.Author.Tests.{eq-eqb, ne_eqb, le-leb, lt-leb, leb-true}
use Rattle.format.specs.Bytes.{starts}
use Rattle.lists.proofs.Bools.{never}
use Rattle.format.specs.Binary.{magic}
use Rattle.binary_len.specs.BinaryLen.{BinaryLen}
use Rattle.binary_len.specs.declared.Len.TheVariants.{Whole, More}
use Rattle.std.specs.Prelude.{Ok, Err}
use Rattle.binary_len.specs.BinaryLen.{part, onward, number_at, closed, name_at, reference_at, references_at, start, binary_len}

-- ---- a part

module _ (s : List ℕ) (end : ℕ) where
  pub part-there : end ≤ length s → part s end ≡ Ok (Whole end)
  unfolding part
  part-there h = rw (le-leb end (length s) h) refl

  pub part_cut : length s < end → part s end ≡ Ok (More end)
  unfolding part
  part_cut h = rw (lt-leb end (length s) h) refl

-- ---- a reference

module _ (s : List ℕ) (at n : ℕ) (e : n ≡ number_at s at) where
  pub length_cut : length s < at + 4 → reference_at s at ≡ Ok (More (at + 4))
  unfolding reference_at onward
  length_cut h = rw (part_cut s (at + 4) h) refl

  module _ (h : at + 4 ≤ length s) where
    named : reference_at s at ≡ onward (name_at s (at + 4) n) (λ end. part s (end + 4))
    unfolding reference_at onward
    named = rw (part-there s (at + 4) h, e) refl

    pub name-none : n ≡ 0 → reference_at s at ≡ Err 28
    unfolding name_at onward
    name-none z = named ∙ rw (eq-eqb n 0 z) refl

    module _ (k : n ≡ 0 → ⊥) where
      run : reference_at s at ≡ onward (onward (part s (at + 4 + n)) (closed s)) (λ end. part s (end + 4))
      unfolding name_at
      run = named ∙ rw (ne_eqb n 0 k) refl

      pub name-cut : length s < at + 4 + n → reference_at s at ≡ Ok (More (at + 4 + n))
      unfolding onward
      name-cut l = run ∙ rw (part_cut s (at + 4 + n) l) refl

      module _ (l : at + 4 + n ≤ length s) where
        pub name-open : (get_or s (at + 4 + n - 1) 0 ≡ 0 → ⊥) → reference_at s at ≡ Err 28
        unfolding onward closed
        name-open o = run ∙ rw (part-there s (at + 4 + n) l, ne_eqb (get_or s (at + 4 + n - 1) 0) 0 o) refl

        pub name-closed : get_or s (at + 4 + n - 1) 0 ≡ 0 → reference_at s at ≡ part s (at + 4 + n + 4)
        unfolding onward closed
        name-closed o = run ∙ rw (part-there s (at + 4 + n) l, eq-eqb (get_or s (at + 4 + n - 1) 0) 0 o) refl

-- ---- references

pub references-on : (s : List ℕ) (at left : ℕ) → 0 < left → references_at s at left ≡ onward (reference_at s at) (λ next. references_at s next (left - 1))
unfolding references_at
references-on s at left h =
    let z : left ≡ suc (left - 1) = omega arith in
    ap (references_at s at) z

-- ---- what is there, where the answer is a length

pub record Went (a : BinaryLen) (next : ℕ → BinaryLen) (n : ℕ) : Type 0 where
  pub end : ℕ
  pub first : a ≡ Ok (Whole end)
  pub second : next end ≡ Ok (Whole n)

pub went : (a : BinaryLen) (next : ℕ → BinaryLen) (n : ℕ) → onward a next ≡ Ok (Whole n) → Went a next n
unfolding onward
went (Ok (Whole end)) next n e = record { end = end; first = refl; second = e }
went (Ok (More end)) next n e = absurd (never (cc))
went (Err end) next n e = absurd (never (cc))

pub part-whole : (s : List ℕ) (end n : ℕ) → part s end ≡ Ok (Whole n) → (end ≤ length s) × (n ≡ end)
unfolding part
part-whole s end n e = go (leb end (length s)) refl e
  where
    go : (t : Bool) → leb end (length s) ≡ t → ◌≡◌ {A = BinaryLen} (cond t (Ok (Whole end)) (Ok (More end))) (Ok (Whole n)) → (end ≤ length s) × (n ≡ end)
    go true q e = (leb-true end (length s) q, cc)
    go false q e = absurd (never (cc))

pub reference-within : (s : List ℕ) (at n : ℕ) → reference_at s at ≡ Ok (Whole n) → n ≤ length s
unfolding reference_at
reference-within s at n e =
    let a = went (part s (at + 4)) (λ name. onward (name_at s name (number_at s at)) (λ end. part s (end + 4))) n e in
    let b = went (name_at s a.end (number_at s at)) (λ end. part s (end + 4)) n a.second in
    let p = part-whole s (b.end + 4) n b.second in
    omega (arith, p.0, p.1)

-- ---- the whole

module _ (s : List ℕ) where
  pub start-cut : starts magic s ≡ false → starts s magic ≡ true → binary_len s ≡ Ok (More 4)
  unfolding binary_len start onward
  start-cut f t = rw (f, t) refl

  pub start-other : starts magic s ≡ false → starts s magic ≡ false → binary_len s ≡ Err 28
  unfolding binary_len start onward
  start-other f t = rw (f, t) refl

  module _ (t : starts magic s ≡ true) where
    pub text-length-cut : length s < 8 → binary_len s ≡ Ok (More 8)
    unfolding binary_len start onward
    text-length-cut h = rw (t, part_cut s 8 h) refl

    module _ (h : 8 ≤ length s) (n : ℕ) (e : n ≡ number_at s 4) where
      pub text-cut : length s < 8 + n → binary_len s ≡ Ok (More (8 + n))
      unfolding binary_len start onward
      text-cut k = rw (t, part-there s 8 h, ← e, part_cut s (8 + n) k) refl

      module _ (k : 8 + n ≤ length s) where
        pub count_cut : length s < 8 + n + 4 → binary_len s ≡ Ok (More (8 + n + 4))
        unfolding binary_len start onward
        count_cut l = rw (t, part-there s 8 h, ← e, part-there s (8 + n) k, part_cut s (8 + n + 4) l) refl

        pub list_at : 8 + n + 4 ≤ length s → binary_len s ≡ references_at s (8 + n + 4) (number_at s (8 + n))
        unfolding binary_len start onward
        list_at l = rw (t, part-there s 8 h, ← e, part-there s (8 + n) k, part-there s (8 + n + 4) l) refl
