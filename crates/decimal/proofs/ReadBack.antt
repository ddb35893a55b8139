-- What is written reads back, and no digits of the same worth are fewer. Assumes nothing.
use Prim.Native.Nat.{ℕ, zero, suc, ◌+◌, ◌-◌, ◌*◌, ◌/◌, ◌%◌, ◌^◌, ◌≤◌, ◌<◌}
use mathlib.Core.Path.{◌≡◌, refl, sym, ap, ◌∙◌}
use mathlib.Core.Bool.{true, false}
use mathlib.Core.List.{List, [], ◌∷◌, ◌++◌}
use mathlib.Core.Logic.{⊎_elim}
use mathlib.Core.Option.{some}
use native.Mathlib.Omega.{arith}
use native.Mathlib.Nat.{pow-succ', mul-le-mul_right, mul_assoc}
use lib.ListN.{length}
use borrow.Author.Tests.{lt-ltb}
use Rattle.format.specs.Bytes.{digit, all, none?}
use Rattle.format.specs.Decimal.{worth, worth_from, digits, number, written}
use Rattle.format.specs.Decimal.{span}
use Rattle.decimal.specs.Number.{number_of, number_at_front}
use Rattle.std.specs.Prelude.{Ok}
use Rattle.decimal.proofs.Front.{both, digit-yes, digit-top, span-digit}
use Rattle.decimal.proofs.Written.{one-digit, written_one, written_step, written-some, written-fits}

-- ---- digits and one more

worth-snoc : (n : ℕ) (ds : List ℕ) (d : ℕ) → worth_from n (ds ++ (d ∷ [])) ≡ worth_from n ds * 10 + (d - 48)
unfolding worth_from
worth-snoc n [] d = refl
worth-snoc n (b ∷ ds) d = worth-snoc (n * 10 + (b - 48)) ds d

all_snoc : (ds : List ℕ) (d : ℕ) → all digit ds ≡ true → digit d ≡ true → all digit (ds ++ (d ∷ [])) ≡ true
unfolding all
all_snoc [] d e h = rw h
all_snoc (b ∷ ds) d e h =
    let t : (digit b ≡ true) × (all digit ds ≡ true) = both (digit b) (all digit ds) e in
    rw t.0 (all_snoc ds d t.1 h)

-- ---- what is written

-- digits only, and worth the number
record Spells (n : ℕ) (ds : List ℕ) : Type 0 where
  digit-all : all digit ds ≡ true
  worth-is : worth ds ≡ n

spells_one : (n : ℕ) → n < 10 → Spells n (written n)
unfolding worth all
spells_one n o =
    rw (written_one n o) (record { digit-all = rw (digit-yes (48 + n) (omega arith) (omega arith)); worth-is = omega arith })

spells-step : (n : ℕ) → n < 10 ^ 20 → 10 ≤ n → Spells (n / 10) (written (n / 10)) → Spells n (written n)
unfolding worth
spells-step n k o t =
    rw (written_step n k o)
    (record {
      digit-all = all_snoc (written (n / 10)) (48 + n % 10) t.digit-all (digit-yes (48 + n % 10) (omega arith) (omega arith));
      worth-is = omega (arith, worth-snoc 0 (written (n / 10)) (48 + n % 10), t.worth-is);
    })

spells : (m n : ℕ) → n ≤ m → n < 10 ^ 20 → Spells n (written n)
spells zero n h k = spells_one n (omega arith)
spells (suc m) n h k = ⊎_elim (spells_one n) (λ o. spells-step n k o (spells m (n / 10) (omega arith) (omega arith))) (one-digit n)

pub reads-back : (n : ℕ) → n < 10 ^ 20 → worth (written n) ≡ n
reads-back n k = (spells n n (omega arith) k).worth-is

some-digits : (ds : List ℕ) → 1 ≤ length ds → none? ds ≡ false
unfolding none?
some-digits [] h = absurd (omega arith)
some-digits (b ∷ ds) h = refl

pub written-digits : (n : ℕ) → n < 10 ^ 20 → digits (written n) ≡ true
unfolding digits
written-digits n k = rw (some-digits (written n) (written-some n), (spells n n (omega arith) k).digit-all)

pub number-back : (limit n : ℕ) → n < limit → limit ≤ 10 ^ 20 → number limit (written n) ≡ some n
unfolding number
number-back limit n h k = rw (written-digits n (omega arith), reads-back n (omega arith), lt-ltb n limit h)

-- digits, and then no digit
span-append : (ds rest : List ℕ) → all digit ds ≡ true → (span rest).0 ≡ [] → (span (ds ++ rest)).0 ≡ ds
unfolding all
span-append [] rest e h = h
span-append (b ∷ ds) rest e h =
    let t : (digit b ≡ true) × (all digit ds ≡ true) = both (digit b) (all digit ds) e in
    span-digit b (ds ++ rest) t.0 ∙ ap (λ l. b ∷ l) (span-append ds rest t.1 h)

pub front-back : (limit n : ℕ) (rest : List ℕ) → n < limit → limit ≤ 10 ^ 20 → (span rest).0 ≡ []
    → number_at_front limit (written n ++ rest) ≡ Ok (number_of n (length (written n)))
unfolding number_at_front
front-back limit n rest h k e =
    rw (span-append (written n) rest (spells n n (omega arith) (omega arith)).digit-all e)
    (rw (some-digits (written n) (written-some n), reads-back n (omega arith), lt-ltb n limit h))

-- ---- the fewest digits

-- `k` digits are worth less than the next number of `k` digits more
worth-below : (n : ℕ) (ds : List ℕ) → all digit ds ≡ true → worth_from n ds < suc n * 10 ^ length ds
unfolding worth_from all
worth-below n [] e = omega arith
worth-below n (b ∷ ds) e =
    let t : (digit b ≡ true) × (all digit ds ≡ true) = both (digit b) (all digit ds) e in
    let p : ℕ = 10 ^ length ds in
    let q : suc n * 10 ^ suc (length ds) ≡ suc n * 10 * p = ap (λ m. suc n * m) (pow-succ' 10 (length ds)) ∙ sym (mul_assoc (suc n) 10 p) in
    let r : suc (n * 10 + (b - 48)) * p ≤ suc n * 10 * p = mul-le-mul_right p (omega (arith, digit-top b t.0)) in
    omega (arith, worth-below (n * 10 + (b - 48)) ds t.1)

-- no digits of the same worth are fewer than those that are written
pub written-fewest : (s : List ℕ) → digits s ≡ true → length (written (worth s)) ≤ length s
unfolding digits worth none?
written-fewest [] e = absurd (let z : ◌≡◌ {A = ℕ} 0 1 = cc in omega arith)
written-fewest (b ∷ s) e = written-fits (worth (b ∷ s)) (suc (length s)) (omega (arith, worth-below 0 (b ∷ s) e)) (omega arith)
