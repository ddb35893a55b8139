-- How many slots there are: the smallest power of two that is not below twice the names, at least 2; and that number by leading zeros.
-- Assumes nothing.
use Rattle.std.proofs.Common.{◌≡◌, ℕ, zero, suc, ◌+◌, ◌-◌, ◌*◌, ◌^◌, ◌<◌, ◌≤◌, Bool, true, false, cond, ltb, leb, refl, ap, ◌∙◌, mul_assoc, pow-suc, mul_left_comm, arith, ltb-false, ltb-true, leb-false, leb-true}
use native.Mathlib.Nat.{pow-zero, pow-le-pow_right}
use lib.Count.{count_leading_zeros, leading_top}
use Rattle.format.specs.NameIndex.{doubled, slot_count}

double : (e : ℕ) → 2 * 2 ^ e ≡ 2 ^ suc e
double e = omega (arith, pow-suc 2 e)

-- a doubling stays a power of two
doubled-power : (f n s e : ℕ) → s ≡ 2 ^ suc e → (d : ℕ) × (doubled f n s ≡ 2 ^ suc d)
unfolding doubled
doubled-power zero n s e h = (e, h)
doubled-power (suc f) n s e h = go (ltb s n) (doubled-power f n (2 * s) (suc e) (ap (λ v. 2 * v) h ∙ double (suc e)))
  where
    go : (t : Bool) → (d : ℕ) × (doubled f n (2 * s) ≡ 2 ^ suc d) → (d : ℕ) × (cond t (doubled f n (2 * s)) s ≡ 2 ^ suc d)
    go true ih = ih
    go false ih = (e, h)

-- with enough doublings it is not below `n`
doubled-enough : (f n s : ℕ) → n ≤ s * 2 ^ f → n ≤ doubled f n s
unfolding doubled
doubled-enough zero n s h = omega (arith, h, ap (λ v. s * v) (pow-zero 2))
doubled-enough (suc f) n s h = go (ltb s n) refl (doubled-enough f n (2 * s) (omega (arith, h, ap (λ v. s * v) (double f), mul_left_comm s 2 (2 ^ f), mul_assoc 2 s (2 ^ f))))
  where
    go : (t : Bool) → ltb s n ≡ t → n ≤ doubled f n (2 * s) → n ≤ cond t (doubled f n (2 * s)) s
    go true q ih = ih
    go false q ih = ltb-false s n q

-- a power of two below another is at most half of it
half : (d e : ℕ) → 2 ^ suc d < 2 ^ suc e → 2 * 2 ^ suc d ≤ 2 ^ suc e
half d e h = go (leb e d) refl
  where
    go : (t : Bool) → leb e d ≡ t → 2 * 2 ^ suc d ≤ 2 ^ suc e
    go true q =
        let l : e ≤ d = leb-true e d q in
        absurd (omega (arith, h, pow-le-pow_right {n = 2} (omega arith) {i = suc e} {j = suc d} (omega arith)))
    go false q =
        let l : d < e = leb-false e d q in
        omega (arith, double (suc d), pow-le-pow_right {n = 2} (omega arith) {i = suc (suc d)} {j = suc e} (omega arith))

doubled-smallest : (f n s d e : ℕ) → s ≡ 2 ^ suc d → s ≤ 2 ^ suc e → n ≤ 2 ^ suc e → doubled f n s ≤ 2 ^ suc e
unfolding doubled
doubled-smallest zero n s d e h l m = l
doubled-smallest (suc f) n s d e h l m = go (ltb s n) refl (λ r. doubled-smallest f n (2 * s) (suc d) e (ap (λ v. 2 * v) h ∙ double (suc d)) r m)
  where
    go : (t : Bool) → ltb s n ≡ t → (2 * s ≤ 2 ^ suc e → doubled f n (2 * s) ≤ 2 ^ suc e) → cond t (doubled f n (2 * s)) s ≤ 2 ^ suc e
    go true q ih = let b : s < n = ltb-true s n q in ih (omega (arith, h, half d e (omega (arith, h, m, b))))
    go false q ih = l

below_power : (m : ℕ) → m ≤ 2 ^ m
below_power zero = omega arith
below_power (suc m) = omega (arith, below_power m, double m, pow-le-pow_right {n = 2} (omega arith) {i = 0} {j = m} (omega arith), pow-zero 2)

module _ (m : ℕ) where
  pub slots-power : (e : ℕ) × (slot_count m ≡ 2 ^ suc e)
  unfolding slot_count
  slots-power = doubled-power m (2 * m) 2 0 (omega arith)

  pub slots-enough : 2 * m ≤ slot_count m
  unfolding slot_count
  slots-enough = doubled-enough m (2 * m) 2 (omega (arith, below_power m))

  pub slots-smallest : (e : ℕ) → 2 * m ≤ 2 ^ suc e → slot_count m ≤ 2 ^ suc e
  unfolding slot_count
  slots-smallest e h =
      let two : 2 ≤ 2 ^ suc e = omega (arith, pow-le-pow_right {n = 2} (omega arith) {i = 1} {j = suc e} (omega arith)) in
      doubled-smallest m (2 * m) 2 0 e (omega arith) two h

  pub slots-some : 0 < slot_count m
  slots-some =
      let p = slots-power in
      omega (arith, p.1, pow-le-pow_right {n = 2} (omega arith) {i = 0} {j = suc p.0} (omega arith), pow-zero 2)

  -- for as many names as a text can have
  pub slots-few : m ≤ 16777216 → slot_count m ≤ 33554432
  slots-few h = slots-smallest 24 (omega (arith, h))

-- two powers of two, of which neither half is enough for the other
between : (n d j : ℕ) → n ≡ 2 ^ suc d → n ≤ 2 ^ suc j → 2 ^ j < n → n ≡ 2 ^ suc j
between n d j e a b = go (leb d j) refl (leb j d) refl
  where
    go : (s : Bool) → leb d j ≡ s → (t : Bool) → leb j d ≡ t → n ≡ 2 ^ suc j
    go true q true r = let c : d ≡ j = omega (arith, leb-true d j q, leb-true j d r) in e ∙ ap (λ k. 2 ^ suc k) c
    go false q t r =
        absurd
        (omega (arith, e, a, double (suc j), pow-le-pow_right {n = 2} (omega arith) {i = suc (suc j)} {j = suc d} (omega (arith, leb-false d j q)), pow-le-pow_right {n = 2} (omega arith) {i = 0} {j = suc j} (omega arith), pow-zero 2))
    go true q false r = absurd (omega (arith, e, b, pow-le-pow_right {n = 2} (omega arith) {i = suc d} {j = j} (omega (arith, leb-false j d r))))

-- from leading zeros of the doubled count less one
pub slots-shift : (m : ℕ) → 0 < m → 2 * m - 1 < 2 ^ 32 → slot_count m ≡ 2 ^ (32 - count_leading_zeros 32 (2 * m - 1))
slots-shift m p h =
    let top = leading_top 32 (2 * m - 1) (omega (arith, p)) h in
    let e : 32 - count_leading_zeros 32 (2 * m - 1) ≡ suc top.0 = omega (arith, top.1) in
    rw e (between (slot_count m) (slots-power m).0 top.0 (slots-power m).1 (slots-smallest m top.0 (omega (arith, top.3, p))) (omega (arith, top.2, slots-enough m, p)))

pub power-some : (n e : ℕ) → n ≡ 2 ^ e → 0 < n
power-some n e is = omega (arith, is, pow-le-pow_right {n = 2} (omega arith) {i = 0} {j = e} (omega arith), pow-zero 2)

-- a power of two from its own leading zeros
pub power-shift : (n e : ℕ) → n ≡ 2 ^ e → n < 2 ^ 32 → (count_leading_zeros 32 n ≤ 31) × (n ≡ 2 ^ (31 - count_leading_zeros 32 n))
power-shift n e is l = (omega (arith, top.1), rw place (go (leb e top.0) refl (leb top.0 e) refl))
  where
    top : (j : ℕ) × (count_leading_zeros 32 n + suc j ≡ 32) × (2 ^ j ≤ n) × (n < 2 ^ suc j)
    top = leading_top 32 n (power-some n e is) l

    place : 31 - count_leading_zeros 32 n ≡ top.0
    place = omega (arith, top.1)

    go : (s : Bool) → leb e top.0 ≡ s → (t : Bool) → leb top.0 e ≡ t → n ≡ 2 ^ top.0
    go true q true r = let c : e ≡ top.0 = omega (arith, leb-true e top.0 q, leb-true top.0 e r) in is ∙ ap (λ k. 2 ^ k) c
    go false q t r = absurd (omega (arith, is, top.3, pow-le-pow_right {n = 2} (omega arith) {i = suc top.0} {j = e} (omega (arith, leb-false e top.0 q))))
    go true q false r =
        absurd (omega (arith, is, top.2, double e, pow-le-pow_right {n = 2} (omega arith) {i = suc e} {j = top.0} (omega (arith, leb-false top.0 e r)), power-some n e is))
