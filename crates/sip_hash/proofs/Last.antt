-- The last word of a message: the bytes after its whole words, zeros, and its length.
use Rattle.std.proofs.Common.{◌≡◌, ℕ, zero, suc, ◌+◌, ◌-◌, ◌*◌, ◌/◌, ◌%◌, ◌^◌, ◌<◌, ◌≤◌, List, [], ◌∷◌, ◌++◌, length, get_or, take, drop, replicate, sym, refl, ap, ◌∙◌, mul_assoc, mul_comm, suc-add, pow-suc, zero-add, arith, length-append, length-drop, drop_of_length-le, take_all, drop-cons, drop-drop}
use native.Mathlib.Nat.{pow-zero, pow-succ', pow-le-pow_right}
use lib.ListN.{length-replicate}
use lib.Seq.{take-append-le, drop-append-le}
use Rattle.format.specs.Little.{of_little}
use Rattle.little_endian.proofs.Little.{of-append}
use Rattle.format.specs.SipHash.{SipState}
use Rattle.format.specs.SipHash.{initial, absorb, absorbed, pad, words, finish, sip}

-- ---- the bytes after the whole words, from the last on

module _ (s : List ℕ) where
  -- the number in the bytes from `i` on, and its bound
  unfoldable pub Worth : ℕ → ℕ → Type 0
  Worth i w = (w ≡ of_little (drop i s)) × (w < 256 ^ (length s - i))

  pub worth-none : Worth (length s) 0
  unfolding Worth of_little
  worth-none =
      let k : length s - length s ≡ 0 = omega arith in
      (rw (drop_of_length-le s {i = length s} (omega arith)) refl, rw k (omega arith))

  pub worth-more : (i w : ℕ) → i < length s → get_or s i 0 < 256 → Worth (suc i) w → Worth i (w * 256 + get_or s i 0)
  unfolding Worth of_little
  worth-more i w h b inv =
      let k : length s - i ≡ suc (length s - suc i) = omega arith in
      let e : w * 256 + get_or s i 0 ≡ get_or s i 0 + 256 * of_little (drop (suc i) s) = omega (arith, inv.0) in
      (e ∙ rw (drop-cons s i 0 h) refl, rw (k, pow-suc 256 (length s - suc i)) (omega (arith, inv.1)))

  pub worth-lt : (i w n : ℕ) → length s - i ≤ n → Worth i w → w < 256 ^ n
  unfolding Worth
  worth-lt i w n h inv = omega (arith, inv.1, pow-le-pow_right {n = 256} (omega arith) {i = length s - i} {j = n} h)

-- ---- the padding

times : (k b : ℕ) → 256 ^ suc k * b ≡ 256 * (256 ^ k * b)
times k b = ap (λ m. m * b) (pow-succ' 256 k) ∙ mul_assoc 256 (256 ^ k) b

powers : (a k b : ℕ) → 256 ^ a * (256 ^ k * b) ≡ 256 ^ (a + k) * b
powers zero k b = rw (zero-add k, pow-zero 256) (omega arith)
powers (suc a) k b = rw suc-add (times a (256 ^ k * b) ∙ ap (λ m. 256 * m) (powers a k b) ∙ sym (times (a + k) b))

zeros-worth : (k b : ℕ) → of_little (replicate k 0 ++ b ∷ []) ≡ 256 ^ k * b
unfolding of_little
zeros-worth zero b = omega arith
zeros-worth (suc k) b = omega (arith, zeros-worth k b, times k b)

words_append : (q k : ℕ) (s t : List ℕ) → 8 * q ≤ length s → words (q + k) (s ++ t) ≡ words q s ++ words k (drop (8 * q) s ++ t)
unfolding words
words_append zero k s t h = rw (zero-add k) refl
words_append (suc q) k s t h =
    let m : 8 * suc q ≡ 8 + 8 * q = omega arith in
    rw (suc-add q k, take-append-le 8 s t (omega arith), drop-append-le 8 s t (omega arith), m, ← drop-drop (8 * q) 8 s)
    (ap (λ l. of_little (take 8 s) ∷ l) (words_append q k (drop 8 s) t (omega (arith, length-drop 8 s))))

absorbed-append : (c : ℕ) (s : SipState) (a b : List ℕ) → absorbed c s (a ++ b) ≡ absorbed c (absorbed c s a) b
unfolding absorbed
absorbed-append c s [] b = refl
absorbed-append c s (x ∷ a) b = absorbed-append c (absorb c s x) a b

-- what follows the whole words of a message, padded
abbrev ending : List ℕ → List ℕ
ending s = drop (8 * (length s / 8)) s ++ (replicate (7 - length s % 8) 0 ++ length s % 256 ∷ [])

ending-length : (s : List ℕ) → length (ending s) ≡ 8
ending-length s =
    let z : List ℕ = replicate (7 - length s % 8) 0 in
    let b : List ℕ = length s % 256 ∷ [] in
    let r : List ℕ = drop (8 * (length s / 8)) s in
    omega (arith, length-append r (z ++ b), length-append z b, length-replicate {A = ℕ} (7 - length s % 8) 0, length-drop (8 * (length s / 8)) s)

ending-worth : (s : List ℕ) → of_little (ending s) ≡ of_little (drop (8 * (length s / 8)) s) + length s % 256 * 72057594037927936
ending-worth s =
    let n : ℕ = length s in
    let r : List ℕ = drop (8 * (length s / 8)) s in
    let l : length r ≡ n % 8 = omega (arith, length-drop (8 * (n / 8)) s) in
    let k : n % 8 + (7 - n % 8) ≡ 7 = omega arith in
    let high : 256 ^ length r * of_little (replicate (7 - n % 8) 0 ++ n % 256 ∷ []) ≡ n % 256 * 72057594037927936 =
    rw (l, zeros-worth (7 - n % 8) (n % 256), powers (n % 8) (7 - n % 8) (n % 256), k) (mul_comm 72057594037927936 (n % 256)) in
    of-append r (replicate (7 - n % 8) 0 ++ n % 256 ∷ []) ∙ ap (λ m. of_little r + m) high

-- the words of a padded message: its whole words, and the last
pub pad-words : (s : List ℕ)
    → words (length (pad s) / 8) (pad s) ≡ words (length s / 8) s ++ (of_little (drop (8 * (length s / 8)) s) + length s % 256 * 72057594037927936) ∷ []
unfolding pad words
pad-words s =
    let n : ℕ = length s in
    let t : List ℕ = replicate (7 - length s % 8) 0 ++ length s % 256 ∷ [] in
    let l : length (s ++ t) / 8 ≡ n / 8 + 1 =
    omega (arith, ending-length s, length-append s t, length-append (drop (8 * (n / 8)) s) t, length-drop (8 * (n / 8)) s) in
    rw (l, words_append (n / 8) 1 s t (omega arith), take_all 8 (ending s) (omega (arith, ending-length s)), ending-worth s) refl

-- the parts of a hash
pub composed : (c d k0 k1 rest r : ℕ) (s : List ℕ) (a b t : SipState) → rest ≡ of_little (drop (length s - length s % 8) s) → a ≡ initial k0 k1
    → b ≡ absorbed c a (words (length s / 8) s) → t ≡ absorb c b (rest + length s % 256 * 72057594037927936) → r ≡ finish d t → r ≡ sip c d k0 k1 s
unfolding sip absorbed
composed c d k0 k1 rest r s a b t er ea eb et e =
    let k : 8 * (length s / 8) ≡ length s - length s % 8 = omega arith in
    let w : List ℕ = words (length s / 8) s in
    let m : ℕ = of_little (drop (8 * (length s / 8)) s) + length s % 256 * 72057594037927936 in
    let em : rest + length s % 256 * 72057594037927936 ≡ m = rw (er, k) refl in
    e ∙ ap (finish d) (et ∙ (λ i. absorb c ((eb ∙ ap (λ x. absorbed c x w) ea) i) (em i)) ∙ sym (ap (absorbed c (initial k0 k1)) (pad-words s) ∙ absorbed-append c (initial k0 k1) w (m ∷ [])))
