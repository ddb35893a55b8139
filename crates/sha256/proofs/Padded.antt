-- The last blocks of a message: their length, and how they are written. Assumes nothing.
use Prim.Native.Nat.{ℕ, zero, suc, ◌+◌, ◌-◌, ◌*◌, ◌/◌, ◌%◌, ◌≤◌, ◌<◌}
use mathlib.Core.Path.{◌≡◌, refl, sym, ap, ◌∙◌}
use mathlib.Core.List.{List, ◌∷◌, ◌++◌, append_assoc}
use native.Mathlib.Omega.{arith}
use lib.ListN.{length, take, drop, set, replicate, length-append, length-drop, length-replicate, replicate-append-replicate}
use lib.Seq.{drop_at, take_at, set_at, take-append-add, take_all}
use Rattle.byte_slices.specs.Over.{over}
use Rattle.byte_slices.proofs.Over.{over-take}
use Rattle.format.specs.Sha256.{HashValue, H0, compress, big, zeros, padding, parse, hashed, digest, sha256}
use Rattle.sha256.specs.Parts.{last_blocks}
use Rattle.sha256.proofs.Big.{big-length}
use Rattle.sha256.proofs.Blocks.{in_two}

abbrev blank : ℕ → List ℕ
blank n = replicate n 0

blank-length : (n : ℕ) → length (blank n) ≡ n
blank-length n = length-replicate n zero

pub padding-length : (n : ℕ) → length (padding n) ≡ 9 + zeros n
unfolding padding
padding-length n =
    omega (arith, length-append (blank (zeros n)) (big 8 (8 * n)), blank-length (zeros n), big-length 8 (8 * n))

ending-length : (s : List ℕ) → length (last_blocks s) ≡ length s % 64 + 9 + zeros (length s)
unfolding last_blocks
ending-length s =
    omega (arith, length-append (drop (64 * (length s / 64)) s) (padding (length s)), length-drop (64 * (length s / 64)) s, padding-length (length s))

pub one_block : (s : List ℕ) → length s % 64 < 56 → length (last_blocks s) ≡ 64
unfolding zeros
one_block s h = omega (arith, ending-length s)

pub two_blocks : (s : List ℕ) → 56 ≤ length s % 64 → length (last_blocks s) ≡ 128
unfolding zeros
two_blocks s h = omega (arith, ending-length s)

-- ---- how it is written

drop-same : (r n : ℕ) → r ≤ n → drop r (blank n) ≡ blank (n - r)
drop-same r n h =
    let e : n ≡ r + (n - r) = omega arith in
    ap (λ m. drop r (blank m)) e ∙ ap (drop r) (sym (replicate-append-replicate r (n - r) zero)) ∙ drop_at (blank r) (blank (n - r)) r (blank-length r)

take_same : (r n : ℕ) → r ≤ n → take r (blank n) ≡ blank r
take_same r n h =
    let e : n ≡ r + (n - r) = omega arith in
    ap (λ m. take r (blank m)) e ∙ ap (take r) (sym (replicate-append-replicate r (n - r) zero)) ∙ take_at (blank r) (blank (n - r)) r (blank-length r)

-- `rest` over zeros, 0x80 after it, and `xs` after `z` of the zeros
written : (n z : ℕ) (rest xs a : List ℕ) → length rest + suc z + length xs ≤ n → a ≡ over (blank n) 0 rest
    → take (length rest + suc z + length xs) (over (set a (length rest) 0x80) (length rest + suc z) xs) ≡ rest ++ (0x80 ∷ (blank z ++ xs))
unfolding over
written n z rest xs a h e =
    let r : ℕ = length rest in
    let k : n - r ≡ suc (n - r - 1) = omega arith in
    let j : 0 + r ≡ r = omega arith in
    let begun : a ≡ rest ++ 0 ∷ blank (n - r - 1) =
    e ∙ ap (λ l. rest ++ drop l (blank n)) j ∙ ap (λ l. rest ++ l) (drop-same r n (omega arith) ∙ ap (λ l. blank l) k) in
    let marked : set a r 0x80 ≡ rest ++ 0x80 ∷ blank (n - r - 1) =
    ap (λ l. set l r 0x80) begun ∙ set_at rest 0 (blank (n - r - 1)) 0x80 r refl in
    let front : take (r + suc z) (set a r 0x80) ≡ rest ++ 0x80 ∷ blank z =
    ap (take (r + suc z)) marked ∙ take-append-add rest (0x80 ∷ blank (n - r - 1)) (suc z)
    ∙ ap (λ l. rest ++ 0x80 ∷ l) (take_same z (n - r - 1) (omega arith)) in
    let long : r + suc z ≤ length (set a r 0x80) =
    omega (arith, ap length marked, length-append rest (0x80 ∷ blank (n - r - 1)), blank-length (n - r - 1)) in
    over-take (set a r 0x80) (r + suc z) xs long ∙ ap (λ l. l ++ xs) front ∙ append_assoc rest (0x80 ∷ blank z) xs

-- the last blocks of `s`, in the code's words: `at` is where the length starts
pub ending-put : (s a b : List ℕ) (at : ℕ) → length (last_blocks s) ≡ at + 8 → at ≤ 120
    → a ≡ over (blank 128) 0 (take (length s - (length s - length s % 64)) (drop (length s - length s % 64) s))
    → b ≡ over (set a (length s % 64) 0x80) at (big 8 (8 * length s))
    → take (length (last_blocks s)) b ≡ last_blocks s
unfolding last_blocks padding
ending-put s a b at l h ea eb =
    let n : ℕ = length s in
    let start : n - n % 64 ≡ 64 * (n / 64) = omega arith in
    let rest : List ℕ = drop (64 * (n / 64)) s in
    let r : length rest ≡ n % 64 = omega (arith, length-drop (64 * (n / 64)) s) in
    let m : length (big 8 (8 * n)) ≡ 8 = big-length 8 (8 * n) in
    let z : at ≡ length rest + suc (zeros n) = omega (arith, ending-length s) in
    let e : a ≡ over (blank 128) 0 rest =
    ea ∙ ap (over (blank 128) 0) (take_all (n - (n - n % 64)) (drop (n - n % 64) s) (omega (arith, length-drop (n - n % 64) s)) ∙ ap (λ k. drop k s) start) in
    let f : b ≡ over (set a (length rest) 0x80) (length rest + suc (zeros n)) (big 8 (8 * n)) =
    eb ∙ (λ i. over (set a (sym r i) 0x80) (z i) (big 8 (8 * n))) in
    let w : length (last_blocks s) ≡ length rest + suc (zeros n) + length (big 8 (8 * n)) = omega arith in
    (λ i. take (w i) (f i)) ∙ written 128 (zeros n) rest (big 8 (8 * n)) a (omega arith) e

-- ---- the last blocks

pub last_one : (s last : List ℕ) (h t : HashValue) → length s % 64 < 56 → take (length (last_blocks s)) last ≡ last_blocks s
    → h ≡ hashed H0 (parse (length s / 64) s) → t ≡ compress h (take 64 (drop 0 last)) → digest t ≡ sha256 s
unfolding parse hashed
last_one s last h t k e eh et =
    let l : length (last_blocks s) ≡ 64 = one_block s k in
    let p : take 64 last ≡ last_blocks s = ap (λ m. take m last) (sym l) ∙ e in
    let q : take 64 (last_blocks s) ≡ last_blocks s = take_all 64 (last_blocks s) (omega arith) in
    ap digest (et ∙ (λ i. compress (eh i) ((p ∙ sym q) i))) ∙ sym (in_two s 1 l)

pub last-two : (s last : List ℕ) (h t u : HashValue) → 56 ≤ length s % 64 → length last ≡ 128 → take (length (last_blocks s)) last ≡ last_blocks s
    → h ≡ hashed H0 (parse (length s / 64) s) → t ≡ compress h (take 64 (drop 0 last)) → u ≡ compress t (take 64 (drop 64 last)) → digest u ≡ sha256 s
unfolding parse hashed
last-two s last h t u k m e eh et eu =
    let l : length (last_blocks s) ≡ 128 = two_blocks s k in
    let p : last ≡ last_blocks s = sym (take_all 128 last (omega arith)) ∙ ap (λ m. take m last) (sym l) ∙ e in
    ap digest (eu ∙ (λ i. compress ((et ∙ (λ j. compress (eh j) (take 64 (p j)))) i) (take 64 (drop 64 (p i))))) ∙ sym (in_two s 2 l)
