-- The blocks of a message, one by one. Assumes nothing.
use Prim.Native.Nat.{ℕ, zero, suc, ◌+◌, ◌-◌, ◌*◌, ◌/◌, ◌≤◌, ◌<◌}
use mathlib.Core.Path.{◌≡◌, refl, sym, ap, ◌∙◌}
use mathlib.Core.List.{List, [], ◌∷◌, ◌++◌}
use native.Mathlib.Omega.{arith}
use native.Mathlib.Nat.{zero-add, suc-add}
use lib.ListN.{length, take, drop, length-append, length-drop}
use lib.Seq.{drop-drop, take-append-le, drop-append-le}
use Rattle.format.specs.Sha256.{HashValue, H0, compress, padding, pad, parse, hashed, digest, sha256}
use Rattle.sha256.specs.Parts.{last_blocks}

-- ---- the whole blocks

-- what a loop has left: the blocks from `i` on, of the value `s`
unfoldable pub Begun : List ℕ → ℕ → HashValue → ℕ → Type 0
Begun text n s i = hashed s (parse (n - i) (drop (64 * i) text)) ≡ hashed H0 (parse n text)

pub begun-none : (text : List ℕ) (n : ℕ) (s : HashValue) → s ≡ H0 → Begun text n s 0
unfolding Begun
begun-none text n s e =
    let k : n - 0 ≡ n = omega arith in
    rw (k, e) refl

pub begun_more : (text : List ℕ) (n i : ℕ) (s r : HashValue) → i < n → r ≡ compress s (take 64 (drop (64 * i) text)) → Begun text n s i → Begun text n r (i + 1)
unfolding Begun parse hashed
begun_more text n i s r h e inv =
    let k : n - i ≡ suc (n - (i + 1)) = omega arith in
    let m : 64 * (i + 1) ≡ 64 * i + 64 = omega arith in
    let p : hashed s (parse (n - i) (drop (64 * i) text)) ≡ hashed (compress s (take 64 (drop (64 * i) text))) (parse (n - (i + 1)) (drop 64 (drop (64 * i) text))) =
    ap (λ j. hashed s (parse j (drop (64 * i) text))) k in
    rw (m, e, ← drop-drop 64 (64 * i) text) (sym p ∙ inv)

pub begun_all : (text : List ℕ) (n i : ℕ) (s : HashValue) → i ≡ n → Begun text n s i → s ≡ hashed H0 (parse n text)
unfolding Begun parse hashed
begun_all text n i s e inv =
    let k : n - i ≡ 0 = omega arith in
    let p : hashed s (parse (n - i) (drop (64 * i) text)) ≡ s = ap (λ j. hashed s (parse j (drop (64 * i) text))) k in
    sym p ∙ inv

-- ---- the whole message

parse-append : (q k : ℕ) (s t : List ℕ) → 64 * q ≤ length s → parse (q + k) (s ++ t) ≡ parse q s ++ parse k (drop (64 * q) s ++ t)
unfolding parse
parse-append zero k s t h = rw (zero-add k) refl
parse-append (suc q) k s t h =
    let m : 64 * suc q ≡ 64 + 64 * q = omega arith in
    rw (suc-add q k, take-append-le 64 s t (omega arith), drop-append-le 64 s t (omega arith), m, ← drop-drop (64 * q) 64 s)
    (ap (λ l. take 64 s ∷ l) (parse-append q k (drop 64 s) t (omega (arith, length-drop 64 s))))

hashed-append : (s : HashValue) (a b : List (List ℕ)) → hashed s (a ++ b) ≡ hashed (hashed s a) b
unfolding hashed
hashed-append s [] b = refl
hashed-append s (x ∷ a) b = hashed-append (compress s x) a b

-- the whole blocks first, and then the last ones
pub in_two : (s : List ℕ) (k : ℕ) → length (last_blocks s) ≡ 64 * k → sha256 s ≡ digest (hashed (hashed H0 (parse (length s / 64) s)) (parse k (last_blocks s)))
unfolding sha256 pad last_blocks
in_two s k h =
    let n : ℕ = length s in
    let p : List ℕ = padding (length s) in
    let q : ℕ = length s / 64 in
    let l : length (s ++ p) / 64 ≡ q + k =
    omega (arith, length-append s p, length-append (drop (64 * q) s) p, length-drop (64 * q) s) in
    rw (l, parse-append q k s p (omega arith), hashed-append H0 (parse q s) (parse k (drop (64 * q) s ++ p))) refl
