-- The rounds, one by one. Assumes nothing.
use Prim.Native.Nat.{ℕ, suc, ◌+◌, ◌≤◌, ◌<◌}
use mathlib.Core.Path.{◌≡◌, refl, sym, ap, ◌∙◌}
use mathlib.Core.List.{List}
use native.Mathlib.Omega.{arith}
use native.Mathlib.Numerals.{add-one}
use lib.ListN.{length, take, drop, get_or, drop_of_length-le}
use lib.Seq.{drop-cons}
use Rattle.format.specs.Sha256.{K, HashValue, words, extend, schedule, round, rounds, sum, compress}

K-length : length K ≡ 64
unfolding K
K-length = refl

-- what a loop has left: the rounds from `t` on, of the value `s`
unfoldable pub Left : List ℕ → HashValue → HashValue → ℕ → Type 0
Left w start s t = rounds (drop t K) (drop t w) s ≡ rounds K w start

pub left-none : (w : List ℕ) (s : HashValue) → Left w s s 0
unfolding Left
left-none w s = refl

left-more : (w : List ℕ) (start s r : HashValue) (t n : ℕ) → t < 64 → t < length w → n ≡ t + 1 → r ≡ round s (get_or K t 0) (get_or w t 0)
    → Left w start s t → Left w start r n
unfolding Left rounds
left-more w start s r t n h l m e inv =
    let p : rounds (drop t K) (drop t w) s ≡ rounds (drop (suc t) K) (drop (suc t) w) (round s (get_or K t 0) (get_or w t 0)) =
    rw (drop-cons K t 0 (omega (arith, K-length)), drop-cons w t 0 l) refl in
    rw (m, add-one t, e) (sym p ∙ inv)

-- four rounds
pub left-four : (w : List ℕ) (start s a b c d : HashValue) (t : ℕ) → t + 4 ≤ 64 → length w ≡ 64
    → a ≡ round s (get_or K t 0) (get_or w t 0)
    → b ≡ round a (get_or K (t + 1) 0) (get_or w (t + 1) 0)
    → c ≡ round b (get_or K (t + 2) 0) (get_or w (t + 2) 0)
    → d ≡ round c (get_or K (t + 3) 0) (get_or w (t + 3) 0)
    → Left w start s t → Left w start d (t + 4)
left-four w start s a b c d t h l ea eb ec ed inv =
    let one : Left w start a (t + 1) = left-more w start s a t (t + 1) (omega arith) (omega arith) refl ea inv in
    let two : Left w start b (t + 2) = left-more w start a b (t + 1) (t + 2) (omega arith) (omega arith) (omega arith) eb one in
    let three : Left w start c (t + 3) = left-more w start b c (t + 2) (t + 3) (omega arith) (omega arith) (omega arith) ec two in
    left-more w start c d (t + 3) (t + 4) (omega arith) (omega arith) (omega arith) ed three

pub left-all : (w : List ℕ) (start s : HashValue) (t : ℕ) → t ≡ 64 → Left w start s t → s ≡ rounds K w start
unfolding Left rounds
left-all w start s t e inv =
    let p : rounds (drop 64 K) (drop 64 w) s ≡ s = rw (drop_of_length-le K {i = 64} (omega (arith, K-length))) refl in
    sym p ∙ (rw e at inv)

-- the parts of a compression
pub composed : (s r t : HashValue) (block m w : List ℕ) → take 16 m ≡ words block → w ≡ extend 48 (take 16 m) → r ≡ rounds K w s → t ≡ sum r s → t ≡ compress s block
unfolding compress schedule
composed s r t block m w first then all last = last ∙ ap (λ x. sum x s) (all ∙ ap (λ x. rounds K x s) (then ∙ ap (extend 48) first))
