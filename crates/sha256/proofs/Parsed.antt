-- The words of a block, one by one. Assumes nothing.
use Prim.Native.Nat.{ℕ, suc, ◌+◌, ◌*◌, ◌≤◌, ◌<◌}
use mathlib.Core.Path.{◌≡◌, refl, sym, ap, ◌∙◌}
use mathlib.Core.List.{List, [], ◌∷◌, ◌++◌, append-nil}
use native.Mathlib.Omega.{arith}
use native.Mathlib.Nat.{add_assoc}
use native.Mathlib.Numerals.{add-one, add-two, add-three}
use lib.ListN.{length, take, drop, get_or, set, length-drop, drop_of_length-le}
use lib.Seq.{drop-cons, get_or-take, get_or-drop, take-suc-set, append_snoc, length-take-le}
use Rattle.format.specs.Sha256.{words}
use Rattle.sha256.specs.Parts.{word_at}

words-turn : (b : List ℕ) (j : ℕ) → j + 4 ≤ length b → words (drop j b) ≡ word_at b j ∷ words (drop (j + 4) b)
unfolding words word_at
words-turn b j h =
    let e : j + 4 ≡ suc (suc (suc (suc j))) = omega arith in
    rw (
      e,
      add-one j,
      add-two j,
      add-three j,
      drop-cons b j 0 (omega arith),
      drop-cons b (suc j) 0 (omega arith),
      drop-cons b (suc (suc j)) 0 (omega arith),
      drop-cons b (suc (suc (suc j))) 0 (omega arith),
    )
    refl

module _ (s : List ℕ) (at : ℕ) where
  block : List ℕ
  block = take 64 (drop at s)

  byte_at : (j : ℕ) → j < 64 → get_or block j 0 ≡ get_or s (at + j) 0
  unfolding block
  byte_at j h = get_or-take 64 (drop at s) j 0 h ∙ get_or-drop at s j 0

  word-at : (j : ℕ) → j + 4 ≤ 64 → word_at block j ≡ word_at s (at + j)
  unfolding word_at
  word-at j h =
      rw (
        byte_at j (omega arith),
        byte_at (j + 1) (omega arith),
        byte_at (j + 2) (omega arith),
        byte_at (j + 3) (omega arith),
        add_assoc at j 1,
        add_assoc at j 2,
        add_assoc at j 3,
      )
      refl

  -- what a loop has read, and what is left: `w` has the first `i` words
  unfoldable pub Read : List ℕ → ℕ → Type 0
  unfolding block
  Read w i = take i w ++ words (drop (4 * i) (take 64 (drop at s))) ≡ words (take 64 (drop at s))

  pub read_none : (w : List ℕ) → Read w 0
  unfolding Read
  read_none w = refl

  pub read_more : (w : List ℕ) (i v : ℕ) → at + 64 ≤ length s → i < 16 → i < length w → v ≡ word_at s (at + 4 * i) → Read w i → Read (set w i v) (i + 1)
  unfolding Read block
  read_more w i v h k l e inv =
      let m : length block ≡ 64 = length-take-le 64 (drop at s) (omega (arith, length-drop at s)) in
      let n : 4 * (i + 1) ≡ 4 * i + 4 = omega arith in
      let p : words (drop (4 * i) block) ≡ v ∷ words (drop (4 * i + 4) block) =
      words-turn block (4 * i) (omega arith) ∙ ap (λ x. x ∷ words (drop (4 * i + 4) block)) (word-at (4 * i) (omega arith) ∙ sym e) in
      rw (n, add-one i, take-suc-set w i v l, append_snoc (take i w) v (words (drop (4 * i + 4) (take 64 (drop at s))))) (rw (← p) inv)

  pub read_all : (w : List ℕ) (i : ℕ) → at + 64 ≤ length s → i ≡ 16 → Read w i → take 16 w ≡ words (take 64 (drop at s))
  unfolding Read block words
  read_all w i h e inv =
      let m : length block ≡ 64 = length-take-le 64 (drop at s) (omega (arith, length-drop at s)) in
      let n : drop (4 * 16) block ≡ [] = drop_of_length-le block {i = 4 * 16} (omega arith) in
      sym (append-nil (take 16 w)) ∙ ap (λ l. take 16 w ++ words l) (sym n) ∙ (rw e at inv)
