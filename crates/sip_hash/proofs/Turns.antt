-- Rounds, and words of a message, one by one.
use Rattle.std.proofs.Common.{◌≡◌, ℕ, suc, ◌+◌, ◌-◌, ◌*◌, ◌<◌, ◌≤◌, List, take, drop, sym, refl, ap, ◌∙◌, arith, drop-drop}
use Rattle.format.specs.Little.{of_little}
use Rattle.format.specs.SipHash.{SipState}
use Rattle.format.specs.SipHash.{round, rounds}
use Rattle.format.specs.SipHash.{absorb, absorbed, words}

-- ---- rounds

-- what a loop has left: the rounds from `i` on, of the state `s`
unfoldable pub Left : ℕ → SipState → SipState → ℕ → Type 0
Left n start s i = rounds (n - i) s ≡ rounds n start

module _ (n : ℕ) (start : SipState) where
  pub left-none : Left n start start 0
  unfolding Left
  left-none =
      let k : n - 0 ≡ n = omega arith in
      rw k refl

  pub left-more : (s r : SipState) (i : ℕ) → i < n → r ≡ round s → Left n start s i → Left n start r (i + 1)
  unfolding Left rounds
  left-more s r i h e inv =
      let k : n - i ≡ suc (n - (i + 1)) = omega arith in
      rw e (sym (ap (λ j. rounds j s) k) ∙ inv)

  pub left-all : (s : SipState) (i : ℕ) → n ≤ i → Left n start s i → s ≡ rounds n start
  unfolding Left rounds
  left-all s i h inv =
      let k : n - i ≡ 0 = omega arith in
      sym (ap (λ j. rounds j s) k) ∙ inv

-- ---- words

-- what a loop has left: the words from `i` on, of the state `s`
unfoldable pub Begun : ℕ → List ℕ → ℕ → SipState → SipState → ℕ → Type 0
Begun c text n start s i = absorbed c s (words (n - i) (drop (8 * i) text)) ≡ absorbed c start (words n text)

module _ (c : ℕ) (text : List ℕ) (n : ℕ) (start : SipState) where
  pub begun-none : Begun c text n start start 0
  unfolding Begun
  begun-none =
      let k : n - 0 ≡ n = omega arith in
      rw k refl

  pub begun_more : (s r : SipState) (i m : ℕ) → i < n → m ≡ of_little (take 8 (drop (8 * i) text)) → r ≡ absorb c s m → Begun c text n start s i
      → Begun c text n start r (i + 1)
  unfolding Begun words absorbed
  begun_more s r i m h w e inv =
      let k : n - i ≡ suc (n - (i + 1)) = omega arith in
      let l : 8 * (i + 1) ≡ 8 * i + 8 = omega arith in
      rw (l, e, w, ← drop-drop 8 (8 * i) text) (sym (ap (λ j. absorbed c s (words j (drop (8 * i) text))) k) ∙ inv)

  pub begun_all : (s : SipState) (i : ℕ) → n ≤ i → Begun c text n start s i → s ≡ absorbed c start (words n text)
  unfolding Begun words absorbed
  begun_all s i h inv =
      let k : n - i ≡ 0 = omega arith in
      sym (ap (λ j. absorbed c s (words j (drop (8 * i) text))) k) ∙ inv
