-- The lines of a block, and the lines before it, one by one.
use Prim.Native.Nat.{ℕ, zero, suc, ◌+◌, ◌-◌, ◌≤◌, ◌<◌}
use mathlib.Core.Path.{◌≡◌, refl, sym, ap, ◌∙◌}
use mathlib.Core.Bool.{Bool, true, false, cond}
use mathlib.Core.List.{List, [], ◌∷◌, ◌++◌}
use native.Mathlib.Omega.{arith}
use lib.ListN.{length, drop}
use lib.Dec.{ltb}
use borrow.Author.Tests.{lt-ltb, le-ltb, ltb-true, ltb-false}
use Rattle.format.specs.Lines.{Piece, lines_from}
use Rattle.format.specs.Records.{line}
use Rattle.byte_slices.specs.First.{first_line}
use Rattle.accepted.specs.First.{first_at}
use Rattle.accepted.proofs.Ahead.{ahead_none, ahead-one, next-within, next_more, ahead-stands}
use Rattle.record.specs.Head.{head_of}
use Rattle.record.specs.declared.Head.{Head}
use Rattle.record.specs.declared.Head.TheVariants as head
use Rattle.key_index.specs.KeySlots.{after_entering, after_pointing}
use Rattle.key_index.specs.Keyed.{KeyInText}
use Rattle.key_index.proofs.HeldKeys.{head-placed}
use Rattle.carry_keys.specs.Blocks.{head_keys, keyed_front, keyed_behind, start_of, after_keyed, earlier, entered, pointed_back}
use Rattle.key_look.specs.declared.Seed.{Seed}

-- the key of the line at an offset is in the text
pub placed_at : (strict : Bool) (t : List ℕ) (at : ℕ) → length t ≤ 16777216 → at < length t → KeyInText (length t) (head_of (line strict (first_at at t)))
placed_at strict t at small h = head-placed strict t at small (ahead-stands t at h)

-- ---- the lines of the block

pub keys-most : (x : Head) → head_keys x ≤ 1
unfolding head_keys
keys-most (head.Refused n) = omega arith
keys-most (head.Header v n) = omega arith
keys-most (head.ReferenceSequence p l n) = omega arith
keys-most (head.ReadGroup p n) = omega arith
keys-most (head.Program p n) = omega arith
keys-most (head.Comment p) = omega arith

module _ (strict : Bool) where
  -- no key is left to enter
  pub front-none : (m : ℕ) → m ≡ 0 → (ps : List Piece) → keyed_front strict m ps ≡ []
  unfolding keyed_front
  front-none m e [] = refl
  front-none m e (p ∷ ps) = ap (λ b. cond b (p ∷ keyed_front strict (m - head_keys (head_of (line strict p))) ps) []) (le-ltb 0 m (omega (arith, e)))

  behind-all : (m : ℕ) → m ≡ 0 → (ps : List Piece) → keyed_behind strict m ps ≡ ps
  unfolding keyed_behind
  behind-all m e [] = refl
  behind-all m e (p ∷ ps) = ap (λ b. cond b (keyed_behind strict (m - head_keys (head_of (line strict p))) ps) (p ∷ ps)) (le-ltb 0 m (omega (arith, e)))

  -- a line, and `k` keys are left to enter after it
  module _ (p : Piece) (ps : List Piece) (m k : ℕ) (h : 0 < m) (e : m - head_keys (head_of (line strict p)) ≡ k) where
    pub front-one : keyed_front strict m (p ∷ ps) ≡ p ∷ keyed_front strict k ps
    unfolding keyed_front
    front-one = ap (λ b. cond b (p ∷ keyed_front strict (m - head_keys (head_of (line strict p))) ps) []) (lt-ltb 0 m h) ∙ ap (λ j. p ∷ keyed_front strict j ps) e

    behind-one : keyed_behind strict m (p ∷ ps) ≡ keyed_behind strict k ps
    unfolding keyed_behind
    behind-one = ap (λ b. cond b (keyed_behind strict (m - head_keys (head_of (line strict p))) ps) (p ∷ ps)) (lt-ltb 0 m h) ∙ ap (λ j. keyed_behind strict j ps) e

  pub front-behind : (m : ℕ) (ps : List Piece) → ps ≡ keyed_front strict m ps ++ keyed_behind strict m ps
  unfolding keyed_front keyed_behind
  front-behind m [] = refl
  front-behind m (p ∷ ps) = go (ltb 0 m) (front-behind (m - head_keys (head_of (line strict p))) ps)
    where
      go : (b : Bool) → (let k : ℕ = m - head_keys (head_of (line strict p)) in ps ≡ keyed_front strict k ps ++ keyed_behind strict k ps)
          → let k : ℕ = m - head_keys (head_of (line strict p)) in
          p ∷ ps ≡ cond b (p ∷ keyed_front strict k ps) [] ++ cond b (keyed_behind strict k ps) (p ∷ ps)
      go true ih = ap (λ l. p ∷ l) ih
      go false ih = refl

-- the lines from an offset on start there
pub start-ahead : (t : List ℕ) (at : ℕ) → at ≤ length t → start_of (length t) (lines_from at (drop at t)) ≡ at
unfolding start_of
start-ahead t at l = go (ltb at (length t)) refl
  where
    go : (b : Bool) → ltb at (length t) ≡ b → start_of (length t) (lines_from at (drop at t)) ≡ at
    go true e = ap (start_of (length t)) (ahead-one t at (ltb-true at (length t) e))
    go false e = ap (start_of (length t)) (ahead_none t at (ltb-false at (length t) e)) ∙ (let z : length t ≡ at = omega (arith, l, ltb-false at (length t) e) in z)

module _ (seed : Seed) where
  module _ (t : List ℕ) (at : ℕ) (strict : Bool) where
    pub after-end : (m : ℕ) → at ≡ length t → after_keyed strict m at t ≡ at
    unfolding after_keyed start_of keyed_behind
    after-end m e = ap (λ l. start_of (length t) (keyed_behind strict m l)) (ahead_none t at (omega (arith, e))) ∙ sym e

    pub after_none : (m : ℕ) → m ≡ 0 → at ≤ length t → after_keyed strict m at t ≡ at
    unfolding after_keyed
    after_none m e l = ap (start_of (length t)) (behind-all strict m e (lines_from at (drop at t))) ∙ start-ahead t at l

    pub after_on : (m k : ℕ) → 0 < m → m - head_keys (head_of (line strict (first_at at t))) ≡ k → at < length t → after_keyed strict m at t ≡ after_keyed strict k (at + (first_line (drop at t)).next) t
    unfolding after_keyed
    after_on m k p e h =
        let next : ℕ = at + (first_line (drop at t)).next in
        ap (λ l. start_of (length t) (keyed_behind strict m l)) (ahead-one t at h) ∙ ap (start_of (length t)) (behind-one strict (first_at at t) (lines_from next (drop next t)) m k p e)

    module _ (slots : List ℕ) where
      pub entered-end : (m : ℕ) → length t ≤ at → entered seed strict t slots (keyed_front strict m (lines_from at (drop at t))) ≡ slots
      unfolding entered keyed_front
      entered-end m h = ap (λ l. entered seed strict t slots (keyed_front strict m l)) (ahead_none t at h)

      pub entered-none : (m : ℕ) → m ≡ 0 → entered seed strict t slots (keyed_front strict m (lines_from at (drop at t))) ≡ slots
      unfolding entered
      entered-none m e = ap (entered seed strict t slots) (front-none strict m e (lines_from at (drop at t)))

      pub entered_on : (m k : ℕ) → 0 < m → m - head_keys (head_of (line strict (first_at at t))) ≡ k → at < length t
          → entered seed strict t slots (keyed_front strict m (lines_from at (drop at t)))
          ≡ entered seed strict t (after_entering seed true t slots (head_of (line strict (first_at at t)))) (keyed_front strict k (lines_from (at + (first_line (drop at t)).next) (drop (at + (first_line (drop at t)).next) t)))
      unfolding entered
      entered_on m k p e h =
          let next : ℕ = at + (first_line (drop at t)).next in
          ap (λ l. entered seed strict t slots (keyed_front strict m l)) (ahead-one t at h) ∙ ap (entered seed strict t slots) (front-one strict (first_at at t) (lines_from next (drop next t)) m k p e)

  module _ (strict : Bool) (t : List ℕ) where
    -- the lines after the block are those from the offset after it on
    abbrev Behind : ℕ → ℕ → Type 0
    Behind m at = keyed_behind strict m (lines_from at (drop at t)) ≡ lines_from (after_keyed strict m at t) (drop (after_keyed strict m at t) t)

    behind-end : (m at : ℕ) → at ≡ length t → Behind m at
    unfolding keyed_behind
    behind-end m at e =
        ap (keyed_behind strict m) (ahead_none t at (omega (arith, e))) ∙ sym (ahead_none t at (omega (arith, e))) ∙ ap (λ k. lines_from k (drop k t)) (sym (after-end t at strict m e))

    behind-ahead : (f m at : ℕ) → at ≤ length t → length t ≤ at + f → Behind m at
    behind-ahead zero m at l h = behind-end m at (omega (arith, l, h))
    behind-ahead (suc f) m at l h = go (ltb at (length t)) refl (ltb 0 m) refl (λ k n d. behind-ahead f k (at + (first_line (drop at t)).next) n d)
      where
        go : (b : Bool) → ltb at (length t) ≡ b → (c : Bool) → ltb 0 m ≡ c
            → ((k : ℕ) → at + (first_line (drop at t)).next ≤ length t → length t ≤ at + (first_line (drop at t)).next + f → Behind k (at + (first_line (drop at t)).next)) → Behind m at
        go false e c d ih = behind-end m at (omega (arith, l, ltb-false at (length t) e))
        go true e false d ih =
            let z : m ≡ 0 = omega (arith, ltb-false 0 m d) in
            behind-all strict m z (lines_from at (drop at t)) ∙ ap (λ k. lines_from k (drop k t)) (sym (after_none t at strict m z l))
        go true e true d ih =
            let i : at < length t = ltb-true at (length t) e in
            let next : ℕ = at + (first_line (drop at t)).next in
            let k : ℕ = m - head_keys (head_of (line strict (first_at at t))) in
            ap (keyed_behind strict m) (ahead-one t at i)
            ∙ behind-one strict (first_at at t) (lines_from next (drop next t)) m k (ltb-true 0 m d) refl
            ∙ ih k (next-within t at i) (omega (arith, h, next_more t at i))
            ∙ ap (λ k. lines_from k (drop k t)) (sym (after_on t at strict m k (ltb-true 0 m d) refl i))

    -- the lines of the block, and those from the offset after it on
    pub block-split : (m at : ℕ) → at ≤ length t
        → lines_from at (drop at t) ≡ keyed_front strict m (lines_from at (drop at t)) ++ lines_from (after_keyed strict m at t) (drop (after_keyed strict m at t) t)
    block-split m at l = front-behind strict m (lines_from at (drop at t)) ∙ ap (λ l. keyed_front strict m (lines_from at (drop at t)) ++ l) (behind-ahead (length t) m at l (omega arith))

  -- ---- the lines before it

  module _ (to : ℕ) (t : List ℕ) (at : ℕ) where
    pub earlier-none : to ≤ at → earlier to (lines_from at (drop at t)) ≡ []
    unfolding earlier
    earlier-none h = go (ltb at (length t)) refl
      where
        go : (b : Bool) → ltb at (length t) ≡ b → earlier to (lines_from at (drop at t)) ≡ []
        go true e =
            ap (earlier to) (ahead-one t at (ltb-true at (length t) e))
            ∙ ap (λ b. cond b (first_at at t ∷ earlier to (lines_from (at + (first_line (drop at t)).next) (drop (at + (first_line (drop at t)).next) t))) []) (le-ltb at to h)
        go false e = ap (earlier to) (ahead_none t at (ltb-false at (length t) e))

    pub earlier-one : at < to → at < length t
        → earlier to (lines_from at (drop at t)) ≡ first_at at t ∷ earlier to (lines_from (at + (first_line (drop at t)).next) (drop (at + (first_line (drop at t)).next) t))
    unfolding earlier
    earlier-one l h =
        ap (earlier to) (ahead-one t at h)
        ∙ ap (λ b. cond b (first_at at t ∷ earlier to (lines_from (at + (first_line (drop at t)).next) (drop (at + (first_line (drop at t)).next) t))) []) (lt-ltb at to l)

    module _ (strict : Bool) (slots : List ℕ) where
      pub pointed-end : to ≤ at → pointed_back seed strict t slots (earlier to (lines_from at (drop at t))) ≡ slots
      unfolding pointed_back
      pointed-end h = ap (pointed_back seed strict t slots) (earlier-none h)

      pub pointed-on : at < to → at < length t
          → pointed_back seed strict t slots (earlier to (lines_from at (drop at t)))
          ≡ pointed_back seed strict t (after_pointing seed t slots (head_of (line strict (first_at at t)))) (earlier to (lines_from (at + (first_line (drop at t)).next) (drop (at + (first_line (drop at t)).next) t)))
      unfolding pointed_back
      pointed-on l h = ap (pointed_back seed strict t slots) (earlier-one l h)
