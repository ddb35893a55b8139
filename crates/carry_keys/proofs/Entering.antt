-- The slots after the keys of some lines entered: each key has the offset of the first of the lines that has it.
use Prim.Native.Nat.{ℕ, zero, suc, ◌+◌, ◌-◌, ◌≤◌, ◌<◌}
use mathlib.Core.Path.{◌≡◌, refl, sym, ap, ap₂, subst, ◌∙◌}
use mathlib.Core.Bool.{Bool, true, false, cond, false≢true}
use mathlib.Core.List.{List, [], ◌∷◌, ◌++◌, append-nil, append_assoc}
use native.Mathlib.Omega.{arith}
use lib.ListN.{length, take, drop, replicate, length-append, length-replicate}
use lib.Dec.{ltb}
use borrow.Author.Tests.{lt-ltb, ltb-false}
use Rattle.format.specs.Lines.{Piece}
use Rattle.format.specs.Records.{Record, header, reference, group, program, comment, Line, refused_line, read, line}
use Rattle.format.specs.Slots.{pick, Held}
use Rattle.format.proofs.Slots.{held_none}
use Rattle.byte_slices.specs.Stands.{Stands, Each}
use Rattle.accepted.specs.Pieces.{pieces}
use Rattle.record.specs.Head.{head_of, record_head, stretch_of}
use Rattle.key_at.specs.Word.{word}
use Rattle.key_look.specs.Sought.{fingerprint, tells_key, sought}
use Rattle.key_index.specs.KeySlots.{value, start, says_known, is_found, after_entering}
use Rattle.accepted.specs.Ended.{Ended}
use Rattle.key_index.specs.HeldKeys.{values_of, key_values_of}
use Rattle.key_index.proofs.Held.{sought-known, found}
use Rattle.key_index.proofs.HeldKeys.{value-some, keys-snoc, entering-length, entering-found, entering-holds}
use Rattle.key_index.proofs.Pointing.{told_by, tells-one, tells-own}
use Rattle.carry_keys.specs.Blocks.{record_if_read, read_in, entered}
use Rattle.carry_keys.proofs.Lines.{Sits, sits-stand, sits-ended}
use Rattle.key_look.specs.declared.Seed.{Seed}

-- ---- the first of some values that is accepted

-- it is the first of these, or of those after them
pub pick-split : (hit : ℕ → Bool) (vs ws : List ℕ) → pick hit (vs ++ ws) ≡ cond (ltb 0 (pick hit vs)) (pick hit vs) (pick hit ws)
unfolding pick
pick-split hit [] ws = refl
pick-split hit (zero ∷ vs) ws = pick-split hit vs ws
pick-split hit (suc j ∷ vs) ws = go (hit (suc j)) (pick-split hit vs ws)
  where
    go : (b : Bool) → pick hit (vs ++ ws) ≡ cond (ltb 0 (pick hit vs)) (pick hit vs) (pick hit ws)
        → cond b (suc j) (pick hit (vs ++ ws)) ≡ cond (ltb 0 (cond b (suc j) (pick hit vs))) (cond b (suc j) (pick hit vs)) (pick hit ws)
    go true ih = sym (ap (λ b. cond b (suc j) (pick hit ws)) (lt-ltb 0 (suc j) (omega arith)))
    go false ih = ih

pick-one : (hit : ℕ → Bool) (v : ℕ) → (v ≡ 0 → ⊥) → pick hit (v ∷ []) ≡ cond (hit v) v 0
unfolding pick
pick-one hit zero z = absurd (z refl)
pick-one hit (suc j) z = refl

module _ (seed : Seed) where
  -- ---- one more record

  -- the slots hold the keys of some records, each with the offset of the first record that has it
  record Holds (t slots : List ℕ) (rs : List Record) : Type 0 where
    vs : List ℕ
    held : Held (start seed t (length slots)) slots vs
    few : length vs ≤ length (key_values_of seed rs)
    firsts : (k : ℕ) (id : List ℕ) → pick (tells_key seed t k id) vs ≡ pick (tells_key seed t k id) (key_values_of seed rs)

  module _ (t slots : List ℕ) (rs : List Record) (x : Holds t slots rs) (p : 0 < length slots) (k : ℕ) (id : List ℕ) where
    -- a key that is met is one of theirs
    one-old : (j : ℕ) → 0 < j → (q : Piece) → (q.at < 16777216) × (word (drop q.at t) ≡ q.bytes) → Stands t 0 q
        → says_known (sought seed t slots j (take (length q.bytes) (drop q.at t))) ≡ true → ltb 0 (pick (tells_key seed t k id) (key_values_of seed rs)) ≡ false
        → pick (tells_key seed t k id) (value (fingerprint seed j q.bytes) q.at ∷ []) ≡ 0
    one-old j h q e s m n = pick-one (tells_key seed t k id) v (value-some seed j q.bytes q.at h) ∙ go (tells_key seed t k id v) refl
      where
        v : ℕ
        v = value (fingerprint seed j q.bytes) q.at

        go : (b : Bool) → tells_key seed t k id (value (fingerprint seed j q.bytes) q.at) ≡ b → cond b v 0 ≡ 0
        go true y =
            let i : q.bytes ≡ take (length q.bytes) (drop q.at t) = s.bytes ∙ ap (λ n. take (length q.bytes) (drop n t)) (let z : q.at - 0 ≡ q.at = omega arith in z) in
            let o = tells-one seed t k j id q.bytes (value (fingerprint seed j q.bytes) q.at) y (tells-own seed t j q.bytes q.at e.0 e.1) in
            let f : says_known (sought seed t slots k id) ≡ true = ap₂ (λ a b. says_known (sought seed t slots a b)) o.0 (o.1 ∙ i) ∙ m in
            absurd (false≢true (sym n ∙ ap (ltb 0) (sym (x.firsts k id)) ∙ sym (sought-known seed t slots x.vs p x.held k id) ∙ f))
        go false y = refl

    old : (r : Record) → Ended t r → Each (Stands t 0) (pieces r) → is_found seed t slots (record_head r) ≡ true → ltb 0 (pick (tells_key seed t k id) (key_values_of seed rs)) ≡ false
        → pick (tells_key seed t k id) (values_of seed r) ≡ 0
    unfolding is_found record_head stretch_of values_of Ended pieces Each pick
    old (header v fs) e s m n = refl
    old (reference q l fs) e s m n = one-old 2 (omega arith) q e s.0 m n
    old (group q fs) e s m n = one-old 3 (omega arith) q e s.0 m n
    old (program q fs) e s m n = one-old 4 (omega arith) q e s.0 m n
    old (comment q) e s m n = refl

    met-firsts : (r : Record) → Ended t r → Each (Stands t 0) (pieces r) → is_found seed t slots (record_head r) ≡ true → pick (tells_key seed t k id) x.vs ≡ pick (tells_key seed t k id) (key_values_of seed (rs ++ (r ∷ [])))
    met-firsts r e s m =
        x.firsts k id ∙ go (ltb 0 (pick (tells_key seed t k id) (key_values_of seed rs))) refl ∙ sym (ap (pick (tells_key seed t k id)) (keys-snoc seed rs r) ∙ pick-split (tells_key seed t k id) (key_values_of seed rs) (values_of seed r))
      where
        none : {n : ℕ} → n ≤ 0 → n ≡ 0
        none h = omega (arith, h)

        go : (b : Bool) → ltb 0 (pick (tells_key seed t k id) (key_values_of seed rs)) ≡ b → pick (tells_key seed t k id) (key_values_of seed rs) ≡ cond (ltb 0 (pick (tells_key seed t k id) (key_values_of seed rs))) (pick (tells_key seed t k id) (key_values_of seed rs)) (pick (tells_key seed t k id) (values_of seed r))
        go true y = sym (ap (λ b. cond b (pick (tells_key seed t k id) (key_values_of seed rs)) (pick (tells_key seed t k id) (values_of seed r))) y)
        go false y =
            none (ltb-false 0 (pick (tells_key seed t k id) (key_values_of seed rs)) y)
            ∙ sym (ap (λ b. cond b (pick (tells_key seed t k id) (key_values_of seed rs)) (pick (tells_key seed t k id) (values_of seed r))) y ∙ old r e s m y)

  holds_on : (t slots : List ℕ) (rs : List Record) → Holds t slots rs → length (key_values_of seed rs) < length slots → (r : Record) → Ended t r → Each (Stands t 0) (pieces r)
      → Holds t (after_entering seed true t slots (record_head r)) (rs ++ (r ∷ []))
  holds_on t slots rs x room r e s = go (is_found seed t slots (record_head r)) refl
    where
      one : length (key_values_of seed (rs ++ (r ∷ []))) ≡ length (key_values_of seed rs) + length (values_of seed r)
      one = ap length (keys-snoc seed rs r) ∙ length-append (key_values_of seed rs) (values_of seed r)

      go : (b : Bool) → is_found seed t slots (record_head r) ≡ b → Holds t (after_entering seed true t slots (record_head r)) (rs ++ (r ∷ []))
      go true m =
          subst (λ l. Holds t l (rs ++ (r ∷ []))) (sym (entering-found seed true t slots (record_head r) m))
          record {
            vs = x.vs;
            held = x.held;
            few = omega (arith, x.few, one);
            firsts = λ k id. met-firsts t slots rs x (omega (arith, room)) k id r e s m;
          }
      go false m =
          record {
            vs = x.vs ++ values_of seed r;
            held = subst (λ n. Held (start seed t n) (after_entering seed true t slots (record_head r)) (x.vs ++ values_of seed r)) (sym (entering-length seed true t slots (record_head r)))
                (entering-holds seed t slots x.vs (omega (arith, room)) x.held (omega (arith, room, x.few)) r e s m);
            few = omega (arith, x.few, one, length-append x.vs (values_of seed r));
            firsts = λ k id.
                pick-split (tells_key seed t k id) x.vs (values_of seed r)
                ∙ ap (λ n. cond (ltb 0 n) n (pick (tells_key seed t k id) (values_of seed r))) (x.firsts k id)
                ∙ sym (ap (pick (tells_key seed t k id)) (keys-snoc seed rs r) ∙ pick-split (tells_key seed t k id) (key_values_of seed rs) (values_of seed r));
          }

  -- ---- line by line

  pub entered-length : (strict : Bool) (t slots : List ℕ) (ps : List Piece) → length (entered seed strict t slots ps) ≡ length slots
  unfolding entered
  entered-length strict t slots [] = refl
  entered-length strict t slots (p ∷ ps) =
      entered-length strict t (after_entering seed true t slots (head_of (line strict p))) ps ∙ entering-length seed true t slots (head_of (line strict p))

  module _ (strict : Bool) (t : List ℕ) (small : length t ≤ 16777216) where
    entered-holds : (slots : List ℕ) (rs : List Record) (ps : List Piece) → Each (Sits t) ps → length (key_values_of seed rs) + length (key_values_of seed (read_in strict ps)) < length slots → Holds t slots rs
        → Holds t (entered seed strict t slots ps) (rs ++ read_in strict ps)
    unfolding entered read_in record_if_read key_values_of Each head_of after_entering
    entered-holds slots rs [] s room x = subst (Holds t slots) (sym (append-nil rs)) x
    entered-holds slots rs (p ∷ ps) s room x = go (line strict p) refl room (λ l q. entered-holds l q ps s.1)
      where
        go : (l : Line) → line strict p ≡ l → length (key_values_of seed rs) + length (key_values_of seed (record_if_read l ++ read_in strict ps)) < length slots
            → ((slots : List ℕ) (rs : List Record) → length (key_values_of seed rs) + length (key_values_of seed (read_in strict ps)) < length slots → Holds t slots rs → Holds t (entered seed strict t slots ps) (rs ++ read_in strict ps))
            → Holds t (entered seed strict t (after_entering seed true t slots (head_of l)) ps) (rs ++ (record_if_read l ++ read_in strict ps))
        go (refused_line n) e room ih = ih slots rs room x
        go (read r) e room ih =
            let one : length (key_values_of seed (rs ++ (r ∷ []))) ≡ length (key_values_of seed rs) + length (values_of seed r) = ap length (keys-snoc seed rs r) ∙ length-append (key_values_of seed rs) (values_of seed r) in
            let many : length (values_of seed r ++ key_values_of seed (read_in strict ps)) ≡ length (values_of seed r) + length (key_values_of seed (read_in strict ps)) = length-append (values_of seed r) (key_values_of seed (read_in strict ps)) in
            subst (Holds t (entered seed strict t (after_entering seed true t slots (record_head r)) ps)) (append_assoc rs (r ∷ []) (read_in strict ps))
            (ih (after_entering seed true t slots (record_head r)) (rs ++ (r ∷ [])) (omega (arith, room, one, many, entering-length seed true t slots (record_head r)))
            (holds_on t slots rs x (omega (arith, room)) r (sits-ended strict t small p s.0 r e) (sits-stand strict t small p s.0 r e)))

    -- of fewer keys than there are slots
    pub entered-told : (n : ℕ) (ps : List Piece) → Each (Sits t) ps → length (key_values_of seed (read_in strict ps)) < n → (k : ℕ) (id : List ℕ)
        → told_by seed t (entered seed strict t (replicate n 0) ps) k id ≡ pick (tells_key seed t k id) (key_values_of seed (read_in strict ps))
    unfolding told_by key_values_of pick
    entered-told n ps s room k id =
        let none : List ℕ = replicate n 0 in
        let l : length none ≡ n = length-replicate n 0 in
        let x = entered-holds none [] ps s (omega (arith, room, l)) (record { vs = []; held = held_none (start seed t (length none)) n; few = omega arith; firsts = λ j ib. refl }) in
        found seed t (entered seed strict t none ps) x.vs (omega (arith, room, l, entered-length strict t none ps)) x.held k id ∙ x.firsts k id
