-- A slot that holds a key is set to another offset of that key: it then holds the key with this offset, and every other key is held as before.
use Prim.Native.Nat.{ℕ, zero, suc, ◌+◌, ◌-◌, ◌/◌, ◌%◌, ◌<◌}
use mathlib.Core.Path.{◌≡◌, refl, sym, ap, ap₂, ◌∙◌}
use mathlib.Core.Bool.{Bool, true, false, ◌&&◌, cond, false≢true}
use mathlib.Core.List.{List, [], ◌∷◌}
use native.Mathlib.Omega.{arith}
use native.Mathlib.Nat.{mod-lt, mod-eq_of_lt, mod-add-mod}
use lib.ListN.{length, take, drop, get_or, set, length-set}
use lib.Dec.{ltb, eqb}
use borrow.Author.Tests.{eqb-true, eq-eqb, lt-ltb}
use Rattle.format.specs.Bytes.{same}
use Rattle.format.specs.Lines.{Piece}
use Rattle.format.specs.Records.{Record, header, reference, group, program, comment}
use Rattle.format.specs.Slots.{around, seek}
use Rattle.format.proofs.Slots.{around-length, around-at, around-put, seek-replaced}
use Rattle.byte_slices.specs.Stands.{Stands, Each}
use Rattle.byte_slices.proofs.Equal.{same-equal, same_self}
use Rattle.accepted.specs.Pieces.{pieces}
use Rattle.lists.proofs.Bools.{and_left, and_right}
use Rattle.record.specs.Head.{record_head, stretch_of}
use Rattle.key_look.specs.declared.Sought.{Sought}
use Rattle.key_look.specs.declared.Sought.TheVariants.{Known, Free, Full}
use Rattle.key_at.specs.Word.{word}
use Rattle.key_look.specs.Sought.{fingerprint, key_told, tells_key, first_slot, look_along, sought}
use Rattle.key_index.specs.KeySlots.{value, says_known, pointed, is_own, sought_of, offset_of, after_pointing}
use Rattle.accepted.specs.Ended.{Ended}
use Rattle.key_look.proofs.Looking.{sought-lt}
use Rattle.key_index.specs.HeldKeys.{values_of}
use Rattle.key_index.proofs.Held.{fingerprint-kind, known-seek, value_tells}
use Rattle.key_index.proofs.HeldKeys.{value-some}
use Rattle.key_look.specs.declared.Seed.{Seed}

-- ---- the slot at which a search for a key ends

slot_of : Sought → ℕ
slot_of (Known i) = i
slot_of (Free i) = i
slot_of Full = 0

-- it is `i`, `q` places on; a value in its place that is accepted is found there
record Ends (hit : ℕ → Bool) (n at : ℕ) (ss : List ℕ) (i : ℕ) : Type 0 where
  q : ℕ
  below : q < length ss
  slot : i ≡ (at + q) % n
  some : 0 < seek hit ss
  there : get_or ss q 0 ≡ seek hit ss
  told : hit (seek hit ss) ≡ true
  again : (v : ℕ) → (v ≡ 0 → ⊥) → hit v ≡ true → seek hit (set ss q v) ≡ v

ends : (hit : ℕ → Bool) (n at : ℕ) (ss : List ℕ) (i : ℕ) → at < n → look_along hit n at ss ≡ Known i → Ends hit n at ss i
unfolding look_along seek says_known slot_of
ends hit n at [] i a e = absurd (false≢true (ap says_known e))
ends hit n at (zero ∷ ss) i a e = absurd (false≢true (ap says_known e))
ends hit n at (suc k ∷ ss) i a e = go (hit (suc k)) refl e (ends hit n ((at + 1) % n) ss i (mod-lt _ (omega (arith, a))))
  where
    here : (v : ℕ) → (v ≡ 0 → ⊥) → hit v ≡ true → seek hit (v ∷ ss) ≡ v
    here zero z h = absurd (z refl)
    here (suc j) z h = rw h refl

    go : (b : Bool) → hit (suc k) ≡ b → cond b (Known at) (look_along hit n ((at + 1) % n) ss) ≡ Known i → (look_along hit n ((at + 1) % n) ss ≡ Known i → Ends hit n ((at + 1) % n) ss i)
        → Ends hit n at (suc k ∷ ss) i
    go true h e ih =
        let f : seek hit (suc k ∷ ss) ≡ suc k = rw h refl in
        record {
          q = 0;
          below = omega arith;
          slot = sym (ap slot_of e) ∙ sym (mod-eq_of_lt a) ∙ ap (λ m. m % n) (let z : at ≡ at + 0 = omega arith in z);
          some = omega (arith, f);
          there = sym f;
          told = ap hit f ∙ h;
          again = here;
        }
    go false h e ih =
        let x = ih e in
        let f : seek hit (suc k ∷ ss) ≡ seek hit ss = rw h refl in
        record {
          q = suc x.q;
          below = omega (arith, x.below);
          slot = x.slot ∙ mod-add-mod (at + 1) n x.q ∙ ap (λ m. m % n) (let z : at + 1 + x.q ≡ at + suc x.q = omega arith in z);
          some = omega (arith, f, x.some);
          there = x.there ∙ sym f;
          told = ap hit f ∙ x.told;
          again = λ v z y. ap (λ b. cond b (suc k) (seek hit (set ss x.q v))) h ∙ x.again v z y;
        }

-- ---- the same of records

-- a value that holds a key, after others of that key took its place, one after the other
unfoldable pub latest : (ℕ → Bool) → ℕ → List ℕ → ℕ
latest hit w [] = w
latest hit w (zero ∷ vs) = latest hit w vs
latest hit w (suc j ∷ vs) = latest hit (cond (hit (suc j) && ltb 0 w) (suc j) w) vs

latest-one : (hit : ℕ → Bool) (w v : ℕ) → (v ≡ 0 → ⊥) → latest hit w (v ∷ []) ≡ cond (hit v && ltb 0 w) v w
unfolding latest
latest-one hit w zero z = absurd (z refl)
latest-one hit w (suc j) z = refl

module _ (seed : Seed) where
  -- ---- the value that holds a key

  -- the value that holds the key `id` of kind `k`, or 0
  unfoldable pub told_by : List ℕ → List ℕ → ℕ → List ℕ → ℕ
  unfolding tells_key first_slot around seek
  told_by t slots k id = seek (tells_key seed t k id) (around (first_slot seed (length slots) k id) slots)

  -- a value holds only one key
  pub tells-one : (t : List ℕ) (k j : ℕ) (id ib : List ℕ) (v : ℕ) → tells_key seed t k id v ≡ true → tells_key seed t j ib v ≡ true → (k ≡ j) × (id ≡ ib)
  unfolding tells_key
  tells-one t k j id ib v e f =
      let m : fingerprint seed k id ≡ v / 16777216 = eqb-true (fingerprint seed k id) (v / 16777216) (and_left (eqb (fingerprint seed k id) (v / 16777216)) (same id (key_told t v)) e) in
      let n : fingerprint seed j ib ≡ v / 16777216 = eqb-true (fingerprint seed j ib) (v / 16777216) (and_left (eqb (fingerprint seed j ib) (v / 16777216)) (same ib (key_told t v)) f) in
      let a : id ≡ key_told t v = same-equal id (key_told t v) (and_right (eqb (fingerprint seed k id) (v / 16777216)) (same id (key_told t v)) e) in
      let b : ib ≡ key_told t v = same-equal ib (key_told t v) (and_right (eqb (fingerprint seed j ib) (v / 16777216)) (same ib (key_told t v)) f) in
      (sym (fingerprint-kind seed k id) ∙ ap (λ x. x / 32) (m ∙ sym n) ∙ fingerprint-kind seed j ib, a ∙ sym b)

  -- the value of a key holds it
  pub tells-own : (t : List ℕ) (k : ℕ) (id : List ℕ) (at : ℕ) → at < 16777216 → word (drop at t) ≡ id → tells_key seed t k id (value (fingerprint seed k id) at) ≡ true
  tells-own t k id at h e = value_tells seed t k id (fingerprint seed k id) at h ∙ ap₂ (λ b c. b && c) (eq-eqb (fingerprint seed k id) (fingerprint seed k id) refl) (ap (same id) e ∙ same_self id)

  module _ (t slots : List ℕ) (p : 0 < length slots) (k : ℕ) (id : List ℕ) where
    s : ℕ
    s = first_slot seed (length slots) k id

    s-lt : s < length slots
    unfolding s first_slot
    s-lt = mod-lt _ p

    -- a search ends at a slot exactly if the key is held
    pub known-told : says_known (sought seed t slots k id) ≡ ltb 0 (told_by t slots k id)
    unfolding sought told_by
    known-told = known-seek (tells_key seed t k id) (length slots) (first_slot seed (length slots) k id) (around (first_slot seed (length slots) k id) slots)

    module _ (i : ℕ) (e : sought seed t slots k id ≡ Known i) where
      x : Ends (tells_key seed t k id) (length slots) s (around s slots) i
      unfolding sought s
      x = ends (tells_key seed t k id) (length slots) s (around s slots) i s-lt e

      q-lt : x.q < length slots
      q-lt = omega (arith, x.below, around-length s slots (omega (arith, s-lt)))

      -- by the value in this slot
      pub told-there : get_or slots i 0 ≡ told_by t slots k id
      unfolding told_by s
      told-there = ap (λ j. get_or slots j 0) x.slot ∙ sym (around-at slots s x.q s-lt q-lt) ∙ x.there

      pub told-some : 0 < told_by t slots k id
      unfolding told_by s
      told-some = x.some

      told-tells : tells_key seed t k id (get_or slots i 0) ≡ true
      unfolding told_by s
      told-tells = ap (tells_key seed t k id) told-there ∙ x.told

      -- and by another one that is put there
      told-again : (v : ℕ) → (v ≡ 0 → ⊥) → tells_key seed t k id v ≡ true → told_by t (set slots i v) k id ≡ v
      unfolding told_by s
      told-again v z h =
          ap (λ m. seek (tells_key seed t k id) (around (first_slot seed m k id) (set slots i v))) (length-set slots i v)
          ∙ ap (λ j. seek (tells_key seed t k id) (around s (set slots j v))) x.slot
          ∙ ap (seek (tells_key seed t k id)) (around-put slots s x.q v s-lt q-lt)
          ∙ x.again v z h

  -- the offset in this slot is compared
  pub own-told : (t slots : List ℕ) (k : ℕ) (id : List ℕ) (at : ℕ) → 0 < length slots → 0 < told_by t slots k id → is_own at slots (sought seed t slots k id) ≡ eqb (told_by t slots k id % 16777216) at
  unfolding is_own says_known
  own-told t slots k id at p h = go (sought seed t slots k id) refl
    where
      absent : says_known (sought seed t slots k id) ≡ false → ⊥
      absent e = false≢true (sym e ∙ known-told t slots p k id ∙ lt-ltb 0 (told_by t slots k id) h)

      go : (s : Sought) → sought seed t slots k id ≡ s → is_own at slots s ≡ eqb (told_by t slots k id % 16777216) at
      go (Known i) e = ap (λ v. eqb (v % 16777216) at) (told-there t slots p k id i e)
      go (Free i) e = absurd (absent (ap says_known e))
      go Full e = absurd (absent (ap says_known e))

  -- ---- a slot is set to another offset of its key

  module _ (t slots : List ℕ) (p : 0 < length slots) (j : ℕ) (ib : List ℕ) (at : ℕ) (some : 0 < j) (small : at < 16777216) (is : word (drop at t) ≡ ib) (k : ℕ) (id : List ℕ) where
    v : ℕ
    v = value (fingerprint seed j ib) at

    -- a key that `v` holds is the one
    one : tells_key seed t k id v ≡ true → (k ≡ j) × (id ≡ ib)
    unfolding v
    one e = tells-one t k j id ib v e (tells-own t j ib at small is)

    after : ℕ
    after = cond (tells_key seed t k id v && ltb 0 (told_by t slots k id)) v (told_by t slots k id)

    -- no slot holds it
    none : says_known (sought seed t slots j ib) ≡ false → told_by t slots k id ≡ after
    unfolding after
    none e = go (tells_key seed t k id v) refl
      where
        go : (b : Bool) → tells_key seed t k id v ≡ b → told_by t slots k id ≡ cond (b && ltb 0 (told_by t slots k id)) v (told_by t slots k id)
        go true q =
            let z : ltb 0 (told_by t slots k id) ≡ false = ap₂ (λ n w. ltb 0 (told_by t slots n w)) (one q).0 (one q).1 ∙ sym (known-told t slots p j ib) ∙ e in
            sym (ap (λ b. cond b v (told_by t slots k id)) z)
        go false q = refl

    module _ (i : ℕ) (e : sought seed t slots j ib ≡ Known i) where
      -- the slot keeps its fingerprint
      kept : value (get_or slots i 0 / 16777216) at ≡ v
      unfolding v tells_key
      kept = ap (λ m. value m at) (sym (eqb-true (fingerprint seed j ib) (get_or slots i 0 / 16777216) (and_left (eqb (fingerprint seed j ib) (get_or slots i 0 / 16777216)) (same ib (key_told t (get_or slots i 0))) (told-tells t slots p j ib i e))))

      put : told_by t (set slots i v) k id ≡ after
      unfolding after told_by v
      put = go (tells_key seed t k id v) refl
        where
          other : tells_key seed t k id v ≡ false → tells_key seed t k id (get_or slots i 0) ≡ false
          other q = turn (tells_key seed t k id (get_or slots i 0)) refl
            where
              turn : (b : Bool) → tells_key seed t k id (get_or slots i 0) ≡ b → b ≡ false
              turn true f =
                  let o = tells-one t k j id ib (get_or slots i 0) f (told-tells t slots p j ib i e) in
                  absurd (false≢true (sym q ∙ ap₂ (λ n w. tells_key seed t n w v) o.0 o.1 ∙ tells-own t j ib at small is))
              turn false f = refl

          go : (b : Bool) → tells_key seed t k id v ≡ b → told_by t (set slots i v) k id ≡ cond (b && ltb 0 (told_by t slots k id)) v (told_by t slots k id)
          go true q =
              ap₂ (λ n w. told_by t (set slots i v) n w) (one q).0 (one q).1
              ∙ told-again t slots p j ib i e v (value-some seed j ib at some) (tells-own t j ib at small is)
              ∙ sym (ap (λ b. cond b v (told_by t slots k id)) (ap₂ (λ n w. ltb 0 (told_by t slots n w)) (one q).0 (one q).1 ∙ lt-ltb 0 (told_by t slots j ib) (told-some t slots p j ib i e)))
          go false q =
              ap (λ m. seek (tells_key seed t k id) (around (first_slot seed m k id) (set slots i v))) (length-set slots i v)
              ∙ seek-replaced (tells_key seed t k id) slots (first_slot seed (length slots) k id) i v (sought-lt seed t slots j ib i p e)
              (λ z. omega (arith, z, told-there t slots p j ib i e, told-some t slots p j ib i e)) (value-some seed j ib at some) (other q) q

    pub pointed-told : told_by t (pointed at slots (sought seed t slots j ib)) k id ≡ cond (tells_key seed t k id (value (fingerprint seed j ib) at) && ltb 0 (told_by t slots k id)) (value (fingerprint seed j ib) at) (told_by t slots k id)
    unfolding pointed after v says_known
    pointed-told = go (sought seed t slots j ib) refl
      where
        go : (s : Sought) → sought seed t slots j ib ≡ s → told_by t (pointed at slots s) k id ≡ after
        go (Known i) e = ap (λ w. told_by t (set slots i w) k id) (kept i e) ∙ put i e
        go (Free i) e = none (ap says_known e)
        go Full e = none (ap says_known e)

  module _ (t slots : List ℕ) (p : 0 < length slots) (k : ℕ) (id : List ℕ) where
    one_told : (j : ℕ) → 0 < j → (q : Piece) → (q.at < 16777216) × (word (drop q.at t) ≡ q.bytes) → Stands t 0 q
        → told_by t (pointed q.at slots (sought seed t slots j (take (length q.bytes) (drop q.at t)))) k id
        ≡ latest (tells_key seed t k id) (told_by t slots k id) (value (fingerprint seed j q.bytes) q.at ∷ [])
    one_told j h q e s =
        let i : q.bytes ≡ take (length q.bytes) (drop q.at t) = s.bytes ∙ ap (λ n. take (length q.bytes) (drop n t)) (let z : q.at - 0 ≡ q.at = omega arith in z) in
        ap (λ b. told_by t (pointed q.at slots (sought seed t slots j b)) k id) (sym i)
        ∙ pointed-told t slots p j q.bytes q.at h e.0 e.1 k id
        ∙ sym (latest-one (tells_key seed t k id) (told_by t slots k id) (value (fingerprint seed j q.bytes) q.at) (value-some seed j q.bytes q.at h))

    pub pointing-told : (r : Record) → Ended t r → Each (Stands t 0) (pieces r)
        → told_by t (after_pointing seed t slots (record_head r)) k id ≡ latest (tells_key seed t k id) (told_by t slots k id) (values_of seed r)
    unfolding after_pointing pointed sought_of offset_of record_head stretch_of values_of Ended pieces Each latest
    pointing-told (header v fs) e s = refl
    pointing-told (reference q n fs) e s = one_told 2 (omega arith) q e s.0
    pointing-told (group q fs) e s = one_told 3 (omega arith) q e s.0
    pointing-told (program q fs) e s = one_told 4 (omega arith) q e s.0
    pointing-told (comment q) e s = refl
