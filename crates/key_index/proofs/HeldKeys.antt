-- The slots that hold the keys of some records: a key is met exactly if one of them has it, and one more enters.
use Prim.Native.Nat.{ℕ, zero, suc, ◌-◌, ◌/◌, ◌≤◌, ◌<◌}
use mathlib.Core.Path.{◌≡◌, refl, sym, ap, subst, ◌∙◌}
use mathlib.Core.Bool.{Bool, true, false, ◌&&◌, ◌||◌, cond, false≢true}
use mathlib.Core.List.{List, [], ◌∷◌, ◌++◌, append-nil, append_assoc}
use native.Mathlib.Omega.{arith}
use lib.ListN.{length, take, drop, get_or, length-set}
use lib.Dec.{eqb, ltb}
use borrow.Author.Tests.{lt-ltb, ltb-false}
use Rattle.format.specs.Bytes.{any, same}
use Rattle.format.specs.Lines.{Piece}
use Rattle.format.specs.Records as records
use Rattle.format.specs.Records.{Record, header, reference, group, program, comment, code, key, Line, refused_line, read}
use Rattle.format.specs.Slots.{pick, Held}
use Rattle.byte_slices.specs.First.{first_line}
use Rattle.byte_slices.specs.Stands.{Stands, Each}
use Rattle.accepted.specs.Pieces.{pieces}
use Rattle.record.specs.Head.{head_of, record_head, stretch_of}
use Rattle.record.specs.declared.Head.{Head}
use Rattle.record.specs.declared.Head.TheVariants as head
use Rattle.read_admission.specs.Admission.{is_keyed, has_key, is_used, is_taken}
use Rattle.read_admission.proofs.Admission.{stood}
use Rattle.key_look.specs.declared.Sought.{Sought}
use Rattle.key_look.specs.declared.Sought.TheVariants.{Known, Free, Full}
use Rattle.key_at.specs.Word.{word}
use Rattle.key_look.specs.Sought.{fingerprint, tells_key, first_slot, sought}
use Rattle.key_index.specs.KeySlots.{value, start, says_known, after_looking, is_found, after_entering, pointed, sought_of, offset_of, after_pointing}
use Rattle.key_index.specs.Keyed.{KeyInText}
use Rattle.accepted.specs.Ended.{Ended}
use Rattle.accepted.proofs.LineKeys.{line-ended}
use Rattle.key_index.specs.HeldKeys.{values_of, key_values_of}
use Rattle.key_index.proofs.Held.{fingerprint-same, sought-known, sought-enters, value-start, value_tells}
use Rattle.key_look.specs.declared.Seed.{Seed}

pick-value : (hit : ℕ → Bool) (v : ℕ) (vs : List ℕ) → (v ≡ 0 → ⊥) → ltb 0 (pick hit (v ∷ vs)) ≡ (hit v || ltb 0 (pick hit vs))
unfolding pick
pick-value hit zero vs z = absurd (z refl)
pick-value hit (suc k) vs z = go (hit (suc k))
  where
    go : (b : Bool) → ltb 0 (cond b (suc k) (pick hit vs)) ≡ (b || ltb 0 (pick hit vs))
    go true = lt-ltb 0 (suc k) (omega arith)
    go false = refl

pub ended-snoc : (t : List ℕ) (rs : List Record) (r : Record) → Each (Ended t) rs → Ended t r → Each (Ended t) (rs ++ (r ∷ []))
unfolding Each
ended-snoc t [] r a e = (e, tt)
ended-snoc t (q ∷ rs) r a e = (a.0, ended-snoc t rs r a.1 e)

-- ---- a key that one of some values holds

pub pick-append : (hit : ℕ → Bool) (vs ws : List ℕ) → ltb 0 (pick hit (vs ++ ws)) ≡ (ltb 0 (pick hit vs) || ltb 0 (pick hit ws))
unfolding pick
pick-append hit [] ws = refl
pick-append hit (zero ∷ vs) ws = pick-append hit vs ws
pick-append hit (suc k ∷ vs) ws = go (hit (suc k)) (pick-append hit vs ws)
  where
    go : (b : Bool) → ltb 0 (pick hit (vs ++ ws)) ≡ (ltb 0 (pick hit vs) || ltb 0 (pick hit ws)) → ltb 0 (cond b (suc k) (pick hit (vs ++ ws))) ≡ (ltb 0 (cond b (suc k) (pick hit vs)) || ltb 0 (pick hit ws))
    go true ih = lt-ltb 0 (suc k) (omega arith) ∙ ap (λ b. b || ltb 0 (pick hit ws)) (sym (lt-ltb 0 (suc k) (omega arith)))
    go false ih = ih

-- ---- one more record

after-length : (room : Bool) (v : ℕ) (slots : List ℕ) (s : Sought) → length (after_looking room v slots s) ≡ length slots
unfolding after_looking
after-length room v slots (Known i) = refl
after-length true v slots (Free i) = length-set slots i v
after-length false v slots (Free i) = refl
after-length room v slots Full = refl

pointed-length : (at : ℕ) (slots : List ℕ) (s : Sought) → length (pointed at slots s) ≡ length slots
unfolding pointed
pointed-length at slots (Known i) = length-set slots i (value (get_or slots i 0 / 16777216) at)
pointed-length at slots (Free i) = refl
pointed-length at slots Full = refl

-- one that is met does not enter
after-known : (room : Bool) (v : ℕ) (slots : List ℕ) (s : Sought) → says_known s ≡ true → after_looking room v slots s ≡ slots
unfolding after_looking says_known
after-known room v slots (Known i) e = refl
after-known room v slots (Free i) e = absurd (false≢true e)
after-known room v slots Full e = refl

-- without room nothing changes
after_none : (v : ℕ) (slots : List ℕ) (s : Sought) → after_looking false v slots s ≡ slots
unfolding after_looking
after_none v slots (Known i) = refl
after_none v slots (Free i) = refl
after_none v slots Full = refl

-- ---- where the key of a line is

record-placed : (t : List ℕ) (r : Record) → Ended t r → Each (Stands t 0) (pieces r) → KeyInText (length t) (record_head r)
unfolding Ended KeyInText record_head stretch_of pieces Each
record-placed t (header v fs) e s = tt
record-placed t (reference q n fs) e s = (omega (arith, s.0.within), e.0)
record-placed t (group q fs) e s = (omega (arith, s.0.within), e.0)
record-placed t (program q fs) e s = (omega (arith, s.0.within), e.0)
record-placed t (comment q) e s = tt

pub head-placed : (strict : Bool) (t : List ℕ) (at : ℕ) → length t ≤ 16777216
    → Stands t 0 (record { at = at; bytes = take (first_line (drop at t)).len (drop at t) })
    → KeyInText (length t) (head_of (records.line strict (record { at = at; bytes = take (first_line (drop at t)).len (drop at t) })))
unfolding head_of KeyInText
head-placed strict t at small s = go (records.line strict (record { at = at; bytes = take (first_line (drop at t)).len (drop at t) })) refl
  where
    go : (l : Line) → records.line strict (record { at = at; bytes = take (first_line (drop at t)).len (drop at t) }) ≡ l → KeyInText (length t) (head_of l)
    go (refused_line n) e = tt
    go (read r) e =
        let st = stood strict t (record { at = at; bytes = take (first_line (drop at t)).len (drop at t) }) s r e in
        record-placed t r (line-ended strict t at r small e st) st

module _ (seed : Seed) where
  -- ---- which records have a key

  pub value-some : (k : ℕ) (id : List ℕ) (at : ℕ) → 0 < k → value (fingerprint seed k id) at ≡ 0 → ⊥
  unfolding value fingerprint
  value-some k id at h e = omega (arith, h, e)

  module _ (t : List ℕ) (k : ℕ) (id : List ℕ) where
    one_has : (j : ℕ) → 0 < j → (p : Piece) → (p.at < 16777216) × (word (drop p.at t) ≡ p.bytes) → (vs : List ℕ)
        → ltb 0 (pick (tells_key seed t k id) (value (fingerprint seed j p.bytes) p.at ∷ vs)) ≡ ((eqb k j && same id p.bytes) || ltb 0 (pick (tells_key seed t k id) vs))
    one_has j h p e vs =
        pick-value (tells_key seed t k id) (value (fingerprint seed j p.bytes) p.at) vs (value-some j p.bytes p.at h)
        ∙ ap (λ b. b || ltb 0 (pick (tells_key seed t k id) vs))
        (value_tells seed t k id (fingerprint seed j p.bytes) p.at e.0 ∙ ap (λ w. eqb (fingerprint seed k id) (fingerprint seed j p.bytes) && same id w) e.1 ∙ fingerprint-same seed k j id p.bytes)

    record-has : (r : Record) → Ended t r → (vs : List ℕ) → ltb 0 (pick (tells_key seed t k id) (values_of seed r ++ vs)) ≡ (has_key k id r || ltb 0 (pick (tells_key seed t k id) vs))
    unfolding Ended values_of has_key is_keyed code key
    record-has (header v fs) e vs = none (eqb k 1)
      where
        none : (b : Bool) → ltb 0 (pick (tells_key seed t k id) vs) ≡ ((b && false) || ltb 0 (pick (tells_key seed t k id) vs))
        none true = refl
        none false = refl
    record-has (reference p n fs) e vs = one_has 2 (omega arith) p e vs
    record-has (group p fs) e vs = one_has 3 (omega arith) p e vs
    record-has (program p fs) e vs = one_has 4 (omega arith) p e vs
    record-has (comment p) e vs = none (eqb k 5)
      where
        none : (b : Bool) → ltb 0 (pick (tells_key seed t k id) vs) ≡ ((b && false) || ltb 0 (pick (tells_key seed t k id) vs))
        none true = refl
        none false = refl

    keys-have : (rs : List Record) → Each (Ended t) rs → ltb 0 (pick (tells_key seed t k id) (key_values_of seed rs)) ≡ any (has_key k id) rs
    unfolding Each key_values_of any pick
    keys-have [] e = refl
    keys-have (r ∷ rs) e = record-has r e.0 (key_values_of seed rs) ∙ ap (λ b. has_key k id r || b) (keys-have rs e.1)

  pub keys-snoc : (rs : List Record) (r : Record) → key_values_of seed (rs ++ (r ∷ [])) ≡ key_values_of seed rs ++ values_of seed r
  unfolding key_values_of
  keys-snoc [] r = append-nil (values_of seed r)
  keys-snoc (q ∷ rs) r = ap (λ l. values_of seed q ++ l) (keys-snoc rs r) ∙ sym (append_assoc (values_of seed q) (key_values_of seed rs) (values_of seed r))

  -- is a head's key among them?
  unfoldable pub told_in : List ℕ → List ℕ → Head → Bool
  unfolding tells_key pick
  told_in t vs (head.Refused n) = false
  told_in t vs (head.Header v n) = false
  told_in t vs (head.ReferenceSequence q l n) = ltb 0 (pick (tells_key seed t 2 (take q.len (drop q.at t))) vs)
  told_in t vs (head.ReadGroup q n) = ltb 0 (pick (tells_key seed t 3 (take q.len (drop q.at t))) vs)
  told_in t vs (head.Program q n) = ltb 0 (pick (tells_key seed t 4 (take q.len (drop q.at t))) vs)
  told_in t vs (head.Comment q) = false

  pub told_none : (t : List ℕ) (x : Head) → told_in t [] x ≡ false
  unfolding told_in
  told_none t (head.Refused n) = refl
  told_none t (head.Header v n) = refl
  told_none t (head.ReferenceSequence q l n) = refl
  told_none t (head.ReadGroup q n) = refl
  told_none t (head.Program q n) = refl
  told_none t (head.Comment q) = refl

  pub told-append : (t vs ws : List ℕ) (x : Head) → told_in t (vs ++ ws) x ≡ (told_in t vs x || told_in t ws x)
  unfolding told_in
  told-append t vs ws (head.Refused n) = refl
  told-append t vs ws (head.Header v n) = refl
  told-append t vs ws (head.ReferenceSequence q l n) = pick-append (tells_key seed t 2 (take q.len (drop q.at t))) vs ws
  told-append t vs ws (head.ReadGroup q n) = pick-append (tells_key seed t 3 (take q.len (drop q.at t))) vs ws
  told-append t vs ws (head.Program q n) = pick-append (tells_key seed t 4 (take q.len (drop q.at t))) vs ws
  told-append t vs ws (head.Comment q) = refl

  -- it is met where the slots hold them
  module _ (t slots vs : List ℕ) (p : 0 < length slots) (g : Held (start seed t (length slots)) slots vs) where
    pub found-told : (x : Head) → is_found seed t slots x ≡ told_in t vs x
    unfolding is_found told_in
    found-told (head.Refused n) = refl
    found-told (head.Header v n) = refl
    found-told (head.ReferenceSequence q l n) = sought-known seed t slots vs p g 2 (take q.len (drop q.at t))
    found-told (head.ReadGroup q n) = sought-known seed t slots vs p g 3 (take q.len (drop q.at t))
    found-told (head.Program q n) = sought-known seed t slots vs p g 4 (take q.len (drop q.at t))
    found-told (head.Comment q) = refl

  -- it is one of the keys of some records where one of them has it
  pub told-taken : (t : List ℕ) (rs : List Record) → Each (Ended t) rs → (x : Head) → told_in t (key_values_of seed rs) x ≡ is_taken rs t x
  unfolding told_in is_taken is_used
  told-taken t rs e (head.Refused n) = refl
  told-taken t rs e (head.Header v n) = refl
  told-taken t rs e (head.ReferenceSequence q l n) = keys-have t 2 (take q.len (drop q.at t)) rs e
  told-taken t rs e (head.ReadGroup q n) = keys-have t 3 (take q.len (drop q.at t)) rs e
  told-taken t rs e (head.Program q n) = keys-have t 4 (take q.len (drop q.at t)) rs e
  told-taken t rs e (head.Comment q) = refl

  pub entering-length : (room : Bool) (t slots : List ℕ) (x : Head) → length (after_entering seed room t slots x) ≡ length slots
  unfolding after_entering
  entering-length room t slots (head.Refused n) = refl
  entering-length room t slots (head.Header v n) = refl
  entering-length room t slots (head.ReferenceSequence q l n) = after-length room (value (fingerprint seed 2 (take q.len (drop q.at t))) q.at) slots (sought seed t slots 2 (take q.len (drop q.at t)))
  entering-length room t slots (head.ReadGroup q n) = after-length room (value (fingerprint seed 3 (take q.len (drop q.at t))) q.at) slots (sought seed t slots 3 (take q.len (drop q.at t)))
  entering-length room t slots (head.Program q n) = after-length room (value (fingerprint seed 4 (take q.len (drop q.at t))) q.at) slots (sought seed t slots 4 (take q.len (drop q.at t)))
  entering-length room t slots (head.Comment q) = refl

  pub pointing-length : (t slots : List ℕ) (x : Head) → length (after_pointing seed t slots x) ≡ length slots
  unfolding after_pointing
  pointing-length t slots x = pointed-length (offset_of x) slots (sought_of seed t slots x)

  pub entering-found : (room : Bool) (t slots : List ℕ) (x : Head) → is_found seed t slots x ≡ true → after_entering seed room t slots x ≡ slots
  unfolding is_found after_entering
  entering-found room t slots (head.Refused n) e = refl
  entering-found room t slots (head.Header v n) e = refl
  entering-found room t slots (head.ReferenceSequence q l n) e = after-known room (value (fingerprint seed 2 (take q.len (drop q.at t))) q.at) slots (sought seed t slots 2 (take q.len (drop q.at t))) e
  entering-found room t slots (head.ReadGroup q n) e = after-known room (value (fingerprint seed 3 (take q.len (drop q.at t))) q.at) slots (sought seed t slots 3 (take q.len (drop q.at t))) e
  entering-found room t slots (head.Program q n) e = after-known room (value (fingerprint seed 4 (take q.len (drop q.at t))) q.at) slots (sought seed t slots 4 (take q.len (drop q.at t))) e
  entering-found room t slots (head.Comment q) e = refl

  pub entering-none : (t slots : List ℕ) (x : Head) → after_entering seed false t slots x ≡ slots
  unfolding after_entering
  entering-none t slots (head.Refused n) = refl
  entering-none t slots (head.Header v n) = refl
  entering-none t slots (head.ReferenceSequence q l n) = after_none (value (fingerprint seed 2 (take q.len (drop q.at t))) q.at) slots (sought seed t slots 2 (take q.len (drop q.at t)))
  entering-none t slots (head.ReadGroup q n) = after_none (value (fingerprint seed 3 (take q.len (drop q.at t))) q.at) slots (sought seed t slots 3 (take q.len (drop q.at t)))
  entering-none t slots (head.Program q n) = after_none (value (fingerprint seed 4 (take q.len (drop q.at t))) q.at) slots (sought seed t slots 4 (take q.len (drop q.at t)))
  entering-none t slots (head.Comment q) = refl

  module _ (t slots vs : List ℕ) (p : 0 < length slots) (g : Held (start seed t (length slots)) slots vs) (room : length vs < length slots) where
    one-enters : (k : ℕ) → 0 < k → (q : Piece) → (q.at < 16777216) × (word (drop q.at t) ≡ q.bytes) → Stands t 0 q
        → let id : List ℕ = take (length q.bytes) (drop q.at t) in
        says_known (sought seed t slots k id) ≡ false
        → Held (start seed t (length slots)) (after_looking true (value (fingerprint seed k id) q.at) slots (sought seed t slots k id)) (vs ++ (value (fingerprint seed k q.bytes) q.at ∷ []))
    one-enters k h q e s m =
        let id : List ℕ = take (length q.bytes) (drop q.at t) in
        let i : q.bytes ≡ id = s.bytes ∙ ap (λ j. take (length q.bytes) (drop j t)) (let z : q.at - 0 ≡ q.at = omega arith in z) in
        subst (λ b. Held (start seed t (length slots)) (after_looking true (value (fingerprint seed k id) q.at) slots (sought seed t slots k id)) (vs ++ (value (fingerprint seed k b) q.at ∷ []))) (sym i)
        (sought-enters seed t slots vs p g k id (value (fingerprint seed k id) q.at) (value-some k id q.at h) (value-start seed t (length slots) k id q.at e.0 ∙ ap (first_slot seed (length slots) k) (e.1 ∙ i)) room
        (none (ltb-false 0 (pick (tells_key seed t k id) vs) (sym (sought-known seed t slots vs p g k id) ∙ m))))
      where
        none : {n : ℕ} → n ≤ 0 → n ≡ 0
        none h = omega (arith, h)

    pub entering-holds : (r : Record) → Ended t r → Each (Stands t 0) (pieces r) → is_found seed t slots (record_head r) ≡ false
        → Held (start seed t (length slots)) (after_entering seed true t slots (record_head r)) (vs ++ values_of seed r)
    unfolding is_found after_entering record_head stretch_of values_of Ended pieces Each
    entering-holds (header v fs) e s m = subst (Held (start seed t (length slots)) slots) (sym (append-nil vs)) g
    entering-holds (reference q n fs) e s m = one-enters 2 (omega arith) q e s.0 m
    entering-holds (group q fs) e s m = one-enters 3 (omega arith) q e s.0 m
    entering-holds (program q fs) e s m = one-enters 4 (omega arith) q e s.0 m
    entering-holds (comment q) e s m = subst (Held (start seed t (length slots)) slots) (sym (append-nil vs)) g

  -- one value, or none
  pub values-few : (r : Record) → length (values_of seed r) ≤ 1
  unfolding values_of
  values-few (header v fs) = omega arith
  values-few (reference p n fs) = omega arith
  values-few (group p fs) = omega arith
  values-few (program p fs) = omega arith
  values-few (comment p) = omega arith
