-- The slots of the programs that are kept: what they say of a line's ID, and what they hold after the line.
use Prim.Native.Nat.{ℕ, ◌+◌, ◌≤◌, ◌<◌}
use mathlib.Core.Path.{◌≡◌, refl, sym, ap, subst, ◌∙◌}
use mathlib.Core.Bool.{Bool, true, false, ◌&&◌, ◌||◌, cond}
use mathlib.Core.List.{List, [], ◌∷◌, ◌++◌, append-nil}
use native.Mathlib.Omega.{arith}
use lib.ListN.{length, take, drop, length-append}
use lib.Dec.{eqb, leb, ltb}
use borrow.Author.Tests.{lt-ltb, le-ltb, leb-true, leb-false}
use Rattle.format.specs.Bytes.{any}
use Rattle.format.specs.Records.{Record, header, reference, group, program, comment, code, key}
use Rattle.format.specs.Reading.{of_kind}
use Rattle.format.specs.Slots.{Held}
use Rattle.byte_slices.specs.Stands.{Stands, Each}
use Rattle.accepted.specs.Pieces.{pieces}
use Rattle.lists.proofs.Bools.{eqb-sym, never}
use Rattle.accepted.proofs.OfKind.{of_kind-append}
use Rattle.record.specs.Head.{record_head}
use Rattle.record.specs.declared.Stretch.{Stretch}
use Rattle.record.specs.declared.Head.{Head}
use Rattle.record.specs.declared.Head.TheVariants as head
use Rattle.read_admission.specs.Admission.{is_keyed, has_key, is_used, is_taken, barring, programs_of}
use Rattle.key_look.specs.Sought.{fingerprint, sought}
use Rattle.key_index.specs.KeySlots.{value, start, is_found, says_known, after_looking, after_entering}
use Rattle.key_look.specs.declared.Sought.{Sought}
use Rattle.key_look.specs.declared.Sought.TheVariants.{Known, Free, Full}
use Rattle.accepted.specs.Ended.{Ended}
use Rattle.key_index.specs.HeldKeys.{key_values_of, values_of}
use Rattle.key_index.proofs.HeldKeys.{found-told, told-taken, keys-snoc, ended-snoc, entering-holds, entering-none, values-few}
use Rattle.carry_lines.specs.Kept.{ids_after}
use Rattle.key_look.specs.Seed.{plain_seed}

-- an ID is looked for among the programs, or among all records
kind-have : (id : List ℕ) (rs : List Record) → any (has_key 4 id) (of_kind 4 rs) ≡ any (has_key 4 id) rs
unfolding any of_kind has_key
kind-have id [] = refl
kind-have id (r ∷ rs) = go (eqb (code r) 4) refl (kind-have id rs)
  where
    go : (b : Bool) → eqb (code r) 4 ≡ b → any (has_key 4 id) (of_kind 4 rs) ≡ any (has_key 4 id) rs → any (has_key 4 id) (cond b (r ∷ of_kind 4 rs) (of_kind 4 rs)) ≡ (eqb 4 (code r) && is_keyed id (key r)) || any (has_key 4 id) rs
    go true e ih = ap (λ t. (eqb 4 (code r) && is_keyed id (key r)) || t) ih
    go false e ih = ih ∙ sym (ap (λ b. (b && is_keyed id (key r)) || any (has_key 4 id) rs) (eqb-sym 4 (code r) ∙ e))

-- a key that is known does not enter again
meeting-known : (room : Bool) (t slots : List ℕ) (p : Stretch) (n : ℕ) → is_found plain_seed t slots (head.Program p n) ≡ true → after_entering plain_seed room t slots (head.Program p n) ≡ slots
unfolding is_found after_entering says_known after_looking
meeting-known room t slots p n e = go (sought plain_seed t slots 4 (take p.len (drop p.at t))) e
  where
    go : (s : Sought) → says_known s ≡ true → after_looking room (value (fingerprint plain_seed 4 (take p.len (drop p.at t))) p.at) slots s ≡ slots
    go (Known i) e = refl
    go (Free i) e = absurd (never (cc))
    go Full e = absurd (never (cc))

keys-few : (rs : List Record) → length (key_values_of plain_seed rs) ≤ length rs
unfolding key_values_of
keys-few [] = omega arith
keys-few (r ∷ rs) = omega (arith, length-append (values_of plain_seed r) (key_values_of plain_seed rs), values-few plain_seed r, keys-few rs)

-- the programs of `before` are in the slots
module _ (t ids : List ℕ) (before : List Record) (room : length ids ≡ 2048) (held : Held (start plain_seed t (length ids)) ids (key_values_of plain_seed (of_kind 4 before))) (ended : Each (Ended t) (of_kind 4 before)) where
  pub met-taken : (p : Stretch) (n : ℕ) → is_found plain_seed t ids (head.Program p n) ≡ is_taken before t (head.Program p n)
  unfolding is_taken is_used
  met-taken p n =
      found-told plain_seed t ids (key_values_of plain_seed (of_kind 4 before)) (omega (arith, room)) held (head.Program p n)
      ∙ told-taken plain_seed t (of_kind 4 before) ended (head.Program p n)
      ∙ kind-have (take p.len (drop p.at t)) before

  abbrev old : List Record
  old = of_kind 4 before

  -- a record that may follow
  module _ (programs : ℕ) (told : programs ≡ length (of_kind 4 before)) (few : programs ≤ 1024) where
    -- one without an ID leaves all as it is
    same_ended : (r : Record) → of_kind 4 (r ∷ []) ≡ [] → Each (Ended t) (of_kind 4 (before ++ (r ∷ [])))
    same_ended r e = subst (Each (Ended t)) (sym (of_kind-append 4 before (r ∷ []) ∙ ap (λ l. old ++ l) e ∙ append-nil old)) ended

    same-held : (r : Record) → of_kind 4 (r ∷ []) ≡ [] → Held (start plain_seed t (length ids)) ids (key_values_of plain_seed (of_kind 4 (before ++ (r ∷ []))))
    same-held r e = subst (λ l. Held (start plain_seed t (length ids)) ids (key_values_of plain_seed l)) (sym (of_kind-append 4 before (r ∷ []) ∙ ap (λ l. old ++ l) e ∙ append-nil old)) held

    pub kept-ended : (r : Record) → Ended t r → Each (Ended t) (of_kind 4 (before ++ (r ∷ [])))
    unfolding of_kind code
    kept-ended (header v fs) end = same_ended (header v fs) refl
    kept-ended (reference p n fs) end = same_ended (reference p n fs) refl
    kept-ended (group p fs) end = same_ended (group p fs) refl
    kept-ended (program p fs) end = subst (Each (Ended t)) (sym (of_kind-append 4 before (program p fs ∷ []))) (ended-snoc t old (program p fs) ended end)
    kept-ended (comment p) end = same_ended (comment p) refl

    -- by whether it is barred
    below : (b : Bool) (n : ℕ) → cond {A = ℕ} b 18 (cond (leb 1024 n) 19 0) ≡ 0 → (b ≡ false) × (n < 1024)
    below true n e = absurd (omega arith)
    below false n e = (refl, go (leb 1024 n) refl e)
      where
        go : (d : Bool) → leb 1024 n ≡ d → cond {A = ℕ} d 19 0 ≡ 0 → n < 1024
        go true q e = absurd (omega arith)
        go false q e = leb-false 1024 n q

    pub kept-held : (r : Record) → Ended t r → Each (Stands t 0) (pieces r) → barring (is_taken before t (record_head r)) (length before) programs (record_head r) ≡ 0
        → Held (start plain_seed t (length ids)) (ids_after (ltb programs 1024) t ids (record_head r)) (key_values_of plain_seed (of_kind 4 (before ++ (r ∷ []))))
    unfolding of_kind code record_head ids_after barring
    kept-held (header v fs) end stand e = same-held (header v fs) refl
    kept-held (reference p n fs) end stand e = same-held (reference p n fs) refl
    kept-held (group p fs) end stand e = same-held (group p fs) refl
    kept-held (program p fs) end stand e =
        let b = below (is_taken before t (record_head (program p fs))) programs e in
        let k : key_values_of plain_seed (of_kind 4 (before ++ (program p fs ∷ []))) ≡ key_values_of plain_seed old ++ values_of plain_seed (program p fs) = ap (key_values_of plain_seed) (of_kind-append 4 before (program p fs ∷ [])) ∙ keys-snoc plain_seed old (program p fs) in
        subst (λ d. Held (start plain_seed t (length ids)) (after_entering plain_seed d t ids (record_head (program p fs))) (key_values_of plain_seed (of_kind 4 (before ++ (program p fs ∷ []))))) (sym (lt-ltb programs 1024 b.1))
        (subst (Held (start plain_seed t (length ids)) (after_entering plain_seed true t ids (record_head (program p fs)))) (sym k)
        (entering-holds plain_seed t ids (key_values_of plain_seed old) (omega (arith, room)) held (omega (arith, room, keys-few old, told, few)) (program p fs) end stand (met-taken _ _ ∙ b.0)))
    kept-held (comment p) end stand e = same-held (comment p) refl

    pub kept-few : (r : Record) → barring (is_taken before t (record_head r)) (length before) programs (record_head r) ≡ 0 → programs + programs_of (record_head r) ≤ 1024
    unfolding record_head barring programs_of
    kept-few (header v fs) e = omega (arith, few)
    kept-few (reference p n fs) e = omega (arith, few)
    kept-few (group p fs) e = omega (arith, few)
    kept-few (program p fs) e = omega (arith, (below (is_taken before t (record_head (program p fs))) programs e).1)
    kept-few (comment p) e = omega (arith, few)

    -- a line that may not follow leaves the slots
    pub skipped-ids : (x : Head) → (barring (is_taken before t x) (length before) programs x ≡ 0 → ⊥) → ids_after (ltb programs 1024) t ids x ≡ ids
    unfolding ids_after barring
    skipped-ids (head.Refused n) h = refl
    skipped-ids (head.Header v n) h = refl
    skipped-ids (head.ReferenceSequence p l n) h = refl
    skipped-ids (head.ReadGroup p n) h = refl
    skipped-ids (head.Program p n) h = go (is_taken before t (head.Program p n)) refl h
      where
        late : (d : Bool) → leb 1024 programs ≡ d → (cond {A = ℕ} d 19 0 ≡ 0 → ⊥) → after_entering plain_seed (ltb programs 1024) t ids (head.Program p n) ≡ ids
        late true e h = ap (λ b. after_entering plain_seed b t ids (head.Program p n)) (le-ltb programs 1024 (leb-true 1024 programs e)) ∙ entering-none plain_seed t ids (head.Program p n)
        late false e h = absurd (h refl)

        go : (b : Bool) → is_taken before t (head.Program p n) ≡ b → (cond {A = ℕ} b 18 (cond (leb 1024 programs) 19 0) ≡ 0 → ⊥) → after_entering plain_seed (ltb programs 1024) t ids (head.Program p n) ≡ ids
        go true e h = meeting-known (ltb programs 1024) t ids p n (met-taken p n ∙ e)
        go false e h = late (leb 1024 programs) refl h
    skipped-ids (head.Comment p) h = refl
