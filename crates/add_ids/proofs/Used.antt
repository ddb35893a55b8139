-- Adding to an accepted text: the IDs of the new programs never equal each other, so those that are there decide.
use Prim.Native.Nat.{ℕ, suc, ◌+◌, ◌<◌}
use mathlib.Core.Path.{◌≡◌, refl, sym, ap, ap₂, ◌∙◌}
use mathlib.Core.Bool.{Bool, true, false, not, ◌||◌, cond}
use mathlib.Core.List.{List, [], ◌∷◌, ◌++◌}
use mathlib.Core.Option.{none, some}
use lib.ListN.{length, drop, get_or, length-map, get_or-map}
use lib.Dec.{eqb, ltb}
use borrow.Author.Tests.{ltb-true, eqb-false, eq-eqb, not-true}
use Rattle.format.specs.Bytes.{same, any, none?, distinct}
use Rattle.format.specs.Fields.{Field}
use Rattle.format.specs.Records.{Record, program, code, key}
use Rattle.format.specs.Reading.{read_text, accept, of_kind}
use Rattle.format.specs.Programs.{Program, bytes_of, program_of, programs, ordinal_from, link, links, leaves, leaves_from, numbers_from}
use Rattle.format.specs.Adding.{no_program, unplaced, chained, is_known, after_leaves, added, used}
use Rattle.byte_slices.specs.Stands.{Each}
use Rattle.byte_slices.proofs.Stands.{each_map}
use Rattle.lists.proofs.Bools.{or_left, or_right, or-false, or-true, and_left, and_right, split}
use Rattle.lists.proofs.Pairs.{each_all, each_both}
use Rattle.program_chains.specs.Listed.{named}
use Rattle.program_chains.proofs.Leaf.{leaves-exactly, leaves-distinct}
use Rattle.program_ids.specs.Search.{ids_of, id_ordinal_from}
use Rattle.program_ids.proofs.Search.{ordinal-ids}
use Rattle.add_ids.specs.Taken.{joined, is_among, id_in, taken}
use Rattle.add_ids.proofs.Joined.{joined_same, joined-prefix}
use Rattle.add_ids.proofs.Apart.{ids-apart}

-- ---- the programs that are there

-- one more comes last
known-snoc : (k : ℕ) (id : List ℕ) (ps : List Program) (p : Program) → is_known (ordinal_from k id (ps ++ (p ∷ []))) ≡ is_known (ordinal_from k id ps) || same id p.id
unfolding is_known ordinal_from
known-snoc k id [] p = go (same id p.id)
  where
    go : (b : Bool) → is_known (cond b (some k) none) ≡ b
    go true = refl
    go false = refl
known-snoc k id (q ∷ ps) p = go (same id q.id) (known-snoc (k + 1) id ps p)
  where
    go : (b : Bool) → is_known (ordinal_from (k + 1) id (ps ++ (p ∷ []))) ≡ is_known (ordinal_from (k + 1) id ps) || same id p.id
        → is_known (cond b (some k) (ordinal_from (k + 1) id (ps ++ (p ∷ [])))) ≡ is_known (cond b (some k) (ordinal_from (k + 1) id ps)) || same id p.id
    go true ih = refl
    go false ih = ih

-- ---- lists of ordinals

none_each : (x : ℕ) (xs : List ℕ) → any (eqb x) xs ≡ false → Each (λ y. eqb x y ≡ false) xs
unfolding any Each
none_each x [] h = tt
none_each x (y ∷ xs) h = (or_left (eqb x y) (any (eqb x) xs) h, none_each x xs (or_right (eqb x y) (any (eqb x) xs) h))

pub some-each : (P : ℕ → Type 0) (xs : List ℕ) → ((x : ℕ) → any (eqb x) xs ≡ true → P x) → Each P xs
unfolding any Each
some-each P [] h = tt
some-each P (x ∷ xs) h = (h x (rw (eq-eqb x x refl) refl), some-each P xs (λ y e. h y (rw e (or-true (eqb y x)))))

-- ---- an accepted text

module _ (t : List ℕ) (rs : List Record) (h : read_text t ≡ accept rs) (prefix : List ℕ) (fs : List Field) where
  abbrev ps : List Program
  ps = programs rs

  abbrev ids : List (List ℕ)
  ids = ids_of (programs rs)

  abbrev made : ℕ → List ℕ
  made k = joined prefix (get_or (programs rs) k no_program).id

  -- `old` says of the ID that is made with `k` what the text's programs say
  abbrev Says : List Program → ℕ → Type 0
  Says old k = is_known (ordinal_from 0 (made k) old) ≡ is_among (joined prefix (id_in ids k)) ids

  says : (k : ℕ) → Says ps k
  unfolding is_among id_in no_program
  says k = ap is_known (sym (ordinal-ids (made k) 0 ps)) ∙ ap (λ id. is_known (id_ordinal_from (joined prefix id) 0 ids)) (sym (get_or-map (λ p. p.id) ps k no_program))

  -- one more with another ID
  says-snoc : (old : List Program) (p : Program) (k : ℕ) → same (made k) p.id ≡ false → Says old k → Says (old ++ (p ∷ [])) k
  says-snoc old p k n s = known-snoc 0 (made k) old p ∙ rw n (or-false (is_known (ordinal_from 0 (made k) old))) ∙ s

  made-apart : (j k : ℕ) → j < length ps → k < length ps → (j ≡ k → ⊥) → same (made j) (made k) ≡ false
  made-apart j k l m n = joined_same prefix (get_or ps j no_program).id (get_or ps k no_program).id ∙ ids-apart t rs h j k l m n

  abbrev Below : ℕ → Type 0
  Below k = k < length (programs rs)

  used-joined : (old : List Program) (ks : List ℕ) → Each (Says old) ks → Each Below ks → distinct ks ≡ true
      → used old (programs (after_leaves false prefix fs ps ks)) ≡ taken ids prefix ks
  unfolding used programs of_kind code program_of bytes_of key after_leaves unplaced taken joined Each distinct
  used-joined old [] s b d = refl
  used-joined old (k ∷ ks) s b d =
      let p : Program = program_of (program (unplaced (made k)) (chained (get_or ps k no_program).id fs)) in
      let others : Each (λ j. Says old j × (Below j × (eqb k j ≡ false))) ks =
      each_both (Says old) (λ j. Below j × (eqb k j ≡ false)) ks s.1
      (each_both Below (λ j. eqb k j ≡ false) ks b.1 (none_each k ks (not-true (any (eqb k) ks) (and_left (not (any (eqb k) ks)) (distinct ks) d)))) in
      let on : Each (Says (old ++ (p ∷ []))) ks =
      each_map (λ j. Says old j × (Below j × (eqb k j ≡ false))) (Says (old ++ (p ∷ [])))
      (λ j x. says-snoc old p j (made-apart j k x.1.0 b.0 (λ e. eqb-false k j x.1.1 (sym e))) x.0) ks others in
      ap₂ (λ x y. x || y) s.0 (used-joined (old ++ (p ∷ [])) ks on b.1 (and_right (not (any (eqb k) ks)) (distinct ks) d))

  -- ---- the leaves

  abbrev ks : List ℕ
  ks = leaves (links (programs rs))

  below : Each Below ks
  unfolding links
  below = some-each Below ks (λ x e. rw (length-map ps (λ p. link ps p.previous)) at (ltb-true x (length (links ps)) (and_left (ltb x (length (links ps))) (not (named x (links ps))) (sym (leaves-exactly (links ps) x) ∙ e))))

  -- whether the prefix is an ID yet
  abbrev free : Bool
  free = not (is_known (ordinal_from 0 prefix (programs rs)))

  -- with the prefix for the first
  used-first : (xs : List ℕ) → is_known (ordinal_from 0 prefix ps) ≡ false → Each Below xs → distinct xs ≡ true
      → used ps (programs (after_leaves true prefix fs ps xs)) ≡ taken ids prefix (drop 1 xs)
  unfolding used programs of_kind code program_of bytes_of key after_leaves unplaced taken Each distinct
  used-first [] n b d = refl
  used-first (k ∷ xs) n b d =
      let p : Program = program_of (program (unplaced prefix) (chained (get_or ps k no_program).id fs)) in
      rw n (used-joined (ps ++ (p ∷ [])) xs (each_all (Says (ps ++ (p ∷ []))) (λ j. says-snoc ps p j (joined-prefix prefix (get_or ps j no_program).id) (says j)) xs) b.1 (and_right (not (any (eqb k) xs)) (distinct xs) d))

  -- an ID of the new programs is used exactly if one that is made with a leaf is there
  pub used-taken : used ps (programs (after_leaves free prefix fs ps ks)) ≡ taken ids prefix (cond free (drop 1 ks) ks)
  used-taken = split (is_known (ordinal_from 0 prefix ps)) (λ e. rw e old) (λ e. rw e (used-first ks e below (leaves-distinct (links ps))))
    where
      old : used ps (programs (after_leaves false prefix fs ps ks)) ≡ taken ids prefix ks
      old = used-joined ps ks (each_all (Says ps) says ks) below (leaves-distinct (links ps))

  -- the same of what is added, also where there are no programs
  pub used-added : used ps (programs (added prefix fs ps)) ≡ taken ids prefix (cond free (drop 1 ks) ks)
  used-added = go ps ∙ used-taken
    where
      go : (qs : List Program)
          → used qs (programs (added prefix fs qs)) ≡ used qs (programs (after_leaves (not (is_known (ordinal_from 0 prefix qs))) prefix fs qs (leaves (links qs))))
      go [] = unfold added used programs of_kind code program_of bytes_of key unplaced is_known ordinal_from after_leaves links leaves leaves_from numbers_from in refl
      go (q ∷ qs) = unfold added in refl

-- ---- how many

after-count : (free : Bool) (prefix : List ℕ) (fs : List Field) (ps : List Program) (ks : List ℕ) → length (after_leaves free prefix fs ps ks) ≡ length ks
unfolding after_leaves
after-count free prefix fs ps [] = refl
after-count free prefix fs ps (k ∷ ks) = ap suc (after-count false prefix fs ps ks)

-- one, or one for each leaf
pub added-count : (prefix : List ℕ) (fs : List Field) (ps : List Program) → length (added prefix fs ps) ≡ cond (none? ps) 1 (length (leaves (links ps)))
unfolding added none?
added-count prefix fs [] = refl
added-count prefix fs (p ∷ ps) = after-count (not (is_known (ordinal_from 0 prefix (p ∷ ps)))) prefix fs (p ∷ ps) (leaves (links (p ∷ ps)))
