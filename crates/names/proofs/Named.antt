-- Slots filled from a catalogue: with ordinals they are the index, and with places they are the index with other values.
use Prim.Native.Nat.{ℕ, zero, suc, ◌+◌, ◌-◌, ◌*◌, ◌/◌, ◌%◌, ◌<◌}
use mathlib.Core.Path.{◌≡◌, refl, sym, ap, ap₂, ◌∙◌}
use mathlib.Core.Bool.{Bool, true, false, ◌&&◌, cond}
use mathlib.Core.List.{List, [], ◌∷◌, map}
use native.Mathlib.Omega.{arith}
use native.Mathlib.Nat.{mod-eq_of_lt}
use lib.ListN.{length, drop}
use lib.Seq.{drop-length}
use lib.Dec.{eqb}
use borrow.Author.Tests.{eq-eqb}
use Rattle.format.specs.Bytes.{same}
use Rattle.format.specs.Slots.{seat}
use Rattle.byte_slices.specs.Stands.{Each}
use Rattle.byte_slices.proofs.Equal.{same-equal}
use Rattle.key_at.specs.Word.{word}
use Rattle.catalogue_entries.specs.declared.Entry.{Entry}
use Rattle.catalogue_entries.specs.declared.Entry.TheVariants.{End, Header, ReferenceSequence, ReadGroup, Program, Comment, Field}
use Rattle.catalogue_entries.specs.Entries.{kind_byte, entries_in}
use Rattle.catalogue_lookup.specs.Lookup.{entries_from, first_entry}
use Rattle.format.specs.NameIndex.{hash_from, first, enter, enter_from, name_of, tells_name}
use Rattle.name_entries.specs.Names.{name_in, names_in}
use Rattle.name_entries.proofs.Names.{name-from}
use Rattle.name_slots.specs.Filled.{start_in, mark_of, value_of, entering, seats}
use Rattle.name_slots.proofs.Filling.{mark-lt}
use Rattle.name_lookup.specs.Looking.{says}
use Rattle.names.specs.NameEnds.{Told}
use Rattle.names.proofs.Recoded.{recode, enter-recode, place-recode}

module _ (t : List ℕ) where
  -- ---- with ordinals

  pub with-ordinals : (k : ℕ) (es : List Entry) (slots : List ℕ) → entering true t k es slots ≡ enter_from k (names_in t es) slots
  unfolding entering enter_from names_in value_of
  with-ordinals k [] slots = refl
  with-ordinals k (e ∷ es) slots = go (eqb (kind_byte e) 2) (with-ordinals (k + 1) es (enter (suc k) (name_in t e) slots)) (with-ordinals k es slots)
    where
      go : (b : Bool) → entering true t (k + 1) es (enter (suc k) (name_in t e) slots) ≡ enter_from (k + 1) (names_in t es) (enter (suc k) (name_in t e) slots)
          → entering true t k es slots ≡ enter_from k (names_in t es) slots
          → cond b (entering true t (k + 1) es (enter (suc k) (name_in t e) slots)) (entering true t k es slots) ≡ enter_from k (cond b (name_in t e ∷ names_in t es) (names_in t es)) slots
      go true ih jh = ih
      go false ih jh = jh

  -- ---- with places

  -- what a slot holds for the name of an entry, less one
  unfoldable pub code_of : Entry → ℕ
  code_of e = start_in t e * 128 + mark_of (hash_from 0 (name_in t e))

  -- `f` gives those of the SQ entries of `es`, the first SQ with the ordinal `k`
  abbrev Codes : (ℕ → ℕ) → ℕ → List Entry → Type 0
  Codes f k es = (r : ℕ) → f (k + r) ≡ code_of (first_entry (entries_from 2 r es))

  module _ (f : ℕ → ℕ) (k : ℕ) (e : Entry) (es : List Entry) (h : Codes f k (e ∷ es)) where
    here : eqb (kind_byte e) 2 ≡ true → f k ≡ code_of e
    unfolding entries_from first_entry
    here q = let y : k ≡ k + 0 = omega arith in ap f y ∙ h 0 ∙ ap (λ b. code_of (first_entry (cond b (e ∷ es) (entries_from 2 0 es)))) q

    behind : eqb (kind_byte e) 2 ≡ true → Codes f (k + 1) es
    unfolding entries_from
    behind q r = let y : k + 1 + r ≡ k + suc r = omega arith in ap f y ∙ h (suc r) ∙ ap (λ b. code_of (first_entry (cond b (entries_from 2 r es) (entries_from 2 (suc r) es)))) q

    beside : eqb (kind_byte e) 2 ≡ false → Codes f k es
    unfolding entries_from
    beside q zero = h 0 ∙ ap (λ b. code_of (first_entry (cond b (e ∷ es) (entries_from 2 0 es)))) q
    beside q (suc r) = h (suc r) ∙ ap (λ b. code_of (first_entry (cond b (entries_from 2 r es) (entries_from 2 (suc r) es)))) q

  pub with-codes : (f : ℕ → ℕ) (k : ℕ) (es : List Entry) (slots : List ℕ) → Codes f k es
      → entering false t k es (map (recode f) slots) ≡ map (recode f) (enter_from k (names_in t es) slots)
  unfolding entering enter_from names_in value_of code_of
  with-codes f k [] slots h = refl
  with-codes f k (e ∷ es) slots h =
      go (eqb (kind_byte e) 2) refl (λ g. with-codes f (k + 1) es (enter (suc k) (name_in t e) slots) g) (λ g. with-codes f k es slots g)
    where
      go : (b : Bool) → eqb (kind_byte e) 2 ≡ b
          → (Codes f (k + 1) es → entering false t (k + 1) es (map (recode f) (enter (suc k) (name_in t e) slots)) ≡ map (recode f) (enter_from (k + 1) (names_in t es) (enter (suc k) (name_in t e) slots)))
          → (Codes f k es → entering false t k es (map (recode f) slots) ≡ map (recode f) (enter_from k (names_in t es) slots))
          → cond b (entering false t (k + 1) es (enter (suc (code_of e)) (name_in t e) (map (recode f) slots))) (entering false t k es (map (recode f) slots))
          ≡ map (recode f) (enter_from k (cond b (name_in t e ∷ names_in t es) (names_in t es)) slots)
      go true q ih jh =
          ap (λ v. entering false t (k + 1) es (enter (suc v) (name_in t e) (map (recode f) slots))) (sym (here f k e es h q))
          ∙ ap (entering false t (k + 1) es) (enter-recode f k (name_in t e) slots)
          ∙ ih (behind f k e es h q)
      go false q ih jh = jh (beside f k e es h q)

  -- names enter the same slots
  pub seats-codes : (f : ℕ → ℕ) (k : ℕ) (es : List Entry) (slots : List ℕ) → Codes f k es → seats false t k es (map (recode f) slots) ≡ seats true t k es slots
  unfolding seats value_of code_of
  seats-codes f k [] slots h = refl
  seats-codes f k (e ∷ es) slots h =
      go (eqb (kind_byte e) 2) refl (λ g. seats-codes f (k + 1) es (enter (suc k) (name_in t e) slots) g) (λ g. seats-codes f k es slots g)
    where
      go : (b : Bool) → eqb (kind_byte e) 2 ≡ b
          → (Codes f (k + 1) es → seats false t (k + 1) es (map (recode f) (enter (suc k) (name_in t e) slots)) ≡ seats true t (k + 1) es (enter (suc k) (name_in t e) slots))
          → (Codes f k es → seats false t k es (map (recode f) slots) ≡ seats true t k es slots)
          → cond b
          (seat (first (length (map (recode f) slots)) (name_in t e)) (map (recode f) slots) ∷ seats false t (k + 1) es (enter (suc (code_of e)) (name_in t e) (map (recode f) slots)))
          (seats false t k es (map (recode f) slots))
          ≡ cond b (seat (first (length slots) (name_in t e)) slots ∷ seats true t (k + 1) es (enter (suc k) (name_in t e) slots)) (seats true t k es slots)
      go true q ih jh =
          ap₂ (λ s r. s ∷ r) (place-recode f (name_in t e) slots)
          (ap (λ v. seats false t (k + 1) es (enter (suc v) (name_in t e) (map (recode f) slots))) (sym (here f k e es h q))
          ∙ ap (seats false t (k + 1) es) (enter-recode f k (name_in t e) slots)
          ∙ ih (behind f k e es h q))
      go false q ih jh = jh (beside f k e es h q)

  -- ---- the names that the places stand for

  -- a name is where its entry says
  told-word : (e : Entry) → Told t e → word (drop (start_in t e) t) ≡ name_in t e
  unfolding word name_in start_in Told
  told-word End h = ap word (drop-length t)
  told-word (Header v l) h = ap word (drop-length t)
  told-word (ReferenceSequence p n l) h = ap (λ at. word (drop at t)) (mod-eq_of_lt h.0) ∙ h.1
  told-word (ReadGroup p l) h = ap word (drop-length t)
  told-word (Program p l) h = ap word (drop-length t)
  told-word (Comment p l) h = ap word (drop-length t)
  told-word (Field a b p) h = ap word (drop-length t)

  -- names that are equal have one mark
  mark-same : (x y : List ℕ) → (eqb (mark_of (hash_from 0 x)) (mark_of (hash_from 0 y)) && same x y) ≡ same x y
  mark-same x y = go (same x y) refl
    where
      and_none : (b : Bool) → (b && false) ≡ false
      and_none true = refl
      and_none false = refl

      go : (b : Bool) → same x y ≡ b → (eqb (mark_of (hash_from 0 x)) (mark_of (hash_from 0 y)) && b) ≡ b
      go true q = ap (λ w. w && true) (eq-eqb (mark_of (hash_from 0 x)) (mark_of (hash_from 0 y)) (ap (λ z. mark_of (hash_from 0 z)) (same-equal x y q)))
      go false q = and_none (eqb (mark_of (hash_from 0 x)) (mark_of (hash_from 0 y)))

  code-says : (x : List ℕ) (e : Entry) → Told t e → says t x (suc (code_of e)) ≡ same x (name_in t e)
  unfolding says code_of
  code-says x e h =
      let m : ℕ = mark_of (hash_from 0 (name_in t e)) in
      let l : m < 128 = mark-lt (hash_from 0 (name_in t e)) in
      let low : (suc (start_in t e * 128 + m) - 1) % 128 ≡ m = omega (arith, l) in
      let high : (suc (start_in t e * 128 + m) - 1) / 128 ≡ start_in t e = omega (arith, l) in
      ap₂ (λ a b. eqb (mark_of (hash_from 0 x)) a && same x (word (drop b t))) low high
      ∙ ap (λ w. eqb (mark_of (hash_from 0 x)) m && same x w) (told-word e h)
      ∙ mark-same x (name_in t e)

  front-told : (k : ℕ) (es : List Entry) → Each (Told t) es → Told t (first_entry (entries_from 2 k es))
  unfolding Each Told first_entry entries_from
  front-told k [] h = tt
  front-told zero (e ∷ es) h = go (eqb (kind_byte e) 2) (front-told zero es h.1)
    where
      go : (b : Bool) → Told t (first_entry (entries_from 2 0 es)) → Told t (first_entry (cond b (e ∷ es) (entries_from 2 0 es)))
      go true ih = h.0
      go false ih = ih
  front-told (suc k) (e ∷ es) h = go (eqb (kind_byte e) 2) (front-told k es h.1) (front-told (suc k) es h.1)
    where
      go : (b : Bool) → Told t (first_entry (entries_from 2 k es)) → Told t (first_entry (entries_from 2 (suc k) es)) → Told t (first_entry (cond b (entries_from 2 k es) (entries_from 2 (suc k) es)))
      go true ih jh = ih
      go false ih jh = jh

-- what a slot holds for the name of the SQ with an ordinal, less one
unfoldable pub code : List ℕ → List ℕ → ℕ → ℕ
unfolding code_of first_entry entries_from entries_in
code t c k = code_of t (first_entry (entries_from 2 k (entries_in c)))

module _ (t c : List ℕ) where
  -- it holds the name with that ordinal
  pub code-tells : Each (Told t) (entries_in c) → (x : List ℕ) (k : ℕ) → says t x (suc (code t c k)) ≡ tells_name (names_in t (entries_in c)) x (suc k)
  unfolding tells_name name_of code
  code-tells h x k = code-says t x (first_entry (entries_from 2 k (entries_in c))) (front-told t k (entries_in c) h) ∙ ap (same x) (name-from t k (entries_in c))

  pub filled-codes : (slots : List ℕ) → entering false t 0 (entries_in c) (map (recode (code t c)) slots) ≡ map (recode (code t c)) (enter_from 0 (names_in t (entries_in c)) slots)
  unfolding code
  filled-codes slots = with-codes t (code t c) 0 (entries_in c) slots (λ r. let z : 0 + r ≡ r = omega arith in ap (code t c) z)

  pub filled-seats : (slots : List ℕ) → seats false t 0 (entries_in c) (map (recode (code t c)) slots) ≡ seats true t 0 (entries_in c) slots
  unfolding code
  filled-seats slots = seats-codes t (code t c) 0 (entries_in c) slots (λ r. let z : 0 + r ≡ r = omega arith in ap (code t c) z)
