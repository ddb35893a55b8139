-- What each call answers over a catalogue that is the text's own.
use Prim.Native.Nat.{ℕ, ◌+◌, ◌-◌, ◌≤◌, ◌<◌}
use mathlib.Core.Path.{◌≡◌, refl, sym, ap, ◌∙◌}
use mathlib.Core.Bool.{◌&&◌, cond, and-false}
use mathlib.Core.List.{List}
use mathlib.Core.Option.{Option, none, some}
use native.Mathlib.Omega.{arith}
use lib.ListN.{length, get_elem?, take, drop}
use lib.Dec.{leb}
use borrow.Author.Tests.{le-leb, lt-leb}
use Rattle.std.specs.Prelude.{None, Some, Err, ok_or}
use Rattle.format.specs.Lines.{Piece}
use Rattle.format.specs.Records.{Record}
use Rattle.format.specs.Reading.{of_kind}
use Rattle.format.specs.Catalogue.{catalogue}
use Rattle.format.specs.declared.LineNo.{LineNo}
use Rattle.format.specs.declared.Refusal.{Refusal}
use Rattle.format.specs.Calls.{Answer, refused, yes, there, key_if_there, length_if_there, lines_of, value_if_there, or_stand, fresh, counting, keying, sizing, locating, valuing, looking}
use Rattle.byte_slices.specs.Stands.{Stands}
use Rattle.lists.proofs.Bools.{never}
use Rattle.accepted.proofs.Text.{text-fits}
use Rattle.accepted.specs.Read.{records_of}
use Rattle.catalogue_entries.specs.declared.Place.{Place}
use Rattle.catalogue_entries.specs.Entries.{piece_at, entries_in, counted}
use Rattle.catalogue_lookup.specs.Lookup.{found_of, sized_of, located_of, key_in, length_in, line_in, field_in}
use Rattle.catalogue_lookup.proofs.Kept.{text-counted, text-keyed, text-valued}
use Rattle.catalogue_lookup.proofs.Answers.{text-key, text-ln, text-line, text-field}
use Rattle.calls.specs.Answers.{key_answer_of, length_answer_of, line_answer_of, value_place_of, part_standing}
use Rattle.read.proofs.Fresh.{Current, passed, goes_on, stops}

-- ---- what is found, as an answer

-- 25: there is no such record
abbrev pub missing : Refusal
missing = record { number = 25; line = record { 0 = 0 } }

pub there-some : {A : Type 0} (o : Option A) (x : A) → there o ≡ yes x → o ≡ some x
unfolding there
there-some none x e = absurd (never cc)
there-some (some y) x e = let z : y ≡ x = cc in ap some z

found-key : (o : Option Piece) → ok_or (found_of o) missing ≡ key_answer_of (there o)
unfolding found_of there key_answer_of piece_at
found-key none = refl
found-key (some p) = refl

found-length : (o : Option ℕ) → ok_or (sized_of o) missing ≡ length_answer_of (there o)
unfolding sized_of there length_answer_of
found-length none = refl
found-length (some n) = refl

found-line : (o : Option ℕ) → ok_or (located_of o) missing ≡ line_answer_of (there o)
unfolding located_of there line_answer_of
found-line none = refl
found-line (some l) = refl

found-value : (o : Option Piece) → found_of o ≡ value_place_of (there o)
unfolding found_of there value_place_of piece_at
found-value none = refl
found-value (some p) = refl

-- ---- a refusal of the check is every call's

module _ (t c : List ℕ) (n l : ℕ) (e : fresh t c ≡ refused n l) where
  pub count-refused : (k : ℕ) → counting t c k ≡ refused n l
  unfolding counting
  count-refused k = stops t c (λ rs. cond (leb 1 k && leb k 5) (yes (length (of_kind k rs))) (refused 25 0)) n l e

  pub key-refused : (k i : ℕ) → keying t c k i ≡ refused n l
  unfolding keying
  key-refused k i = stops t c (λ rs. there (key_if_there (get_elem? (of_kind k rs) i))) n l e

  pub length-refused : (i : ℕ) → sizing t c i ≡ refused n l
  unfolding sizing
  length-refused i = stops t c (λ rs. there (length_if_there (get_elem? (of_kind 2 rs) i))) n l e

  pub line_refused : (k i : ℕ) → locating t c k i ≡ refused n l
  unfolding locating
  line_refused k i = stops t c (λ rs. there (get_elem? (lines_of k 0 rs) i)) n l e

  pub field-refused : (k i a b : ℕ) → valuing t c k i a b ≡ refused n l
  unfolding valuing
  field-refused k i a b = stops t c (λ rs. there (value_if_there a b (get_elem? (of_kind k rs) i))) n l e

-- ---- over the text's own catalogue

module _ (t c : List ℕ) (own : Current t c) where
  abbrev rs : List Record
  rs = records_of t

  -- what is found in the catalogue is what the records say
  here : {A : Type 0} (f : List ℕ → A) → f c ≡ f (catalogue rs)
  here f = ap f own.own

  -- ---- counts

  counts : (k : ℕ) → counting t c k ≡ cond (leb 1 k && leb k 5) (yes (length (of_kind k rs))) (refused 25 0)
  unfolding counting
  counts k = goes_on t c (λ rs. cond (leb 1 k && leb k 5) (yes (length (of_kind k rs))) (refused 25 0)) own

  pub count-below : (k : ℕ) → k < 1 → counting t c k ≡ refused 25 0
  count-below k h = counts k ∙ rw (lt-leb 1 k h) refl

  pub count-above : (k : ℕ) → 5 < k → counting t c k ≡ refused 25 0
  count-above k h = counts k ∙ rw (lt-leb k 5 h, and-false (leb 1 k)) refl

  pub count-served : (k : ℕ) → 1 ≤ k → k ≤ 5 → counting t c k ≡ yes (counted k (entries_in c))
  count-served k h l =
      counts k ∙ rw (le-leb 1 k h, le-leb k 5 l) (ap yes (sym (here (λ s. counted k (entries_in s)) ∙ text-counted t rs own.reads k (omega arith))))

  -- ---- keys

  keys : (k i : ℕ) → keying t c k i ≡ there (key_if_there (get_elem? (of_kind k rs) i))
  unfolding keying
  keys k i = goes_on t c (λ rs. there (key_if_there (get_elem? (of_kind k rs) i))) own

  key-told : (k i : ℕ) → found_of (key_if_there (get_elem? (of_kind k rs) i)) ≡ key_in k i (entries_in c)
  key-told k i = sym (here (λ s. key_in k i (entries_in s)) ∙ text-key t rs own.reads k i)

  pub key-served : (k i : ℕ) → ok_or (key_in k i (entries_in c)) missing ≡ key_answer_of (keying t c k i)
  key-served k i = ap (λ o. ok_or o missing) (sym (key-told k i)) ∙ found-key (key_if_there (get_elem? (of_kind k rs) i)) ∙ ap key_answer_of (sym (keys k i))

  -- ---- lengths

  lengths : (i : ℕ) → sizing t c i ≡ there (length_if_there (get_elem? (of_kind 2 rs) i))
  unfolding sizing
  lengths i = goes_on t c (λ rs. there (length_if_there (get_elem? (of_kind 2 rs) i))) own

  length-told : (i : ℕ) → sized_of (length_if_there (get_elem? (of_kind 2 rs) i)) ≡ length_in i (entries_in c)
  length-told i = sym (here (λ s. length_in i (entries_in s)) ∙ text-ln t rs own.reads i)

  pub length-served : (i : ℕ) → ok_or (length_in i (entries_in c)) missing ≡ length_answer_of (sizing t c i)
  length-served i = ap (λ o. ok_or o missing) (sym (length-told i)) ∙ found-length (length_if_there (get_elem? (of_kind 2 rs) i)) ∙ ap length_answer_of (sym (lengths i))

  -- ---- lines

  pub located : (k i : ℕ) → locating t c k i ≡ there (get_elem? (lines_of k 0 rs) i)
  unfolding locating
  located k i = goes_on t c (λ rs. there (get_elem? (lines_of k 0 rs) i)) own

  line-told : (k i : ℕ) → located_of (get_elem? (lines_of k 0 rs) i) ≡ line_in k i (entries_in c)
  line-told k i = sym (here (λ s. line_in k i (entries_in s)) ∙ text-line t rs own.reads k i)

  pub line-served : (k i : ℕ) → ok_or (line_in k i (entries_in c)) missing ≡ line_answer_of (locating t c k i)
  line-served k i = ap (λ o. ok_or o missing) (sym (line-told k i)) ∙ found-line (get_elem? (lines_of k 0 rs) i) ∙ ap line_answer_of (sym (located k i))

  -- ---- fields

  module _ (k i a b : ℕ) where
    abbrev value : Option Piece
    value = value_if_there a b (get_elem? (of_kind k rs) i)

    values : valuing t c k i a b ≡ there value
    unfolding valuing
    values = goes_on t c (λ rs. there (value_if_there a b (get_elem? (of_kind k rs) i))) own

    value-told : found_of value ≡ field_in k i a b (entries_in c)
    value-told = sym (here (λ s. field_in k i a b (entries_in s)) ∙ text-field t rs own.reads k i a b)

    pub field-served : field_in k i a b (entries_in c) ≡ value_place_of (valuing t c k i a b)
    field-served = sym value-told ∙ found-value value ∙ ap value_place_of (sym values)

-- ---- what is answered is in a text that is not too long, whatever the text and the catalogue are

module _ (t c : List ℕ) (k i : ℕ) where
  pub key-short : (p : Piece) → keying t c k i ≡ yes p → p.at + length p.bytes ≤ 16777216
  unfolding keying
  key-short p e =
      let own = passed t c (λ rs. there (key_if_there (get_elem? (of_kind k rs) i))) p e in
      let s = text-keyed t (records_of t) own.reads k i p (there-some (key_if_there (get_elem? (of_kind k (records_of t)) i)) p (sym (keys t c own k i) ∙ e)) in
      omega (arith, s.within, text-fits t (records_of t) own.reads)

module _ (t c : List ℕ) (k i a b : ℕ) where
  -- a value that is answered is in the text
  pub value-stands : (p : Piece) → valuing t c k i a b ≡ yes p → Stands t 0 p
  unfolding valuing
  value-stands p e =
      let own = passed t c (λ rs. there (value_if_there a b (get_elem? (of_kind k rs) i))) p e in
      text-valued t (records_of t) own.reads k i a b p (there-some (value t c own k i a b) p (sym (values t c own k i a b) ∙ e))

  pub value-short : (p : Piece) → valuing t c k i a b ≡ yes p → p.at + length p.bytes ≤ 16777216
  unfolding valuing
  value-short p e =
      let own = passed t c (λ rs. there (value_if_there a b (get_elem? (of_kind k rs) i))) p e in
      omega (arith, (value-stands p e).within, text-fits t (records_of t) own.reads)

  -- the place that is answered is within the text
  pub place_inside : (q : Place) → value_place_of (valuing t c k i a b) ≡ Some q → q.at + q.len ≤ length t
  unfolding value_place_of
  place_inside q e = go (valuing t c k i a b) refl e
    where
      go : (v : Answer Piece) → valuing t c k i a b ≡ v → value_place_of v ≡ Some q → q.at + q.len ≤ length t
      go (refused n l) is e = absurd (never cc)
      go (yes p) is e =
          let z : ◌≡◌ {A = Place} (record { at = p.at; len = length p.bytes }) q = cc in
          omega (arith, ap (λ (q : Place). q.at) z, ap (λ (q : Place). q.len) z, (value-stands p is).within)

  -- ---- the bytes that a lookup answers with, and where they are

  module _ (stand : List ℕ) (at-text at-stand : ℕ × ℕ) where
    pub stood : value_place_of (valuing t c k i a b) ≡ None
        → (stand ≡ looking t c k i a b stand) × (at-stand ≡ part_standing (valuing t c k i a b) at-text at-stand)
    unfolding value_place_of looking or_stand part_standing
    stood e = go (valuing t c k i a b) e
      where
        go : (v : Answer Piece) → value_place_of v ≡ None → (stand ≡ or_stand stand v) × (at-stand ≡ part_standing v at-text at-stand)
        go (refused n l) e = (refl, refl)
        go (yes p) e = absurd (never cc)

    pub valued-at : (q : Place) → value_place_of (valuing t c k i a b) ≡ Some q
        → (take q.len (drop q.at t) ≡ looking t c k i a b stand) × (◌≡◌ {A = ℕ × ℕ} (at-text.0, q.at + at-text.1) (part_standing (valuing t c k i a b) at-text at-stand))
    unfolding value_place_of looking or_stand part_standing
    valued-at q e = go (valuing t c k i a b) refl e
      where
        go : (v : Answer Piece) → valuing t c k i a b ≡ v → value_place_of v ≡ Some q
            → (take q.len (drop q.at t) ≡ or_stand stand v) × (◌≡◌ {A = ℕ × ℕ} (at-text.0, q.at + at-text.1) (part_standing v at-text at-stand))
        go (refused n l) is e = absurd (never cc)
        go (yes p) is e =
            let z : ◌≡◌ {A = Place} (record { at = p.at; len = length p.bytes }) q = cc in
            let x : p.at ≡ q.at = ap (λ (q : Place). q.at) z in
            let y : length p.bytes ≡ q.len = ap (λ (q : Place). q.len) z in
            let w : p.at - 0 ≡ q.at = omega (arith, x) in
            (sym ((value-stands p is).bytes ∙ rw (y, w) refl), ap (λ n. (at-text.0, n + at-text.1)) (sym x))
