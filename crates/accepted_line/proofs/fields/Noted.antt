-- The tables of a line: where each tag comes first, and last.
use Prim.Native.Nat.{ℕ, ◌+◌, ◌-◌, ◌<◌, ◌≤◌}
use mathlib.Core.Path.{◌≡◌, refl, sym, ap, subst, ◌∙◌}
use mathlib.Core.Bool.{Bool, true, false, not, ◌||◌, cond}
use mathlib.Core.List.{List, [], ◌∷◌, ◌++◌}
use mathlib.Core.Option.{Option, none, some}
use native.Mathlib.Omega.{arith}
use native.Mathlib.Nat.{add_assoc}
use lib.ListN.{length, take, drop, get_or, set, length-set, length-append, length-drop, take-append-drop}
use lib.Seq.{get_or-set_same, get_or-set_other, drop-drop, length-take-le}
use lib.Dec.{eqb}
use borrow.Author.Tests.{eqb-true, eq-eqb, ne_eqb}
use Rattle.format.specs.Bytes.{any}
use Rattle.format.specs.Lines.{Piece}
use Rattle.format.specs.Fields.{Field, is_tag, tagged, later, last_of}
use Rattle.format.specs.Tidy.{field_text, fields_text}
use Rattle.byte_slices.specs.Upto.{upto}
use Rattle.byte_slices.specs.Stands.{Each}
use Rattle.accepted_line.specs.Number.{tag_number}
use Rattle.accepted_line.proofs.tag_number.Apart.{tag_below, tag-apart}
use Rattle.lists.proofs.Bools.{never, or_left, or_right, split}
use Rattle.accepted.proofs.Tags.{later-assoc}
use Rattle.accepted_line.specs.Run.{fields_of, Runs, fields_to, fields_from, AtField}
use Rattle.accepted_line.specs.Next.{is_first, value_of_piece, or_value, no_value, last_in, value_at, kept_at, field_length}
use Rattle.accepted_line.specs.Tables.{field_number, HasTag, marked, noted, Noted}
use Rattle.record.specs.declared.Stretch.{Stretch}
use Rattle.accepted_line.proofs.fields.Runs.{bytes_of, runs_append}
use Rattle.accepted_line.proofs.fields.Here.{Here, here}
use Rattle.accepted_line.proofs.fields.NextField.{first-here, last-same, last-other, own}
use Rattle.accepted_line.proofs.fields.Spread.{same_number}

-- ---- one field in the tables

module _ (t : List ℕ) (m p : ℕ) where
  unfoldable pub inner : List ℕ
  inner = cond (eqb (get_or t m 0) 0) (set t m p) t

  pub inner-length : length inner ≡ length t
  unfolding inner
  inner-length = go (eqb (get_or t m 0) 0)
    where
      go : (b : Bool) → length (cond b (set t m p) t) ≡ length t
      go true = length-set t m p
      go false = refl

  inner-other : (n : ℕ) → (n ≡ m → ⊥) → get_or inner n 0 ≡ get_or t n 0
  unfolding inner
  inner-other n e = go (eqb (get_or t m 0) 0)
    where
      go : (b : Bool) → get_or (cond b (set t m p) t) n 0 ≡ get_or t n 0
      go true = get_or-set_other t m n p 0 e
      go false = refl

  pub marked-length : length (marked t m p) ≡ length t
  unfolding marked inner
  marked-length = length-set inner (3224 + m) p ∙ inner-length

  -- the last place is its own
  last-own : length t ≡ 6448 → m < 3224 → get_or (marked t m p) (3224 + m) 0 ≡ p
  unfolding marked inner
  last-own l b = get_or-set_same inner (3224 + m) p 0 (omega (arith, inner-length))

  module _ (n : ℕ) (small : n < 3224) where
    last-kept : m < 3224 → (n ≡ m → ⊥) → get_or (marked t m p) (3224 + n) 0 ≡ get_or t (3224 + n) 0
    unfolding marked inner
    last-kept b e = get_or-set_other inner (3224 + m) (3224 + n) p 0 (λ q. e (omega arith)) ∙ inner-other (3224 + n) (λ q. omega arith)

    outer : get_or (marked t m p) n 0 ≡ get_or inner n 0
    unfolding marked inner
    outer = get_or-set_other inner (3224 + m) n p 0 (λ q. omega arith)

    first-other : (n ≡ m → ⊥) → get_or (marked t m p) n 0 ≡ get_or t n 0
    first-other e = outer ∙ inner-other n e

    -- a first place stays
    first-stays : (get_or t n 0 ≡ 0 → ⊥) → get_or (marked t m p) n 0 ≡ get_or t n 0
    unfolding inner
    first-stays z = outer ∙ go (eqb (get_or t m 0) 0) refl
      where
        go : (b : Bool) → eqb (get_or t m 0) 0 ≡ b → get_or (cond b (set t m p) t) n 0 ≡ get_or t n 0
        go true e = get_or-set_other t m n p 0 (λ q. z (ap (λ k. get_or t k 0) q ∙ eqb-true (get_or t m 0) 0 e))
        go false e = refl

  first-own : length t ≡ 6448 → m < 3224 → get_or t m 0 ≡ 0 → get_or (marked t m p) m 0 ≡ p
  unfolding inner
  first-own l b z = outer m b ∙ rw (eq-eqb (get_or t m 0) 0 z) (get_or-set_same t m p 0 (omega arith))

-- ---- a run of fields in the tables

noted-length : (t : List ℕ) (p : ℕ) (fs : List Field) → length (noted t p fs) ≡ length t
unfolding noted
noted-length t p [] = refl
noted-length t p (f ∷ fs) = noted-length (marked t (field_number f) p) (p + field_length f) fs ∙ marked-length t (field_number f) p

text-more : (f : Field) (fs : List Field) → length (fields_text (f ∷ fs)) ≡ field_length f + length (fields_text fs)
unfolding fields_text field_length
text-more f fs = length-append (bytes_of f) (fields_text fs)

noted-append : (t : List ℕ) (p : ℕ) (ds gs : List Field) → noted t p (ds ++ gs) ≡ noted (noted t p ds) (p + length (fields_text ds)) gs
unfolding noted fields_text
noted-append t p [] gs = ap (λ q. noted t q gs) (omega arith)
noted-append t p (d ∷ ds) gs =
    noted-append (marked t (field_number d) p) (p + field_length d) ds gs
    ∙ ap (λ q. noted (noted (marked t (field_number d) p) (p + field_length d) ds) q gs) (omega (arith, text-more d ds))

pub number-below : (f : Field) → HasTag f → field_number f < 3224
unfolding HasTag field_number
number-below f h = tag_below f.tag₀ f.tag₁ h

module _ (a b : ℕ) (tag : is_tag a b ≡ true) where
  number : ℕ
  number = tag_number a b

  small : number < 3224
  unfolding number
  small = tag_below a b tag

  -- another tag has another number
  other-number : (f : Field) → HasTag f → tagged a b f ≡ false → number ≡ field_number f → ⊥
  unfolding HasTag field_number tagged number
  other-number f h t e =
      let q = tag-apart f.tag₀ f.tag₁ a b h tag (sym e) in
      never (let z : true ≡ false = sym (rw (eq-eqb f.tag₀ a q.0, eq-eqb f.tag₁ b q.1) refl) ∙ t in cc)

  -- ---- the first place

  first-after : (t : List ℕ) (p : ℕ) (gs : List Field) → (get_or t number 0 ≡ 0 → ⊥) → get_or (noted t p gs) number 0 ≡ get_or t number 0
  unfolding noted
  first-after t p [] z = refl
  first-after t p (g ∷ gs) z =
      let s = first-stays t (field_number g) p number small z in
      first-after (marked t (field_number g) p) (p + field_length g) gs (λ q. z (sym s ∙ q)) ∙ s

  -- no field has the tag
  first-none : (t : List ℕ) (p : ℕ) (ds : List Field) → Each HasTag ds → get_or t number 0 ≡ 0 → any (tagged a b) ds ≡ false → get_or (noted t p ds) number 0 ≡ 0
  unfolding noted any Each
  first-none t p [] h z n = z
  first-none t p (d ∷ ds) h z n =
      first-none (marked t (field_number d) p) (p + field_length d) ds h.1
      (first-other t (field_number d) p number small (other-number d h.0 (or_left (tagged a b d) (any (tagged a b) ds) n)) ∙ z)
      (or_right (tagged a b d) (any (tagged a b) ds) n)

  -- one has it: its place is not after them
  first_some : (t : List ℕ) (p : ℕ) (ds : List Field) → Each HasTag ds → length t ≡ 6448 → 0 < p → get_or t number 0 ≡ 0 → any (tagged a b) ds ≡ true
      → (0 < get_or (noted t p ds) number 0) × (get_or (noted t p ds) number 0 < p + length (fields_text ds))
  unfolding noted any Each number field_length field_text
  first_some t p [] h l i z n = absurd (never (cc))
  first_some t p (d ∷ ds) h l i z n =
      go (tagged a b d) refl n (λ u. first_some (marked t (field_number d) p) (p + field_length d) ds h.1 (marked-length t (field_number d) p ∙ l) (omega arith) (first-other t (field_number d) p number small (other-number d h.0 u) ∙ z))
    where
      next : List ℕ
      next = noted (marked t (field_number d) p) (p + field_length d) ds

      go : (u : Bool) → tagged a b d ≡ u → u || any (tagged a b) ds ≡ true
          → (tagged a b d ≡ false → any (tagged a b) ds ≡ true → (0 < get_or next number 0) × (get_or next number 0 < p + field_length d + length (fields_text ds)))
          → (0 < get_or next number 0) × (get_or next number 0 < p + length (fields_text (d ∷ ds)))
      go true u n ih =
          let m : field_number d ≡ number = same_number a b d u in
          let s : get_or (marked t (field_number d) p) number 0 ≡ p = ap (λ k. get_or (marked t (field_number d) p) k 0) (sym m) ∙ first-own t (field_number d) p l (number-below d h.0) (ap (λ k. get_or t k 0) m ∙ z) in
          let k : get_or next number 0 ≡ p = first-after (marked t (field_number d) p) (p + field_length d) ds (λ q. omega arith) ∙ s in
          (omega arith, omega (arith, text-more d ds))
      go false u n ih = let r = ih u n in (r.0, omega (arith, r.1, text-more d ds))

  -- ---- the last place

  -- from the place `from` of the line on, the tag comes last at a place that `p` gives
  record LastAt (at : ℕ) (line : List ℕ) (from p : ℕ) : Type 0 where
    pub place : ℕ
    pub is : p ≡ at + place
    pub here : AtField false at line place
    pub within : place < length line
    pub value : (v : Stretch) → or_value v (last_of a b (fields_from at line from)) ≡ value_at at place (place + 1 + upto 9 (drop (place + 1) line))

  -- or nowhere, and `p` is what was in the tables before
  data Last (at : ℕ) (line : List ℕ) (from before p : ℕ) : Type 0 where
    absent : last_of a b (fields_from at line from) ≡ none → p ≡ before → Last at line from before p
    present : LastAt at line from p → Last at line from before p

  module _ (at : ℕ) (line : List ℕ) where
    module _ (from : ℕ) (h : AtField false at line from) (f : Field) (w : Here false at line from f) (t : List ℕ) (p : ℕ) where
      -- what the fields after one say of those from it on
      last-further : HasTag f → length t ≡ 6448 → from < length line → Last at line (from + field_length f) (get_or (marked t (field_number f) (at + from)) (3224 + number) 0) p
          → Last at line from (get_or t (3224 + number) 0) p
      unfolding last_of later or_value number
      last-further g l i (present q) = present (record {
        place = q.place;
        is = q.is;
        here = q.here;
        within = q.within;
        value = λ v. split (tagged a b f) (λ u. last-same false at line from h f w a b v u ∙ q.value (value_at at from (from + field_length f))) (λ u. last-other false at line from h f w a b v u ∙ q.value v);
      })
      last-further g l i (absent n e) =
          split (tagged a b f)
          (λ u.
          let m : field_number f ≡ tag_number a b = same_number a b f u in
          present (record {
            place = from;
            is = e ∙ ap (λ k. get_or (marked t (field_number f) (at + from)) (3224 + k) 0) (sym m) ∙ last-own t (field_number f) (at + from) l (number-below f g);
            here = h;
            within = i;
            value = λ v. last-same false at line from h f w a b v u ∙ ap (or_value (value_at at from (from + field_length f))) n ∙ ap (value_at at from) (sym w.end);
          }))
          (λ u.
          absent (ap (last_of a b) w.rest ∙ rw (u, n) refl)
          (e ∙ last-kept t (field_number f) (at + from) number small (number-below f g) (other-number f g u)))

    last-noted : (gs : List Field) (from : ℕ) (t : List ℕ) → AtField false at line from → fields_from at line from ≡ gs → Each HasTag gs → length t ≡ 6448
        → Last at line from (get_or t (3224 + number) 0) (get_or (noted t (at + from) gs) (3224 + number) 0)
    unfolding noted Each last_of fields_text field_text
    last-noted [] from t h e g l = absent (ap (last_of a b) e) refl
    last-noted (f ∷ fs) from t h e g l =
        let w : Here false at line from f = here false at line from h f fs e in
        let r : f ∷ fields_from at line (from + field_length f) ≡ f ∷ fs = sym w.rest ∙ e in
        let t' : List ℕ = marked t (field_number f) (at + from) in
        let p : ℕ = get_or (noted t' (at + from + field_length f) fs) (3224 + number) 0 in
        last-further from h f w t p g.0 l (omega (arith, w.size, w.next.within))
        (subst (λ q. Last at line (from + field_length f) (get_or t' (3224 + number) 0) (get_or (noted t' q fs) (3224 + number) 0)) (sym (add_assoc at from (field_length f)))
        (last-noted fs (from + field_length f) t' w.next (cc) g.1 (marked-length t (field_number f) (at + from) ∙ l)))

-- ---- a field of the line in the line's tables

each-parts : {A : Type 0} (P : A → Type 0) (xs ys : List A) → Each P (xs ++ ys) → Each P xs × Each P ys
unfolding Each
each-parts P [] ys h = (tt, h)
each-parts P (x ∷ xs) ys h = let r = each-parts P xs ys h.1 in ((h.0, r.0), r.1)

last_of-append : (a b : ℕ) (ds gs : List Field) → last_of a b (ds ++ gs) ≡ later (last_of a b ds) (last_of a b gs)
unfolding last_of later
last_of-append a b [] gs = sym (nothing (last_of a b gs))
  where
    nothing : (o : Option Piece) → later none o ≡ o
    nothing none = refl
    nothing (some p) = refl
last_of-append a b (d ∷ ds) gs =
    let o : Option Piece = cond (tagged a b d) (some d.value) none in
    ap (later o) (last_of-append a b ds gs) ∙ later-assoc o (last_of a b ds) (last_of a b gs)

-- a value that comes later is the last one
or-last : (v : Stretch) (o q : Option Piece) (p : Piece) → or_value v (later o (later (some p) q)) ≡ or_value (value_of_piece p) q
unfolding or_value later
or-last v none none p = refl
or-last v (some x) none p = refl
or-last v none (some y) p = refl
or-last v (some x) (some y) p = refl

module _ (once : Bool) (at : ℕ) (line : List ℕ) (i : ℕ) (h : AtField once at line i) where
  -- the fields before a place, and those from it on
  pub fields_split : fields_from at line 3 ≡ fields_to at line i ++ fields_from at line i
  fields_split =
      let s : List ℕ = take (i - 3) (drop 3 line) in
      let l : length s ≡ i - 3 = length-take-le (i - 3) (drop 3 line) (omega (arith, h.within, length-drop 3 line)) in
      let q : at + i ≡ at + 3 + length s = omega (arith, h.from) in
      let p : 3 + (i - 3) ≡ i = omega (arith, h.from) in
      let all : s ++ drop i line ≡ drop 3 line = ap (λ l. s ++ l) (ap (λ n. drop n line) (sym p) ∙ sym (drop-drop (i - 3) 3 line)) ∙ take-append-drop (i - 3) (drop 3 line) in
      ap (fields_of (at + 3)) (sym all)
      ∙ (runs_append (at + 3) s (drop i line) (fields_to at line i) (fields_from at line i) h.done (subst (λ n. Runs n (drop i line) (fields_from at line i)) q h.rest)).places

  done-length : length (fields_text (fields_to at line i)) ≡ i - 3
  done-length = ap length (sym h.done.spells) ∙ length-take-le (i - 3) (drop 3 line) (omega (arith, h.within, length-drop 3 line))

  module _ (f : Field) (w : Here once at line i f) where
    pub tags-here : Each HasTag (fields_from at line 3) → Each HasTag (fields_to at line i) × HasTag f
    unfolding Each
    tags-here g =
        let r = each-parts HasTag (fields_to at line i) (fields_from at line i) (subst (Each HasTag) fields_split g) in
        (r.0, (subst (Each HasTag) w.rest r.1).0)

    -- its tag's last value is that of the line
    pub kept-last : kept_at at line i (i + field_length f) ≡ last_in at line f.tag₀ f.tag₁
    unfolding kept_at last_in last_of tagged
    kept-last =
        let fs = fields_from at line (i + field_length f) in
        let o = last_of f.tag₀ f.tag₁ in
        let all : o (fields_from at line 3) ≡ later (o (fields_to at line i)) (later (some f.value) (o fs)) =
        ap o (fields_split ∙ ap (λ l. fields_to at line i ++ l) w.rest)
        ∙ last_of-append f.tag₀ f.tag₁ (fields_to at line i) (f ∷ fs)
        ∙ rw (eq-eqb f.tag₀ f.tag₀ refl, eq-eqb f.tag₁ f.tag₁ refl) refl in
        rw (w.tag-0, w.tag-1, own once at line i h f w) (sym (ap (or_value no_value) all ∙ or-last no_value (o (fields_to at line i)) (o fs) f.value))

    module _ (t : List ℕ) (n : Noted at line t) where
      mid : List ℕ
      mid = noted n.blank (at + 3) (fields_to at line i)

      mid-length : length mid ≡ 6448
      unfolding mid
      mid-length = noted-length n.blank (at + 3) (fields_to at line i) ∙ n.start.size

      pub number-here : field_number f < 3224
      number-here = number-below f (tags-here n.tags).1

      split-noted : t ≡ noted mid (at + i) (f ∷ fields_from at line (i + field_length f))
      unfolding mid
      split-noted =
          n.is
          ∙ ap (noted n.blank (at + 3)) (fields_split ∙ ap (λ l. fields_to at line i ++ l) w.rest)
          ∙ noted-append n.blank (at + 3) (fields_to at line i) (f ∷ fields_from at line (i + field_length f))
          ∙ ap (λ p. noted mid p (f ∷ fields_from at line (i + field_length f))) (omega (arith, done-length, h.from))

      tells : (u : Bool) → any (tagged f.tag₀ f.tag₁) (fields_to at line i) ≡ u → eqb (get_or t (field_number f) 0) (at + i) ≡ not u
      unfolding mid noted HasTag field_number number
      tells true e =
          let g = tags-here n.tags in
          let m = tag_number f.tag₀ f.tag₁ in
          let r = first_some f.tag₀ f.tag₁ g.1 n.blank (at + 3) (fields_to at line i) g.0 n.start.size (omega arith) (n.start.zero m) e in
          let k : get_or t m 0 ≡ get_or mid m 0 = ap (λ l. get_or l m 0) split-noted ∙ first-after f.tag₀ f.tag₁ g.1 mid (at + i) (f ∷ fields_from at line (i + field_length f)) (λ q. omega (arith, r.0)) in
          ne_eqb (get_or t m 0) (at + i) (λ q. omega (arith, r.1, done-length, h.from))
      tells false e =
          let g = tags-here n.tags in
          let m = tag_number f.tag₀ f.tag₁ in
          let z : get_or mid m 0 ≡ 0 = first-none f.tag₀ f.tag₁ g.1 n.blank (at + 3) (fields_to at line i) g.0 (n.start.zero m) e in
          let s : get_or (marked mid m (at + i)) m 0 ≡ at + i = first-own mid m (at + i) mid-length number-here z in
          let k : get_or t m 0 ≡ at + i = ap (λ l. get_or l m 0) split-noted ∙ first-after f.tag₀ f.tag₁ g.1 (marked mid m (at + i)) (at + i + field_length f) (fields_from at line (i + field_length f)) (λ q. omega (arith, s, h.from)) ∙ s in
          eq-eqb (get_or t m 0) (at + i) k

      -- the tables say whether it is at its tag's first place
      pub first-noted : eqb (get_or t (field_number f) 0) (at + i) ≡ is_first at line i
      first-noted = tells (any (tagged f.tag₀ f.tag₁) (fields_to at line i)) refl ∙ sym (first-here once at line i h f w)

-- ---- a tag in the line's tables

pub tables-size : (at : ℕ) (line t : List ℕ) → Noted at line t → length t ≡ 6448
tables-size at line t n = ap length n.is ∙ noted-length n.blank (at + 3) (fields_from at line 3) ∙ n.start.size

-- a field starts at the place that the tables say, and has the tag's last value
pub record There (at : ℕ) (line : List ℕ) (a b p : ℕ) : Type 0 where
  pub from : at ≤ p
  pub here : AtField false at line (p - at)
  pub within : p - at < length line
  pub value : value_at at (p - at) (p - at + 1 + upto 9 (drop (p - at + 1) line)) ≡ last_in at line a b

module _ (at : ℕ) (line : List ℕ) (a b : ℕ) (tag : is_tag a b ≡ true) (h : AtField false at line 3) (t : List ℕ) (n : Noted at line t) where
  told : Last a b tag at line 3 0 (get_or t (3224 + tag_number a b) 0)
  unfolding number
  told =
      subst (λ q. Last a b tag at line 3 q (get_or t (3224 + tag_number a b) 0)) (n.start.zero (3224 + tag_number a b))
      (subst (λ l. Last a b tag at line 3 (get_or n.blank (3224 + tag_number a b) 0) (get_or l (3224 + tag_number a b) 0)) (sym n.is)
      (last-noted a b tag at line (fields_from at line 3) 3 n.blank h refl n.tags n.start.size))

  pub noted-nowhere : get_or t (3224 + tag_number a b) 0 ≡ 0 → no_value ≡ last_in at line a b
  unfolding last_in or_value
  noted-nowhere z = go told
    where
      go : Last a b tag at line 3 0 (get_or t (3224 + tag_number a b) 0) → no_value ≡ or_value no_value (last_of a b (fields_from at line 3))
      go (absent e q) = sym (ap (or_value no_value) e)
      go (present q) = absurd (omega (arith, q.is, q.here.from))

  pub noted-there : (get_or t (3224 + tag_number a b) 0 ≡ 0 → ⊥) → There at line a b (get_or t (3224 + tag_number a b) 0)
  unfolding last_in
  noted-there z = go told
    where
      go : Last a b tag at line 3 0 (get_or t (3224 + tag_number a b) 0) → There at line a b (get_or t (3224 + tag_number a b) 0)
      go (absent e q) = absurd (z q)
      go (present q) =
          let e : get_or t (3224 + tag_number a b) 0 - at ≡ q.place = omega (arith, q.is) in
          record { from = omega (arith, q.is); here = rw e q.here; within = omega (arith, q.within); value = rw e (sym (q.value no_value)) }
