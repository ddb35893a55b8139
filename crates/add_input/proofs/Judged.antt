-- Given fields judged one after another: what holds at a place, and one step from there.
use Prim.Native.Nat.{ℕ, suc, ◌+◌, ◌≤◌, ◌<◌}
use mathlib.Core.Path.{◌≡◌, refl, sym, ap, subst, ◌∙◌}
use mathlib.Core.Bool.{Bool, true, false, not, ◌||◌}
use mathlib.Core.List.{List, [], ◌∷◌, ◌++◌, append-nil}
use native.Mathlib.Omega.{arith}
use native.Mathlib.Numerals.{add-one}
use lib.ListN.{length, take, drop, get_or, length-drop, drop_of_length-le}
use lib.Seq.{drop-cons, drop-drop, take-add, length-take-le}
use lib.Dec.{eqb}
use borrow.Author.Tests.{ne_eqb}
use Rattle.format.specs.Bytes.{any}
use Rattle.format.specs.Fields.{Field, tagged, Scan, repeats}
use Rattle.format.specs.Adding.{given}
use Rattle.format.specs.declared.Kind.TheVariants.{Program}
use Rattle.byte_slices.proofs.Lines.{upto_le}
use Rattle.field.specs.declared.ParsedField.{ParsedField}
use Rattle.format.specs.Keys.{is_key}
use Rattle.lists.proofs.Bools.{any_append, any_snoc, or-true, or_left, or_right, or_split}
use Rattle.accepted.proofs.Tags.{repeats-snoc, repeats-more}
use Rattle.record_tags.specs.Occurs.{occurs}
use Rattle.record_tags.proofs.Region.{occurs-fields}
use Rattle.record_parser.proofs.FieldByField.{tail_scan, prepend, prepend-prepend}
use Rattle.record_parser.proofs.Walked.{Turned}
use Rattle.record_parser.proofs.Step.{turn-shown}
use Rattle.accepted_line.specs.Run.{Runs}
use Rattle.accepted_line.proofs.fields.Runs.{runs_none, runs_append}
use Rattle.add_input.specs.Given.{marred}
use Rattle.add_input.proofs.Front.{given-tail, size, onward, one-run}

-- the fields before the place `pos` are neither ID nor repeated, and what is left is still to be read
pub record Going (src : List ℕ) (pos : ℕ) : Type 0 where
  pub fields : List Field
  pub within : pos ≤ length src
  pub done : Runs 0 (take pos src) fields
  pub left : given src ≡ prepend fields (tail_scan Program pos (drop pos src))
  pub no-id : any (tagged 73 68) fields ≡ false
  pub once : repeats fields ≡ false

pub going_start : (src : List ℕ) → Going src 0
unfolding prepend any repeats
going_start src = record { fields = []; within = omega arith; done = runs_none 0; left = given-tail src; no-id = refl; once = refl }

-- ---- what is wrong with fields

-- a refusal
marred-stop : (fs : List Field) (n : ℕ) → (n ≡ 0 → ⊥) → marred (prepend fs (record { fields = []; stop = n })) ≡ true
unfolding marred prepend
marred-stop fs n m = rw (ne_eqb n 0 m) refl

-- ID, or a tag twice, whatever follows
marred-id : (fs : List Field) (s : Scan) → any (tagged 73 68) fs ≡ true → marred (prepend fs s) ≡ true
unfolding marred prepend
marred-id fs s h =
    ap (λ t. not (eqb s.stop 0) || t || repeats (fs ++ s.fields)) (any_append (tagged 73 68) fs s.fields ∙ ap (λ t. t || any (tagged 73 68) s.fields) h)
    ∙ ap (λ t. t || repeats (fs ++ s.fields)) (or-true (not (eqb s.stop 0)))

marred-twice : (fs : List Field) (s : Scan) → repeats fs ≡ true → marred (prepend fs s) ≡ true
unfolding marred prepend
marred-twice fs s h =
    ap (λ t. not (eqb s.stop 0) || any (tagged 73 68) (fs ++ s.fields) || t) (repeats-more fs s.fields h)
    ∙ or-true (not (eqb s.stop 0) || any (tagged 73 68) (fs ++ s.fields))

-- ---- a step

module _ (src : List ℕ) (pos : ℕ) (w : Going src pos) where
  -- all is read
  pub turn_end : length src ≤ pos → marred (given src) ≡ false
  unfolding marred prepend tail_scan
  turn_end h =
      ap marred (w.left ∙ ap (λ l. prepend w.fields (tail_scan Program pos l)) (drop_of_length-le src h))
      ∙ rw (append-nil w.fields, w.no-id, w.once) refl

  -- a byte that is not a tab is where one must be
  pub turn-other : pos < length src → (get_or src pos 0 ≡ 9 → ⊥) → marred (given src) ≡ true
  unfolding tail_scan
  turn-other h n =
      ap marred (w.left ∙ ap (λ l. prepend w.fields (tail_scan Program pos l)) (drop-cons src pos 0 h) ∙ rw (ne_eqb _ _ n) refl)
      ∙ marred-stop w.fields 6 (λ e. omega arith)

  module _ (h : pos < length src) (tab : get_or src pos 0 ≡ 9) where
    tail : drop pos src ≡ 9 ∷ drop (pos + 1) src
    tail = drop-cons src pos 0 h ∙ rw (tab, add-one pos) refl

    opened : given src ≡ prepend w.fields (tail_scan Program pos (9 ∷ drop (pos + 1) src))
    opened = w.left ∙ ap (λ l. prepend w.fields (tail_scan Program pos l)) tail

    -- a field is refused
    pub turn-refused : (n : ℕ) → tail_scan Program pos (9 ∷ drop (pos + 1) src) ≡ record { fields = []; stop = n } → (n ≡ 0 → ⊥) → marred (given src) ≡ true
    turn-refused n e m = ap marred (opened ∙ ap (prepend w.fields) e) ∙ marred-stop w.fields n m

    module _ (g : ParsedField) (t : Turned Program pos (drop (pos + 1) src) g) where
      len : g.len ≡ length t.field.value.bytes
      len = (turn-shown Program pos (drop (pos + 1) src) g t).len

      end : pos + suc (size pos (drop (pos + 1) src) g t) ≡ pos + 4 + g.len
      end = omega (arith, len)

      pub next-within : pos + 4 + g.len ≤ length src
      next-within = omega (arith, len, t.within, upto_le 9 (drop (pos + 1) src), length-drop (pos + 1) src)

      -- what may not follow the fields before: ID, and the tags among them
      barred : is_key Program g.tag_0 g.tag_1 || occurs g.tag_0 g.tag_1 (take pos src)
          ≡ tagged 73 68 t.field || any (tagged t.field.tag₀ t.field.tag₁) w.fields
      unfolding is_key tagged
      barred =
          let s = turn-shown Program pos (drop (pos + 1) src) g t in
          rw (s.first, s.second, w.done.spells, occurs-fields t.field.tag₀ t.field.tag₁ w.fields w.done.clean) refl

      left : given src ≡ prepend (w.fields ++ (t.field ∷ [])) (tail_scan Program (pos + 4 + g.len) (drop (pos + 4 + g.len) src))
      left =
          let n : ℕ = size pos (drop (pos + 1) src) g t in
          let e : pos + 1 + n ≡ pos + 4 + g.len = omega (arith, len) in
          opened
          ∙ ap (prepend w.fields) (onward pos (drop (pos + 1) src) g t)
          ∙ prepend-prepend w.fields (t.field ∷ []) (tail_scan Program (pos + suc n) (drop n (drop (pos + 1) src)))
          ∙ rw (drop-drop n (pos + 1) src, e, end) refl

      -- a field that may not follow
      pub turn-barred : is_key Program g.tag_0 g.tag_1 || occurs g.tag_0 g.tag_1 (take pos src) ≡ true → marred (given src) ≡ true
      turn-barred e =
          let fs : List Field = w.fields ++ (t.field ∷ []) in
          let s : Scan = tail_scan Program (pos + 4 + g.len) (drop (pos + 4 + g.len) src) in
          or_split (tagged 73 68 t.field) (any (tagged t.field.tag₀ t.field.tag₁) w.fields) (sym barred ∙ e)
          (λ y.
          ap marred left
          ∙ marred-id fs s (any_snoc (tagged 73 68) w.fields t.field ∙ ap (λ u. any (tagged 73 68) w.fields || u) y ∙ or-true (any (tagged 73 68) w.fields)))
          (λ y. ap marred left ∙ marred-twice fs s (repeats-snoc w.fields t.field ∙ ap (λ u. u || repeats w.fields) y))

      -- the bytes up to the next place
      region : take (pos + 4 + g.len) src ≡ take pos src ++ (9 ∷ take (size pos (drop (pos + 1) src) g t) (drop (pos + 1) src))
      region =
          let n : ℕ = size pos (drop (pos + 1) src) g t in
          ap (λ k. take k src) (sym end) ∙ take-add pos (suc n) src ∙ ap (λ l. take pos src ++ take (suc n) l) tail

      -- one that may
      pub going : is_key Program g.tag_0 g.tag_1 || occurs g.tag_0 g.tag_1 (take pos src) ≡ false → Going src (pos + 4 + g.len)
      going e =
          let f : Field = t.field in
          let i : Bool = tagged 73 68 f in
          let a : Bool = any (tagged f.tag₀ f.tag₁) w.fields in
          let n : ℕ = size pos (drop (pos + 1) src) g t in
          let b : i || a ≡ false = sym barred ∙ e in
          let q : pos ≡ 0 + length (take pos src) = omega (arith, length-take-le pos src w.within) in
          let one : Runs (0 + length (take pos src)) (9 ∷ take n (drop (pos + 1) src)) (f ∷ []) = subst (λ k. Runs k (9 ∷ take n (drop (pos + 1) src)) (f ∷ [])) q (one-run pos (drop (pos + 1) src) g t) in
          record {
            fields = w.fields ++ (f ∷ []);
            within = next-within;
            done = rw region (runs_append 0 (take pos src) (9 ∷ take n (drop (pos + 1) src)) w.fields (f ∷ []) w.done one);
            left = left;
            no-id = any_snoc (tagged 73 68) w.fields f ∙ ap (λ u. u || tagged 73 68 f) w.no-id ∙ or_left i a b;
            once = repeats-snoc w.fields f ∙ ap (λ u. u || repeats w.fields) (or_right i a b) ∙ w.once;
          }
