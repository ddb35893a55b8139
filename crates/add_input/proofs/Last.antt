-- The last PP of given fields in form, one field after another: what holds at a place, and one step from there.
use Prim.Native.Nat.{ℕ, suc, ◌+◌, ◌-◌, ◌≤◌, ◌<◌}
use mathlib.Core.Path.{◌≡◌, refl, sym, ap, subst, ◌∙◌}
use mathlib.Core.Bool.{true, false, ◌&&◌}
use mathlib.Core.List.{List, [], ◌∷◌}
use mathlib.Core.Option as maybe
use mathlib.Core.Option.{none, some}
use Rattle.std.specs.Prelude.{Option, Some, None}
use Rattle.record.specs.declared.Stretch.{Stretch}
use native.Mathlib.Omega.{arith}
use lib.ListN.{length, drop, get_or, length-drop, drop_of_length-le}
use lib.Seq.{drop-drop, get_or-drop}
use lib.Dec.{eqb}
use Rattle.format.specs.Lines.{Piece}
use Rattle.format.specs.Fields.{Field, tagged, Scan, later, last_of}
use Rattle.format.specs.Adding.{given}
use Rattle.format.specs.declared.Kind.TheVariants.{Program}
use Rattle.byte_slices.specs.Upto.{upto}
use Rattle.byte_slices.proofs.Lines.{upto_le}
use Rattle.field.specs.declared.ParsedField.{ParsedField}
use Rattle.record_parser.proofs.FieldByField.{tail_scan, prepend}
use Rattle.record_parser.proofs.Walked.{Turned}
use Rattle.add_input.specs.Given.{given_of}
use Rattle.add_input.proofs.Front as fr
use Rattle.add_input.proofs.Front.{Front, front, given-tail, size, place, onward, whole}

-- a later value, or else `v`
unfoldable pub or_given : Option Stretch → maybe.Option Piece → Option Stretch
unfolding given_of
or_given v none = v
or_given v (some p) = given_of (some p)

-- what is left from the place `pos` on is in form, and its last PP, or else `last`, is that of all fields
pub record Seeking (src : List ℕ) (last : Option Stretch) (pos : ℕ) : Type 0 where
  pub within : pos ≤ length src
  pub formed : (tail_scan Program pos (drop pos src)).stop ≡ 0
  pub left : given_of (last_of 80 80 (given src).fields) ≡ or_given last (last_of 80 80 (tail_scan Program pos (drop pos src)).fields)

pub seeking-start : (src : List ℕ) → (given src).stop ≡ 0 → Seeking src None 0
seeking-start src h = record {
  within = omega arith;
  formed = sym (ap (λ s. s.stop) (given-tail src)) ∙ h;
  left = ap (λ s. given_of (last_of 80 80 s.fields)) (given-tail src) ∙ nothing (last_of 80 80 (tail_scan Program 0 src).fields);
}
  where
    nothing : (o : maybe.Option Piece) → given_of o ≡ or_given None o
    nothing none = unfold given_of or_given in refl
    nothing (some p) = unfold or_given in refl

-- ---- the field at a place

-- it starts with the tab there
record Field-at (src : List ℕ) (pos : ℕ) : Type 0 where
  tail : drop pos src ≡ 9 ∷ drop (pos + 1) src
  read : ParsedField
  turned : Turned Program pos (drop (pos + 1) src) read

module _ (src : List ℕ) (last : Option Stretch) (pos : ℕ) (w : Seeking src last pos) where
  -- all is read
  pub seeking-end : length src ≤ pos → last ≡ given_of (last_of 80 80 (given src).fields)
  unfolding tail_scan last_of or_given
  seeking-end h = sym (w.left ∙ ap (λ l. or_given last (last_of 80 80 (tail_scan Program pos l).fields)) (drop_of_length-le src h))

  module _ (h : pos < length src) where
    here : Field-at src pos
    here = go (drop pos src) (front pos (drop pos src)) refl
      where
        go : (l : List ℕ) → Front pos l → drop pos src ≡ l → Field-at src pos
        go l fr.ends e = absurd (omega (arith, ap length e, length-drop pos src))
        go l (fr.stops n m k) e = absurd (m (sym (ap (λ s. s.stop) (ap (tail_scan Program pos) e ∙ k)) ∙ w.formed))
        go l (fr.starts r g t) e =
            let q : r ≡ drop (pos + 1) src = sym (ap (drop 1) e) ∙ drop-drop 1 pos src in
            record { tail = e ∙ ap (λ l. 9 ∷ l) q; read = g; turned = subst (λ l. Turned Program pos l g) q t }

    abbrev f : Field
    f = here.turned.field

    abbrev n : ℕ
    n = size pos (drop (pos + 1) src) here.read here.turned

    opened : tail_scan Program pos (drop pos src) ≡ prepend (f ∷ []) (tail_scan Program (pos + suc n) (drop n (drop (pos + 1) src)))
    opened = ap (tail_scan Program pos) here.tail ∙ onward pos (drop (pos + 1) src) here.read here.turned

    -- its value goes up to the next tab
    ends : n ≡ upto 9 (drop (pos + 1) src)
    unfolding prepend
    ends = whole pos (drop (pos + 1) src) here.read here.turned (sym (ap (λ s. s.stop) opened) ∙ w.formed)

    tag : eqb (get_or src (pos + 1) 0) 80 && eqb (get_or src (pos + 2) 0) 80 ≡ tagged 80 80 f
    unfolding tagged
    tag =
        let k = here.turned.kept in
        let p : pos + 1 + 0 ≡ pos + 1 = omega arith in
        let q : pos + 1 + 1 ≡ pos + 2 = omega arith in
        rw (k.first, k.second, get_or-drop (pos + 1) src 0 0, get_or-drop (pos + 1) src 1 0, p, q) refl

    -- ---- the place after it

    module _ (end : ℕ) (q : end ≡ pos + 1 + upto 9 (drop (pos + 1) src)) where
      pub bounds : (pos + 4 ≤ end) × (end ≤ length src)
      bounds = (omega (arith, ends), omega (arith, upto_le 9 (drop (pos + 1) src), length-drop (pos + 1) src))

      abbrev others : Scan
      others = tail_scan Program end (drop end src)

      first : tail_scan Program pos (drop pos src) ≡ prepend (f ∷ []) others
      first =
          let e : pos + suc n ≡ end = omega (arith, ends) in
          let d : pos + 1 + n ≡ end = omega (arith, ends) in
          opened ∙ rw (drop-drop n (pos + 1) src, e, d) refl

      next : (v : Option Stretch) → or_given last (last_of 80 80 (f ∷ others.fields)) ≡ or_given v (last_of 80 80 others.fields) → Seeking src v end
      unfolding prepend
      next v e = record {
        within = bounds.1;
        formed = sym (ap (λ s. s.stop) first) ∙ w.formed;
        left = w.left ∙ ap (λ s. or_given last (last_of 80 80 s.fields)) first ∙ e;
      }

      -- it is a PP: the last so far
      pub seeking-same : eqb (get_or src (pos + 1) 0) 80 && eqb (get_or src (pos + 2) 0) 80 ≡ true → Seeking src (Some (record { at = pos + 4; len = end - (pos + 4) })) end
      unfolding last_of
      seeking-same h =
          let l : end - (pos + 4) ≡ length f.value.bytes = omega (arith, ends) in
          next (Some (record { at = pos + 4; len = end - (pos + 4) }))
          (rw (sym tag ∙ h, l, ← place pos (drop (pos + 1) src) here.read here.turned) (go (last_of 80 80 others.fields)))
        where
          go : (o : maybe.Option Piece) → or_given last (later (some f.value) o) ≡ or_given (Some (record { at = f.value.at; len = length f.value.bytes })) o
          go none = unfold later or_given given_of in refl
          go (some p) = unfold later or_given in refl

      -- it is not
      pub seeking-other : eqb (get_or src (pos + 1) 0) 80 && eqb (get_or src (pos + 2) 0) 80 ≡ false → Seeking src last end
      unfolding last_of
      seeking-other h = next last (rw (sym tag ∙ h) (go (last_of 80 80 others.fields)))
        where
          go : (o : maybe.Option Piece) → or_given last (later none o) ≡ or_given last o
          go none = unfold later in refl
          go (some p) = unfold later in refl
