-- The field at a place of a line: its bytes, the place after it, and what comes before and after that.
use Prim.Native.Nat.{ℕ, suc, ◌+◌, ◌-◌, ◌≤◌, ◌<◌}
use mathlib.Core.Path.{◌≡◌, refl, sym, ap, subst, ◌∙◌}
use mathlib.Core.Bool.{Bool, true, false, ◌&&◌, cond}
use mathlib.Core.List.{List, [], ◌∷◌, ◌++◌, append_assoc, append-nil}
use native.Mathlib.Omega.{arith}
use lib.ListN.{length, take, drop, get_or, length-append, length-drop, drop_of_length-le}
use lib.Seq.{drop-append_seam, take-append_seam, drop-drop, take-add, get_or-drop, length-take-le}
use lib.Dec.{eqb}
use Rattle.format.specs.Fields.{Field, repeats}
use Rattle.format.specs.Tidy.{field_text, fields_text}
use Rattle.byte_slices.specs.Upto.{upto}
use Rattle.accepted_line.specs.Run.{fields_of, Runs, fields_to, fields_from, AtField}
use Rattle.accepted_line.specs.Next.{field_length}
use Rattle.accepted_line.proofs.fields.Runs.{bytes_of, piece, piece-free, Opened, runs-open, runs_none, runs-more, runs_append}

-- bytes that are no tab, and then nothing or a tab
upto-piece : (w : List ℕ) (fs : List Field) → upto 9 w ≡ length w → upto 9 (w ++ fields_text fs) ≡ length w
unfolding upto fields_text
upto-piece [] [] h = refl
upto-piece [] (f ∷ fs) h = refl
upto-piece (c ∷ w) fs h = go (eqb c 9) h (upto-piece w fs)
  where
    go : (t : Bool) → cond t 0 (suc (upto 9 w)) ≡ suc (length w) → (upto 9 w ≡ length w → upto 9 (w ++ fields_text fs) ≡ length w)
        → cond t 0 (suc (upto 9 (w ++ fields_text fs))) ≡ suc (length w)
    go true h ih = absurd (omega arith)
    go false h ih = ap suc (ih (omega arith))

-- a field in its line: its tag, where its value ends, and the fields before and after it
pub record Here (strict : Bool) (at : ℕ) (line : List ℕ) (pos : ℕ) (f : Field) : Type 0 where
  pub tag-0 : get_or line (pos + 1) 0 ≡ f.tag₀
  pub tag-1 : get_or line (pos + 2) 0 ≡ f.tag₁
  pub place : f.value.at ≡ at + pos + 4
  pub size : field_length f ≡ 4 + length f.value.bytes
  pub end : pos + 1 + upto 9 (drop (pos + 1) line) ≡ pos + field_length f
  pub rest : fields_from at line pos ≡ f ∷ fields_from at line (pos + field_length f)
  pub done : fields_to at line (pos + field_length f) ≡ fields_to at line pos ++ (f ∷ [])
  pub next : AtField strict at line (pos + field_length f)

-- there is a field at a place
pub record Found (strict : Bool) (at : ℕ) (line : List ℕ) (pos : ℕ) : Type 0 where
  pub field : Field
  pub here : Here strict at line pos field

module _ (strict : Bool) (at : ℕ) (line : List ℕ) (pos : ℕ) (h : AtField strict at line pos) (f : Field) (fs : List Field) (e : fields_from at line pos ≡ f ∷ fs) where
  runs : Runs (at + pos) (drop pos line) (f ∷ fs)
  runs = subst (Runs (at + pos) (drop pos line)) e h.rest

  opened : Opened (at + pos) f fs
  opened = runs-open (at + pos) (drop pos line) f fs runs

  spelled : drop pos line ≡ bytes_of f ++ fields_text fs
  unfolding fields_text
  spelled = runs.spells

  byte : (i : ℕ) → get_or line (pos + i) 0 ≡ get_or (bytes_of f ++ fields_text fs) i 0
  byte i = sym (get_or-drop pos line i 0) ∙ ap (λ l. get_or l i 0) spelled

  ends : pos + 1 + upto 9 (drop (pos + 1) line) ≡ pos + field_length f
  unfolding field_text field_length
  ends =
      let q : drop (pos + 1) line ≡ piece f ++ fields_text fs = sym (drop-drop 1 pos line) ∙ ap (drop 1) spelled in
      omega (arith, ap (upto 9) q ∙ upto-piece (piece f) fs (piece-free f opened.clean))

  inside : pos + field_length f ≤ length line
  unfolding field_length
  inside = omega (arith, h.within, ap length spelled, length-drop pos line, length-append (bytes_of f) (fields_text fs))

  -- the fields after it
  onward : Runs (at + (pos + field_length f)) (drop (pos + field_length f) line) fs
  unfolding field_length
  onward =
      let q : at + (pos + field_length f) ≡ at + pos + field_length f = omega arith in
      let d : drop (pos + field_length f) line ≡ fields_text fs = sym (drop-drop (field_length f) pos line) ∙ ap (drop (field_length f)) spelled ∙ drop-append_seam (bytes_of f) (fields_text fs) in
      rw (q, d) opened.tail

  -- the bytes up to it, and its own
  before : take (pos + field_length f - 3) (drop 3 line) ≡ take (pos - 3) (drop 3 line) ++ bytes_of f
  unfolding field_length
  before =
      let q : pos + field_length f - 3 ≡ (pos - 3) + field_length f = omega (arith, h.from) in
      let p : 3 + (pos - 3) ≡ pos = omega (arith, h.from) in
      ap (λ n. take n (drop 3 line)) q
      ∙ take-add (pos - 3) (field_length f) (drop 3 line)
      ∙ ap (λ l. take (pos - 3) (drop 3 line) ++ take (field_length f) l) (drop-drop (pos - 3) 3 line ∙ ap (λ n. drop n line) p ∙ spelled)
      ∙ ap (λ l. take (pos - 3) (drop 3 line) ++ l) (take-append_seam (bytes_of f) (fields_text fs))

  passed : Runs (at + 3) (take (pos + field_length f - 3) (drop 3 line)) (fields_to at line pos ++ (f ∷ []))
  passed =
      let l : length (take (pos - 3) (drop 3 line)) ≡ pos - 3 = length-take-le (pos - 3) (drop 3 line) (omega (arith, h.within, length-drop 3 line)) in
      let q : at + pos ≡ at + 3 + length (take (pos - 3) (drop 3 line)) = omega (arith, h.from) in
      let one : Runs (at + pos) (bytes_of f) (f ∷ []) = rw (← append-nil (bytes_of f)) (runs-more (at + pos) f [] [] opened.clean opened.place (runs_none (at + pos + field_length f))) in
      rw before (runs_append (at + 3) (take (pos - 3) (drop 3 line)) (bytes_of f) (fields_to at line pos) (f ∷ []) h.done (subst (λ n. Runs n (bytes_of f) (f ∷ [])) q one))

  pub here : Here strict at line pos f
  unfolding field_text field_length
  here = record {
    tag-0 = byte 1;
    tag-1 = byte 2;
    place = opened.place;
    size = omega arith;
    end = ends;
    rest = e ∙ ap (λ l. f ∷ l) (sym onward.places);
    done = passed.places;
    next = record {
      from = omega (arith, h.from);
      within = inside;
      done = rw passed.places passed;
      rest = rw onward.places onward;
      once =
          ap (λ l. strict && repeats (l ++ fields_from at line (pos + field_length f))) passed.places
          ∙ ap (λ l. strict && repeats ((fields_to at line pos ++ (f ∷ [])) ++ l)) onward.places
          ∙ ap (λ l. strict && repeats l) (append_assoc (fields_to at line pos) (f ∷ []) fs)
          ∙ ap (λ l. strict && repeats (fields_to at line pos ++ l)) (sym e)
          ∙ h.once;
    };
  }

module _ (strict : Bool) (at : ℕ) (line : List ℕ) (pos : ℕ) (h : AtField strict at line pos) where
  -- a field starts wherever the line has not ended
  pub found : pos < length line → Found strict at line pos
  unfolding fields_text
  found l = go (fields_from at line pos) refl
    where
      go : (gs : List Field) → fields_from at line pos ≡ gs → Found strict at line pos
      go [] e = absurd (omega (arith, ap length (h.rest.spells ∙ ap fields_text e), length-drop pos line))
      go (f ∷ fs) e = record { field = f; here = here strict at line pos h f fs e }

  -- and none where it has
  pub ended : length line ≤ pos → fields_from at line pos ≡ []
  unfolding fields_of
  ended l = ap (fields_of (at + pos)) (drop_of_length-le line l)

  -- where no tag is repeated, repeats may as well be allowed
  pub laxly : AtField false at line pos
  laxly = record { from = h.from; within = h.within; done = h.done; rest = h.rest; once = refl }
