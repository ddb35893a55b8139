-- A line's fields, one piece after another: what is read before a place, and what is left from it on.
use Prim.Native.Nat.{ℕ, zero, suc, ◌+◌, ◌<◌}
use mathlib.Core.Path.{◌≡◌, refl, sym, ap, ◌∙◌}
use mathlib.Core.Bool.{Bool, true, false, ◌&&◌, cond}
use mathlib.Core.List.{List, [], ◌∷◌, ◌++◌, append_assoc, append-nil}
use mathlib.Core.Logic.{⊎_elim}
use native.Mathlib.Omega.{arith}
use lib.ListN.{length, drop, get_or, drop_of_length-le}
use lib.Seq.{drop-cons}
use lib.Dec.{eqb}
use borrow.Author.Tests.{ne_eqb, eqb-false}
use Rattle.format.specs.Lines.{cut, placed}
use Rattle.format.specs.Fields.{Field, repeats, refused_piece, good, good_then, Scan, scan, onward, field}
use Rattle.format.specs.Records.{refused_line, made, stopped, judged, fielded}
use Rattle.format.specs.declared.Kind.{Kind}
use Rattle.format.specs.declared.Kind.TheVariants.{Header, ReferenceSequence, ReadGroup, Program, Comment}
use Rattle.byte_slices.specs.Upto.{upto, before}
use Rattle.byte_slices.proofs.Before.{upto-at, upto-cases}
use Rattle.byte_slices.proofs.Lines.{upto_le}
use Rattle.byte_slices.proofs.Pieces.{placed-last, placed-more}
use Rattle.accepted.proofs.Tags.{repeats-more}

-- the fields from a place on, where the line ends or a tab is due
unfoldable pub tail_scan : Kind → ℕ → List ℕ → Scan
unfolding scan placed cut
tail_scan k at [] = record { fields = []; stop = 0 }
tail_scan k at (b ∷ s) = cond (eqb b 9) (scan k (placed (at + 1) (cut 9 s))) (record { fields = []; stop = 6 })

unfoldable pub prepend : List Field → Scan → Scan
prepend fs s = record { fields = fs ++ s.fields; stop = s.stop }

-- ---- a line's body is what is left at its start

pub fielded-tail : (strict : Bool) (k : Kind) (at : ℕ) (s : List ℕ) → fielded strict k at s ≡ judged strict k (tail_scan k at s)
unfolding fielded tail_scan judged
fielded-tail strict k at [] = go strict k
  where
    go : (t : Bool) (k : Kind) → refused_line 15 ≡ cond (t && repeats []) (refused_line 14) (made k [])
    go true Header = refl
    go true ReferenceSequence = refl
    go true ReadGroup = refl
    go true Program = refl
    go true Comment = refl
    go false Header = refl
    go false ReferenceSequence = refl
    go false ReadGroup = refl
    go false Program = refl
    go false Comment = refl
fielded-tail strict k at (b ∷ s) = go (eqb b 9)
  where
    six : (u : Bool) → refused_line 6 ≡ cond (u && repeats []) (refused_line 14) (refused_line 6)
    six true = refl
    six false = refl

    go : (t : Bool) → cond t (judged strict k (scan k (placed (at + 1) (cut 9 s)))) (refused_line 6) ≡ judged strict k (cond t (scan k (placed (at + 1) (cut 9 s))) (record { fields = []; stop = 6 }))
    go true = refl
    go false = six strict

-- ---- one step

module _ (k : Kind) (at : ℕ) (s : List ℕ) where
  -- what is left after the first piece
  pub tail : Scan
  tail = tail_scan k (at + upto 9 s) (drop (upto 9 s) s)

  pub scan-first : scan k (placed at (cut 9 s)) ≡ onward (field k at (before 9 s)) tail
  unfolding scan tail tail_scan
  scan-first = ⊎_elim more last (upto-cases 9 s)
    where
      more : upto 9 s < length s → scan k (placed at (cut 9 s)) ≡ onward (field k at (before 9 s)) tail
      more h = ap (scan k) (placed-more 9 at s h) ∙ rw (drop-cons s (upto 9 s) 0 h, upto-at 9 s h) refl

      last : upto 9 s ≡ length s → scan k (placed at (cut 9 s)) ≡ onward (field k at (before 9 s)) tail
      last h = ap (scan k) (placed-last 9 at s h) ∙ rw (drop_of_length-le s {i = upto 9 s} (omega arith)) refl

-- no byte before the first `d` is `d`
pub upto-not : (d : ℕ) (s : List ℕ) (i : ℕ) → i < upto d s → get_or s i 0 ≡ d → ⊥
unfolding upto
upto-not d [] i h e = omega arith
upto-not d (b ∷ s) i h e = go (eqb b d) refl h i h e (upto-not d s)
  where
    go : (t : Bool) → eqb b d ≡ t → i < cond t 0 (suc (upto d s)) → (j : ℕ) → j < cond t 0 (suc (upto d s)) → get_or (b ∷ s) j 0 ≡ d
        → ((i : ℕ) → i < upto d s → get_or s i 0 ≡ d → ⊥) → ⊥
    go true q m j h e ih = omega arith
    go false q m zero h e ih = eqb-false b d q e
    go false q m (suc j) h e ih = ih j (omega arith) e

module _ (k : Kind) (at : ℕ) (s : List ℕ) where
  pub turn-bad : (n : ℕ) → field k (at + 1) (before 9 s) ≡ refused_piece n → tail_scan k at (9 ∷ s) ≡ record { fields = []; stop = n }
  unfolding tail_scan onward
  turn-bad n e = scan-first k (at + 1) s ∙ ap (λ j. onward j (tail k (at + 1) s)) e

  module _ (f : Field) (e : field k (at + 1) (before 9 s) ≡ good f) (u : 3 + length f.value.bytes ≡ upto 9 s) where
    pub turn-good : tail_scan k at (9 ∷ s) ≡ prepend (f ∷ []) (tail_scan k (at + 1 + (3 + length f.value.bytes)) (drop (3 + length f.value.bytes) s))
    unfolding tail_scan onward tail prepend
    turn-good = scan-first k (at + 1) s ∙ ap (λ j. onward j (tail k (at + 1) s)) e ∙ rw u refl

  module _ (f : Field) (e : field k (at + 1) (before 9 s) ≡ good_then f 6) (u : 3 + length f.value.bytes < upto 9 s) where
    pub turn-then : tail_scan k at (9 ∷ s) ≡ prepend (f ∷ []) (tail_scan k (at + 1 + (3 + length f.value.bytes)) (drop (3 + length f.value.bytes) s))
    unfolding tail_scan onward tail prepend
    turn-then =
        let h : 3 + length f.value.bytes < length s = omega (arith, upto_le 9 s) in
        scan-first k (at + 1) s ∙ ap (λ j. onward j (tail k (at + 1) s)) e
        ∙ rw (drop-cons s (3 + length f.value.bytes) 0 h, ne_eqb _ _ (upto-not 9 s (3 + length f.value.bytes) u)) refl

-- ---- what is judged with some fields read

module _ (k : Kind) (fs : List Field) where
  -- nothing is repeated, and reading stops
  pub judged-stop : (strict : Bool) (n : ℕ) → strict && repeats fs ≡ false → (n ≡ 0 → ⊥)
      → judged strict k (prepend fs (record { fields = []; stop = n })) ≡ refused_line n
  unfolding judged prepend stopped
  judged-stop strict zero h m = absurd (m refl)
  judged-stop strict (suc n) h m = rw (append-nil fs, h) refl

  -- a tag is repeated, whatever follows
  pub judged-twice : (gs : List Field) (n : ℕ) → repeats fs ≡ true → judged true k (prepend fs (record { fields = gs; stop = n })) ≡ refused_line 14
  unfolding judged prepend
  judged-twice gs n h = rw (repeats-more fs gs h) refl

  -- the line ends
  pub judged-end : (strict : Bool) → strict && repeats fs ≡ false → judged strict k (prepend fs (record { fields = []; stop = 0 })) ≡ made k fs
  unfolding judged prepend stopped
  judged-end strict h = rw (append-nil fs, h) refl

pub prepend-prepend : (fs gs : List Field) (s : Scan) → prepend fs (prepend gs s) ≡ prepend (fs ++ gs) s
unfolding prepend
prepend-prepend fs gs s = ap (λ l. record { fields = l; stop = s.stop }) (sym (append_assoc fs gs s.fields))
