-- The key of an accepted line ends where the next byte is below 32: a tab, the line's ending, or the end of the text.
use Prim.Native.Nat.{ℕ, zero, suc, ◌+◌, ◌-◌, ◌≤◌, ◌<◌}
use mathlib.Core.Path.{◌≡◌, refl, sym, ap, subst, ◌∙◌}
use mathlib.Core.Bool.{Bool, true, false, not, ◌&&◌, cond, false≢true}
use mathlib.Core.Logic.{⊎_elim}
use mathlib.Core.List.{List, [], ◌∷◌, ◌++◌, append_assoc}
use mathlib.Core.Option.{Option, none, some}
use native.Mathlib.Omega.{arith}
use lib.ListN.{length, take, drop, get_or, length-drop, drop_of_length-le, take-append-drop}
use lib.Seq.{drop-cons, drop-drop, length-take-le}
use lib.Dec.{ltb, leb, eqb}
use borrow.Author.Tests.{lt-ltb, le-ltb, leb-true, eqb-true, eqb-false}
use Rattle.format.specs.Bytes.{printable, all, none?}
use Rattle.format.specs.Lines.{Piece, chomp, cut, placed}
use Rattle.format.specs.Fields.{Field, is_value, last_of}
use Rattle.format.specs.Records.{Record, header, reference, group, program, comment, key, read, line}
use Rattle.format.specs.declared.Kind.{Kind}
use Rattle.byte_slices.specs.Upto.{upto, before}
use Rattle.byte_slices.specs.First.{first_line}
use Rattle.byte_slices.specs.Stands.{Stands, Each}
use Rattle.byte_slices.proofs.Before.{upto-cases, upto-at}
use Rattle.byte_slices.proofs.First.{first-whole, first_more, first-le, first-within, chomp-one, chomp-at}
use Rattle.byte_slices.proofs.Stands.{each-piece}
use Rattle.accepted.specs.Sound.{KeyIsValue}
use Rattle.accepted.specs.Spelled as sp
use Rattle.accepted.specs.Spelled.{Good, Made, Spelled, AcceptedLine, kind₀, kind₁}
use Rattle.accepted.specs.Pieces.{pieces}
use Rattle.lists.proofs.Bools.{and_left, and_right}
use Rattle.accepted.proofs.Clean.{between-bounds}
use Rattle.accepted.proofs.Fields.{Of, last_of-of}
use Rattle.lists.proofs.Pairs.{pairs-right}
use Rattle.accepted.proofs.Spelled.{line-accepted}
use Rattle.accepted.proofs.Sound.{line-sound}
use Rattle.key_at.specs.Word.{word}
use Rattle.accepted.specs.Ended.{Ended}

-- ---- the key at a place

pub word-stops : (t : List ℕ) (at : ℕ) → at < length t → get_or t at 0 < 32 → word (drop at t) ≡ []
unfolding word
word-stops t at h b = rw (drop-cons t at 0 h, lt-ltb (get_or t at 0) 32 b) refl

word_none : (t : List ℕ) (at : ℕ) → length t ≤ at → word (drop at t) ≡ []
unfolding word
word_none t at h = rw (drop_of_length-le t h) refl

-- a value, and after it nothing that a key goes on with
word_value : (v tail : List ℕ) → all printable v ≡ true → word tail ≡ [] → word (v ++ tail) ≡ v
unfolding word all printable
word_value [] tail h e = e
word_value (b ∷ v) tail h e =
    let l : 32 ≤ b = (between-bounds 32 126 b (and_left (printable b) (all printable v) h)).0 in
    rw (le-ltb b 32 l) (ap (λ r. b ∷ r) (word_value v tail (and_right (printable b) (all printable v) h) e))

word_two : (a b : List ℕ) → word a ≡ [] → word b ≡ [] → word (a ++ b) ≡ []
unfolding word
word_two [] b e f = f
word_two (c ∷ a) b e f = go (ltb c 32) e
  where
    go : (t : Bool) → cond t [] (c ∷ word a) ≡ [] → cond t [] (c ∷ word (a ++ b)) ≡ []
    go true e = refl
    go false e = absurd (let z : suc (length (word a)) ≡ 0 = ap length e in omega (arith, z))

drop-append : (i : ℕ) (a b : List ℕ) → i ≤ length a → drop i (a ++ b) ≡ drop i a ++ b
drop-append zero a b h = refl
drop-append (suc i) [] b h = absurd (omega (arith, h))
drop-append (suc i) (c ∷ a) b h = drop-append i a b (omega (arith, h))

-- ---- a piece, and what comes after it

-- `p` is in `s`, whose first byte has the offset `at`, and after it no key goes on
record Parted (s : List ℕ) (at : ℕ) (p : Piece) : Type 0 where
  from : at ≤ p.at
  within : p.at - at ≤ length s
  tail : List ℕ
  cut : drop (p.at - at) s ≡ p.bytes ++ tail
  stops : word tail ≡ []

parted-onward : (s : List ℕ) (at n : ℕ) → n ≤ length s → (p : Piece) → Parted (drop n s) (at + n) p → Parted s at p
parted-onward s at n h p k =
    let e : n + (p.at - (at + n)) ≡ p.at - at = omega (arith, k.from) in
    record {
      from = omega (arith, k.from);
      within = omega (arith, k.from, k.within, length-drop n s);
      tail = k.tail;
      cut = ap (λ m. drop m s) (sym e) ∙ sym (drop-drop (p.at - (at + n)) n s) ∙ k.cut;
      stops = k.stops;
    }

piece-parted : (s : List ℕ) (at : ℕ) → Parted s at (record { at = at; bytes = before 9 s })
unfolding before
piece-parted s at =
    let z : at - at ≡ 0 = omega arith in
    record {
      from = omega arith;
      within = omega arith;
      tail = drop (upto 9 s) s;
      cut = ap (λ m. drop m s) z ∙ sym (take-append-drop (upto 9 s) s);
      stops = ⊎_elim (λ h. word-stops s (upto 9 s) h (omega (arith, upto-at 9 s h))) (λ h. word_none s (upto 9 s) (omega (arith, h))) (upto-cases 9 s);
    }

pieces-parted : (at : ℕ) (s : List ℕ) → Each (Parted s at) (placed at (cut 9 s))
pieces-parted = each-piece Parted parted-onward 9 piece-parted

-- a field's value
value-parted : (s : List ℕ) (at : ℕ) (k : Kind) (p : Piece) (f : Field) → Parted s at p → Good k p.at p.bytes f → Parted s at f.value
value-parted s at k p f h g =
    let e : p.at - at + 3 ≡ f.value.at - at = omega (arith, h.from, g.place) in
    let c : drop (p.at - at) s ≡ (f.tag₀ ∷ f.tag₁ ∷ 58 ∷ f.value.bytes) ++ h.tail = h.cut ∙ ap (λ b. b ++ h.tail) g.spells in
    record {
      from = omega (arith, h.from, g.place);
      within = omega (arith, e, ap length c, length-drop (p.at - at) s);
      tail = h.tail;
      cut = ap (λ m. drop m s) (sym e) ∙ sym (drop-drop 3 (p.at - at) s) ∙ ap (drop 3) c;
      stops = h.stops;
    }

-- ---- a line's key

unfoldable KeyParted : List ℕ → ℕ → Option Piece → Type 0
KeyParted s at none = Unit
KeyParted s at (some p) = Parted s at p

fields-parted : (strict : Bool) (at : ℕ) (s : List ℕ) (r : Record) (a : Spelled strict at s r) → Each (λ f. Parted s at f.value) a.fields
fields-parted strict at s r a = rw a.spells (
    pairs-right (λ p f. Good k p.at p.bytes f) (Parted a.rest (at + 4)) (λ f. Parted whole at f.value) one
    (placed (at + 4) (cut 9 a.rest)) a.fields (pieces-parted (at + 4) a.rest) a.each)
  where
    k : Kind
    k = a.kind

    whole : List ℕ
    whole = 64 ∷ kind₀ k ∷ kind₁ k ∷ 9 ∷ a.rest

    one : (p : Piece) (f : Field) → Parted a.rest (at + 4) p → Good k p.at p.bytes f → Parted whole at f.value
    one p f h g = parted-onward whole at 4 (omega arith) f.value (value-parted a.rest (at + 4) k p f h g)

one-parted : (s : List ℕ) (at : ℕ) (fs : List Field) → Each (λ f. Parted s at f.value) fs → (a b : ℕ) (p : Piece) → last_of a b fs ≡ some p → Parted s at p
one-parted s at fs each a b p e =
    let o : Of (λ f. Parted s at f.value) a b p = last_of-of (λ f. Parted s at f.value) a b fs p each e in
    subst (Parted s at) o.value o.holds

made-parted : (s : List ℕ) (at : ℕ) (fs : List Field) (k : Kind) (r : Record) → Each (λ f. Parted s at f.value) fs → Made fs k r → KeyParted s at (key r)
unfolding KeyParted key
made-parted s at fs k r h (sp.of-header p v e g) = tt
made-parted s at fs k r h (sp.of-reference p n e g) = one-parted s at fs h 83 78 p e
made-parted s at fs k r h (sp.of-group p e) = one-parted s at fs h 73 68 p e
made-parted s at fs k r h (sp.of-program p e) = one-parted s at fs h 73 68 p e

accepted-parted : (strict : Bool) (at : ℕ) (s : List ℕ) (r : Record) → AcceptedLine strict at s r → KeyParted s at (key r)
unfolding KeyParted key
accepted-parted strict at s r (sp.of-remark t) = tt
accepted-parted strict at s r (sp.of_fields a) = made-parted s at a.fields a.kind r (fields-parted strict at s r a) a.made

-- ---- a line in its text

-- no key goes on after a line
line-stops : (s : List ℕ) → word (drop (first_line s).len s) ≡ []
line-stops s = ⊎_elim more (λ h. rw (first-whole s h) (word_none s (length s) (omega arith))) (upto-cases 10 s)
  where
    more : upto 10 s < length s → word (drop (first_line s).len s) ≡ []
    more h = rw (first_more s h) (go (upto 10 s) refl)
      where
        lf : get_or s (upto 10 s) 0 ≡ 10
        lf = upto-at 10 s h

        pick : (t : Bool) (m : ℕ) → upto 10 s ≡ suc m → eqb (get_or s m 0) 13 ≡ t → word (drop (length (cond t (take m s) (take (suc m) s))) s) ≡ []
        pick true m e q =
            let l : length (take m s) ≡ m = length-take-le m s (omega (arith, e, h)) in
            rw l (word-stops s m (omega (arith, e, h)) (omega (arith, eqb-true (get_or s m 0) 13 q)))
        pick false m e q =
            let l : length (take (suc m) s) ≡ suc m = length-take-le (suc m) s (omega (arith, e, h)) in
            rw l (word-stops s (suc m) (omega (arith, e, h)) (omega (arith, ap (λ j. get_or s j 0) (sym e) ∙ lf)))

        go : (m : ℕ) → upto 10 s ≡ m → word (drop (length (chomp (take (suc (upto 10 s)) s))) s) ≡ []
        go zero e =
            let o : chomp (take (suc (upto 10 s)) s) ≡ [] = ap (λ j. chomp (take (suc j) s)) e ∙ chomp-one s (omega (arith, h)) (ap (λ j. get_or s j 0) (sym e) ∙ lf) in
            rw o (word-stops s 0 (omega (arith, h)) (omega (arith, ap (λ j. get_or s j 0) (sym e) ∙ lf)))
        go (suc m) e =
            let z : upto 10 s - 1 ≡ m = omega (arith, e) in
            let o : chomp (take (suc (upto 10 s)) s) ≡ cond (eqb (get_or s m 0) 13) (take m s) (take (suc m) s) =
            chomp-at s (upto 10 s) h lf (λ q. absurd (omega (arith, e, q))) ∙ ap (λ j. cond (eqb (get_or s j 0) 13) (take j s) (take (upto 10 s) s)) z ∙ ap (λ j. cond (eqb (get_or s m 0) 13) (take m s) (take j s)) e in
            rw o (pick (eqb (get_or s m 0) 13) m e refl)

-- the key of the line at `at`
module _ (strict : Bool) (t : List ℕ) (at : ℕ) (r : Record) (small : length t ≤ 16777216)
    (is : line strict (record { at = at; bytes = take (first_line (drop at t)).len (drop at t) }) ≡ read r)
    (stand : Each (Stands t 0) (pieces r)) where
  bytes : List ℕ
  bytes = take (first_line (drop at t)).len (drop at t)

  behind : List ℕ
  behind = drop (first_line (drop at t)).len (drop at t)

  whole : drop at t ≡ bytes ++ behind
  unfolding bytes behind
  whole = sym (take-append-drop (first_line (drop at t)).len (drop at t))

  one : (p : Piece) → Parted bytes at p → is_value p.bytes ≡ true → Stands t 0 p → (p.at < 16777216) × (word (drop p.at t) ≡ p.bytes)
  unfolding is_value behind
  one p h v s =
      let e : at + (p.at - at) ≡ p.at = omega (arith, h.from) in (
        below p.bytes v s.within,
        ap (λ m. word (drop m t)) (sym e)
            ∙ ap word (sym (drop-drop (p.at - at) at t) ∙ ap (drop (p.at - at)) whole ∙ drop-append (p.at - at) bytes behind h.within ∙ ap (λ l. l ++ behind) h.cut ∙ append_assoc p.bytes h.tail behind)
            ∙ word_value p.bytes (h.tail ++ behind) (and_right (not (none? p.bytes)) (all printable p.bytes) v) (word_two h.tail behind h.stops (line-stops (drop at t))),
      )
    where
      below : (b : List ℕ) → is_value b ≡ true → p.at - 0 + length b ≤ length t → p.at < 16777216
      below [] v w = absurd (false≢true v)
      below (c ∷ b) v w = omega (arith, w, small)

  pub line-ended : Ended t r
  unfolding bytes KeyParted key Ended KeyIsValue pieces Each
  line-ended = go r (accepted-parted strict at bytes r (line-accepted strict (record { at = at; bytes = bytes }) r is)) (line-sound strict (record { at = at; bytes = bytes }) r is).named stand
    where
      go : (r : Record) → KeyParted bytes at (key r) → KeyIsValue (key r) → Each (Stands t 0) (pieces r) → Ended t r
      go (header v fs) h n s = tt
      go (reference p m fs) h n s = one p h n s.0
      go (group p fs) h n s = one p h n s.0
      go (program p fs) h n s = one p h n s.0
      go (comment p) h n s = tt
