-- The records that pruning keeps are gathered from the text.
use Prim.Native.Nat.{ℕ, ◌+◌, ◌≤◌}
use mathlib.Core.Path.{◌≡◌, refl, sym, ap, ◌∙◌}
use mathlib.Core.Bool.{Bool, true, false, not, ◌&&◌, ◌||◌, cond, false≢true}
use mathlib.Core.List.{List, [], ◌∷◌, ◌++◌}
use mathlib.Core.Option.{none, some}
use native.Mathlib.Omega.{arith}
use lib.ListN.{length, length-append}
use lib.Dec.{eqb, leb}
use borrow.Author.Tests.{leb-false, lt-leb}
use Rattle.format.specs.Bytes.{any, none?}
use Rattle.format.specs.Lines.{Piece, lines}
use Rattle.format.specs.Records.{Record, code}
use Rattle.format.specs.Reading.{read_text, accept, clash, of_kind, barred}
use Rattle.format.specs.Tidy.{is_writable, unwritable}
use Rattle.accepted.specs.Admits.{Unbarred}
use Rattle.accepted.proofs.Admits.{barred-clear}
use Rattle.lists.proofs.Bools.{never, any_snoc, or_left, or_right}
use Rattle.accepted.proofs.OfKind.{of_kind-append}
use Rattle.tidy_laws.specs.Gathered as ga
use Rattle.tidy_laws.specs.Gathered.{From, Gathered}
use Rattle.tidy_laws.proofs.Gathered.{text-gathered}
use Rattle.tidy_text.specs.Sifted.{sifted}

-- ---- lines

sifted-from : (p : ℕ → Bool) (k : ℕ) (ps : List Piece) (rs : List Record) → From ps rs → From ps (sifted p k rs)
unfolding sifted
sifted-from p k [] [] ga.end = ga.end
sifted-from p k [] (r ∷ rs) h = elim h [ ]
sifted-from p k (q ∷ ps) rs (ga.passed h) = ga.passed (sifted-from p k ps rs h)
sifted-from p k (q ∷ ps) (r ∷ rs) (ga.taken strict e h) = go (eqb (code r) 4) (p k) (sifted-from p (k + 1) ps rs h) (sifted-from p k ps rs h)
  where
    go : (t b : Bool) → From ps (sifted p (k + 1) rs) → From ps (sifted p k rs) → From (q ∷ ps) (cond t (cond b (r ∷ sifted p (k + 1) rs) (sifted p (k + 1) rs)) (r ∷ sifted p k rs))
    go true true f g = ga.taken strict e f
    go true false f g = ga.passed f
    go false b f g = ga.taken strict e g

-- ---- fewer records before one bar it less

record Fewer (a b : List Record) : Type 0 where
  empty : none? b ≡ true → none? a ≡ true
  clear : (r : Record) → any (clash r) b ≡ false → any (clash r) a ≡ false
  few : length (of_kind 4 a) ≤ length (of_kind 4 b)

some-snoc : (b : List Record) (r : Record) → none? (b ++ (r ∷ [])) ≡ false
unfolding none?
some-snoc [] r = refl
some-snoc (x ∷ b) r = refl

programs-snoc : (b : List Record) (r : Record) → length (of_kind 4 (b ++ (r ∷ []))) ≡ length (of_kind 4 b) + length (of_kind 4 (r ∷ []))
programs-snoc b r = ap length (of_kind-append 4 b (r ∷ [])) ∙ length-append (of_kind 4 b) (of_kind 4 (r ∷ []))

fewer-both : (a b : List Record) (r : Record) → Fewer a b → Fewer (a ++ (r ∷ [])) (b ++ (r ∷ []))
fewer-both a b r f = record {
  empty = λ e. absurd (false≢true (sym (some-snoc b r) ∙ e));
  clear = λ q e. let z = sym (any_snoc (clash q) b r) ∙ e in any_snoc (clash q) a r ∙ ap (λ t. t || clash q r) (f.clear q (or_left (any (clash q) b) (clash q r) z)) ∙ or_right (any (clash q) b) (clash q r) z;
  few = omega (arith, f.few, programs-snoc a r, programs-snoc b r);
}

fewer-more : (a b : List Record) (r : Record) → Fewer a b → Fewer a (b ++ (r ∷ []))
fewer-more a b r f = record {
  empty = λ e. absurd (false≢true (sym (some-snoc b r) ∙ e));
  clear = λ q e. f.clear q (or_left (any (clash q) b) (clash q r) (sym (any_snoc (clash q) b r) ∙ e));
  few = omega (arith, f.few, programs-snoc b r);
}

bars-none : (x y z : Bool) → x ≡ false → y ≡ false → z ≡ false → ◌≡◌ {A = ℕ} (cond x 17 (cond y 18 (cond z 19 0))) 0
bars-none x y z e f g = rw (e, f, g) refl

leads : (c x y : Bool) → (y ≡ true → x ≡ true) → c && not y ≡ false → c && not x ≡ false
leads false x y h e = refl
leads true x true h e = rw (h refl) refl
leads true x false h e = absurd (false≢true (sym e))

has_room : (c : Bool) (m n : ℕ) → m ≤ n → c && leb 1024 n ≡ false → c && leb 1024 m ≡ false
has_room false m n h e = refl
has_room true m n h e = lt-leb 1024 m (omega (arith, leb-false 1024 n e))

barred-fewer : (a b : List Record) (r : Record) → Fewer a b → barred b r ≡ 0 → barred a r ≡ 0
unfolding barred
barred-fewer a b r f e =
    let m = barred-clear b r e in
    bars-none (eqb (code r) 1 && not (none? a)) (any (clash r) a) (eqb (code r) 4 && leb 1024 (length (of_kind 4 a)))
    (leads (eqb (code r) 1) (none? a) (none? b) f.empty m.leading) (f.clear r m.apart) (has_room (eqb (code r) 4) (length (of_kind 4 a)) (length (of_kind 4 b)) f.few m.room)

sifted-unbarred : (p : ℕ → Bool) (k : ℕ) (a b rs : List Record) → Fewer a b → Unbarred b rs → Unbarred a (sifted p k rs)
unfolding Unbarred sifted
sifted-unbarred p k a b [] f u = tt
sifted-unbarred p k a b (r ∷ rs) f u = go (eqb (code r) 4) (p k)
    (sifted-unbarred p (k + 1) (a ++ (r ∷ [])) (b ++ (r ∷ [])) rs (fewer-both a b r f) u.1)
    (sifted-unbarred p (k + 1) a (b ++ (r ∷ [])) rs (fewer-more a b r f) u.1)
    (sifted-unbarred p k (a ++ (r ∷ [])) (b ++ (r ∷ [])) rs (fewer-both a b r f) u.1)
  where
    go : (t c : Bool) → Unbarred (a ++ (r ∷ [])) (sifted p (k + 1) rs) → Unbarred a (sifted p (k + 1) rs) → Unbarred (a ++ (r ∷ [])) (sifted p k rs)
        → Unbarred a (cond t (cond c (r ∷ sifted p (k + 1) rs) (sifted p (k + 1) rs)) (r ∷ sifted p k rs))
    go true true x y z = (barred-fewer a b r f u.0, x)
    go true false x y z = y
    go false c x y z = (barred-fewer a b r f u.0, z)

pub sifted-gathered : (t : List ℕ) (rs : List Record) → read_text t ≡ accept rs → (p : ℕ → Bool) → Gathered t (sifted p 0 rs)
sifted-gathered t rs e p =
    let g = text-gathered t rs e in
    record { from = sifted-from p 0 (lines t) rs g.from; unbarred = sifted-unbarred p 0 [] [] rs (record { empty = λ q. q; clear = λ r q. q; few = omega arith }) g.unbarred }

-- ---- names

-- what could be written can be still
pub sifted-names : (p : ℕ → Bool) (k l m : ℕ) (rs : List Record) → unwritable l rs ≡ none → unwritable m (sifted p k rs) ≡ none
unfolding unwritable sifted
sifted-names p k l m [] e = refl
sifted-names p k l m (r ∷ rs) e = go (is_writable r) refl e (eqb (code r) 4) (p k)
    (sifted-names p (k + 1) (l + 1) (m + 1) rs) (sifted-names p (k + 1) (l + 1) m rs) (sifted-names p k (l + 1) (m + 1) rs)
  where
    onto : (qs : List Record) → is_writable r ≡ true → unwritable (m + 1) qs ≡ none → unwritable m (r ∷ qs) ≡ none
    onto qs w e = unfold unwritable in rw w e

    go : (w : Bool) → is_writable r ≡ w → cond w (unwritable (l + 1) rs) (some l) ≡ none → (t c : Bool)
        → (unwritable (l + 1) rs ≡ none → unwritable (m + 1) (sifted p (k + 1) rs) ≡ none) → (unwritable (l + 1) rs ≡ none → unwritable m (sifted p (k + 1) rs) ≡ none) → (unwritable (l + 1) rs ≡ none → unwritable (m + 1) (sifted p k rs) ≡ none)
        → unwritable m (cond t (cond c (r ∷ sifted p (k + 1) rs) (sifted p (k + 1) rs)) (r ∷ sifted p k rs)) ≡ none
    go false w e t c x y z = absurd (never (cc))
    go true w e true true x y z = onto (sifted p (k + 1) rs) w (x e)
    go true w e true false x y z = y e
    go true w e false c x y z = onto (sifted p k rs) w (z e)
