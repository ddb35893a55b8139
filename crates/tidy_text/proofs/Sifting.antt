-- One line further, by whether its record stays; and the text of the records that stay.
use Prim.Native.Nat.{ℕ, zero, suc, ◌+◌, ◌≤◌, ◌<◌}
use mathlib.Core.Path.{◌≡◌, refl, sym, ap, ap₂, subst, ◌∙◌}
use mathlib.Core.Bool.{Bool, true, false, cond, false≢true}
use mathlib.Core.List.{List, [], ◌∷◌}
use native.Mathlib.Omega.{arith}
use lib.ListN.{length, length-append, get_or}
use lib.Dec.{eqb}
use borrow.Author.Tests.{eqb-true, ne_eqb}
use Rattle.format.specs.Records.{Record, header, reference, group, program, comment, code, Line, refused_line, read, line}
use Rattle.format.specs.Tidy.{record_text, text, tidy, is_writable}
use Rattle.format.specs.declared.Kind.{Kind}
use Rattle.format.specs.declared.Kind.TheVariants.{Program}
use Rattle.byte_slices.specs.Over.{over}
use Rattle.accepted.specs.Read.{is_read}
use Rattle.lists.proofs.Bools.{never, split}
use Rattle.accepted_line.specs.Found.{kind_by}
use Rattle.tidy_line.specs.Line.{line_text, line_writable}
use Rattle.tidy_sizes.specs.Numbers.{kind_number, get, plus}
use Rattle.tidy_sizes.specs.declared.PerKind.{PerKind}
use Rattle.tidy_text.specs.Accepted.{with_record}
use Rattle.tidy_text.specs.Kinds.{kind_text}
use Rattle.tidy_text.specs.Sizes.{grown_by}
use Rattle.tidy_text.specs.Placed.{with_parts, parts, Apart}
use Rattle.std.specs.Prelude.{Some, None}
use Rattle.tidy_text.proofs.OfKind.{only, line-kind}
use Rattle.tidy_text.proofs.Names.{grew-bad, grew-is, cond-is}
use Rattle.tidy_text.proofs.Parts.{split-turn}
use Rattle.tidy_text.proofs.Placed.{Split}
use Rattle.tidy_text.proofs.Sizes.{size-turn, own-size}
use Rattle.tidy_text.proofs.Total.{size, tidy-total}
use Rattle.tidy_text.specs.declared.Stay.{Stay}
use Rattle.tidy_text.specs.Sifted.{is_marked, sifted, stay_by, is_program_line, grown_if, places_if, written_if}

-- ---- is a line a program's?

unfoldable pub is-pg : Line → Bool
unfolding code
is-pg (refused_line n) = false
is-pg (read r) = eqb (code r) 4

kind-pg : (b : ℕ) → eqb (kind_number (kind_by b)) 4 ≡ eqb b 80
unfolding kind_by kind_number
kind-pg b =
    split (eqb b 72) (λ e. rw (e, ne_eqb b 80 (λ z. omega (arith, eqb-true b 72 e))) refl) (λ e.
    split (eqb b 83) (λ f. rw (e, f, ne_eqb b 80 (λ z. omega (arith, eqb-true b 83 f))) refl) (λ f.
    split (eqb b 82) (λ g. rw (e, f, g, ne_eqb b 80 (λ z. omega (arith, eqb-true b 82 g))) refl) (λ g.
    split (eqb b 80) (λ h. rw (e, f, g, h) refl) (λ h. rw (e, f, g, h) refl))))

starts-at : (r : Record) → get_or (record_text r) 0 0 ≡ 64
unfolding record_text
starts-at (header v fs) = refl
starts-at (reference p n fs) = refl
starts-at (group p fs) = refl
starts-at (program p fs) = refl
starts-at (comment p) = refl

same-choice : (a b : Bool) (xs : List ℕ) → get_or xs 0 0 ≡ 64 → cond a xs [] ≡ cond b xs [] → a ≡ b
same-choice true true xs h e = refl
same-choice true false xs h e = absurd (omega (arith, h, ap (λ l. get_or l 0 0) e))
same-choice false true xs h e = absurd (omega (arith, h, ap (λ l. get_or l 0 0) e))
same-choice false false xs h e = refl

-- its second byte determines it
pub line-pg : (strict : Bool) (at : ℕ) (s : List ℕ) → is_read (line strict (record { at = at; bytes = s })) ≡ true → is-pg (line strict (record { at = at; bytes = s })) ≡ is_program_line s
unfolding is-pg kind_text line_text kind_number is_read
line-pg strict at s h = go (line strict (record { at = at; bytes = s })) h (line-kind strict at s h Program) ∙ kind-pg (get_or s 1 0)
  where
    go : (l : Line) → is_read l ≡ true → kind_text Program l ≡ only (kind_by (get_or s 1 0)) (line_text l) Program → is-pg l ≡ eqb (kind_number (kind_by (get_or s 1 0))) 4
    go (refused_line n) q e = absurd (never (cc))
    go (read r) q e = same-choice (eqb (code r) 4) (eqb (kind_number (kind_by (get_or s 1 0))) 4) (record_text r) (starts-at r) e

-- ---- a mark

-- a program that has a mark is marked by it
pub mark-at : (marks : List Bool) (k : ℕ) → k < length marks → get_or marks k false ≡ is_marked marks k
unfolding is_marked
mark-at [] k h = absurd (omega arith)
mark-at (m ∷ marks) zero h = refl
mark-at (m ∷ marks) (suc k) h = mark-at marks k (omega arith)

-- ---- one line further

-- what does not stay can be written
stays-or-writes : (marks : List Bool) (k : ℕ) (l : Line) → is_read l ≡ true → (s : Stay) → s ≡ stay_by (is-pg l) marks k → s.stays ≡ false → line_writable l ≡ true
unfolding is-pg stay_by is_read line_writable is_writable code
stays-or-writes marks k (refused_line n) q s e f = absurd (never (cc))
stays-or-writes marks k (read (header v fs)) q s e f = refl
stays-or-writes marks k (read (reference p n fs)) q s e f = absurd (false≢true (sym f ∙ ap (λ x. x.stays) e))
stays-or-writes marks k (read (group p fs)) q s e f = refl
stays-or-writes marks k (read (program p fs)) q s e f = refl
stays-or-writes marks k (read (comment p)) q s e f = refl

sift-onto : (marks : List Bool) (k : ℕ) (l : Line) (rs : List Record) → is_read l ≡ true → (s : Stay) → s ≡ stay_by (is-pg l) marks k
    → sifted (is_marked marks) k (with_record l rs) ≡ cond s.stays (with_record l (sifted (is_marked marks) s.next rs)) (sifted (is_marked marks) s.next rs)
unfolding sifted with_record stay_by is-pg is_read
sift-onto marks k (refused_line n) rs q s e = absurd (never (cc))
sift-onto marks k (read r) rs q s e = rw e (go (eqb (code r) 4))
  where
    go : (t : Bool) → cond t (cond (is_marked marks k) (r ∷ sifted (is_marked marks) (k + 1) rs) (sifted (is_marked marks) (k + 1) rs)) (r ∷ sifted (is_marked marks) k rs)
        ≡ cond (cond {A = Stay} t (record { stays = is_marked marks k; next = k + 1 }) (record { stays = true; next = k })).stays
        (r ∷ sifted (is_marked marks) (cond {A = Stay} t (record { stays = is_marked marks k; next = k + 1 }) (record { stays = true; next = k })).next rs)
        (sifted (is_marked marks) (cond {A = Stay} t (record { stays = is_marked marks k; next = k + 1 }) (record { stays = true; next = k })).next rs)
    go true = refl
    go false = refl

-- ---- by whether it stays

module _ (b : Bool) (j : Kind) (c : PerKind) where
  pub grown-stays : (l : Line) → b ≡ true → grown_if b j l c ≡ grown_by j l c
  unfolding grown_if
  grown-stays l e = cond-is b true (grown_by j l c) (Some c) e

  pub grown-goes : (l : Line) → b ≡ false → grown_if b j l c ≡ Some c
  unfolding grown_if
  grown-goes l e = cond-is b false (grown_by j l c) (Some c) e

  pub places-stay : (xs : List ℕ) → b ≡ true → places_if b j xs c ≡ plus j (length xs) c
  unfolding places_if
  places-stay xs e = cond-is b true (plus j (length xs) c) c e

  pub places-go : (xs : List ℕ) → b ≡ false → places_if b j xs c ≡ c
  unfolding places_if
  places-go xs e = cond-is b false (plus j (length xs) c) c e

  pub written-stays : (xs out : List ℕ) → b ≡ true → written_if b j xs c out ≡ over out (get j c) xs
  unfolding written_if
  written-stays xs out e = cond-is b true (over out (get j c) xs) out e

  pub written-goes : (xs out : List ℕ) → b ≡ false → written_if b j xs c out ≡ out
  unfolding written_if
  written-goes xs out e = cond-is b false (over out (get j c) xs) out e

-- what stays is not longer than all
choice-small : (r : Record) (rs qs zs : List Record) (a b : Bool) → length (text qs) ≤ length (text rs) → length (text zs) ≤ length (text rs)
    → length (text (cond a (cond b (r ∷ qs) qs) (r ∷ zs))) ≤ length (text (r ∷ rs))
unfolding text
choice-small r rs qs zs true true h i = omega (arith, length-append (record_text r) (text rs), length-append (record_text r) (text qs))
choice-small r rs qs zs true false h i = omega (arith, length-append (record_text r) (text rs))
choice-small r rs qs zs false b h i = omega (arith, length-append (record_text r) (text rs), length-append (record_text r) (text zs))

text-small : (p : ℕ → Bool) (k : ℕ) (rs : List Record) → length (text (sifted p k rs)) ≤ length (text rs)
unfolding sifted
text-small p k [] = omega arith
text-small p k (r ∷ rs) = choice-small r rs (sifted p (k + 1) rs) (sifted p k rs) (eqb (code r) 4) (p k) (text-small p (k + 1) rs) (text-small p k rs)

pub sifted-small : (p : ℕ → Bool) (k : ℕ) (rs : List Record) → length (tidy (sifted p k rs)) ≤ length (tidy rs)
sifted-small p k rs = omega (arith, tidy-total rs, tidy-total (sifted p k rs), text-small p k rs)

-- the ordinal is at most one further
pub next_le : (marks : List Bool) (k : ℕ) (b : Bool) (s : Stay) → s ≡ stay_by b marks k → s.next ≤ k + 1
unfolding stay_by
next_le marks k b s e = rw e (go b)
  where
    go : (b : Bool) → (cond {A = Stay} b (record { stays = is_marked marks k; next = k + 1 }) (record { stays = true; next = k })).next ≤ k + 1
    go true = omega arith
    go false = omega arith

pub sifted-none : (p : ℕ → Bool) (k : ℕ) → sifted p k [] ≡ []
unfolding sifted
sifted-none p k = refl

-- where all pass, all stay
pub sifted-whole : (p : ℕ → Bool) → ((i : ℕ) → p i ≡ true) → (k : ℕ) (rs : List Record) → sifted p k rs ≡ rs
unfolding sifted
sifted-whole p h k [] = refl
sifted-whole p h k (r ∷ rs) = rw (h k, sifted-whole p h (k + 1) rs, sifted-whole p h k rs) (go (eqb (code r) 4))
  where
    go : (t : Bool) → cond t (r ∷ rs) (r ∷ rs) ≡ r ∷ rs
    go true = refl
    go false = refl

-- as they do without marks
pub sifted-unmarked : (rs : List Record) → sifted (is_marked []) 0 rs ≡ rs
unfolding is_marked
sifted-unmarked rs = sifted-whole (is_marked []) (λ i. refl) 0 rs

module _ (marks : List Bool) (k : ℕ) (j : Kind) (l : Line) (rs : List Record) (q : is_read l ≡ true) (kinds : (i : Kind) → kind_text i l ≡ only j (line_text l) i) (s : Stay) (e : s ≡ stay_by (is-pg l) marks k) where
  abbrev p : ℕ → Bool
  p = is_marked marks

  stays-is : s.stays ≡ true → sifted p k (with_record l rs) ≡ with_record l (sifted p s.next rs)
  stays-is h = sift-onto marks k l rs q s e ∙ cond-is s.stays true _ _ h

  goes-is : s.stays ≡ false → sifted p k (with_record l rs) ≡ sifted p s.next rs
  goes-is h = sift-onto marks k l rs q s e ∙ cond-is s.stays false _ _ h

  -- ---- measured

  pub grow-bad : (c : PerKind) → grown_if s.stays j l c ≡ None → line_writable l ≡ false
  unfolding grown_if
  grow-bad c f = go s.stays f
    where
      go : (b : Bool) → cond b (grown_by j l c) (Some c) ≡ None → line_writable l ≡ false
      go true f = grew-bad j l c f
      go false f = absurd (never (cc))

  pub grow-is : (c t : PerKind) → grown_if s.stays j l c ≡ Some t
      → (line_writable l ≡ true) × ((i : Kind) → get i t + size i (sifted p s.next rs) ≡ get i c + size i (sifted p k (with_record l rs)))
  unfolding grown_if
  grow-is c t f = split s.stays
      (λ h. let g = grew-is j l c t (sym (cond-is s.stays true (grown_by j l c) (Some c) h) ∙ f) in
      (g.0, λ i. ap (λ x. get i x + size i (sifted p s.next rs)) (sym g.1) ∙ sym (size-turn j i l (sifted p s.next rs) c (kinds i)) ∙ ap (λ xs. get i c + size i xs) (sym (stays-is h))))
      (λ h. let g : c ≡ t = one-is c t (sym (cond-is s.stays false (grown_by j l c) (Some c) h) ∙ f) in
      (stays-or-writes marks k l q s e h, λ i. ap₂ (λ x xs. get i x + size i xs) (sym g) (sym (goes-is h))))
    where
      one-is : (c t : PerKind) → Some c ≡ Some t → c ≡ t
      one-is c t e = cc

  pub stay-size : s.stays ≡ true → length (line_text l) ≤ size j (sifted p k (with_record l rs))
  stay-size h = omega (arith, ap (size j) (stays-is h), own-size j l (sifted p s.next rs) (kinds j))

  -- ---- placed

  module _ (out : List ℕ) (n : ℕ) (c : PerKind) (m : n ≤ length out) (a : Apart (parts c (sifted p k (with_record l rs))) n) where
    splits : s.stays ≡ true → Split out n (get j c) (line_text l) (parts c (with_record l (sifted p s.next rs))) (parts (plus j (length (line_text l)) c) (sifted p s.next rs))
    splits h = split-turn j out n c l (sifted p s.next rs) kinds m (subst (λ xs. Apart (parts c xs) n) (stays-is h) a)

    pub stay-room : s.stays ≡ true → get j c + length (line_text l) ≤ n
    stay-room h = (splits h).room

    pub stay-apart : Apart (parts (places_if s.stays j (line_text l) c) (sifted p s.next rs)) n
    unfolding places_if
    stay-apart = split s.stays
        (λ h. subst (λ b. Apart (parts (cond b (plus j (length (line_text l)) c) c) (sifted p s.next rs)) n) (sym h) (splits h).apart)
        (λ h. subst (λ b. Apart (parts (cond b (plus j (length (line_text l)) c) c) (sifted p s.next rs)) n) (sym h) (subst (λ xs. Apart (parts c xs) n) (goes-is h) a))

    pub stay-same : with_parts (written_if s.stays j (line_text l) c out) (parts (places_if s.stays j (line_text l) c) (sifted p s.next rs)) ≡ with_parts out (parts c (sifted p k (with_record l rs)))
    unfolding places_if written_if
    stay-same = split s.stays
        (λ h. rw h (sym (ap (λ xs. with_parts out (parts c xs)) (stays-is h) ∙ (splits h).same)))
        (λ h. rw h (ap (λ xs. with_parts out (parts c xs)) (sym (goes-is h))))
