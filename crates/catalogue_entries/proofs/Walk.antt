-- The laws of a walk: what is at the front is the first entry, and the walk goes on after it.
use Prim.Native.Nat.{ℕ, zero, suc, ◌+◌, ◌≤◌, ◌<◌}
use mathlib.Core.Path.{◌≡◌, refl, sym, ap, ◌∙◌}
use mathlib.Core.Bool.{Bool, true, false, cond}
use mathlib.Core.List.{List, [], ◌∷◌}
use native.Mathlib.Omega.{arith}
use lib.ListN.{length, take, drop, get_or, length-drop}
use lib.Seq.{drop-drop}
use lib.Dec.{eqb, leb}
use borrow.Author.Tests.{leb-true, eq-eqb, ne_eqb, eqb-true, eqb-false}
use Rattle.byte_slices.specs.Stands.{Each}
use Rattle.format.specs.Little.{of_little}
use Rattle.catalogue_entries.specs.declared.Entry.{Entry}
use Rattle.catalogue_entries.specs.declared.Entry.TheVariants.{End, Header, ReferenceSequence, ReadGroup, Program, Comment, Field}
use Rattle.catalogue_entries.specs.Entries.{kind_byte, kind_size, entry_size, version_from, place_from, line_from, entry_with, entry_of, entries_bytes, FitsEntry, entries_within, entries_in, counted, entries_before}
use Rattle.catalogue_entries.proofs.Written.{fit-size, end-size, first_entry_lem, other_entries, no-entry}

-- ---- an entry is within its bytes

body-size : (k : ℕ) (s : List ℕ) → entry_size (entry_with k s) ≡ kind_size k
unfolding entry_size kind_byte kind_size entry_with
body-size k s = go (eqb k 1) (eqb k 2) (eqb k 3) (eqb k 4) (eqb k 5) (eqb k 6)
  where
    go : (t u v w x y : Bool)
        → entry_size (cond t (Header (version_from s) (line_from (drop 8 s)))
        (cond u (ReferenceSequence (place_from s) (of_little (take 8 (drop 8 s))) (line_from (drop 16 s)))
        (cond v (ReadGroup (place_from s) (line_from (drop 8 s)))
        (cond w (Program (place_from s) (line_from (drop 8 s)))
        (cond x (Comment (place_from s) (line_from (drop 8 s))) (cond y (Field (get_or s 0 0) (get_or s 1 0) (place_from (drop 2 s))) End))))))
        ≡ cond t 13 (cond u 21 (cond v 13 (cond w 13 (cond x 13 (cond y 11 0)))))
    go true u v w x y = refl
    go false true v w x y = refl
    go false false true w x y = refl
    go false false false true x y = refl
    go false false false false true y = refl
    go false false false false false true = refl
    go false false false false false false = refl

-- what has no size is no entry
pub size-end : (e : Entry) → entry_size e ≡ 0 → e ≡ End
unfolding entry_size kind_byte kind_size
size-end End h = refl
size-end (Header v l) h = absurd (omega arith)
size-end (ReferenceSequence p n l) h = absurd (omega arith)
size-end (ReadGroup p l) h = absurd (omega arith)
size-end (Program p l) h = absurd (omega arith)
size-end (Comment p l) h = absurd (omega arith)
size-end (Field a b p) h = absurd (omega arith)

-- the six kinds that there are
pub no_kind : (k : ℕ) → (k ≡ 1 → ⊥) → (k ≡ 2 → ⊥) → (k ≡ 3 → ⊥) → (k ≡ 4 → ⊥) → (k ≡ 5 → ⊥) → (k ≡ 6 → ⊥) → kind_size k ≡ 0
unfolding kind_size
no_kind k a b c d e f = simp (ne_eqb k 1 a, ne_eqb k 2 b, ne_eqb k 3 c, ne_eqb k 4 d, ne_eqb k 5 e, ne_eqb k 6 f)

pub no_body : (k : ℕ) (s : List ℕ) → kind_size k ≡ 0 → entry_with k s ≡ End
no_body k s h = size-end (entry_with k s) (body-size k s ∙ h)

pub size-within : (s : List ℕ) → entry_size (entry_of s) ≤ length s
unfolding entry_of entry_size kind_byte kind_size
size-within [] = omega arith
size-within (k ∷ s) = go (leb (kind_size k) (length (k ∷ s))) refl
  where
    go : (t : Bool) → leb (kind_size k) (length (k ∷ s)) ≡ t → entry_size (cond t (entry_with k s) End) ≤ length (k ∷ s)
    go true q = omega (arith, body-size k s, leb-true (kind_size k) (length (k ∷ s)) q)
    go false q = omega arith

-- what comes after the first entry
abbrev behind : List ℕ → List ℕ
behind s = drop (entry_size (entry_of s)) s

behind-less : (s : List ℕ) → (entry_size (entry_of s) ≡ 0 → ⊥) → length (behind s) < length s
behind-less s h = omega (arith, h, size-within s, length-drop (entry_size (entry_of s)) s)

-- ---- the entries of any bytes

module _ (s : List ℕ) where
  within_none : (f : ℕ) → entry_size (entry_of s) ≡ 0 → entries_within f s ≡ []
  unfolding entries_within
  within_none zero h = refl
  within_none (suc f) h = rw (eq-eqb (entry_size (entry_of s)) 0 h) refl

  within_more : (f : ℕ) → (entry_size (entry_of s) ≡ 0 → ⊥) → entries_within (suc f) s ≡ entry_of s ∷ entries_within f (behind s)
  unfolding entries_within
  within_more f h = rw (ne_eqb (entry_size (entry_of s)) 0 h) refl

-- more fuel than bytes changes nothing
within-enough : (f g : ℕ) (s : List ℕ) → length s ≤ f → length s ≤ g → entries_within f s ≡ entries_within g s
within-enough zero g s h k =
    let z : entry_size (entry_of s) ≡ 0 = omega (arith, size-within s) in
    within_none s 0 z ∙ sym (within_none s g z)
within-enough (suc f) zero s h k =
    let z : entry_size (entry_of s) ≡ 0 = omega (arith, size-within s) in
    within_none s (suc f) z ∙ sym (within_none s 0 z)
within-enough (suc f) (suc g) s h k = go (eqb (entry_size (entry_of s)) 0) refl (within-enough f g (behind s))
  where
    go : (t : Bool) → eqb (entry_size (entry_of s)) 0 ≡ t
        → (length (behind s) ≤ f → length (behind s) ≤ g → entries_within f (behind s) ≡ entries_within g (behind s))
        → entries_within (suc f) s ≡ entries_within (suc g) s
    go true q ih =
        let z : entry_size (entry_of s) ≡ 0 = eqb-true (entry_size (entry_of s)) 0 q in
        within_none s (suc f) z ∙ sym (within_none s (suc g) z)
    go false q ih =
        let z : entry_size (entry_of s) ≡ 0 → ⊥ = eqb-false (entry_size (entry_of s)) 0 q in
        let l : length (behind s) < length s = behind-less s z in
        within_more s f z ∙ ap (λ es. entry_of s ∷ es) (ih (omega arith) (omega arith)) ∙ sym (within_more s g z)

pub entries_none : (s : List ℕ) → entry_size (entry_of s) ≡ 0 → entries_in s ≡ []
unfolding entries_in
entries_none s h = within_none s (length s) h

pub entries-more : (s : List ℕ) → (entry_size (entry_of s) ≡ 0 → ⊥) → entries_in s ≡ entry_of s ∷ entries_in (drop (entry_size (entry_of s)) s)
unfolding entries_in
entries-more [] h = absurd (h (omega (arith, size-within [])))
entries-more (b ∷ t) h =
    let s : List ℕ = b ∷ t in
    let l : length (behind s) < length s = behind-less s h in
    within_more s (length t) h
    ∙ ap (λ es. entry_of s ∷ es) (within-enough (length t) (length (behind s)) (behind s) (omega arith) (omega arith))

-- a step of a walk that is at `at` and found `e` there, `len` bytes long
module _ (c : List ℕ) (at len : ℕ) (e : Entry) (found : e ≡ entry_of (drop at c)) (long : len ≡ entry_size e) where
  size-found : entry_size (entry_of (drop at c)) ≡ len
  size-found = sym (long ∙ ap entry_size found)

  pub turn_end : len ≡ 0 → entries_in (drop at c) ≡ []
  turn_end h = entries_none (drop at c) (size-found ∙ h)

  pub turn-within : (len ≡ 0 → ⊥) → at + len ≤ length c
  turn-within h = omega (arith, h, size-found, size-within (drop at c), length-drop at c)

  pub turn_on : (len ≡ 0 → ⊥) → entries_in (drop at c) ≡ e ∷ entries_in (drop (at + len) c)
  turn_on h =
      let n : entry_size (entry_of (drop at c)) ≡ 0 → ⊥ = λ q. h (sym size-found ∙ q) in
      entries-more (drop at c) n ∙ rw (size-found, drop-drop len at c, ← found) refl

-- ---- the entries that were written

pub entries-back : (es : List Entry) → Each FitsEntry es → entries_in (entries_bytes es) ≡ es
unfolding Each
entries-back [] h = entries_none (entries_bytes []) (ap entry_size no-entry ∙ end-size)
entries-back (e ∷ es) h =
    let s : List ℕ = entries_bytes (e ∷ es) in
    let r : entry_of s ≡ e = first_entry_lem e es h.0 in
    let z : entry_size (entry_of s) ≡ 0 → ⊥ = λ q. omega (arith, fit-size e h.0, ap entry_size r) in
    entries-more s z ∙ rw (r, other_entries e es, entries-back es h.1) refl

-- ---- some before one of a kind

-- where there are not so many of a kind, all are before
pub before-all : (k i : ℕ) (es : List Entry) → counted k es ≤ i → entries_before k i es ≡ es
unfolding counted entries_before
before-all k i [] h = refl
before-all k zero (e ∷ es) h = go (eqb (kind_byte e) k) h (before-all k zero es)
  where
    go : (b : Bool) → cond b (suc (counted k es)) (counted k es) ≤ 0 → (counted k es ≤ 0 → entries_before k 0 es ≡ es) → cond b [] (e ∷ entries_before k 0 es) ≡ e ∷ es
    go true h ih = absurd (omega arith)
    go false h ih = ap (λ es. e ∷ es) (ih h)
before-all k (suc i) (e ∷ es) h = ap (λ es. e ∷ es) (go (eqb (kind_byte e) k) h (before-all k i es) (before-all k (suc i) es))
  where
    go : (b : Bool) → cond b (suc (counted k es)) (counted k es) ≤ suc i → (counted k es ≤ i → entries_before k i es ≡ es) → (counted k es ≤ suc i → entries_before k (suc i) es ≡ es)
        → cond b (entries_before k i es) (entries_before k (suc i) es) ≡ es
    go true h ih jh = ih (omega arith)
    go false h ih jh = jh h

counted-length : (k : ℕ) (es : List Entry) → counted k es ≤ length es
unfolding counted
counted-length k [] = omega arith
counted-length k (e ∷ es) = go (eqb (kind_byte e) k) (counted-length k es)
  where
    go : (b : Bool) → counted k es ≤ length es → cond b (suc (counted k es)) (counted k es) ≤ length (e ∷ es)
    go true ih = omega arith
    go false ih = omega arith

within-length : (f : ℕ) (s : List ℕ) → length (entries_within f s) ≤ f
unfolding entries_within
within-length zero s = omega arith
within-length (suc f) s = go (eqb (entry_size (entry_of s)) 0) (within-length f (behind s))
  where
    go : (b : Bool) → length (entries_within f (behind s)) ≤ f → length (cond b [] (entry_of s ∷ entries_within f (behind s))) ≤ suc f
    go true ih = omega arith
    go false ih = omega arith

-- no more than the catalogue has bytes
pub counted-within : (k : ℕ) (s : List ℕ) → counted k (entries_in s) ≤ length s
unfolding entries_in
counted-within k s = omega (arith, counted-length k (entries_within (length s) s), within-length (length s) s)
