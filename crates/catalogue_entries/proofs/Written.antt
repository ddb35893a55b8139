-- The laws of an entry and its bytes: how long they are, and what is read at their front.
use Prim.Native.Nat.{ℕ, ◌+◌, ◌^◌, ◌≤◌, ◌<◌}
use mathlib.Core.Path.{◌≡◌, refl, sym, ap, ap₂, ◌∙◌}
use mathlib.Core.List.{List, [], ◌∷◌, ◌++◌}
use native.Mathlib.Omega.{arith}
use lib.ListN.{length, drop, length-append}
use lib.Seq.{drop_at, drop-drop}
use borrow.Author.Tests.{le-leb}
use Rattle.format.specs.Catalogue.{little}
use Rattle.format.specs.Little.{of_little}
use Rattle.little_endian.proofs.Little.{of-little}
use Rattle.format.specs.declared.Version.{Version}
use Rattle.catalogue_entries.specs.declared.Place.{Place}
use Rattle.catalogue_entries.specs.declared.Entry.{Entry}
use Rattle.catalogue_entries.specs.declared.Entry.TheVariants.{End, Header, ReferenceSequence, ReadGroup, Program, Comment, Field}
use Rattle.catalogue_entries.specs.Entries.{kind_byte, kind_size, entry_size, version_from, place_from, line_from, entry_with, entry_of, place_bytes, entry_bytes, entries_bytes, FitsPlace, FitsEntry, sizes}

-- ---- how long

pub entry_length_lem : (e : Entry) → length (entry_bytes e) ≡ entry_size e
unfolding entry_bytes entry_size kind_byte kind_size little place_bytes
entry_length_lem End = refl
entry_length_lem (Header v l) = refl
entry_length_lem (ReferenceSequence p n l) = refl
entry_length_lem (ReadGroup p l) = refl
entry_length_lem (Program p l) = refl
entry_length_lem (Comment p l) = refl
entry_length_lem (Field a b p) = refl

pub bytes-length : (e : Entry) (es : List Entry) → length (entries_bytes (e ∷ es)) ≡ entry_size e + length (entries_bytes es)
unfolding entries_bytes
bytes-length e es = omega (arith, length-append (entry_bytes e) (entries_bytes es), entry_length_lem e)

pub bytes-sizes : (es : List Entry) → length (entries_bytes es) ≡ sizes es
unfolding entries_bytes sizes
bytes-sizes [] = refl
bytes-sizes (e ∷ es) = omega (arith, bytes-length e es, bytes-sizes es)

-- no entry is empty
pub fit-size : (e : Entry) → FitsEntry e → 0 < entry_size e
unfolding FitsEntry entry_size kind_byte kind_size
fit-size End h = absurd h
fit-size (Header v l) h = omega arith
fit-size (ReferenceSequence p n l) h = omega arith
fit-size (ReadGroup p l) h = omega arith
fit-size (Program p l) h = omega arith
fit-size (Comment p l) h = omega arith
fit-size (Field a b p) h = omega arith

-- ---- what is read at the front

version-back : (v : Version) (rest : List ℕ) → v.major < 2 ^ 32 → v.minor < 2 ^ 32 → version_from (little 4 v.major ++ little 4 v.minor ++ rest) ≡ v
unfolding version_from little
version-back v rest h k = go _ _ (of-little 4 v.major h) (of-little 4 v.minor k)
  where
    go : (a b : ℕ) → a ≡ v.major → b ≡ v.minor → ◌≡◌ {A = Version} (record { major = a; minor = b }) v
    go a b p q = rw (p, q) refl

place-back : (p : Place) (rest : List ℕ) → FitsPlace p → place_from (place_bytes p ++ rest) ≡ p
unfolding place_from place_bytes
place-back p rest h = go _ _ (of-little 4 p.at h.0) (of-little 4 p.len h.1)
  where
    go : (a b : ℕ) → a ≡ p.at → b ≡ p.len → ◌≡◌ {A = Place} (record { at = a; len = b }) p
    go a b p q = rw (p, q) refl

line-back : (l : ℕ) (rest : List ℕ) → l < 2 ^ 32 → line_from (little 4 l ++ rest) ≡ l
unfolding line_from little
line-back l rest h = of-little 4 l h

-- a body that is there
whole : (k : ℕ) (s : List ℕ) → kind_size k ≤ length (k ∷ s) → entry_of (k ∷ s) ≡ entry_with k s
unfolding entry_of
whole k s h = rw (le-leb (kind_size k) (length (k ∷ s)) h) refl

-- an entry that fits is read back
pub entry-back : (e : Entry) (rest : List ℕ) → FitsEntry e → entry_of (entry_bytes e ++ rest) ≡ e
unfolding FitsEntry entry_bytes entry_with kind_size
entry-back End rest h = absurd h
entry-back (Header v l) rest h =
    whole 1 (little 4 v.major ++ little 4 v.minor ++ little 4 l ++ rest) (omega arith)
    ∙ ap₂ Header (version-back v (little 4 l ++ rest) h.0 h.1) (line-back l rest h.2)
entry-back (ReferenceSequence p n l) rest h =
    whole 2 (place_bytes p ++ little 8 n ++ little 4 l ++ rest) (omega arith)
    ∙ ap (λ q. ReferenceSequence q (of_little (little 8 n)) (line_from (little 4 l ++ rest))) (place-back p (little 8 n ++ little 4 l ++ rest) h.0)
    ∙ ap₂ (ReferenceSequence p) (of-little 8 n h.1) (line-back l rest h.2)
entry-back (ReadGroup p l) rest h = whole 3 (place_bytes p ++ little 4 l ++ rest) (omega arith) ∙ ap₂ ReadGroup (place-back p (little 4 l ++ rest) h.0) (line-back l rest h.1)
entry-back (Program p l) rest h = whole 4 (place_bytes p ++ little 4 l ++ rest) (omega arith) ∙ ap₂ Program (place-back p (little 4 l ++ rest) h.0) (line-back l rest h.1)
entry-back (Comment p l) rest h = whole 5 (place_bytes p ++ little 4 l ++ rest) (omega arith) ∙ ap₂ Comment (place-back p (little 4 l ++ rest) h.0) (line-back l rest h.1)
entry-back (Field a b p) rest h = whole 6 (a ∷ b ∷ place_bytes p ++ rest) (omega arith) ∙ ap (Field a b) (place-back p rest h.2)

-- ---- a walk from entry to entry

pub end-size : entry_size End ≡ 0
unfolding entry_size kind_byte kind_size
end-size = refl

pub first_entry_lem : (e : Entry) (es : List Entry) → FitsEntry e → entry_of (entries_bytes (e ∷ es)) ≡ e
unfolding entries_bytes
first_entry_lem e es h = entry-back e (entries_bytes es) h

pub other_entries : (e : Entry) (es : List Entry) → drop (entry_size e) (entries_bytes (e ∷ es)) ≡ entries_bytes es
unfolding entries_bytes
other_entries e es = drop_at (entry_bytes e) (entries_bytes es) (entry_size e) (entry_length_lem e)

pub no-entry : entry_of (entries_bytes []) ≡ End
unfolding entries_bytes entry_of
no-entry = refl

-- the same at a place of a catalogue
module _ (c : List ℕ) (at : ℕ) (e : Entry) (es : List Entry) (h : drop at c ≡ entries_bytes (e ∷ es)) where
  pub walk-entry : FitsEntry e → entry_of (drop at c) ≡ e
  walk-entry k = ap entry_of h ∙ first_entry_lem e es k

  pub walk-next : drop (at + entry_size e) c ≡ entries_bytes es
  walk-next = sym (drop-drop (entry_size e) at c) ∙ ap (drop (entry_size e)) h ∙ other_entries e es

pub walk_end : (c : List ℕ) (at : ℕ) → drop at c ≡ entries_bytes [] → entry_of (drop at c) ≡ End
walk_end c at h = ap entry_of h ∙ no-entry
