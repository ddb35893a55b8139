-- The numbers of an accepted line's entries fit: where the text is at most 16,777,216 bytes, offsets and lengths are below 2 ^ 32.
use Prim.Native.Nat.{ℕ, ◌+◌, ◌^◌, ◌≤◌, ◌<◌}
use mathlib.Core.Path.{◌≡◌}
use mathlib.Core.Bool.{Bool, true, ◌||◌}
use mathlib.Core.List.{List, [], ◌∷◌}
use native.Mathlib.Omega.{arith}
use lib.ListN.{length}
use lib.Dec.{leb}
use borrow.Author.Tests.{leb-true}
use Rattle.format.specs.Bytes.{between, digit, letter}
use Rattle.format.specs.Lines.{Piece}
use Rattle.format.specs.Fields.{Field, is_tag}
use Rattle.format.specs.Records.{Record, header, reference, group, program, comment, others, read, line}
use Rattle.byte_slices.specs.Stands.{Stands, Each}
use Rattle.byte_slices.proofs.Stands.{each_map}
use Rattle.accepted.specs.Pieces.{values, pieces}
use Rattle.accepted.specs.Sound as sound
use Rattle.accepted.specs.Sound.{kind, Other}
use Rattle.lists.proofs.Bools.{and_left, and_right, or_split}
use Rattle.lists.proofs.Pairs.{each_both}
use Rattle.accepted.proofs.Stands.{line-stand}
use Rattle.accepted.proofs.Sound.{line-sound}
use Rattle.catalogue_entries.specs.Entries.{FitsPlace, FitsEntry, piece_at, head_entry, field_entry}

-- ---- where a piece is

piece-fits : (s : List ℕ) (at : ℕ) → at + length s ≤ 16777216 → (p : Piece) → Stands s at p → FitsPlace (piece_at p)
unfolding piece_at
piece-fits s at h p k = (omega (arith, k.from, k.within), omega (arith, k.from, k.within))

-- ---- a tag's bytes

between-below : (lo hi b : ℕ) → between lo hi b ≡ true → b ≤ hi
unfolding between
between-below lo hi b h = leb-true b hi (and_right (leb lo b) (leb b hi) h)

letter-below : (b : ℕ) → letter b ≡ true → b < 256
unfolding letter
letter-below b h = or_split (between 65 90 b) (between 97 122 b) h (λ k. omega (arith, between-below 65 90 b k)) (λ k. omega (arith, between-below 97 122 b k))

tag_below : (a b : ℕ) → is_tag a b ≡ true → (a < 256) × (b < 256)
unfolding is_tag digit
tag_below a b h =
    let k : letter b || digit b ≡ true = and_right (letter a) (letter b || digit b) h in
    (letter-below a (and_left (letter a) (letter b || digit b) h), or_split (letter b) (digit b) k (letter-below b) (λ d. omega (arith, between-below 48 57 b d)))

-- ---- an accepted line

values-each : (P : Piece → Type 0) (fs : List Field) → Each P (values fs) → Each (λ f. P f.value) fs
unfolding Each values
values-each P [] h = tt
values-each P (f ∷ fs) h = (h.0, values-each P fs h.1)

-- the values of the other fields are among a record's pieces
pieces-values : (P : Piece → Type 0) (r : Record) → Each P (pieces r) → Each (λ f. P f.value) (others r)
unfolding Each pieces others
pieces-values P (header v fs) h = values-each P fs h
pieces-values P (reference p n fs) h = values-each P fs h.1
pieces-values P (group p fs) h = values-each P fs h.1
pieces-values P (program p fs) h = values-each P fs h.1
pieces-values P (comment p) h = tt

module _ (strict : Bool) (p : Piece) (r : Record) (e : line strict p ≡ read r) (h : p.at + length p.bytes ≤ 16777216) where
  each_fits : Each (λ q. FitsPlace (piece_at q)) (pieces r)
  each_fits = each_map (Stands p.bytes p.at) (λ q. FitsPlace (piece_at q)) (piece-fits p.bytes p.at h) (pieces r) (line-stand strict p r e)

  -- a record's own entry, with any line of four bytes
  pub head-fits : (l : ℕ) → l < 2 ^ 32 → FitsEntry (head_entry l r)
  unfolding FitsEntry head_entry sound.FitsRecord Each pieces
  head-fits l b = go r (line-sound strict p r e).fits each_fits
    where
      go : (r : Record) → sound.FitsRecord r → Each (λ q. FitsPlace (piece_at q)) (pieces r) → FitsEntry (head_entry l r)
      go (header v fs) s k = (s.0, s.1, b)
      go (reference p n fs) s k = (k.0, omega (arith, s.1), b)
      go (group p fs) s k = (k.0, b)
      go (program p fs) s k = (k.0, b)
      go (comment p) s k = (k.0, b)

  -- the entries of its other fields
  pub fields_fit : Each (λ f. FitsEntry (field_entry f)) (others r)
  unfolding FitsEntry field_entry
  fields_fit =
      each_map (λ f. Other (kind r) f × FitsPlace (piece_at f.value)) (λ f. FitsEntry (field_entry f)) one (others r)
      (each_both (Other (kind r)) (λ f. FitsPlace (piece_at f.value)) (others r) (line-sound strict p r e).other (pieces-values (λ q. FitsPlace (piece_at q)) r each_fits))
    where
      one : (f : Field) → Other (kind r) f × FitsPlace (piece_at f.value) → FitsEntry (field_entry f)
      one f m = let t = tag_below f.tag₀ f.tag₁ m.0.tag in (t.0, t.1, m.1)
