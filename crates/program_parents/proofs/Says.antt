-- The programs that are noted in the catalogue of an accepted text say the text's programs: their IDs, and what their PP link to.
use Prim.Native.Nat.{ℕ, ◌+◌, ◌-◌, ◌≤◌}
use mathlib.Core.Path.{◌≡◌, refl, sym, ap, ap₂, subst, ◌∙◌}
use mathlib.Core.List.{List, [], ◌∷◌, ◌++◌, map}
use mathlib.Core.Option.{Option, none, some}
use native.Mathlib.Omega.{arith}
use lib.ListN.{length, take, drop}
use borrow.Author.Tests.{ne_eqb}
use Rattle.format.specs.Lines.{Piece}
use Rattle.format.specs.Fields.{Field, last_of}
use Rattle.format.specs.Records.{Record, header, reference, group, program, comment, code, key, others}
use Rattle.format.specs.Reading.{read_text, accept, of_kind}
use Rattle.format.specs.Catalogue.{catalogue}
use Rattle.format.specs.Programs.{Program, programs, program_of, bytes_of, ordinal_from, found, link}
use Rattle.byte_slices.specs.Stands.{Each, Stands}
use Rattle.accepted.specs.Pieces.{pieces}
use Rattle.lists.specs.Pairs.{Pairs}
use Rattle.accepted.specs.Sound.{Sound}
use Rattle.accepted.proofs.Text.{text-sound, text-stand}
use Rattle.program_chains.specs.Parents.{nobody}
use Rattle.catalogue_entries.specs.declared.Place.{Place}
use Rattle.catalogue_entries.specs.declared.Entry.{Entry}
use Rattle.catalogue_entries.specs.Entries.{piece_at, head_entry, field_entry, entries_on, entries_of, entries_in}
use Rattle.catalogue_lookup.specs.Lookup.{found_of, value_in}
use Rattle.catalogue_lookup.proofs.Kept.{record-values, last-value, text-entries}
use Rattle.catalogue_lookup.proofs.Answers.{value-fields}
use Rattle.program_ids.specs.Places.{InsideText, bytes_at, nowhere}
use Rattle.program_places.specs.Gathered.{ProgramPlaces, or_nowhere, noted_in}
use Rattle.program_parents.specs.Parents.{Somewhere, link_number, or_stranger, parent_of}
use Rattle.program_parents.specs.Placed.{Before, Says}
use Rattle.program_ids.specs.Search.{ids_of, id_ordinal_from}
use Rattle.program_ids.proofs.Search.{ordinal-ids}

-- ---- places

module _ (t : List ℕ) where
  stands-inside : (p : Piece) → Stands t 0 p → InsideText (length t) (piece_at p)
  unfolding piece_at
  stands-inside p s = omega (arith, s.within)

  -- the bytes there are the piece's
  stands-bytes : (p : Piece) → Stands t 0 p → bytes_at t (piece_at p) ≡ p.bytes
  unfolding bytes_at piece_at
  stands-bytes p s = let z : p.at - 0 ≡ p.at = omega arith in sym (s.bytes ∙ ap (λ n. take (length p.bytes) (drop n t)) z)

-- ---- from records

-- the entries of fields are passed
noted-fields : (fs : List Field) (es : List Entry) → noted_in (map field_entry fs ++ es) ≡ noted_in es
unfolding noted_in field_entry
noted-fields [] es = refl
noted-fields (f ∷ fs) es = noted-fields fs es

before-found : (t : List ℕ) (o : Option Piece) → ((p : Piece) → o ≡ some p → Stands t 0 p) → Before t (or_nowhere (found_of o)) o
unfolding Before or_nowhere found_of
before-found t none h = refl
before-found t (some p) h = (refl, h p refl)

module _ (t : List ℕ) where
  passed : (fs : List Field) (es : List Entry) (ps : List Program) → Pairs (Says t) (noted_in es) ps → Pairs (Says t) (noted_in (map field_entry fs ++ es)) ps
  passed fs es ps h = rw (noted-fields fs es) h

  says-program : (p : Piece) (fs : List Field) (l : ℕ) (rs : List Record) → Sound (program p fs) → Each (Stands t 0) (pieces (program p fs))
      → Says t (record { id = piece_at p; previous = or_nowhere (value_in 80 80 (map field_entry fs ++ entries_on l rs)) }) (record { id = p.bytes; previous = last_of 80 80 fs })
  unfolding Each pieces others
  says-program p fs l rs s h = record {
    inside = stands-inside t p h.0;
    bytes = stands-bytes t p h.0;
    previous =
        subst (λ v. Before t (or_nowhere v) (last_of 80 80 fs)) (sym (value-fields 80 80 fs l rs s.once))
        (before-found t (last_of 80 80 fs) (λ q e. last-value (Stands t 0) 80 80 fs q (record-values (Stands t 0) (program p fs) h) e));
  }

  says_on : (l : ℕ) (rs : List Record) → Each Sound rs → Each (λ r. Each (Stands t 0) (pieces r)) rs → Pairs (Says t) (noted_in (entries_on l rs)) (programs rs)
  unfolding Each Pairs noted_in entries_on head_entry others programs of_kind code program_of bytes_of key
  says_on l [] s h = tt
  says_on l (header v fs ∷ rs) s h = passed fs (entries_on (l + 1) rs) (programs rs) (says_on (l + 1) rs s.1 h.1)
  says_on l (reference p n fs ∷ rs) s h = passed fs (entries_on (l + 1) rs) (programs rs) (says_on (l + 1) rs s.1 h.1)
  says_on l (group p fs ∷ rs) s h = passed fs (entries_on (l + 1) rs) (programs rs) (says_on (l + 1) rs s.1 h.1)
  says_on l (program p fs ∷ rs) s h = (says-program p fs (l + 1) rs s.0 h.0, passed fs (entries_on (l + 1) rs) (programs rs) (says_on (l + 1) rs s.1 h.1))
  says_on l (comment p ∷ rs) s h = says_on (l + 1) rs s.1 h.1

  says-records : (rs : List Record) → Each Sound rs → Each (λ r. Each (Stands t 0) (pieces r)) rs → Pairs (Says t) (noted_in (entries_of rs)) (programs rs)
  unfolding entries_of
  says-records rs s h = says_on 0 rs s h

-- ---- IDs and parents

number-found : (o : Option ℕ) → or_stranger o ≡ link_number (found o)
unfolding or_stranger link_number found
number-found none = refl
number-found (some k) = refl

parent-some : (t : List ℕ) (ids : List (List ℕ)) (q : Place) → (q.at ≡ 4294967295 → ⊥) → parent_of t ids q ≡ or_stranger (id_ordinal_from (bytes_at t q) 0 ids)
unfolding parent_of
parent-some t ids q h = rw (ne_eqb q.at 4294967295 h) refl

module _ (t : List ℕ) where
  pub says-ids : (ns : List ProgramPlaces) (ps : List Program) → Pairs (Says t) ns ps → map (bytes_at t) (map (λ n. n.id) ns) ≡ ids_of ps
  unfolding Pairs
  says-ids [] [] h = refl
  says-ids [] (p ∷ ps) h = absurd h
  says-ids (n ∷ ns) [] h = absurd h
  says-ids (n ∷ ns) (p ∷ ps) h = ap₂ (λ x xs. x ∷ xs) h.0.bytes (says-ids ns ps h.1)

  pub says-inside : (ns : List ProgramPlaces) (ps : List Program) → Pairs (Says t) ns ps → Each (InsideText (length t)) (map (λ n. n.id) ns)
  unfolding Pairs Each
  says-inside [] [] h = tt
  says-inside [] (p ∷ ps) h = absurd h
  says-inside (n ∷ ns) [] h = absurd h
  says-inside (n ∷ ns) (p ∷ ps) h = (h.0.inside, says-inside ns ps h.1)

  -- a PP that is there is within the text
  pub before-inside : (q : Place) (o : Option Piece) → Before t q o → Somewhere (length t) q
  unfolding Before nowhere
  before-inside q none b n = absurd (n (ap (λ p. p.at) b))
  before-inside q (some p) b n = subst (InsideText (length t)) (sym b.0) (stands-inside t p b.1)

  -- and it names the program that the definitions say
  module _ (fits : length t ≤ 16777216) where
    pub before_parent : (ps : List Program) (q : Place) (o : Option Piece) → Before t q o → parent_of t (ids_of ps) q ≡ link_number (link ps o)
    unfolding Before nowhere piece_at parent_of link_number link nobody
    before_parent ps q none b = ap (parent_of t (ids_of ps)) b
    before_parent ps q (some p) b =
        ap (parent_of t (ids_of ps)) b.0
        ∙ parent-some t (ids_of ps) (piece_at p) (λ e. omega (arith, b.1.within, fits))
        ∙ ap (λ s. or_stranger (id_ordinal_from s 0 (ids_of ps))) (stands-bytes t p b.1)
        ∙ ap or_stranger (ordinal-ids p.bytes 0 ps)
        ∙ number-found (ordinal_from 0 p.bytes ps)

-- ---- an accepted text

pub text_says : (t : List ℕ) (rs : List Record) → read_text t ≡ accept rs → Pairs (Says t) (noted_in (entries_in (catalogue rs))) (programs rs)
text_says t rs h = rw (text-entries t rs h) (says-records t rs (text-sound t rs h) (text-stand t rs h))
