-- The names that a catalogue's SQ entries say are those of the text's SQ records.
use Prim.Native.Nat.{ℕ, suc, ◌+◌, ◌-◌, ◌≤◌}
use mathlib.Core.Path.{◌≡◌, refl, sym, ap, ap₂, ◌∙◌}
use mathlib.Core.Bool.{Bool, true, false, cond}
use mathlib.Core.List.{List, [], ◌∷◌, ◌++◌, map}
use native.Mathlib.Omega.{arith}
use lib.ListN.{length, take, drop, length-map}
use lib.Dec.{eqb}
use Rattle.format.specs.Lines.{Piece}
use Rattle.format.specs.Fields.{Field}
use Rattle.format.specs.Records.{Record, header, reference, group, program, comment, code, key, others}
use Rattle.format.specs.Reading.{read_text, accept, of_kind}
use Rattle.format.specs.Catalogue.{catalogue}
use Rattle.format.specs.Programs.{bytes_of}
use Rattle.byte_slices.specs.Stands.{Each, Stands}
use Rattle.accepted.specs.Pieces.{pieces}
use Rattle.accepted.proofs.Text.{text-stand, text-count, text-fits}
use Rattle.catalogue_entries.specs.declared.Entry.{Entry}
use Rattle.catalogue_entries.specs.Entries.{kind_byte, piece_at, head_entry, field_entry, entries_on, entries_of, entries_in}
use Rattle.catalogue_lookup.proofs.Kept.{text-entries}
use Rattle.name_entries.specs.Names.{name_in, names_in}
use Rattle.format.specs.Batch.{references}

-- the entries of fields are passed
names-fields : (t : List ℕ) (fs : List Field) (es : List Entry) → names_in t (map field_entry fs ++ es) ≡ names_in t es
unfolding names_in kind_byte field_entry
names-fields t [] es = refl
names-fields t (f ∷ fs) es = names-fields t fs es

-- the bytes at the place of a piece
pub stands-bytes : (t : List ℕ) (p : Piece) → Stands t 0 p → take (length p.bytes) (drop p.at t) ≡ p.bytes
stands-bytes t p s = let z : p.at - 0 ≡ p.at = omega arith in sym (s.bytes ∙ ap (λ n. take (length p.bytes) (drop n t)) z)

names-on : (t : List ℕ) (l : ℕ) (rs : List Record) → Each (λ r. Each (Stands t 0) (pieces r)) rs → names_in t (entries_on l rs) ≡ references rs
unfolding Each pieces names_in name_in kind_byte piece_at entries_on head_entry others references of_kind code key bytes_of
names-on t l [] h = refl
names-on t l (header v fs ∷ rs) h = names-fields t fs (entries_on (l + 1) rs) ∙ names-on t (l + 1) rs h.1
names-on t l (reference p n fs ∷ rs) h = ap₂ (λ x xs. x ∷ xs) (stands-bytes t p h.0.0) (names-fields t fs (entries_on (l + 1) rs) ∙ names-on t (l + 1) rs h.1)
names-on t l (group p fs ∷ rs) h = names-fields t fs (entries_on (l + 1) rs) ∙ names-on t (l + 1) rs h.1
names-on t l (program p fs ∷ rs) h = names-fields t fs (entries_on (l + 1) rs) ∙ names-on t (l + 1) rs h.1
names-on t l (comment p ∷ rs) h = names-on t (l + 1) rs h.1

kind-few : (k : ℕ) (rs : List Record) → length (of_kind k rs) ≤ length rs
unfolding of_kind
kind-few k [] = omega arith
kind-few k (r ∷ rs) = go (eqb (code r) k) (kind-few k rs)
  where
    go : (t : Bool) → length (of_kind k rs) ≤ length rs → length (cond t (r ∷ of_kind k rs) (of_kind k rs)) ≤ suc (length rs)
    go true h = omega arith
    go false h = omega arith

module _ (t : List ℕ) (rs : List Record) (h : read_text t ≡ accept rs) where
  pub text-names : names_in t (entries_in (catalogue rs)) ≡ references rs
  unfolding entries_of
  text-names = ap (names_in t) (text-entries t rs h) ∙ names-on t 0 rs (text-stand t rs h)

  pub few-names : length (references rs) ≤ 16777216
  unfolding references
  few-names = omega (arith, length-map (of_kind 2 rs) (λ r. bytes_of (key r)), kind-few 2 rs, text-count t rs h, text-fits t rs h)
