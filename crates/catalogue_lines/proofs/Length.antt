-- How many other fields a line can have, and how many bytes its entries: no sum of them over a text is too large.
use Prim.Native.Nat.{ℕ, ◌+◌, ◌*◌, ◌≤◌}
use mathlib.Core.Path.{◌≡◌, refl, ap}
use mathlib.Core.Bool.{Bool, true, false, ◌||◌, cond}
use mathlib.Core.List.{List, [], ◌∷◌, ◌++◌}
use native.Mathlib.Omega.{arith}
use lib.ListN.{length, length-append, length-drop}
use Rattle.format.specs.Bytes.{any}
use Rattle.format.specs.Lines.{Piece}
use Rattle.format.specs.Fields.{Field, tagged}
use Rattle.format.specs.Records.{Record, others, Line, refused_line, read, line}
use Rattle.format.specs.Tidy.{field_text, fields_text}
use Rattle.format.specs.declared.Kind.{Kind}
use Rattle.accepted.specs.Sound.{kind}
use Rattle.format.specs.Keys.{is_key}
use Rattle.accepted.specs.Spelled as sp
use Rattle.accepted.specs.Spelled.{AcceptedLine}
use Rattle.accepted.proofs.Spelled.{line-accepted}
use Rattle.record.specs.Head.{record_head, head_of}
use Rattle.record_tags.specs.Others.{latest, firsts}
use Rattle.accepted_line.specs.Run.{fields_from}
use Rattle.accepted_line.proofs.fields.Start.{accepted-start, accepted-others}
use Rattle.catalogue_entries.specs.Entries.{kind_size}
use Rattle.catalogue_lines.specs.Line.{record_bytes}
use Rattle.catalogue_lines.specs.Parts.{own_entry, others_of, size_of_head}
use Rattle.catalogue_lines.proofs.Records.{own-others, size-length}
use Rattle.catalogue_lines.proofs.Entries.{size-most}

-- no more other fields than fields
firsts-few : (k : Kind) (done fs : List Field) → length (firsts k done fs) ≤ length fs
unfolding firsts
firsts-few k done [] = omega arith
firsts-few k done (f ∷ fs) = go (is_key k f.tag₀ f.tag₁ || any (tagged f.tag₀ f.tag₁) done) (firsts-few k (done ++ (f ∷ [])) fs)
  where
    go : (t : Bool) → length (firsts k (done ++ (f ∷ [])) fs) ≤ length fs
        → length (cond t (firsts k (done ++ (f ∷ [])) fs) (latest fs f ∷ firsts k (done ++ (f ∷ [])) fs)) ≤ length (f ∷ fs)
    go true h = omega arith
    go false h = omega arith

-- a field has a tab, two tag bytes and a colon
text-long : (fs : List Field) → 4 * length fs ≤ length (fields_text fs)
unfolding fields_text field_text
text-long [] = omega arith
text-long (f ∷ fs) = omega (arith, text-long fs, length-append f.value.bytes (fields_text fs))

accepted-few : (strict : Bool) (at : ℕ) (s : List ℕ) (r : Record) → AcceptedLine strict at s r → 4 + 4 * length (others r) ≤ length s + 1
unfolding others
accepted-few strict at s r (sp.of-remark t) = omega arith
accepted-few strict at s r (sp.of_fields a) =
    let fs : List Field = fields_from at s 3 in
    omega (
      arith,
      ap length (accepted-others strict at s r a),
      firsts-few (kind r) [] fs,
      text-long fs,
      ap length (accepted-start strict at s r a).rest.spells,
      length-drop 3 s,
      ap length a.spells,
    )

module _ (strict : Bool) (p : Piece) where
  pub others-few : others_of (head_of (line strict p)) ≤ length p.bytes
  unfolding others_of head_of
  others-few = go (line strict p) refl
    where
      go : (l : Line) → line strict p ≡ l → others_of (head_of l) ≤ length p.bytes
      go (refused_line n) e = omega arith
      go (read r) e = omega (arith, own-others r, accepted-few strict p.at p.bytes r (line-accepted strict p r e))

  pub bytes-few : (n : ℕ) → length (record_bytes n (line strict p)) ≤ 8 * length p.bytes
  unfolding record_bytes size_of_head head_of kind_size
  bytes-few n = go (line strict p) refl
    where
      go : (l : Line) → line strict p ≡ l → length (record_bytes n l) ≤ 8 * length p.bytes
      go (refused_line n) e = omega arith
      go (read r) e =
          omega (arith, size-length n (read r), size-most (own_entry 0 (record_head r)), own-others r, accepted-few strict p.at p.bytes r (line-accepted strict p r e))
