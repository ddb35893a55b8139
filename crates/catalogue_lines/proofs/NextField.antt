-- A step of the walk over the fields of an accepted line: the entries of the other fields that are left, and the keys that are met.
use Prim.Native.Nat.{ℕ, ◌+◌, ◌^◌, ◌≤◌, ◌<◌}
use mathlib.Core.Path.{◌≡◌, refl, sym, ap, ◌∙◌}
use mathlib.Core.Bool.{Bool, true, false, not, ◌||◌}
use mathlib.Core.List.{List, [], ◌++◌}
use native.Mathlib.Omega.{arith}
use lib.ListN.{length, drop, get_or}
use Rattle.format.specs.Bytes.{none?}
use Rattle.format.specs.Fields as fields
use Rattle.format.specs.Catalogue.{tails}
use Rattle.format.specs.declared.Kind.{Kind}
use Rattle.byte_slices.specs.Upto.{upto}
use Rattle.format.specs.Keys.{is_key}
use Rattle.record_tags.specs.Others.{firsts}
use Rattle.accepted_line.specs.Run.{fields_to, fields_from, AtField}
use Rattle.accepted_line.specs.Next.{is_first, value_at, kept_at}
use Rattle.accepted_line.specs.Tables.{Walkable}
use Rattle.record.specs.declared.Stretch.{Stretch}
use Rattle.accepted_line.proofs.fields.Here.{ended}
use Rattle.accepted_line.proofs.fields.Walked.{Taken}
use Rattle.accepted_line.proofs.fields.Place.{next-at, passed-at, taken_at}
use Rattle.accepted_line.specs.Keys.{keys_from, keys_in, no_key_values, with_key}
use Rattle.accepted_line.specs.declared.KeyValues.{KeyValues}
use Rattle.accepted_line.proofs.MetKeys.{keys_none, keys-past, keys-met}
use Rattle.catalogue_entries.specs.declared.Place.{Place}
use Rattle.catalogue_entries.specs.declared.Entry.TheVariants as entry
use Rattle.catalogue_entries.specs.Entries.{entry_bytes, piece_at, field_entry}
use Rattle.catalogue_lines.specs.Parts.{field_bytes}
use Rattle.catalogue_lines.proofs.Records.{tails-more}

-- the walk has come to the place `i`, and has met the keys `ks`
pub record Walked (once : Bool) (at : ℕ) (line : List ℕ) (k : Kind) (i : ℕ) (ks : KeyValues) : Type 0 where
  pub here : AtField once at line i
  pub keys : keys_from k ks (fields_from at line i) ≡ keys_in k (fields_from at line 3)

pub walked_start : (at : ℕ) (line : List ℕ) (k : Kind) (t : List ℕ) (ks : KeyValues) → Walkable at line t → ks ≡ no_key_values → Walked (none? t) at line k 3 ks
unfolding keys_in
walked_start at line k t ks w e = record { here = w.start; keys = ap (λ ks. keys_from k ks (fields_from at line 3)) e }

-- a field is next, with the value at `v`
pub record Turned (at : ℕ) (line : List ℕ) (k : Kind) (i end : ℕ) (v : Stretch) : Type 0 where
  pub fits : (v.at < 2 ^ 32) × (v.len < 2 ^ 32)
  pub bytes : (p : Place) → p ≡ record { at = v.at; len = v.len } → field_bytes k at line i ≡ entry_bytes (entry.Field (get_or line (i + 1) 0) (get_or line (i + 2) 0) p) ++ field_bytes k at line end

-- its entry
same-entry : (f : fields.Field) (a b : ℕ) (v : Stretch) (p : Place) → f.tag₀ ≡ a → f.tag₁ ≡ b → f.value.at ≡ v.at → length f.value.bytes ≡ v.len → p ≡ record { at = v.at; len = v.len } → field_entry f ≡ entry.Field a b p
unfolding field_entry piece_at
same-entry f a b v p d e m n q = rw (d, e, m, n, q) refl

module _ (once : Bool) (at : ℕ) (line : List ℕ) (k : Kind) (i : ℕ) (ks : KeyValues) (w : Walked once at line k i ks) where
  -- nothing is left
  pub walked_end : length line ≤ i → (ks ≡ keys_in k (fields_from at line 3)) × (field_bytes k at line i ≡ [])
  unfolding field_bytes tails firsts
  walked_end l =
      let e = ended once at line i w.here l in
      (sym (keys_none k ks (fields_from at line i) e) ∙ w.keys, ap (λ fs. tails (firsts k (fields_to at line i) fs)) e)

  module _ (l : i < length line) (end : ℕ) (q : end ≡ i + 1 + upto 9 (drop (i + 1) line)) where
    -- a key is met
    pub walked-key : is_key k (get_or line (i + 1) 0) (get_or line (i + 2) 0) ≡ true → (v : Stretch) → v ≡ value_at at i end → (ms : KeyValues) → ms ≡ with_key ks (get_or line (i + 1) 0) v → Walked once at line k end ms
    walked-key t v e ms d = record {
      here = next-at once at line i w.here l end q;
      keys =
          ap (λ ms. keys_from k ms (fields_from at line end)) (d ∙ ap (with_key ks (get_or line (i + 1) 0)) e)
          ∙ sym (keys-met once at line i w.here l end q k ks t)
          ∙ w.keys;
    }

    -- none is
    pub walked-past : is_key k (get_or line (i + 1) 0) (get_or line (i + 2) 0) ≡ false → Walked once at line k end ks
    walked-past t = record { here = next-at once at line i w.here l end q; keys = sym (keys-past once at line i w.here l end q k ks t) ∙ w.keys }

    -- a key, or a tag that comes before, has no entry
    pub same_bytes : is_key k (get_or line (i + 1) 0) (get_or line (i + 2) 0) || not (is_first at line i) ≡ true → field_bytes k at line i ≡ field_bytes k at line end
    unfolding field_bytes
    same_bytes t = ap tails (passed-at once at line i w.here l end q k t)

    pub turned : at + length line ≤ 16777216 → is_key k (get_or line (i + 1) 0) (get_or line (i + 2) 0) ≡ false → is_first at line i ≡ true → (v : Stretch) → v ≡ kept_at at line i end → Turned at line k i end v
    unfolding field_bytes
    turned fit n f v e =
        let g : Taken at line k i end v = taken_at once at line i w.here l end q k v n f e in
        record {
          fits = (omega (arith, g.place, g.stands.from, g.stands.within), omega (arith, g.size, g.stands.from, g.stands.within));
          bytes = λ p d.
              ap tails g.first
              ∙ tails-more g.field (firsts k (fields_to at line end) (fields_from at line end))
              ∙ ap (λ e. entry_bytes e ++ tails (firsts k (fields_to at line end) (fields_from at line end))) (same-entry g.field _ _ v p g.tag-0 g.tag-1 g.place g.size d);
        }
