-- The names of a text's own catalogue are given by their places: each ends before the first byte below 32.
use Prim.Native.Nat.{ℕ, ◌+◌, ◌≤◌, ◌<◌}
use mathlib.Core.Path.{◌≡◌, refl, sym, ap, subst, ◌∙◌}
use mathlib.Core.Bool.{Bool, true, false}
use mathlib.Core.List.{List, [], ◌∷◌, ◌++◌, map}
use native.Mathlib.Omega.{arith}
use lib.ListN.{length, drop, length-drop, drop_of_length-le}
use lib.Seq.{drop-drop}
use lib.Dec.{ltb}
use borrow.Author.Tests.{ltb-true, ltb-false}
use Rattle.format.specs.Lines.{lines, lines_from}
use Rattle.format.specs.Fields.{Field}
use Rattle.format.specs.Records.{Record, header, reference, group, program, comment, line, read, others}
use Rattle.format.specs.Reading.{read_text, accept}
use Rattle.format.specs.Catalogue.{catalogue}
use Rattle.byte_slices.specs.First.{first_line}
use Rattle.byte_slices.specs.Stands.{Each, Stands}
use Rattle.byte_slices.proofs.Lines.{lines_none}
use Rattle.byte_slices.proofs.First.{lines-first}
use Rattle.accepted.specs.Admits.{strictly}
use Rattle.accepted.specs.Pieces.{pieces}
use Rattle.lists.specs.Pairs.{Pairs}
use Rattle.accepted.proofs.Text.{text-lines, text-stand, text-fits}
use Rattle.accepted.specs.Ended.{Ended}
use Rattle.accepted.proofs.LineKeys.{line-ended}
use Rattle.catalogue_entries.specs.declared.Entry.{Entry}
use Rattle.catalogue_entries.specs.Entries.{piece_at, head_entry, field_entry, entries_on, entries_of, entries_in}
use Rattle.catalogue_lookup.proofs.Kept.{text-entries}
use Rattle.names.specs.NameEnds.{Told}
use Rattle.names.proofs.References.{stands-bytes}

-- ---- each record's key ends where its line says

module _ (strict : Bool) (t : List ℕ) (small : length t ≤ 16777216) where
  abbrev Lines : ℕ → List Record → Type 0
  Lines at rs = Pairs (λ p r. line strict p ≡ read r) (lines_from at (drop at t)) rs

  -- from `at` on
  ended-from : (at : ℕ) (rs : List Record) → Lines at rs → Each (λ r. Each (Stands t 0) (pieces r)) rs → Each (Ended t) rs
  unfolding Each Pairs
  ended-from at [] h s = tt
  ended-from at (r ∷ rs) h s = go (ltb at (length t)) refl (λ g. ended-from (at + (first_line (drop at t)).next) rs g s.1)
    where
      none : length t ≤ at → ⊥
      none n = subst (λ ps. Pairs (λ p r. line strict p ≡ read r) ps (r ∷ rs)) (ap (lines_from at) (drop_of_length-le t n) ∙ lines_none at) h

      go : (b : Bool) → ltb at (length t) ≡ b → (Lines (at + (first_line (drop at t)).next) rs → Each (Ended t) rs) → Each (Ended t) (r ∷ rs)
      go true q on =
          let n : ℕ = (first_line (drop at t)).next in
          let l : at < length t = ltb-true at (length t) q in
          let x = subst (λ ps. Pairs (λ p r. line strict p ≡ read r) ps (r ∷ rs)) (lines-first at (drop at t) (omega (arith, l, length-drop at t))) h in
          (line-ended strict t at r small x.0 s.0, on (subst (λ l. Pairs (λ p r. line strict p ≡ read r) (lines_from (at + n) l) rs) (drop-drop n at t) x.1))
      go false q on = absurd (none (ltb-false at (length t) q))

-- ---- entries

told-fields : (t : List ℕ) (fs : List Field) (es : List Entry) → Each (Told t) es → Each (Told t) (map field_entry fs ++ es)
unfolding Each Told field_entry
told-fields t [] es h = h
told-fields t (f ∷ fs) es h = (tt, told-fields t fs es h)

told-on : (t : List ℕ) (l : ℕ) (rs : List Record) → Each (Ended t) rs → Each (λ r. Each (Stands t 0) (pieces r)) rs → Each (Told t) (entries_on l rs)
unfolding Each Ended Told pieces piece_at entries_on head_entry others
told-on t l [] e s = tt
told-on t l (header v fs ∷ rs) e s = (tt, told-fields t fs (entries_on (l + 1) rs) (told-on t (l + 1) rs e.1 s.1))
told-on t l (reference p n fs ∷ rs) e s = ((e.0.0, e.0.1 ∙ sym (stands-bytes t p s.0.0)), told-fields t fs (entries_on (l + 1) rs) (told-on t (l + 1) rs e.1 s.1))
told-on t l (group p fs ∷ rs) e s = (tt, told-fields t fs (entries_on (l + 1) rs) (told-on t (l + 1) rs e.1 s.1))
told-on t l (program p fs ∷ rs) e s = (tt, told-fields t fs (entries_on (l + 1) rs) (told-on t (l + 1) rs e.1 s.1))
told-on t l (comment p ∷ rs) e s = (tt, told-on t (l + 1) rs e.1 s.1)

pub text-told : (t : List ℕ) (rs : List Record) → read_text t ≡ accept rs → Each (Told t) (entries_in (catalogue rs))
unfolding lines entries_of
text-told t rs h =
    let s : Each (λ r. Each (Stands t 0) (pieces r)) rs = text-stand t rs h in
    subst (Each (Told t)) (sym (text-entries t rs h)) (told-on t 0 rs (ended-from (strictly t) t (text-fits t rs h) 0 rs (text-lines t rs h) s) s)
