-- The new programs' lines are the text of the records that adding makes, and come after the old ones in the tidy text.
use Prim.Native.Nat.{ℕ}
use mathlib.Core.Path.{◌≡◌, refl, sym, ap, ap₂, ◌∙◌}
use mathlib.Core.Bool.{Bool, true, false, not, cond}
use mathlib.Core.List.{List, [], ◌∷◌, ◌++◌, append_assoc, append-nil}
use mathlib.Core.Option.{Option, none, some}
use lib.ListN.{get_or, get_or-map}
use lib.Dec.{eqb}
use Rattle.format.specs.Bytes.{none?}
use Rattle.format.specs.Lines.{Piece}
use Rattle.format.specs.Fields.{Field, last_of}
use Rattle.format.specs.Records.{Record, program, code}
use Rattle.format.specs.Reading.{of_kind}
use Rattle.format.specs.Programs.{Program, links, leaves, ordinal_from}
use Rattle.format.specs.Tidy.{tidy, text, record_text, field_text, fields_text}
use Rattle.format.specs.Adding.{no_program, unplaced, or_else, chained, is_known, after_leaves, added}
use Rattle.format.specs.declared.Kind.{Kind}
use Rattle.format.specs.declared.Kind.TheVariants as kind
use Rattle.byte_slices.specs.Stands.{Each}
use Rattle.tidy_parts.specs.Parts.{prefix_text}
use Rattle.tidy_sizes.specs.Numbers.{kind_number}
use Rattle.tidy_text.specs.Kinds.{text_of_kind, front_text}
use Rattle.tidy_text.proofs.Total.{tidy-kinds, text-append}
use Rattle.program_ids.specs.Search.{ids_of}
use Rattle.add_ids.specs.Taken.{id_in}
use Rattle.add_lines.specs.Line.{joining, linking, ending, new_line}
use Rattle.add_lines.specs.Lines.{new_lines, added_text}
use Rattle.add.specs.Added.{with_added, is_none}

-- ---- one line

fields-append : (fs gs : List Field) → fields_text (fs ++ gs) ≡ fields_text fs ++ fields_text gs
unfolding fields_text
fields-append [] gs = refl
fields-append (f ∷ fs) gs =
    ap (λ l. field_text f.tag₀ f.tag₁ f.value.bytes ++ l) (fields-append fs gs)
    ∙ sym (append_assoc (field_text f.tag₀ f.tag₁ f.value.bytes) (fields_text fs) (fields_text gs))

-- the fields, and PP after them where none is given
chained-text : (fs : List Field) (fields id : List ℕ) → fields_text fs ≡ fields → fields_text (chained id fs) ≡ fields ++ linking (is_none (last_of 80 80 fs)) id
unfolding chained
chained-text fs fields id e = go (last_of 80 80 fs)
  where
    go : (o : Option Piece) → fields_text (or_else o fs (fs ++ (record { tag₀ = 80; tag₁ = 80; value = unplaced id } ∷ []))) ≡ fields ++ linking (is_none o) id
    go none = unfold or_else is_none linking unplaced fields_text in (fields-append fs _ ∙ ap₂ (λ x y. x ++ y) e (append-nil _))
    go (some p) = unfold or_else is_none linking in (e ∙ sym (append-nil fields))

-- what follows the ID
tail : (p fields l f : List ℕ) → f ≡ fields ++ l → p ++ f ++ (10 ∷ []) ≡ p ++ (fields ++ l ++ (10 ∷ []))
tail p fields l f e = append_assoc p f (10 ∷ []) ∙ ap (λ x. p ++ (x ++ (10 ∷ []))) e

abbrev named : List ℕ → List ℕ
named l = 64 ∷ 80 ∷ 71 ∷ 9 ∷ 73 ∷ 68 ∷ 58 ∷ l

-- a program's line is the line of its parts
line-text : (alone : Bool) (prefix id fields : List ℕ) (fs : List Field) (linked : Bool) → fields_text fs ≡ fields ++ linking linked id
    → record_text (program (unplaced (cond alone prefix (prefix ++ (45 ∷ id)))) fs) ≡ new_line alone linked prefix fields id
unfolding record_text new_line ending joining unplaced prefix_text field_text
line-text true prefix id fields fs linked e =
    ap named (tail prefix fields (linking linked id) (fields_text fs) e ∙ ap (λ p. p ++ (fields ++ linking linked id ++ (10 ∷ []))) (sym (append-nil prefix)))
line-text false prefix id fields fs linked e = ap named (tail (prefix ++ (45 ∷ id)) fields (linking linked id) (fields_text fs) e)

-- ---- one after each leaf

module _ (ps : List Program) (prefix fields : List ℕ) (fs : List Field) (e : fields_text fs ≡ fields) where
  abbrev ids : List (List ℕ)
  ids = ids_of ps

  abbrev linked : Bool
  linked = is_none (last_of 80 80 fs)

  ids-named : (k : ℕ) → id_in ids k ≡ (get_or ps k no_program).id
  unfolding id_in no_program
  ids-named k = get_or-map (λ p. p.id) ps k no_program

  leaf-line : (free : Bool) (k : ℕ)
      → record_text (program (unplaced (cond free prefix (prefix ++ (45 ∷ (get_or ps k no_program).id)))) (chained (get_or ps k no_program).id fs)) ≡ new_line free linked prefix fields (id_in ids k)
  leaf-line free k =
      line-text free prefix (get_or ps k no_program).id fields (chained (get_or ps k no_program).id fs) linked (chained-text fs fields (get_or ps k no_program).id e)
      ∙ ap (new_line free linked prefix fields) (sym (ids-named k))

  after_text : (free : Bool) (ks : List ℕ) → text (after_leaves free prefix fs ps ks) ≡ new_lines ids free linked prefix fields ks
  unfolding text after_leaves new_lines
  after_text free [] = refl
  after_text free (k ∷ ks) = ap₂ (λ x y. x ++ y) (leaf-line free k) (after_text false ks)

  -- with no programs there is one, whose fields are those that are given
  one-text : text (program (unplaced prefix) fs ∷ []) ≡ new_line true false prefix fields []
  unfolding text linking
  one-text = append-nil _ ∙ line-text true prefix [] fields fs false (e ∙ sym (append-nil fields))

  pub added-text : text (added prefix fs ps) ≡ added_text ids (none? ps) (not (is_known (ordinal_from 0 prefix ps))) linked prefix fields (leaves (links ps))
  added-text = go ps refl
    where
      go : (qs : List Program) → ps ≡ qs
          → text (added prefix fs qs) ≡ added_text ids (none? qs) (not (is_known (ordinal_from 0 prefix qs))) linked prefix fields (leaves (links qs))
      go [] q = unfold added added_text none? in one-text
      go (p ∷ qs) q = unfold added added_text none? in (ap (λ x. text (after_leaves (not (is_known (ordinal_from 0 prefix x))) prefix fs x (leaves (links x)))) (sym q) ∙ after_text (not (is_known (ordinal_from 0 prefix ps))) (leaves (links ps)) ∙ ap (λ x. new_lines ids (not (is_known (ordinal_from 0 prefix x))) linked prefix fields (leaves (links x))) q)

-- ---- after the old ones

-- all are programs
abbrev Programs : List Record → Type 0
Programs rs = Each (λ r. code r ≡ 4) rs

after-programs : (free : Bool) (prefix : List ℕ) (fs : List Field) (ps : List Program) (ks : List ℕ) → Programs (after_leaves free prefix fs ps ks)
unfolding after_leaves Each code
after-programs free prefix fs ps [] = tt
after-programs free prefix fs ps (k ∷ ks) = (refl, after-programs false prefix fs ps ks)

added-programs : (prefix : List ℕ) (fs : List Field) (ps : List Program) → Programs (added prefix fs ps)
unfolding added Each code
added-programs prefix fs [] = (refl, tt)
added-programs prefix fs (p ∷ ps) = after-programs (not (is_known (ordinal_from 0 prefix (p ∷ ps)))) prefix fs (p ∷ ps) (leaves (links (p ∷ ps)))

kind-append : (k : ℕ) (rs qs : List Record) → of_kind k (rs ++ qs) ≡ of_kind k rs ++ of_kind k qs
unfolding of_kind
kind-append k [] qs = refl
kind-append k (r ∷ rs) qs = go (eqb (code r) k) (kind-append k rs qs)
  where
    go : (b : Bool) → of_kind k (rs ++ qs) ≡ of_kind k rs ++ of_kind k qs
        → cond b (r ∷ of_kind k (rs ++ qs)) (of_kind k (rs ++ qs)) ≡ cond b (r ∷ of_kind k rs) (of_kind k rs) ++ of_kind k qs
    go true ih = ap (λ l. r ∷ l) ih
    go false ih = ih

kind-programs : (k : ℕ) (qs : List Record) → Programs qs → of_kind k qs ≡ cond (eqb 4 k) qs []
unfolding of_kind Each
kind-programs k [] h = go (eqb 4 k)
  where
    go : (b : Bool) → ◌≡◌ {A = List Record} [] (cond b [] [])
    go true = refl
    go false = refl
kind-programs k (q ∷ qs) h = ap (λ c. cond (eqb c k) (q ∷ of_kind k qs) (of_kind k qs)) h.0 ∙ go (eqb 4 k) (kind-programs k qs h.1)
  where
    go : (b : Bool) → of_kind k qs ≡ cond b qs [] → cond b (q ∷ of_kind k qs) (of_kind k qs) ≡ cond b (q ∷ qs) []
    go true ih = ap (λ l. q ∷ l) ih
    go false ih = ih

module _ (rs qs : List Record) (h : Programs qs) where
  same_kind : (k : Kind) → eqb 4 (kind_number k) ≡ false → text_of_kind k (rs ++ qs) ≡ text_of_kind k rs
  unfolding text_of_kind
  same_kind k e =
      ap text (kind-append (kind_number k) rs qs ∙ ap (λ l. of_kind (kind_number k) rs ++ l) (kind-programs (kind_number k) qs h ∙ ap (λ b. cond b qs []) e) ∙ append-nil (of_kind (kind_number k) rs))

  more-programs : text_of_kind kind.Program (rs ++ qs) ≡ text_of_kind kind.Program rs ++ text qs
  unfolding text_of_kind kind_number
  more-programs = ap text (kind-append 4 rs qs ∙ ap (λ l. of_kind 4 rs ++ l) (kind-programs 4 qs h)) ∙ text-append (of_kind 4 rs) qs

  front-more : front_text (rs ++ qs) ≡ front_text rs ++ text qs
  unfolding front_text kind_number
  front-more =
      rw (same_kind kind.Header refl, same_kind kind.ReferenceSequence refl, same_kind kind.ReadGroup refl, more-programs)
      (sym (append_assoc (text_of_kind kind.Header rs ++ text_of_kind kind.ReferenceSequence rs ++ text_of_kind kind.ReadGroup rs) (text_of_kind kind.Program rs) (text qs)))

  tidy-more : tidy (rs ++ qs) ≡ with_added rs (text qs)
  unfolding with_added kind_number
  tidy-more = tidy-kinds (rs ++ qs) ∙ ap₂ (λ x y. x ++ y) front-more (same_kind kind.Comment refl)

-- the tidy text with programs more
pub tidy-added : (rs : List Record) (prefix : List ℕ) (fs : List Field) (ps : List Program) → tidy (rs ++ added prefix fs ps) ≡ with_added rs (text (added prefix fs ps))
tidy-added rs prefix fs ps = tidy-more rs (added prefix fs ps) (added-programs prefix fs ps)
