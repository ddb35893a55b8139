-- What is gathered from the PG lines of an accepted text is what is gathered from its catalogue.
use Prim.Native.Nat.{ℕ, ◌+◌, ◌<◌}
use mathlib.Core.Path.{◌≡◌, refl, sym, ap, ap₂, ◌∙◌}
use mathlib.Core.Bool.{Bool, true, false, ◌&&◌, cond}
use mathlib.Core.List.{List, [], ◌∷◌, ◌++◌, map}
use mathlib.Core.Option.{Option, none, some}
use native.Mathlib.Omega.{arith}
use Rattle.std.specs.Prelude as std
use lib.Dec.{eqb}
use borrow.Author.Tests.{eqb-true, ne_eqb}
use Rattle.format.specs.Bytes.{any}
use Rattle.format.specs.Lines.{Piece}
use Rattle.format.specs.Fields.{Field, tagged, repeats, later, last_of, without, put, settled_on, settled}
use Rattle.format.specs.Records.{Record, header, reference, group, program, comment, code, key, others}
use Rattle.format.specs.Reading.{accept, read_text, of_kind}
use Rattle.accepted_rule.specs.Rule.{ReadsBy}
use Rattle.format.specs.Catalogue.{catalogue}
use Rattle.byte_slices.specs.Stands.{Each}
use Rattle.lists.specs.Pairs.{Pairs}
use Rattle.accepted.specs.Sound.{Sound}
use Rattle.accepted.specs.Spelled as sp
use Rattle.accepted.specs.Spelled.{Spelled, Made}
use Rattle.lists.proofs.Bools.{never, split, or_left, or_right}
use Rattle.accepted.proofs.Tags.{tagged-same, later-assoc, repeats-put}
use Rattle.accepted.proofs.Text.{text-sound}
use Rattle.tidy_laws.proofs.Length.{last-without}
use Rattle.catalogue_entries.specs.declared.Place.{Place}
use Rattle.catalogue_entries.specs.declared.Entry.{Entry}
use Rattle.catalogue_entries.specs.Entries.{piece_at, head_entry, field_entry, entries_on, entries_of, entries_in}
use Rattle.catalogue_lookup.specs.Lookup.{found_of}
use Rattle.catalogue_lookup.proofs.Kept.{text-entries}
use Rattle.catalogue_lookup.proofs.Answers.{last_none, later-none, value-fields}
use Rattle.program_ids.specs.Places.{nowhere}
use Rattle.accepted_line.specs.Run.{AtField, fields_from}
use Rattle.accepted_line.specs.Next.{last_in, or_value}
use Rattle.accepted_line.proofs.fields.Start.{accepted-fields, accepted-start}
use Rattle.program_places.specs.Gathered.{ProgramPlaces, or_nowhere, noted_in}
use Rattle.program_lines.specs.Found.{pg_from, place_of, previous_of, notes_of}
use Rattle.program_lines.proofs.Accepted.{IsProgram, spelled, text-program-lines}
use Rattle.program_lines.proofs.Last.{last-after}

-- ---- the last value of a tag, where each tag occurs once

abbrev own : ℕ → ℕ → Field → Option Piece
own a b f = cond (tagged a b f) (some f.value) none

any-tag : (a b : ℕ) (f : Field) (gs : List Field) → tagged a b f ≡ true → any (tagged f.tag₀ f.tag₁) gs ≡ false → any (tagged a b) gs ≡ false
unfolding tagged
any-tag a b f gs t h =
    let x = eqb-true f.tag₀ a (go (eqb f.tag₀ a) (eqb f.tag₁ b) t).0 in
    let y = eqb-true f.tag₁ b (go (eqb f.tag₀ a) (eqb f.tag₁ b) t).1 in
    rw (← x, ← y) h
  where
    go : (u v : Bool) → u && v ≡ true → (u ≡ true) × (v ≡ true)
    go true true e = (refl, refl)
    go true false e = absurd (never (cc))
    go false v e = absurd (never (cc))

last-put : (a b : ℕ) (f : Field) (gs : List Field) → repeats gs ≡ false → last_of a b (put f gs) ≡ later (last_of a b gs) (own a b f)
unfolding put last_of repeats later
last-put a b f [] h = sym (later-none (own a b f))
last-put a b f (g ∷ gs) h =
    split (tagged f.tag₀ f.tag₁ g)
    (λ e. ap (λ t. last_of a b (cond t (f ∷ gs) (g ∷ put f gs))) e ∙ same e (tagged a b f) refl)
    (λ e. ap (λ t. last_of a b (cond t (f ∷ gs) (g ∷ put f gs))) e
    ∙ ap (later (own a b g)) (last-put a b f gs (or_right (any (tagged g.tag₀ g.tag₁) gs) (repeats gs) h))
    ∙ later-assoc (own a b g) (last_of a b gs) (own a b f))
  where
    same : tagged f.tag₀ f.tag₁ g ≡ true → (t : Bool) → tagged a b f ≡ t → later (own a b f) (last_of a b gs) ≡ later (later (own a b g) (last_of a b gs)) (own a b f)
    same e true d =
        let n : last_of a b gs ≡ none = last_none a b gs (any-tag a b g gs (sym (tagged-same a b f g e) ∙ d) (or_left (any (tagged g.tag₀ g.tag₁) gs) (repeats gs) h)) in
        rw (d, n) refl
    same e false d = rw (sym (tagged-same a b f g e) ∙ d, d) refl

last_on : (a b : ℕ) (done fs : List Field) → repeats done ≡ false → last_of a b (settled_on done fs) ≡ later (last_of a b done) (last_of a b fs)
unfolding settled_on last_of later
last_on a b done [] h = refl
last_on a b done (f ∷ fs) h = last_on a b (put f done) fs (repeats-put f done h) ∙ ap (λ o. later o (last_of a b fs)) (last-put a b f done h) ∙ sym (later-assoc (last_of a b done) (own a b f) (last_of a b fs))

last-settled : (a b : ℕ) (fs : List Field) → last_of a b (settled fs) ≡ last_of a b fs
unfolding settled repeats last_of
last-settled a b fs = last_on a b [] fs refl ∙ later-none (last_of a b fs)

-- ---- one program

unfoldable pub id_place : Option Piece → Place
unfolding nowhere piece_at
id_place none = nowhere
id_place (some p) = piece_at p

-- what a record has of it
unfoldable pub record_notes : Record → ProgramPlaces
unfolding id_place or_nowhere found_of key others last_of
record_notes r = record { id = id_place (key r); previous = or_nowhere (found_of (last_of 80 80 (others r))) }

no-id : (f : Field) → tagged 73 68 f ≡ true → tagged 80 80 f ≡ false
unfolding tagged
no-id f t = go (eqb f.tag₀ 73) refl (eqb f.tag₁ 68) t
  where
    go : (u : Bool) → eqb f.tag₀ 73 ≡ u → (v : Bool) → u && v ≡ true → eqb f.tag₀ 80 && eqb f.tag₁ 80 ≡ false
    go true e v d = ap (λ n. eqb n 80 && eqb f.tag₁ 80) (eqb-true f.tag₀ 73 e)
    go false e v d = absurd (never (cc))

previous-is : (o : Option Piece) → ((p : Piece) → o ≡ some p → 0 < p.at) → previous_of (or_value (record { at = 0; len = 0 }) o) ≡ or_nowhere (found_of o)
unfolding previous_of or_value or_nowhere found_of place_of piece_at
previous-is none h = refl
previous-is (some p) h = let n = h p refl in rw (ne_eqb p.at 0 (λ e. omega arith)) refl

made-notes : (at : ℕ) (s : List ℕ) (strict : Bool) (fs : List Field) (r : Record) (k : Rattle.format.specs.declared.Kind.Kind) → AtField strict at s 3 → fields_from at s 3 ≡ fs → Made fs k r → eqb (code r) 4 ≡ true
    → ◌≡◌ {A = ProgramPlaces} (record { id = place_of (last_in at s 73 68); previous = previous_of (last_in at s 80 80) }) (record_notes r)
unfolding code record_notes id_place key others last_in or_value place_of piece_at
made-notes at s strict fs r k h e (sp.of-header p v d g) c = absurd (never (cc))
made-notes at s strict fs r k h e (sp.of-reference p n d g) c = absurd (never (cc))
made-notes at s strict fs r k h e (sp.of-group p d) c = absurd (never (cc))
made-notes at s strict fs r k h e (sp.of-program p d) c =
    pair (ap (λ o. place_of (or_value (record { at = 0; len = 0 }) o)) (ap (last_of 73 68) e ∙ d))
    (previous-is (last_of 80 80 (fields_from at s 3)) (λ q. last-after strict at s h 80 80 q)
    ∙ ap (λ o. or_nowhere (found_of o)) (ap (last_of 80 80) e ∙ sym (last-settled 80 80 (without 73 68 fs) ∙ last-without 80 80 73 68 no-id fs)))
  where
    pair : {a b c d : Place} → a ≡ b → c ≡ d → ◌≡◌ {A = ProgramPlaces} (record { id = a; previous = c }) (record { id = b; previous = d })
    pair x y = rw (x, y) refl

pub line-notes : (strict : Bool) (p : Piece) (r : Record) → IsProgram strict p r → notes_of p ≡ record_notes r
unfolding notes_of
line-notes strict p r h =
    let a : Spelled strict p.at p.bytes r = spelled strict p r h in
    made-notes p.at p.bytes strict a.fields r a.kind (accepted-start strict p.at p.bytes r a) (accepted-fields strict p.at p.bytes r a) a.made h.kind

-- ---- all of them

all-notes : (strict : Bool) (ps : List Piece) (rs : List Record) → Pairs (IsProgram strict) ps rs → map notes_of ps ≡ map record_notes rs
unfolding Pairs
all-notes strict [] [] h = refl
all-notes strict [] (r ∷ rs) h = absurd h
all-notes strict (p ∷ ps) [] h = absurd h
all-notes strict (p ∷ ps) (r ∷ rs) h = ap₂ (λ x xs. x ∷ xs) (line-notes strict p r h.0) (all-notes strict ps rs h.1)

noted-fields : (fs : List Field) (es : List Entry) → noted_in (map field_entry fs ++ es) ≡ noted_in es
unfolding noted_in field_entry
noted-fields [] es = refl
noted-fields (f ∷ fs) es = noted-fields fs es

abbrev note_of : Piece → std.Option Place → ProgramPlaces
note_of p v = record { id = piece_at p; previous = or_nowhere v }

noted-on : (l : ℕ) (rs : List Record) → Each Sound rs → noted_in (entries_on l rs) ≡ map record_notes (of_kind 4 rs)
unfolding Each noted_in entries_on head_entry of_kind code record_notes id_place key others
noted-on l [] s = refl
noted-on l (header v fs ∷ rs) s = noted-fields fs (entries_on (l + 1) rs) ∙ noted-on (l + 1) rs s.1
noted-on l (reference p n fs ∷ rs) s = noted-fields fs (entries_on (l + 1) rs) ∙ noted-on (l + 1) rs s.1
noted-on l (group p fs ∷ rs) s = noted-fields fs (entries_on (l + 1) rs) ∙ noted-on (l + 1) rs s.1
noted-on l (program p fs ∷ rs) s =
    ap₂ (λ v xs. note_of p v ∷ xs) (value-fields 80 80 fs (l + 1) rs s.0.once)
    (noted-fields fs (entries_on (l + 1) rs) ∙ noted-on (l + 1) rs s.1)
noted-on l (comment p ∷ rs) s = noted-on (l + 1) rs s.1

pub same-gathered : (strict : Bool) (t : List ℕ) (rs : List Record) → read_text t ≡ accept rs → ReadsBy strict t → map notes_of (pg_from t 0) ≡ noted_in (entries_in (catalogue rs))
unfolding entries_of
same-gathered strict t rs e s =
    all-notes strict (pg_from t 0) (of_kind 4 rs) (text-program-lines strict t rs e s)
    ∙ sym (ap noted_in (text-entries t rs e) ∙ noted-on 0 rs (text-sound t rs e))
