-- A step of the pass over the lines: a program that is kept is the next one, and its places go to the end of the arrays.
use Prim.Native.Nat.{ℕ, zero, suc, ◌+◌, ◌-◌, ◌≤◌, ◌<◌}
use mathlib.Core.Path.{◌≡◌, refl, sym, ap, ap₂, subst, ◌∙◌}
use mathlib.Core.Bool.{Bool, true, false, cond}
use mathlib.Core.List.{List, [], ◌∷◌, ◌++◌, map, map-append, append-nil}
use mathlib.Core.Option.{Option, none, some}
use native.Mathlib.Omega.{arith}
use lib.ListN.{length, take, drop, set, replicate, length-append, length-map, length-drop}
use lib.Seq.{take-add, length-take-le}
use lib.Dec.{eqb}
use Rattle.format.specs.Lines.{Piece}
use Rattle.format.specs.Fields.{last_of}
use Rattle.format.specs.Records.{Record, header, reference, group, program, comment, code, key, others, Line, refused_line, read, line}
use Rattle.format.specs.Reading.{of_kind}
use Rattle.format.specs.Programs.{Program, programs, program_of, bytes_of}
use Rattle.byte_slices.specs.Stands.{Each, Stands}
use Rattle.accepted.specs.Pieces.{pieces}
use Rattle.lists.specs.Pairs.{Pairs}
use Rattle.accepted.specs.Read.{is_read}
use Rattle.lists.proofs.Bools.{never, split}
use Rattle.accepted.proofs.OfKind.{of_kind-append}
use Rattle.lists.proofs.Pairs.{each_all, pairs-length}
use Rattle.accepted.proofs.Stands.{stands-within, line-stand}
use Rattle.program_chains.specs.Parents.{in_array}
use Rattle.program_chains.proofs.Arrays.{array-push}
use Rattle.catalogue_entries.specs.declared.Place.{Place}
use Rattle.catalogue_entries.specs.Entries.{piece_at}
use Rattle.catalogue_lookup.specs.Lookup.{found_of}
use Rattle.catalogue_lookup.proofs.Kept.{record-values, last-value}
use Rattle.program_ids.specs.Places.{InsideText, bytes_at, nowhere}
use Rattle.program_places.specs.Gathered.{ProgramPlaces, or_nowhere, arrays_of, gathered_of}
use Rattle.program_places.specs.declared.Programs.{Programs}
use Rattle.program_places.proofs.Noting.{Kept, map_snoc}
use Rattle.program_lines.specs.Found.{notes_of}
use Rattle.program_lines.proofs.Accepted.{IsProgram, spelled}
use Rattle.program_lines.proofs.Same.{id_place, record_notes, line-notes}
use Rattle.program_parents.specs.Placed.{Before, Says, PlacesOf}
use Rattle.read_judge.proofs.Judging.{pairs-snoc}
use Rattle.tidy_line.specs.Line.{line_writable, line_text, line_size}
use Rattle.std.specs.Prelude.{Some, None}
use Rattle.format.specs.Carrying.{kept_of}
use Rattle.carry_laws.proofs.Judged.{kept_append}
use Rattle.carry_lines.specs.Going.{Going, judged_lines}
use Rattle.carry_lines.specs.declared.Cursor.{Cursor}
use Rattle.carry_passes.specs.NextLine.{lent_to, Turn}
use Rattle.carry_passes.proofs.NextLine.{before}
use Rattle.fault_programs.specs.Plain.{plain_at, one_if, plain_count}

-- ---- the fault of a line

pub plain-skipped : (n : ℕ) (l : Line) → (n ≡ 0 → ⊥) → plain_at n l ≡ n
unfolding plain_at
plain-skipped zero l h = absurd (h refl)
plain-skipped (suc n) l h = refl

pub plain-bad : (n : ℕ) (l : Line) → n ≡ 0 → line_size l ≡ None → plain_at n l ≡ 24
unfolding plain_at line_size
plain-bad n l z e = ap (λ k. plain_at k l) z ∙ go (line_writable l) e
  where
    go : (b : Bool) → cond b (Some (length (line_text l))) None ≡ None → cond {A = ℕ} b 0 24 ≡ 24
    go true e = absurd (never cc)
    go false e = refl

pub plain-good : (n : ℕ) (l : Line) (k : ℕ) → n ≡ 0 → line_size l ≡ Some k → plain_at n l ≡ 0
unfolding plain_at line_size
plain-good n l k z e = ap (λ k. plain_at k l) z ∙ go (line_writable l) e
  where
    go : (b : Bool) → cond b (Some (length (line_text l))) None ≡ Some k → cond {A = ℕ} b 0 24 ≡ 0
    go true e = refl
    go false e = absurd (never cc)

pub one_none : (n : ℕ) → n ≡ 0 → one_if n ≡ 0
unfolding one_if
one_none n e = ap one_if e

pub one-some : (n : ℕ) → (n ≡ 0 → ⊥) → one_if n ≡ 1
unfolding one_if
one-some zero h = absurd (h refl)
one-some (suc n) h = refl

pub one-le : (n : ℕ) → one_if n ≤ 1
unfolding one_if
one-le zero = omega arith
one-le (suc n) = omega arith

-- of the line of a step
module _ (strict : Bool) (t : List ℕ) (from : ℕ) (c : Cursor) (end n : ℕ) (u : Turn strict t from c end n) where
  abbrev pub piece_at_turn : Piece
  piece_at_turn = record { at = c.at; bytes = lent_to t c.at end }

  -- as it is judged
  pub plain-judged : (m : ℕ) → m ≡ plain_at n (line strict piece_at_turn) → (ls : List Line) → plain_count (u.judged ∷ ls) ≡ one_if m + plain_count ls
  unfolding plain_at one_if plain_count is_read
  plain-judged m e ls = go n refl
    where
      kept : (l : Line) → is_read l ≡ true → plain_count (l ∷ ls) ≡ one_if (plain_at 0 l) + plain_count ls
      kept (refused_line n) h = absurd (never cc)
      kept (read r) h = refl

      go : (k : ℕ) → n ≡ k → plain_count (u.judged ∷ ls) ≡ one_if m + plain_count ls
      go zero z =
          kept u.judged (u.kept z).1
          ∙ ap (λ x. one_if x + plain_count ls) (ap (plain_at 0) (u.kept z).0 ∙ ap (λ k. plain_at k (line strict piece_at_turn)) (sym z) ∙ sym e)
      go (suc k) z =
          ap (λ l. plain_count (l ∷ ls)) (u.skipped (omega (arith, z)))
          ∙ ap (λ x. one_if x + plain_count ls) (sym (e ∙ ap (λ k. plain_at k (line strict piece_at_turn)) z))

-- ---- programs

abbrev pub programs_in : List Line → List Program
programs_in ls = programs (kept_of ls)

pub programs-append : (ls ms : List Line) → programs_in (ls ++ ms) ≡ programs_in ls ++ programs_in ms
unfolding programs
programs-append ls ms =
    ap programs (kept_append ls ms) ∙ ap (map program_of) (of_kind-append 4 (kept_of ls) (kept_of ms)) ∙ map-append program_of (of_kind 4 (kept_of ls)) (of_kind 4 (kept_of ms))

-- is a line read as a program?
pub record ReadProgram (l : Line) : Type 0 where
  pub is : Record
  pub reads : l ≡ read is
  pub kind : eqb (code is) 4 ≡ true
  pub one : programs_in (l ∷ []) ≡ program_of is ∷ []

-- a line is a program, or it has none
pub by-programs : {C : Type 0} (l : Line) → (ReadProgram l → C) → (programs_in (l ∷ []) ≡ [] → C) → C
unfolding kept_of programs of_kind code
by-programs (refused_line n) f g = g refl
by-programs (read (header v fs)) f g = g refl
by-programs (read (reference p n fs)) f g = g refl
by-programs (read (group p fs)) f g = g refl
by-programs (read (program p fs)) f g = f (record { is = program p fs; reads = refl; kind = refl; one = refl })
by-programs (read (comment p)) f g = g refl

-- ---- by the cursor

module _ (strict : Bool) (t : List ℕ) (from : ℕ) (area ids : List ℕ) (c : Cursor) (g : Going strict t from area ids c) where
  pub programs-done : c.programs ≡ length (programs_in (take c.line (judged_lines strict t from)))
  unfolding programs
  programs-done =
      g.told ∙ ap (λ ls. length (of_kind 4 (kept_of ls))) (sym (before strict t from area ids c g)) ∙ sym (length-map (of_kind 4 (kept_of (take c.line (judged_lines strict t from)))) program_of)

module _ (strict : Bool) (t : List ℕ) (from : ℕ) (area ids : List ℕ) (c : Cursor) (g : Going strict t from area ids c)
    (a i : List ℕ) (d : Cursor) (h : Going strict t from a i d) (on : d.line ≡ c.line + 1)
    (l : Line) (more : drop c.line (judged_lines strict t from) ≡ l ∷ drop (c.line + 1) (judged_lines strict t from)) where
  abbrev all : List Line
  all = judged_lines strict t from

  one_line : take d.line all ≡ take c.line all ++ (l ∷ [])
  one_line = ap (λ k. take k all) on ∙ take-add c.line 1 all ∙ ap (λ ls. take c.line all ++ take 1 ls) more

  programs-on : programs_in (take d.line all) ≡ programs_in (take c.line all) ++ programs_in (l ∷ [])
  programs-on = ap programs_in one_line ∙ programs-append (take c.line all) (l ∷ [])

  programs-count : d.programs ≡ c.programs + length (programs_in (l ∷ []))
  programs-count =
      omega (arith, programs-done strict t from a i d h, programs-done strict t from area ids c g, ap length programs-on, length-append (programs_in (take c.line all)) (programs_in (l ∷ [])))

  -- no program more
  pub programs-same : d.programs ≡ c.programs → programs_in (take d.line all) ≡ programs_in (take c.line all)
  programs-same e =
      by-programs l
      (λ p. absurd (omega (arith, programs-count, e, ap length p.one)))
      (λ z. programs-on ∙ ap (λ ps. programs_in (take c.line all) ++ ps) z ∙ append-nil (programs_in (take c.line all)))

  -- one more
  pub programs-one : (d.programs ≡ c.programs → ⊥) → ReadProgram l
  programs-one e = by-programs l (λ p. p) (λ z. absurd (e (omega (arith, programs-count, ap length z))))

  pub programs-more : (p : ReadProgram l) → programs_in (take d.line all) ≡ programs_in (take c.line all) ++ (program_of p.is ∷ [])
  programs-more p = programs-on ∙ ap (λ ps. programs_in (take c.line all) ++ ps) p.one

  pub programs-room : (d.programs ≡ c.programs → ⊥) → c.programs < 1024
  programs-room e = let p = programs-one e in omega (arith, programs-count, ap length p.one, h.few)

-- the line of a step that adds a program
module _ (strict : Bool) (t : List ℕ) (from : ℕ) (c : Cursor) (end n : ℕ) (u : Turn strict t from c end n) (p : ReadProgram u.judged) where
  kept-turn : n ≡ 0
  kept-turn = go n refl
    where
      go : (k : ℕ) → n ≡ k → n ≡ 0
      go zero z = z
      go (suc k) z = let q : read p.is ≡ refused_line n = sym p.reads ∙ u.skipped (omega (arith, z)) in absurd (never cc)

  pub is-program : IsProgram strict (record { at = c.at; bytes = lent_to t c.at end }) p.is
  is-program = record { reads = sym (u.kept kept-turn).0 ∙ p.reads; kind = p.kind }

-- ---- what is noted of a program says it

before-found : (t : List ℕ) (o : Option Piece) → ((p : Piece) → o ≡ some p → Stands t 0 p) → Before t (or_nowhere (found_of o)) o
unfolding Before or_nowhere found_of
before-found t none h = refl
before-found t (some p) h = (refl, h p refl)

notes-say : (t : List ℕ) (r : Record) → eqb (code r) 4 ≡ true → Each (Stands t 0) (pieces r) → Says t (record_notes r) (program_of r)
unfolding code record_notes id_place key others program_of bytes_of pieces Each piece_at bytes_at
notes-say t (header v fs) k h = absurd (never cc)
notes-say t (reference p n fs) k h = absurd (never cc)
notes-say t (group p fs) k h = absurd (never cc)
notes-say t (program p fs) k h = record {
  inside = inside h.0;
  bytes = there h.0;
  previous = before-found t (last_of 80 80 fs) (λ q e. last-value (Stands t 0) 80 80 fs q (record-values (Stands t 0) (program p fs) h) e);
}
  where
    inside : Stands t 0 p → InsideText (length t) (piece_at p)
    inside s = omega (arith, s.within)

    there : Stands t 0 p → bytes_at t (piece_at p) ≡ p.bytes
    there s = let z : p.at - 0 ≡ p.at = omega arith in sym (s.bytes ∙ ap (λ n. take (length p.bytes) (drop n t)) z)
notes-say t (comment p) k h = absurd (never cc)

each_within : (t : List ℕ) (p : Piece) → Stands t 0 p → (qs : List Piece) → Each (Stands p.bytes p.at) qs → Each (Stands t 0) qs
unfolding Each
each_within t p s [] h = tt
each_within t p s (q ∷ qs) h = (stands-within t 0 p q s h.0, each_within t p s qs h.1)

pub line-says : (strict : Bool) (t : List ℕ) (p : Piece) (r : Record) → IsProgram strict p r → Stands t 0 p → Says t (notes_of p) (program_of r)
line-says strict t p r i s = rw (line-notes strict p r i) (notes-say t r i.kind (each_within t p s (pieces r) (line-stand strict p r i.reads)))

-- ---- arrays

pub record Noting (t : List ℕ) (ps : List Program) (ats lens from widths : List ℕ) : Type 0 where
  pub ns : List ProgramPlaces
  pub id-at : Kept (λ n. n.id.at) ns ats
  pub id-len : Kept (λ n. n.id.len) ns lens
  pub previous-at : Kept (λ n. n.previous.at) ns from
  pub previous-len : Kept (λ n. n.previous.len) ns widths
  pub says : Pairs (Says t) ns ps

kept_more : (f : ProgramPlaces → ℕ) (ns : List ProgramPlaces) (n : ProgramPlaces) (xs : List ℕ) (count v : ℕ) → Kept f ns xs → length ns ≡ count → count < 1024 → v ≡ f n → Kept f (ns ++ (n ∷ [])) (set xs count v)
kept_more f ns n xs count v k l h e =
    let m : length (map f ns) ≡ count = length-map ns f ∙ l in
    rw (k, ← m, e) (array-push (map f ns) (f n) (omega arith) ∙ ap in_array (map_snoc f ns n))

pub noting-none : (t : List ℕ) → Noting t [] (replicate 1024 0) (replicate 1024 0) (replicate 1024 0) (replicate 1024 0)
unfolding in_array Pairs
noting-none t = record { ns = []; id-at = refl; id-len = refl; previous-at = refl; previous-len = refl; says = tt }

pub noting-more : (t : List ℕ) (ps : List Program) (ats lens from widths : List ℕ) (i : ℕ) → Noting t ps ats lens from widths → i ≡ length ps → i < 1024 → (n : ProgramPlaces) (p : Program) → Says t n p
    → (id previous : Place) → id ≡ n.id → previous ≡ n.previous → (qs : List Program) → qs ≡ ps ++ (p ∷ [])
    → Noting t qs (set ats i id.at) (set lens i id.len) (set from i previous.at) (set widths i previous.len)
noting-more t ps ats lens from widths i x e h n p s id previous a b qs is =
    let m : length x.ns ≡ i = pairs-length (Says t) x.ns ps x.says ∙ sym e in
    record {
      ns = x.ns ++ (n ∷ []);
      id-at = kept_more (λ n. n.id.at) x.ns n ats i id.at x.id-at m h (ap (λ q. q.at) a);
      id-len = kept_more (λ n. n.id.len) x.ns n lens i id.len x.id-len m h (ap (λ q. q.len) a);
      previous-at = kept_more (λ n. n.previous.at) x.ns n from i previous.at x.previous-at m h (ap (λ q. q.at) b);
      previous-len = kept_more (λ n. n.previous.len) x.ns n widths i previous.len x.previous-len m h (ap (λ q. q.len) b);
      says = rw is (pairs-snoc (Says t) x.ns ps n p x.says s);
    }

-- the whole
pub noting-all : (t : List ℕ) (ps : List Program) (ats lens from widths : List ℕ) (count : ℕ) → Noting t ps ats lens from widths → count ≡ length ps → count ≤ 1024
    → PlacesOf t ps (record { id = record { at = ats; len = lens }; previous = record { at = from; len = widths }; count = count })
unfolding gathered_of arrays_of
noting-all t ps ats lens from widths count x e few =
    let m : count ≡ length x.ns = e ∙ sym (pairs-length (Says t) x.ns ps x.says) in
    record { ns = x.ns; is = rw (x.id-at, x.id-len, x.previous-at, x.previous-len, m) refl; says = x.says; few = omega arith }

-- all lines are passed
pub all-taken : (k : ℕ) (ls : List Line) → drop k ls ≡ [] → take k ls ≡ ls
all-taken zero ls e = sym e
all-taken (suc k) [] e = refl
all-taken (suc k) (l ∷ ls) e = ap (λ ms. l ∷ ms) (all-taken k ls e)

-- the line of a step is in the text
pub turn-stands : (strict : Bool) (t : List ℕ) (from : ℕ) (c : Cursor) (end n : ℕ) → Turn strict t from c end n → Stands t 0 (record { at = c.at; bytes = lent_to t c.at end })
turn-stands strict t from c end n u =
    let k : length (lent_to t c.at end) ≡ end - c.at = omega (arith, u.size, u.start) in
    let z : c.at - 0 ≡ c.at = omega arith in
    record {
      from = omega arith;
      within = omega (arith, k, u.start, u.inside);
      bytes = rw (k, z) refl;
    }
