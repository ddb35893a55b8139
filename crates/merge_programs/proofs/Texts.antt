-- The programs of an accepted text in which nothing is tangled, by their ordinals: their lines, the fields that an image keeps, and their parents.
use Prim.Native.Nat.{ℕ, ◌+◌, ◌-◌, ◌≤◌, ◌<◌}
use mathlib.Core.Path.{◌≡◌, refl, sym, ap, ap₂, subst, ◌∙◌}
use mathlib.Core.Bool.{Bool, true, false, ◌||◌, cond}
use mathlib.Core.List.{List, [], ◌∷◌, map}
use mathlib.Core.Option.{none}
use native.Mathlib.Omega.{arith}
use lib.ListN.{length, take, drop, get_or, length-map}
use lib.Seq.{get_or-take}
use lib.Dec.{eqb, ltb}
use Rattle.format.specs.Bytes.{all}
use Rattle.format.specs.Lines.{Piece, lines_from}
use Rattle.format.specs.Fields.{without}
use Rattle.format.specs.Records.{Record, header, reference, group, program, comment, code, others}
use Rattle.format.specs.Reading.{read_text, accept, of_kind}
use Rattle.format.specs.Programs.{Program, root, programs, program_of, link, links}
use Rattle.format.specs.Merge.{shape_of, shapes, no_shape}
use Rattle.format.specs.declared.Kind.TheVariants as kinds
use Rattle.byte_slices.specs.Stands.{Stands, Each}
use Rattle.byte_slices.proofs.Stands.{lines-stand}
use Rattle.accepted.specs.Read.{records_of}
use Rattle.lists.specs.Pairs.{Pairs}
use Rattle.accepted.specs.Sound.{kind}
use Rattle.lists.proofs.Bools.{never, and_left, and_right}
use Rattle.accepted.proofs.Read.{accepted-reads}
use Rattle.accepted.proofs.Text.{text-fits}
use Rattle.lists.proofs.Pairs.{each_at, pairs-at, pairs-length}
use Rattle.record_tags.specs.Others.{firsts}
use Rattle.accepted_line.specs.Run.{fields_from}
use Rattle.accepted_line.proofs.fields.Start.{start_none, accepted-others}
use Rattle.program_chains.specs.Parents.{nobody, link_of, links_of, are_parents, in_array}
use Rattle.program_chains.proofs.Arrays.{front-inside, front_at}
use Rattle.program_chains.proofs.Walks.{map_at}
use Rattle.program_parents.specs.Parents.{parents_of}
use Rattle.program_parents.proofs.Own.{few-programs}
use Rattle.program_parents.proofs.Numbers.{links-count}
use Rattle.program_parents.proofs.Road.{none-dangles, ok-untangled, lent-count, lent-inside, lent-links, lent-within}
use Rattle.program_lines.specs.Found.{may_be_program, program_lines, pg_from, lines_of}
use Rattle.program_lines.specs.Line.{FieldsOf}
use Rattle.program_lines.proofs.Accepted.{IsProgram, spelled, fielded, text-program-lines}
use Rattle.merge_fields.specs.Kept.{kept_from}
use Rattle.merge_programs.specs.declared.Opened.{Opened}
use Rattle.merge_programs.specs.declared.Member.{Member}
use Rattle.merge_programs.specs.Opened.{Untangled}
use Rattle.merge_programs.specs.Members.{member_of, shape_at, IsMember}

-- ---- lines

stand-programs : (t : List ℕ) (ps : List Piece) → Each (Stands t 0) ps → Each (Stands t 0) (program_lines ps)
unfolding Each program_lines
stand-programs t [] h = tt
stand-programs t (p ∷ ps) h = go (may_be_program p.bytes) (stand-programs t ps h.1)
  where
    go : (b : Bool) → Each (Stands t 0) (program_lines ps) → Each (Stands t 0) (cond b (p ∷ program_lines ps) (program_lines ps))
    go true ih = (h.0, ih)
    go false ih = ih

is-program : (r : Record) → eqb (code r) 4 ≡ true → kind r ≡ kinds.Program
unfolding code kind
is-program (header v fs) h = absurd (never (cc))
is-program (reference p n fs) h = absurd (never (cc))
is-program (group p fs) h = absurd (never (cc))
is-program (program p fs) h = refl
is-program (comment p) h = absurd (never (cc))

-- the fields that an image keeps of a line
kept-is : (strict : Bool) (p : Piece) (r : Record) → IsProgram strict p r → kept_from p.at p.bytes 3 ≡ without 80 80 (others r)
unfolding kept_from
kept-is strict p r h =
    ap (λ fs. without 80 80 (firsts kinds.Program fs (fields_from p.at p.bytes 3))) (start_none p.at p.bytes)
    ∙ ap (λ k. without 80 80 (firsts k [] (fields_from p.at p.bytes 3))) (sym (is-program r h.kind))
    ∙ ap (without 80 80) (accepted-others strict p.at p.bytes r (spelled strict p r h))

pub all-at : (q : ℕ → Bool) (xs : List ℕ) (i : ℕ) → all q xs ≡ true → i < length xs → q (get_or xs i 0) ≡ true
unfolding all
all-at q [] i h l = absurd (omega arith)
all-at q (x ∷ xs) Prim.Native.Nat.zero h l = and_left (q x) (all q xs) h
all-at q (x ∷ xs) (Prim.Native.Nat.suc i) h l = all-at q xs i (and_right (q x) (all q xs) h) (omega arith)

none-piece : Piece
none-piece = record { at = 0; bytes = [] }

none-record : Record
none-record = comment none-piece

none-program : Program
none-program = record { id = []; previous = none }

-- ---- what is found of a text

module _ (t : List ℕ) (o : Opened) (h : Untangled t o) where
  abbrev rs : List Record
  rs = records_of t

  abbrev ps : List Program
  ps = programs rs

  abbrev n : ℕ
  n = o.parents.count

  pub reads : read_text t ≡ accept rs
  reads = accepted-reads t h.is.accepted

  pub small : length t ≤ 16777216
  small = text-fits t rs reads

  few : length ps ≤ 1024
  few = few-programs t h.is.accepted

  pairs : Pairs (IsProgram o.strict) (pg_from t 0) (of_kind 4 rs)
  pairs = text-program-lines o.strict t rs reads h.is.rule

  stands : Each (Stands t 0) (pg_from t 0)
  stands = stand-programs t (lines_from 0 t) (lines-stand 0 t)

  undangled : o.parents.dangling ≡ false
  unfolding parents_of
  undangled = ap (λ x. x.dangling) h.is.parents-are ∙ none-dangles (links ps) (ok-untangled (links ps) tt _ h.is.refusal tt h.none).0

  -- ---- how many there are

  count-programs : n ≡ length ps
  unfolding parents_of
  count-programs = ap (λ x. x.count) h.is.parents-are ∙ links-count ps

  count-records : n ≡ length (of_kind 4 rs)
  unfolding programs
  count-records = count-programs ∙ length-map (of_kind 4 rs) program_of

  count-lines : n ≡ length (pg_from t 0)
  count-lines = count-records ∙ sym (pairs-length (IsProgram o.strict) (pg_from t 0) (of_kind 4 rs) pairs)

  pub count-shapes : n ≡ length (shapes rs)
  unfolding shapes
  count-shapes = count-records ∙ sym (length-map (of_kind 4 rs) (shape_of ps))

  pub count-few : n ≤ 1024
  count-few = omega (arith, count-programs, few)

  -- ---- the arrays

  abbrev lent : List ℕ
  lent = take n o.parents.list

  ats-are : o.lines.at ≡ in_array (map (λ p. p.at) (pg_from t 0))
  unfolding lines_of
  ats-are = ap (λ x. x.at) h.is.lines_are

  lens-are : o.lines.len ≡ in_array (map (λ p. length p.bytes) (pg_from t 0))
  unfolding lines_of
  lens-are = ap (λ x. x.len) h.is.lines_are

  ats-count : n ≡ length (map (λ p. p.at) (pg_from t 0))
  ats-count = count-lines ∙ sym (length-map (pg_from t 0) (λ p. p.at))

  lens-count : n ≡ length (map (λ p. length p.bytes) (pg_from t 0))
  lens-count = count-lines ∙ sym (length-map (pg_from t 0) (λ p. length p.bytes))

  pub ats-inside : n ≤ length o.lines.at
  ats-inside = front-inside (map (λ p. p.at) (pg_from t 0)) o.lines.at n ats-are ats-count

  pub lens-inside : n ≤ length o.lines.len
  lens-inside = front-inside (map (λ p. length p.bytes) (pg_from t 0)) o.lines.len n lens-are lens-count

  pub links-inside : n ≤ length o.parents.list
  links-inside = lent-inside ps few o.parents h.is.parents-are

  lent-long : n ≡ length lent
  lent-long = lent-count ps few o.parents h.is.parents-are

  -- ---- one of them

  module _ (i : ℕ) (l : i < n) where
    abbrev own : Member
    own = member_of o.strict o.lines.at o.lines.len o.parents.list i

    abbrev p : Piece
    p = get_or (pg_from t 0) i none-piece

    abbrev r : Record
    r = get_or (of_kind 4 rs) i none-record

    is-line : IsProgram o.strict p r
    is-line = pairs-at (IsProgram o.strict) (pg_from t 0) (of_kind 4 rs) i none-piece none-record (omega (arith, count-lines)) pairs

    stood : Stands t 0 p
    stood = each_at (Stands t 0) (pg_from t 0) i none-piece stands (omega (arith, count-lines))

    start_is : get_or o.lines.at i 0 ≡ p.at
    start_is =
        front_at (map (λ p. p.at) (pg_from t 0)) o.lines.at n ats-are ats-count i l
        ∙ map_at (λ p. p.at) (pg_from t 0) i none-piece 0 (omega (arith, count-lines))

    long-is : get_or o.lines.len i 0 ≡ length p.bytes
    long-is =
        front_at (map (λ p. length p.bytes) (pg_from t 0)) o.lines.len n lens-are lens-count i l
        ∙ map_at (λ p. length p.bytes) (pg_from t 0) i none-piece 0 (omega (arith, count-lines))

    parent_is : get_or o.parents.list i 0 ≡ get_or lent i 0
    parent_is = sym (get_or-take n o.parents.list i 0 l)

    line-is : take (get_or o.lines.len i 0) (drop (get_or o.lines.at i 0) t) ≡ p.bytes
    line-is =
        let z : get_or o.lines.at i 0 ≡ p.at - 0 = omega (arith, start_is) in
        ap₂ (λ n s. take n (drop s t)) long-is z ∙ sym stood.bytes

    pub is_member : IsMember t own
    unfolding member_of
    is_member = record {
      inside = omega (arith, start_is, long-is, stood.within);
      fits = small;
      line =
          subst (λ s. FieldsOf o.strict (get_or o.lines.at i 0) s) (sym line-is)
          (subst (λ k. FieldsOf o.strict k p.bytes) (sym start_is) (fielded o.strict p r is-line (omega (arith, small, stood.within))));
    }

    shape_is : get_or (shapes rs) i no_shape ≡ shape_of ps r
    unfolding shapes
    shape_is = map_at (shape_of ps) (of_kind 4 rs) i none-record no_shape (omega (arith, count-records))

    line_kept : kept_from (get_or o.lines.at i 0) (take (get_or o.lines.len i 0) (drop (get_or o.lines.at i 0) t)) 3 ≡ (shape_of ps r).fields
    unfolding shape_of
    line_kept = ap₂ (λ n s. kept_from n s 3) start_is line-is ∙ kept-is o.strict p r is-line

    line-parent : link_of (get_or o.parents.list i 0) ≡ (shape_of ps r).parent
    unfolding shape_of links_of links programs program_of
    line-parent =
        ap link_of parent_is
        ∙ sym (map_at link_of lent i 0 root (omega (arith, lent-long)))
        ∙ ap (λ ls. get_or ls i root) (lent-links ps few o.parents h.is.parents-are undangled)
        ∙ map_at (λ p. link ps p.previous) ps i none-program root (omega (arith, count-programs))
        ∙ ap (λ q. link ps q.previous) (map_at program_of (of_kind 4 rs) i none-record none-program (omega (arith, count-records)))

    pub member-shape : shape_at t own ≡ get_or (shapes rs) i no_shape
    unfolding shape_at member_of
    member-shape = ap₂ (λ fs l. record { fields = fs; parent = l }) line_kept line-parent ∙ sym shape_is

    pub member-within : eqb own.parent nobody || ltb own.parent n ≡ true
    unfolding member_of are_parents
    member-within =
        ap₂ (λ p k. eqb p nobody || ltb p k) parent_is lent-long
        ∙ all-at (λ p. eqb p nobody || ltb p (length lent)) lent i (lent-within ps few o.parents h.is.parents-are undangled) (omega (arith, lent-long))
