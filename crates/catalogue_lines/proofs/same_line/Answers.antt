-- `catalogue_lines::same_line` meets its contract: the own entry and those of the other fields are there, or one of them is not.
use Prim.Native.Nat.{◌+◌}
use mathlib.Core.Path.{◌≡◌, refl, sym, ap, ap₂, ◌∙◌}
use mathlib.Core.Bool.{Bool, true, false, ◌&&◌}
use mathlib.Core.List.{◌++◌}
use native.Mathlib.Omega.{arith}
use lib.ListN.{length, drop}
use Rattle.format.specs.Bytes.{starts}
use Rattle.lists.proofs.Bools.{never}
use Rattle.catalogue_entries.specs.Entries.{entry_size, entry_bytes}
use Rattle.catalogue_same.proofs.Starts.{starts-short}
use Rattle.catalogue_lines.specs.Line.{line_bytes}
use Rattle.catalogue_lines.specs.Parts.{field_bytes}
use Rattle.catalogue_lines.specs.Matched.{met_in, compared_of}
use Rattle.catalogue_lines.specs.declared.Met.{Met}
use Rattle.std.specs.Prelude.{Some, None}
use Rattle.catalogue_lines.proofs.LineEntries.{own, own-size, line-bytes}
use Rattle.catalogue_lines.proofs.Starts.{match-told, match-gone}
use Rattle.catalogue_lines.proofs.Entries.{entry-then, compared}
use Rattle.catalogue_lines.proofs.same_line.Goals as goal
use Rattle.catalogue_lines.proofs.same_line.Goals.{After-own_size-n, After-same_entry, In_ok-met, Start}

-- what an answer says
same-says : (t : Bool) (m n : Met) → compared_of t m ≡ Some n → (t ≡ true) × (m ≡ n)
unfolding compared_of
same-says true m n e = (refl, cc)
same-says false m n e = absurd (never (cc))

differs-says : (t : Bool) (m : Met) → compared_of t m ≡ None → t ≡ false
unfolding compared_of
differs-says true m e = absurd (never (cc))
differs-says false m e = refl

-- the entries of the line
bytes : (s : Start) → (let a = s.args in line_bytes false a.place.number a.place.at a.src.now ≡ entry_bytes (own a.place.number a.place.at a.src.now s.requires.line_of.accepted) ++ field_bytes a.kind a.place.at a.src.now 3)
bytes s = let a = s.args in line-bytes a.place.number a.place.at a.src.now s.requires.line_of.accepted a.kind s.requires.line_of.kind s.requires.kind_value

-- how long they are, and how they are compared
size : (c : After-own_size-n) → (let a = c.args in c.own_size-n.result ≡ entry_size (own a.place.number a.place.at a.src.now c.requires.line_of.accepted))
size c =
    c.own_size-n.ensures ∙ sym (own-size c.args.place.number c.args.place.at c.args.src.now c.requires.line_of.accepted c.args.kind c.requires.line_of.kind)

long : (c : After-own_size-n) → (let a = c.args in length (line_bytes false a.place.number a.place.at a.src.now) ≡ c.own_size-n.result + length (field_bytes a.kind a.place.at a.src.now 3))
long c =
    entry-then (own c.args.place.number c.args.place.at c.args.src.now c.requires.line_of.accepted) _ _ (bytes (goal.at.After-own_size-n c).Start) ∙ ap (λ m. m + length (field_bytes c.args.kind c.args.place.at c.args.src.now 3)) (sym (size c))

told : (c : After-own_size-n) → (let a = c.args in
    starts (line_bytes false a.place.number a.place.at a.src.now) (drop a.o a.catalogue.now)
    ≡ (starts (entry_bytes (own a.place.number a.place.at a.src.now c.requires.line_of.accepted)) (drop a.o a.catalogue.now) && starts (field_bytes a.kind a.place.at a.src.now 3) (drop (a.o + c.own_size-n.result) a.catalogue.now)))
told c = compared (own c.args.place.number c.args.place.at c.args.src.now c.requires.line_of.accepted) _ _ (bytes (goal.at.After-own_size-n c).Start) c.args.catalogue.now c.args.o c.own_size-n.result (size c)

none_right : (t u : Bool) → u ≡ false → t && u ≡ false
none_right true u e = e
none_right false u e = refl

pub returns-then-catalogue-o : goal.returns-then-catalogue-o
returns-then-catalogue-o c =
    let a = c.args in
    match-gone a.catalogue.now a.o _ (starts-short a.catalogue.now a.o _ c.requires.o_in_bounds (omega (arith, long (goal.at.returns-then-catalogue-o c).After-own_size-n, c.if-catalogue-o.true, c.requires.o_in_bounds)))

pub same_fields-requires : goal.same_fields-requires
same_fields-requires c = record {
  walkable = c.requires.walkable;
  src_bound = c.requires.line_of.short;
  o_in_bounds = omega (arith, c.if-catalogue-o.false, c.requires.o_in_bounds);
}

pub returns-in_err-met : goal.returns-in_err-met
returns-in_err-met c =
    let a = c.args in
    let e = differs-says _ _ (sym c.same_fields.ensures ∙ c.in_err-met.was) in
    rw c.from_residual.ensures
    (match-gone a.catalogue.now a.o _ (told (goal.at.returns-in_err-met c).After-own_size-n ∙ none_right (starts (entry_bytes (own a.place.number a.place.at a.src.now c.requires.line_of.accepted)) (drop a.o a.catalogue.now)) (starts (field_bytes a.kind a.place.at a.src.now 3) (drop (a.o + c.own_size-n.result) a.catalogue.now)) e))

-- the entries of the other fields are there
there : (k : In_ok-met)
    → (let a = k.args in let n = k.own_size-n.result in
    (starts (field_bytes a.kind a.place.at a.src.now 3) (drop (a.o + n) a.catalogue.now) ≡ true) × (met_in a.kind a.place.at a.src.now (a.o + n) ≡ k.in_ok-met.met))
there k = same-says _ _ k.in_ok-met.met (sym k.same_fields.ensures ∙ k.in_ok-met.was)

pub line_entry-entry-requires : goal.line_entry-entry-requires
unfolding met_in
line_entry-entry-requires c = record {
  line_of = c.requires.line_of;
  keys_value = sym (ap (λ m. m.keys) (there (goal.at.line_entry-entry-requires c).In_ok-met).1);
}

pub same_entry-requires : goal.same_entry-requires
same_entry-requires c = c.requires.o_in_bounds

-- the own entry decides
decides : (c : After-same_entry)
    → (let a = c.args in
    starts (line_bytes false a.place.number a.place.at a.src.now) (drop a.o a.catalogue.now) ≡ c.same_entry.result)
decides c =
    let a = c.args in
    told (goal.at.After-same_entry c).After-own_size-n
    ∙ ap₂ (λ t u. t && u)
    (ap (λ d. starts (entry_bytes d) (drop a.o a.catalogue.now)) (sym c.line_entry-entry.ensures) ∙ sym c.same_entry.ensures)
    (there (goal.at.After-same_entry c).In_ok-met).0
    ∙ always c.same_entry.result
  where
    always : (t : Bool) → t && true ≡ t
    always true = refl
    always false = refl

pub returns : goal.returns
unfolding met_in
returns c =
    let a = c.args in
    let k = goal.at.returns c in
    c.then_some.ensures
    ∙ match-told a.catalogue.now a.o _ c.same_entry.result c.in_ok-met.met.next (decides k.After-same_entry)
    (sym (ap (λ m. m.next) (there k.In_ok-met).1) ∙ omega (arith, long k.After-own_size-n))
