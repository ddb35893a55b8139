-- `tidy_line::is_writable` meets its contract: only an SQ has a name to look at, and its SN is found.
use Prim.Native.Nat.{ℕ, ◌+◌, ◌-◌, ◌≤◌}
use mathlib.Core.Path.{◌≡◌, refl, sym, ap, ◌∙◌}
use mathlib.Core.Bool.{true, false}
use mathlib.Core.List.{List}
use native.Mathlib.Omega.{arith}
use lib.ListN.{length}
use Rattle.format.specs.Bytes.{between, letter, digit}
use Rattle.format.specs.Fields.{is_tag, last_of}
use Rattle.format.specs.Records.{line}
use Rattle.format.specs.Tidy.{is_name}
use Rattle.format.specs.declared.Kind.TheVariants as kind
use Rattle.record.specs.Head.{head_of}
use Rattle.record.specs.declared.Head.{Head}
use Rattle.record.specs.declared.Head.TheVariants as head
use Rattle.accepted_line.specs.Run.{fields_from}
use Rattle.accepted_line.specs.Next.{or_value, no_value, last_in}
use Rattle.accepted_line.specs.Found.{uncounted}
use Rattle.accepted_line.proofs.Finds.{OfReference, Held, held, value-within, value-bytes}
use Rattle.tidy_line.specs.Heads.{head_writable}
use Rattle.tidy_line.proofs.Heads.{Told, told, place-bytes}
use Rattle.tidy_line.proofs.Sizes.{kind_of_head}
use Rattle.tidy_line.proofs.is_writable.Goals as goal
use Rattle.tidy_line.proofs.is_writable.Goals.{After-find_value-name, In-ReferenceSequence, Start}

sn : is_tag 83 78 ≡ true
unfolding is_tag letter digit between
sn = refl

-- another kind has no name
nameless : (at : ℕ) (s : List ℕ) (d : Head) → (kind_of_head d ≡ kind.ReferenceSequence → ⊥) → head_writable at s d ≡ true
unfolding head_writable kind_of_head
nameless at s (head.Refused n) h = refl
nameless at s (head.Header v n) h = refl
nameless at s (head.ReferenceSequence p l n) h = absurd (h refl)
nameless at s (head.ReadGroup p n) h = refl
nameless at s (head.Program p n) h = refl
nameless at s (head.Comment p) h = refl

-- what the head of the line says
shown : (s : Start) → (let a = s.args in Told a.at a.src.now a.kind (uncounted (head_of (line false (record { at = a.at; bytes = a.src.now })))))
shown s = let a = s.args in told a.at a.src.now s.requires.line_of.accepted a.kind s.requires.line_of.kind s.requires.kind_value _ _ refl refl

-- an SQ has a name
kept : (c : In-ReferenceSequence) → (let a = c.args in OfReference a.at a.src.now (uncounted (head_of (line false (record { at = a.at; bytes = a.src.now })))))
unfolding Held
kept c = (held false c.args.at c.args.src.now c.requires.line_of.accepted kind.ReferenceSequence (c.requires.line_of.kind ∙ c.in-ReferenceSequence.is)).1

-- the value that was found
value : (c : After-find_value-name) → (let a = c.args in c.find_value-name.result ≡ or_value no_value (last_of 83 78 (fields_from a.at a.src.now 3)))
unfolding last_in
value c = c.find_value-name.ensures

within : (c : After-find_value-name) → (let a = c.args in let v = c.find_value-name.result in (a.at ≤ v.at) × (v.at - a.at + v.len ≤ length a.src.now))
within c =
    let a = c.args in
    value-within a.at a.src.now 83 78 (kept (goal.at.After-find_value-name c).In-ReferenceSequence).name (kept (goal.at.After-find_value-name c).In-ReferenceSequence).has-name c.find_value-name.result (value c)

pub find_value-name-requires : goal.find_value-name-requires
find_value-name-requires c = record {
  walkable = c.requires.walkable;
  b_value = sn;
  line_bound = omega (arith, c.requires.line_of.short);
}

pub overflow_sub-from : goal.overflow_sub-from
overflow_sub-from c = (within (goal.at.overflow_sub-from c).After-find_value-name).0

pub overflow_add-from : goal.overflow_add-from
overflow_add-from c = omega (arith, within (goal.at.overflow_add-from c).After-find_value-name, c.requires.line_of.short)

pub slice_bounds-is_name-end : goal.slice_bounds-is_name-end
slice_bounds-is_name-end c = omega (arith, within (goal.at.slice_bounds-is_name-end c).After-find_value-name)

pub returns-in-ReferenceSequence : goal.returns-in-ReferenceSequence
unfolding head_writable
returns-in-ReferenceSequence c =
    let a = c.args in
    let k = kept (goal.at.returns-in-ReferenceSequence c).In-ReferenceSequence in
    c.is_name.ensures
    ∙ ap is_name (value-bytes a.at a.src.now 83 78 k.name k.has-name c.find_value-name.result (value (goal.at.returns-in-ReferenceSequence c).After-find_value-name) ∙ sym (place-bytes a.at a.src.now k.name k.has-name.stands))
    ∙ sym ((shown (goal.at.returns-in-ReferenceSequence c).Start).writable ∙ ap (head_writable a.at a.src.now) k.is)

pub returns-in_default : goal.returns-in_default
returns-in_default c =
    let a = c.args in
    let h = shown (goal.at.returns-in_default c).Start in
    sym (h.writable ∙ nameless a.at a.src.now _ (λ e. c.in_default.not-ReferenceSequence (sym h.kind-is ∙ e)))
