-- `accepted_line::header_of` meets its contract: VN spells the version.
use Prim.Native.Nat.{◌+◌, ◌-◌, ◌≤◌}
use mathlib.Core.Path.{◌≡◌, sym, ap, ◌∙◌}
use mathlib.Core.Bool.{false}
use mathlib.Core.Option.{some}
use native.Mathlib.Omega.{arith}
use lib.ListN.{length}
use Rattle.format.specs.Fields.{last_of}
use Rattle.format.specs.Records.{line}
use Rattle.format.specs.declared.Kind.TheVariants.{Header}
use Rattle.lists.proofs.Bools.{never}
use Rattle.record.specs.Head.{head_of}
use Rattle.record.specs.declared.Head.TheVariants as head
use Rattle.accepted_line.specs.Run.{fields_from}
use Rattle.accepted_line.specs.Next.{or_value, no_value}
use Rattle.accepted_line.specs.Found.{uncounted}
use Rattle.accepted_line.specs.Keys.{last_key, keys_from, keys_in}
use Rattle.accepted_line.proofs.Finds.{OfHeader, Held, held, value-within, value-bytes}
use Rattle.format.specs.Version.{version}
use Rattle.format.specs.declared.Version.{Version}
use Rattle.field.specs.Spelled.{parsed_version_of}
use Rattle.std.specs.Prelude.{Some, None}
use Rattle.accepted_line.proofs.header_of.Goals as goal
use Rattle.accepted_line.proofs.header_of.Goals.{After-parse_version, Start}

version-is : (v w : Version) → parsed_version_of (some v) ≡ Some w → v ≡ w
unfolding parsed_version_of
version-is v w e = cc

version-none : (v : Version) → parsed_version_of (some v) ≡ None → ⊥
unfolding parsed_version_of
version-none v e = never (cc)

kept : (s : Start) → (let a = s.args in OfHeader a.at a.src.now (uncounted (head_of (line false (record { at = a.at; bytes = a.src.now })))))
unfolding Held
kept s = (held false s.args.at s.args.src.now s.requires.line_of.accepted Header s.requires.line_of.kind).1

-- the value that was found
value : (s : Start) → (let a = s.args in a.version ≡ or_value no_value (last_of 86 78 (fields_from a.at a.src.now 3)))
unfolding keys_in keys_from last_key
value s = s.requires.version_value

-- VN is in the line
within : (s : Start) → (let a = s.args in let v = s.args.version in (a.at ≤ v.at) × (v.at - a.at + v.len ≤ length a.src.now))
within s = let a = s.args in value-within a.at a.src.now 86 78 (kept s).piece (kept s).has a.version (value s)

-- and spells the version
spelled : (c : After-parse_version) → c.parse_version.result ≡ parsed_version_of (some (kept (goal.at.After-parse_version c).Start).number)
spelled c =
    let a = c.args in
    c.parse_version.ensures.is
    ∙ ap (λ l. parsed_version_of (version l)) (value-bytes a.at a.src.now 86 78 (kept (goal.at.After-parse_version c).Start).piece (kept (goal.at.After-parse_version c).Start).has a.version (value (goal.at.After-parse_version c).Start))
    ∙ ap parsed_version_of (kept (goal.at.After-parse_version c).Start).spells

pub overflow_sub-from : goal.overflow_sub-from
overflow_sub-from c = (within (goal.at.overflow_sub-from c).Start).0

pub overflow_add-from : goal.overflow_add-from
overflow_add-from c = omega (arith, within (goal.at.overflow_add-from c).Start, c.requires.line_of.short)

pub slice_bounds-parse_version-end : goal.slice_bounds-parse_version-end
slice_bounds-parse_version-end c = omega (arith, within (goal.at.slice_bounds-parse_version-end c).Start)

pub returns-in-Some : goal.returns-in-Some
returns-in-Some c =
    let k = kept (goal.at.returns-in-Some c).Start in
    sym (k.is ∙ ap (λ v. head.Header v 0) (version-is k.number c.in-Some.v (sym (spelled (goal.at.returns-in-Some c).After-parse_version) ∙ c.in-Some.is)))

pub returns-in-None : goal.returns-in-None
returns-in-None c =
    absurd (version-none (kept (goal.at.returns-in-None c).Start).number (sym (spelled (goal.at.returns-in-None c).After-parse_version) ∙ c.in-None.is))
