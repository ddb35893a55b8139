-- `record_parser::parse_bytes` meets its contract: the `@`, then the kind, then what follows it. Assumes nothing.
use Prim.Native.Nat.{◌+◌, ◌≤◌}
use mathlib.Core.Path.{◌≡◌, refl, sym, ap, ◌∙◌}
use native.Mathlib.Omega.{arith}
use lib.ListN.{length, drop, length-drop}
use lib.Seq.{drop-drop}
use borrow.Author.Tests.{not-true, not-false}
use Rattle.std.specs.Prelude.{Err}
use Rattle.format.specs.Records.{prefixed, kinded}
use Rattle.byte_slices.proofs.Before.{rest}
use Rattle.record_kind.specs.Kind.{kind_at}
use Rattle.record.specs.Head.{head_of}
use Rattle.record_parser.proofs.Dispatch.{prefix-missing, prefix-there, kind-empty, kind-invalid, kind-is, kind-long}
use Rattle.record_parser.proofs.parse_bytes.Goals as goal
use Rattle.record_parser.proofs.parse_bytes.Goals.{After-parse_kind, Else-not-leads}

there : (c : Else-not-leads)
    → let a = c.args in
    (1 ≤ length a.src.now) × (prefixed a.strict a.at a.src.now ≡ kinded a.strict (a.at + 1) (drop 1 a.src.now))
there c =
    let a = c.args in
    prefix-there a.strict a.at a.src.now (sym c.leads.ensures ∙ not-false c.leads.result c.if-not-leads.false-raw)

answer : (c : After-parse_kind) → c.parse_kind.result ≡ kind_at (drop 1 c.args.src.now)
answer c = c.parse_kind.ensures.is ∙ ap kind_at (rest 1 c.args.src.now)

pub returns-then-not-leads : goal.returns-then-not-leads
unfolding head_of
returns-then-not-leads c =
    let a = c.args in
    sym (ap head_of (prefix-missing a.strict a.at a.src.now (sym c.leads.ensures ∙ not-true c.leads.result c.if-not-leads.true-raw)))

pub slice_bounds-parse_kind-count : goal.slice_bounds-parse_kind-count
slice_bounds-parse_kind-count c = (there c).0

pub slice_bounds-parse_kind-start : goal.slice_bounds-parse_kind-start
slice_bounds-parse_kind-start c = (there c).0

pub parse_value-requires : goal.parse_value-requires
parse_value-requires c =
    let a = c.args in
    let h : 2 ≤ length (drop 1 a.src.now) = kind-long (drop 1 a.src.now) c.in-Ok.kind (sym (answer (goal.at.parse_value-requires c).After-parse_kind) ∙ c.in-Ok.is) in record {
      in_bounds = omega (arith, h, length-drop 1 a.src.now);
      src_bound = c.requires;
    }

pub returns-in-Err-Empty : goal.returns-in-Err-Empty
unfolding head_of
returns-in-Err-Empty c =
    let a = c.args in
    sym (ap head_of ((there (goal.at.returns-in-Err-Empty c).Else-not-leads).1 ∙ kind-empty a.strict (a.at + 1) (drop 1 a.src.now) (sym (answer (goal.at.returns-in-Err-Empty c).After-parse_kind) ∙ c.in-Err-Empty.is ∙ ap Err c.in-Err-Empty.field-0-is)))

pub returns-in-Err-Invalid : goal.returns-in-Err-Invalid
unfolding head_of
returns-in-Err-Invalid c =
    let a = c.args in
    sym (ap head_of ((there (goal.at.returns-in-Err-Invalid c).Else-not-leads).1 ∙ kind-invalid a.strict (a.at + 1) (drop 1 a.src.now) (sym (answer (goal.at.returns-in-Err-Invalid c).After-parse_kind) ∙ c.in-Err-Invalid.is ∙ ap Err c.in-Err-Invalid.field-0-is)))

pub returns-in-Ok : goal.returns-in-Ok
returns-in-Ok c =
    let a = c.args in
    let n : a.at + 1 + 2 ≡ a.at + 3 = omega arith in
    c.parse_value.ensures
    ∙ sym (ap head_of ((there (goal.at.returns-in-Ok c).Else-not-leads).1 ∙ kind-is a.strict (a.at + 1) (drop 1 a.src.now) c.in-Ok.kind (sym (answer (goal.at.returns-in-Ok c).After-parse_kind) ∙ c.in-Ok.is) ∙ rw (drop-drop 2 1 a.src.now, n) refl))
