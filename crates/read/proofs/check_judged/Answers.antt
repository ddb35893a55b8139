-- `read::check_judged` meets its contract: the text has been judged, then the catalogue is compared.
use mathlib.Core.Path.{◌≡◌, sym, ap, ◌∙◌}
use mathlib.Core.Bool.{Bool, false, cond}
use lib.ListN.{length}
use Rattle.std.specs.Prelude.{Result, Ok, Err}
use Rattle.std.proofs.lemmas.Result.{err_from_is_err_and}
use Rattle.format.specs.Bytes.{same}
use Rattle.format.specs.Catalogue.{catalogue}
use Rattle.format.specs.Calls.{fresh, refused, yes}
use Rattle.format.specs.declared.Refusal.{Refusal}
use Rattle.byte_slices.proofs.Equal.{same-other}
use Rattle.accepted.specs.Read.{records_of}
use Rattle.accepted_rule.specs.Rule.{is_once}
use Rattle.read_judge.proofs.Whole.{Told, text-refused, text-accepted}
use Rattle.read.specs.Answers.{checked_text_of}
use Rattle.read.proofs.AnswerCases.{fresh-refused, fresh-reads}
use Rattle.read.proofs.check_judged.Goals as goal
use Rattle.read.proofs.check_judged.Goals.{In_ok-size}

-- the text is accepted
accepted : (c : In_ok-size) → Told c.args.text.now c.in_ok-size.field-0
accepted c = text-accepted c.args.text.now c.in_ok-size.field-0 (sym c.requires ∙ c.in_ok-size.was)

found : (c : In_ok-size)
    → let a = c.args in
    fresh a.text.now a.kept.now ≡ cond (same a.kept.now (catalogue (records_of a.text.now))) (yes (records_of a.text.now)) (refused 21 0)
found c =
    let a = c.args in
    fresh-reads a.text.now a.kept.now (records_of a.text.now) (accepted c).reads

stale : (c : In_ok-size)
    → let a = c.args in
    same a.kept.now (catalogue (records_of a.text.now)) ≡ false
    → ◌≡◌ {A = Result Bool Refusal} (Err (record { number = 21; line = record { 0 = 0 } })) (checked_text_of (is_once a.text.now) (fresh a.text.now a.kept.now))
unfolding checked_text_of
stale c e =
    let a = c.args in
    sym (ap (checked_text_of (is_once a.text.now)) (found c ∙ ap (λ t. cond t (yes (records_of a.text.now)) (refused 21 0)) e))

pub returns-in_err-size : goal.returns-in_err-size
unfolding checked_text_of
returns-in_err-size c =
    let t = c.args.text.now in
    let r = c.in_err-size.field-0.0 in
    let p = err_from_is_err_and c.from_residual.result c.from_residual.ensures.1 in
    rw (p.1, p.2) (sym (ap (checked_text_of (is_once t)) (fresh-refused t c.args.kept.now r.number r.line.0 (text-refused t r (sym c.requires ∙ c.in_err-size.was)))))

pub returns-then-size-kept : goal.returns-then-size-kept
returns-then-size-kept c =
    let a = c.args in
    let k = (goal.at.returns-then-size-kept c).In_ok-size in
    rw c.of_text.ensures (stale k (same-other a.kept.now (catalogue (records_of a.text.now)) (λ e. c.if-size-kept.true ((accepted k).size ∙ sym (ap length e)))))

pub is_catalogue-requires : goal.is_catalogue-requires
is_catalogue-requires c =
    let k = accepted (goal.at.is_catalogue-requires c).In_ok-size in
    record { rule = k.rule; reads = k.reads }

pub returns-then-is_catalogue : goal.returns-then-is_catalogue
unfolding checked_text_of
returns-then-is_catalogue c =
    let a = c.args in
    let k = (goal.at.returns-then-is_catalogue c).In_ok-size in
    ap Ok (accepted k).told ∙ sym (ap (checked_text_of (is_once a.text.now)) (found k ∙ ap (λ t. cond t (yes (records_of a.text.now)) (refused 21 0)) (sym c.is_catalogue.ensures ∙ c.if-is_catalogue.true)))

pub returns : goal.returns
returns c =
    let e = stale (goal.at.returns c).In_ok-size (sym c.is_catalogue.ensures ∙ c.if-is_catalogue.false) in
    cc
