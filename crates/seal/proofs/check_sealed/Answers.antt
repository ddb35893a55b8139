-- `seal::check_sealed` meets its contract: the tidy text is written and hashed in place, and the digest is compared.
use mathlib.Core.Path.{◌≡◌, sym, ap, ◌∙◌}
use mathlib.Core.Bool.{cond}
use lib.ListN.{length}
use Rattle.std.specs.Prelude.{Ok, Err}
use Rattle.std.proofs.lemmas.Result.{err_from_is_err_and}
use Rattle.format.specs.Bytes.{same}
use Rattle.read.specs.Answers.{checked_of}
use Rattle.format.specs.Sha256.{sha256}
use Rattle.format.specs.Seal.{tidying_fresh, checking_sealed}
use Rattle.seal.proofs.Sealing.{Written, written-by, refused-by, not-sealed, check-refused, check-told}
use Rattle.seal.proofs.check_sealed.Goals as goal
use Rattle.seal.proofs.check_sealed.Goals.{After-is_seal, In_ok-n}

-- the tidy text is at the front of the work area
wrote : (k : In_ok-n) → let a = k.args in
    Written (tidying_fresh a.text.now a.catalogue.now (length a.work.now)) k.in_ok-n.n k.tidy_fresh.new.work
wrote k =
    let a = k.args in
    let t = k.tidy_fresh in
    written-by (tidying_fresh a.text.now a.catalogue.now (length a.work.now)) a.work.now t.new.work k.in_ok-n.n t.ensures.answer t.ensures.wrote k.in_ok-n.was

-- what the comparison says
told : (c : After-is_seal) → let a = c.args in
    cond c.is_seal.result (Ok tt) (Err not-sealed) ≡ checked_of (checking_sealed a.text.now a.catalogue.now a.seal.now (length a.work.now))
told c =
    let a = c.args in
    let w = wrote (goal.at.After-is_seal c).In_ok-n in
    check-told a.text.now a.seal.now (length a.work.now) a.catalogue.now w.bytes c.is_seal.result w.says
    (c.is_seal.ensures ∙ ap (λ x. same a.seal.now (sha256 x)) w.front)

pub slice_bounds-written-end : goal.slice_bounds-written-end
slice_bounds-written-end c = (wrote c).room

pub slice_bounds-written-end-2 : goal.slice_bounds-written-end-2
slice_bounds-written-end-2 c = (wrote c).part

pub returns-then-is_seal : goal.returns-then-is_seal
returns-then-is_seal c = record {
  checked = sym (ap (λ b. cond b (Ok tt) (Err not-sealed)) c.if-is_seal.true) ∙ told (goal.at.returns-then-is_seal c).After-is_seal;
  wrote = c.tidy_fresh.ensures.wrote;
}

pub returns-in_err-n : goal.returns-in_err-n
unfolding checked_of
returns-in_err-n c =
    let a = c.args in
    let t = c.tidy_fresh in
    let room = length a.work.now in
    let r = c.in_err-n.field-0.0 in
    let p = err_from_is_err_and c.from_residual.result c.from_residual.ensures.1 in
    let e = refused-by (tidying_fresh a.text.now a.catalogue.now room) r t.ensures.answer c.in_err-n.was in record {
      checked = rw (p.1, p.2) (sym (ap checked_of (check-refused a.text.now a.seal.now room a.catalogue.now r.number r.line.0 e)));
      wrote = t.ensures.wrote;
    }

pub returns : goal.returns
returns c = record {
  checked = rw c.of_text.ensures (sym (ap (λ b. cond b (Ok tt) (Err not-sealed)) c.if-is_seal.false) ∙ told (goal.at.returns c).After-is_seal);
  wrote = c.tidy_fresh.ensures.wrote;
}
