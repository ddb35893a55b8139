-- `seal::seal` meets its contract: the tidy text is written, and hashed in place.
use mathlib.Core.Path.{sym, ap, ◌∙◌}
use lib.ListN.{length}
use Rattle.std.proofs.lemmas.Result.{err_from_is_err_and}
use Rattle.format.specs.Calls.{tidying}
use Rattle.format.specs.Sha256.{sha256}
use Rattle.seal.specs.Answers.{seal_left}
use Rattle.seal.proofs.Sealing.{Written, written-by, refused-by, seal-refused, seal-yes}
use Rattle.seal.proofs.seal.Goals as goal
use Rattle.seal.proofs.seal.Goals.{In_ok-n}

-- the tidy text is at the front of the work area
wrote : (k : In_ok-n) → let a = k.args in
    Written (tidying a.text.now (length a.work.now)) k.in_ok-n.n k.tidy.new.out
wrote k =
    let a = k.args in
    let t = k.tidy in
    written-by (tidying a.text.now (length a.work.now)) a.work.now t.new.out k.in_ok-n.n t.ensures.answer t.ensures.wrote k.in_ok-n.was

pub slice_bounds-written-end : goal.slice_bounds-written-end
slice_bounds-written-end c = (wrote c).room

pub slice_bounds-written-end-2 : goal.slice_bounds-written-end-2
slice_bounds-written-end-2 c = (wrote c).part

pub returns-in_err-n : goal.returns-in_err-n
unfolding seal_left
returns-in_err-n c =
    let a = c.args in
    let t = c.tidy in
    let room = length a.work.now in
    let r = c.in_err-n.field-0.0 in
    let p = err_from_is_err_and c.from_residual.result c.from_residual.ensures.1 in
    let e = refused-by (tidying a.text.now room) r t.ensures.answer c.in_err-n.was in record {
      answer = rw (p.1, p.2) (sym c.in_err-n.was ∙ t.ensures.answer);
      wrote = t.ensures.wrote;
      sealed = sym (ap (λ x. seal_left x a.seal.now) (seal-refused a.text.now room r.number r.line.0 e));
    }

pub returns : goal.returns
unfolding seal_left
returns c =
    let a = c.args in
    let t = c.tidy in
    let room = length a.work.now in
    let w = wrote (goal.at.returns c).In_ok-n in record {
      answer = sym c.in_ok-n.was ∙ t.ensures.answer;
      wrote = t.ensures.wrote;
      sealed = c.hash_into.ensures ∙ ap sha256 w.front ∙ sym (ap (λ x. seal_left x a.seal.now) (seal-yes a.text.now room w.bytes w.says));
    }
