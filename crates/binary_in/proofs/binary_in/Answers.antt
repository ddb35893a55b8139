-- `binary_in::binary_in` meets its contract: the parts, the judgement of the text and the comparison of the lists decide one after another.
use Prim.Native.Nat.{ℕ, ◌+◌, ◌-◌, ◌≤◌}
use mathlib.Core.Path.{◌≡◌, sym, ap, ◌∙◌}
use mathlib.Core.List.{List}
use native.Mathlib.Omega.{arith}
use lib.ListN.{length, take, drop}
use borrow.Author.Tests.{not-true, not-false}
use Rattle.std.proofs.lemmas.Result.{err_from_is_err_and}
use Rattle.format.specs.Reading.{accept, read_text}
use Rattle.accepted.specs.Read.{is_accepted, records_of}
use Rattle.accepted.proofs.Text.{text-fits}
use Rattle.format.specs.References.{sq_list, same_references}
use Rattle.format.specs.Binary.{take_list, unpadded, binary_in}
use Rattle.binary_parts.specs.Parts.{listed}
use Rattle.binary_references.proofs.Next.{sq-all}
use Rattle.read_judge.proofs.Whole.{Told, text-refused, text-accepted}
use Rattle.read.specs.Answers.{answer_of, output_of}
use Rattle.read.proofs.AnswerCases.{refused-answer}
use Rattle.binary_in.proofs.Kept.{kept-within, kept-is}
use Rattle.binary_in.proofs.Reading.{in-none, in-refused, in-other, in-same}
use Rattle.binary_in.proofs.binary_in.Goals as goal
use Rattle.binary_in.proofs.binary_in.Goals.{After-is_sq_list, After-unpadded_len, In_ok-accepted}

-- ---- the text without its zero bytes

abbrev text_of : (c : After-unpadded_len) → List ℕ
text_of c =
    let at = c.in-Some.parts.text in
    take (at + c.unpadded_len.result - at) (drop at c.args.bytes.now)

inside : (c : After-unpadded_len) → c.in-Some.parts.text + c.unpadded_len.result ≤ length c.args.bytes.now
inside c =
    let q = c.in-Some.parts in
    omega (arith, c.in-Some.ensures.stands.text, kept-within c.args.bytes.now q.text q.len c.unpadded_len.result c.in-Some.ensures.stands.text c.unpadded_len.ensures)

text-is : (c : After-unpadded_len) → (text_of c) ≡ unpadded (take c.in-Some.parts.len (drop c.in-Some.parts.text c.args.bytes.now))
text-is c =
    let q = c.in-Some.parts in
    kept-is c.args.bytes.now q.text q.len c.unpadded_len.result c.in-Some.ensures.stands.text c.unpadded_len.ensures

-- ---- once it is accepted

told : (c : In_ok-accepted) → Told (text_of (goal.at.In_ok-accepted c).After-unpadded_len) c.in_ok-accepted.accepted
told c =
    text-accepted (text_of (goal.at.In_ok-accepted c).After-unpadded_len) c.in_ok-accepted.accepted (sym c.judge.ensures ∙ c.in_ok-accepted.was)

accepted : (c : In_ok-accepted) → read_text (text_of (goal.at.In_ok-accepted c).After-unpadded_len) ≡ accept (records_of (text_of (goal.at.In_ok-accepted c).After-unpadded_len))
accepted c = (told c).reads

-- whether the reference list is the SQ list
alike : (c : After-is_sq_list)
    → let q = c.in-Some.parts in
    c.is_sq_list.result ≡ same_references (listed (take_list q.count (drop q.list c.args.bytes.now))) (sq_list (records_of (text_of (goal.at.After-is_sq_list c).After-unpadded_len)))
alike c =
    let q = c.in-Some.parts in
    c.is_sq_list.ensures
    ∙ ap (same_references (listed (take_list q.count (drop q.list c.args.bytes.now))))
    (sq-all c.in_ok-accepted.accepted.once (text_of (goal.at.After-is_sq_list c).After-unpadded_len) (records_of (text_of (goal.at.After-is_sq_list c).After-unpadded_len)) (accepted (goal.at.After-is_sq_list c).In_ok-accepted) (told (goal.at.After-is_sq_list c).In_ok-accepted).rule)

pub returns-in_default : goal.returns-in_default
returns-in_default c =
    let a = c.args in
    let room = length a.out.now in
    let told = refused-answer (binary_in a.bytes.now room) a.out.now (record { number = 28; line = record { 0 = 0 } })
    (in-none a.bytes.now room c.in_default.ensures.taken) in
    record { answer = rw c.of_text.ensures told.0; wrote = told.1 }

pub overflow_add-kept : goal.overflow_add-kept
overflow_add-kept c = omega (arith, inside c)

pub slice_bounds-text-end : goal.slice_bounds-text-end
slice_bounds-text-end c = omega (arith, inside c)

pub is_sq_list-requires : goal.is_sq_list-requires
is_sq_list-requires c =
    let t = text_of (goal.at.is_sq_list-requires c).After-unpadded_len in record {
      list_in_bounds = c.in-Some.ensures.stands.list;
      bytes_value = c.in-Some.ensures.stands.whole;
      text_len_bound = text-fits t (records_of t) (accepted c);
    }

pub returns-then-not-is_sq_list : goal.returns-then-not-is_sq_list
returns-then-not-is_sq_list c =
    let a = c.args in
    let room = length a.out.now in
    let told = refused-answer (binary_in a.bytes.now room) a.out.now (record { number = 29; line = record { 0 = 0 } })
    (in-other a.bytes.now room c.in-Some.parts c.in-Some.ensures.taken (text_of (goal.at.returns-then-not-is_sq_list c).After-unpadded_len) (text-is (goal.at.returns-then-not-is_sq_list c).After-unpadded_len) (accepted (goal.at.returns-then-not-is_sq_list c).In_ok-accepted)
    (sym (alike (goal.at.returns-then-not-is_sq_list c).After-is_sq_list) ∙ c.if-not-is_sq_list.true)) in
    record { answer = rw c.of_text-then-not-is_sq_list.ensures told.0; wrote = told.1 }

pub write_accepted-requires : goal.write_accepted-requires
unfolding is_accepted
write_accepted-requires c = record {
  text_value = ap is_accepted (accepted (goal.at.write_accepted-requires c).In_ok-accepted);
  reads_by = (told (goal.at.write_accepted-requires c).In_ok-accepted).rule;
}

pub returns-in_err-accepted : goal.returns-in_err-accepted
returns-in_err-accepted c =
    let a = c.args in
    let room = length a.out.now in
    let r = c.in_err-accepted.field-0.0 in
    let k = (goal.at.returns-in_err-accepted c).After-unpadded_len in
    let p = err_from_is_err_and c.from_residual.result c.from_residual.ensures.1 in
    let told = refused-answer (binary_in a.bytes.now room) a.out.now r
    (in-refused a.bytes.now room c.in-Some.parts c.in-Some.ensures.taken (text_of k) (text-is k) r.number r.line.0
    (text-refused (text_of k) r (sym c.judge.ensures ∙ c.in_err-accepted.was))) in
    record { answer = rw (p.1, p.2) told.0; wrote = told.1 }

pub returns : goal.returns
returns c =
    let a = c.args in
    let room = length a.out.now in
    let same = sym (in-same a.bytes.now room c.in-Some.parts c.in-Some.ensures.taken (text_of (goal.at.returns c).After-unpadded_len) (text-is (goal.at.returns c).After-unpadded_len) (accepted (goal.at.returns c).In_ok-accepted)
    (sym (alike (goal.at.returns c).After-is_sq_list) ∙ c.if-not-is_sq_list.false)) in record {
      answer = c.write_accepted.ensures.answer ∙ ap answer_of same;
      wrote = c.write_accepted.ensures.wrote ∙ ap (λ x. output_of x a.out.now) same;
    }
