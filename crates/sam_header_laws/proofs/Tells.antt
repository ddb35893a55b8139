-- The number of an answer is 2^63 or more exactly if the call refuses.
use Prim.Native.Nat.{ℕ, ◌+◌, ◌*◌, ◌^◌, ◌≤◌, ◌<◌}
use mathlib.Core.Path.{◌≡◌, refl, sym, ap, subst, ◌∙◌}
use mathlib.Core.Bool.{cond}
use mathlib.Core.List.{List}
use native.Mathlib.Omega.{arith}
use lib.ListN.{length}
use lib.Dec.{leb}
use Rattle.format.specs.Bytes.{any}
use Rattle.format.specs.Lines.{Piece}
use Rattle.format.specs.Records.{Record}
use Rattle.format.specs.Reading.{longest}
use Rattle.format.specs.Catalogue.{catalogue}
use Rattle.format.specs.Programs.{programs, links, roots, tangled}
use Rattle.format.specs.Tidy.{tidy, unwritable}
use Rattle.format.specs.Adding.{given, unaddable, added}
use Rattle.format.specs.References.{sq_list}
use Rattle.format.specs.Calls.{Answer, refused, yes, then, records, fresh, fitting, writing, untangled, reading, tidying, counting, keying, sizing, locating, rooting, leafing, adding}
use Rattle.format.specs.Prune.{pruned, pruning}
use Rattle.format.specs.Table.{leafing_table}
use Rattle.format.specs.Merge.{Verdict, merged, unfit, unmerged, judging_merge}
use Rattle.format.specs.declared.Node.{Node}
use Rattle.format.specs.Carrying.{carrying}
use Rattle.format.specs.Binary.{binary, binary_out, binary_in, well_formed, binary_parts, unpadded, listed_alike}
use Rattle.format.specs.Batch.{batching}
use Rattle.names.specs.Answers.{names_of}
use Rattle.names.proofs.Bound.{batch-few}
use Rattle.read.specs.Answers.{answer_of, checked_of}
use Rattle.calls.specs.Answers.{count_of, key_answer_of, length_answer_of, line_answer_of}
use Rattle.programs.specs.Answers.{leaves_answer_of}
use Rattle.programs_by_table.specs.Answers.{without_table}
use Rattle.carry_on.specs.Answers.{carried_of}
use Rattle.merge_judge.specs.Judged.{which_of, verdict_of}
use Rattle.sam_header_words.specs.Words.{refusal_word, answer_word, checked_word, carried_word, leaves_word, key_word, length_word, line_word, names_word, unfit_word, verdict_word}
use Rattle.sam_header.proofs.Clear.{carried-clear, leaves-clear, seated-clear, key-clear}
use Rattle.sam_header_laws.specs.Tells.{Tells, WritingTells, NumbersTell, VerdictTells}
use Rattle.sam_header_laws.proofs.Within.{Within, fitting-within, writing-within, then-within, cond-within, count_small, line_small}

pub refusal-large : (n l : ℕ) → 2 ^ 63 ≤ refusal_word n l
unfolding refusal_word
refusal-large n l = omega arith

-- a number that is large for every refusal and small for what is answered
pub tells : {A : Type 0} (a : Answer A) (word : Answer A → ℕ) → ((n l : ℕ) → 2 ^ 63 ≤ word (refused n l)) → ((x : A) → a ≡ yes x → word a < 2 ^ 63) → Tells a (word a)
tells a word large small = record { refusal = λ n l e. subst (λ z. 2 ^ 63 ≤ word z) (sym e) (large n l); answer = small }

-- what is counted fits in the output
writes : (room : ℕ) → room < 2 ^ 63 → (a : Answer (List ℕ)) → Within room a → Tells a (answer_word (answer_of a))
unfolding answer_word answer_of Within
writes room h a w = tells a (λ x. answer_word (answer_of x)) refusal-large (λ xs e. subst (λ x. answer_word (answer_of x) < 2 ^ 63) (sym e) (small xs e))
  where
    small : (xs : List ℕ) → a ≡ yes xs → answer_word (answer_of (yes xs)) < 2 ^ 63
    small xs e = omega (arith, h, w xs e)

module _ (t c used : List ℕ) (room : ℕ) (h : room < 2 ^ 63) where
  pub writing-tells : WritingTells t c used room
  unfolding reading tidying binary_out binary_in rooting adding pruning
  writing-tells = record {
    read = writes room h (reading t room) (then-within room (records t) _ (λ rs. fitting-within room (catalogue rs)));
    tidy = writes room h (tidying t room) (then-within room (records t) _ (λ rs. writing-within room (unwritable 0 rs) (tidy rs)));
    outwards =
        writes room h (binary_out t room)
        (then-within room (records t) _ (λ rs. then-within room (writing longest (unwritable 0 rs) (tidy rs)) _ (λ x. fitting-within room (binary x (sq_list rs)))));
    inwards =
        writes room h (binary_in t room)
        (then-within room (well_formed (binary_parts t)) _ (λ p. then-within room (records (unpadded p.0)) _ (λ rs. then-within room (listed_alike p.1 rs) _ (λ qs. writing-within room (unwritable 0 qs) (tidy qs)))));
    roots = writes room h (rooting t c room) (then-within room (fresh t c) _ (λ rs. fitting-within room (roots (links (programs rs)))));
    add = λ prefix fields.
        writes room h (adding t c prefix fields room)
        (then-within room (fresh t c) _ (λ rs. then-within room (untangled rs (unaddable rs prefix (given fields))) _ (λ qs. writing-within room (unwritable 0 qs) _)));
    prune =
        writes room h (pruning t c used room)
        (then-within room (fresh t c) _ (λ rs. cond-within room 25 0 (any (leb (length (links (programs rs)))) used) _ (then-within room (untangled rs (tangled (links (programs rs)))) _ (λ qs. writing-within room (unwritable 0 qs) (tidy (pruned used qs))))));
  }

module _ (t c : List ℕ) where
  pub numbers-tell : NumbersTell t c
  unfolding checked_word checked_of answer_word count_of key_word key_answer_of length_word length_answer_of line_word line_answer_of leaves_word leaves_answer_of without_table carried_word carried_of names_word names_of
  numbers-tell = record {
    check = tells (fresh t c) (λ a. checked_word (checked_of a)) refusal-large (λ rs e. subst (λ a. checked_word (checked_of a) < 2 ^ 63) (sym e) (omega arith));
    count = λ k. tells (counting t c k) (λ a. answer_word (count_of a)) refusal-large (λ n e. subst (λ a. answer_word (count_of a) < 2 ^ 63) (sym e) (omega (arith, count_small t c k n e)));
    key = λ k i. tells (keying t c k i) (λ a. key_word (key_answer_of a)) refusal-large (key-clear t c k i);
    length = λ i. tells (sizing t c i) (λ a. length_word (length_answer_of a)) refusal-large (λ n e. subst (λ a. length_word (length_answer_of a) < 2 ^ 63) (sym e) (omega arith));
    line = λ k i. tells (locating t c k i) (λ a. line_word (line_answer_of a)) refusal-large (λ l e. subst (λ a. line_word (line_answer_of a) < 2 ^ 63) (sym e) (omega (arith, line_small t c k i l e)));
    leaves = λ room. tells (leafing t c room) (λ a. leaves_word (leaves_answer_of a)) refusal-large (λ x e. leaves-clear t c room x.0 x.1 e);
    table = λ room seats. tells (leafing_table t c room seats) (λ a. leaves_word (leaves_answer_of (without_table a))) refusal-large (λ x e. seated-clear t c room seats x.0 x.1 x.2 e);
    carried = λ room table. tells (carrying t room table) (λ a. carried_word (carried_of a)) refusal-large (λ x e. carried-clear t room table x.0 x.1 e);
    names = λ list work room. tells (batching t c list work room) (λ a. names_word (names_of a)) refusal-large (λ x e. subst (λ a. names_word (names_of a) < 2 ^ 63) (sym e) (omega (arith, batch-few t c list work room x e)));
  }

pub verdict-tells : (a b m list_a list_b : List ℕ) → VerdictTells a b m list_a list_b
verdict-tells a b m list_a list_b = record { accepted = none_of (judging_merge a b m list_a list_b); refused = large (judging_merge a b m list_a list_b) }
  where
    none_of : (v : Verdict) → v ≡ merged → verdict_word (verdict_of v) ≡ 0
    none_of v e = ap (λ w. verdict_word (verdict_of w)) e ∙ unfold verdict_word verdict_of in refl

    large : (v : Verdict) → (v ≡ merged → ⊥) → 2 ^ 63 ≤ verdict_word (verdict_of v)
    large merged n = absurd (n refl)
    large (unfit w n l) _ = unfold verdict_word verdict_of unfit_word in omega (arith, refusal-large n l)
    large (unmerged n) _ = unfold verdict_word verdict_of in refusal-large n 0
