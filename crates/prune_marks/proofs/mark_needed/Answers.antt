-- `prune_marks::mark_needed` meets its contract: what is marked, and what the programs in use that are still to come need, is all. Assumes nothing.
use Prim.Native.Nat.{◌+◌}
use mathlib.Core.Path.{◌≡◌, refl, sym, ap, subst, ◌∙◌}
use mathlib.Core.List.{◌∷◌}
use native.Mathlib.Omega.{arith}
use native.Mathlib.Numerals.{add-one}
use lib.ListN.{length, get_or, drop, drop_of_length-le}
use lib.Seq.{drop-cons}
use Rattle.program_chains.specs.Parents.{links_of}
use Rattle.prune_marks.proofs.Marked.{Marking, marking_begins, marking-goes, marking-ends, used-at}
use Rattle.prune_marks.proofs.mark_needed.Goals as goal

pub loop-u-init : goal.loop-u-init
loop-u-init c = (refl, marking_begins _ _ 1024)

pub slice_bounds-mark_up-end : goal.slice_bounds-mark_up-end
slice_bounds-mark_up-end c = sym c.loop-u.invariant.0

pub mark_up-requires : goal.mark_up-requires
mark_up-requires c =
    let l = c.loop-u in
    let h = used-at (length c.args.parents.now) c.args.used.now l.u-index c.requires.used_value (omega arith) in record {
      parents_value = c.requires.parents_value;
      parents_value_2 = c.requires.parents_value_2;
      parents_in_bounds = omega (arith, l.invariant.0, c.requires.parents_len_bound);
      u_in_bounds = (h, omega (arith, h, c.requires.parents_len_bound));
      closed = l.invariant.1.closed;
    }

pub loop-u-preserved : goal.loop-u-preserved
loop-u-preserved c =
    let l = c.loop-u in
    let us = c.args.used.now in
    let here : drop l.u-index us ≡ get_or us l.u-index 0 ∷ drop (l.u-index + 1) us = drop-cons us l.u-index 0 (omega arith) ∙ ap (λ n. get_or us l.u-index 0 ∷ drop n us) (sym (add-one l.u-index)) in (
      c.mark_up.auto.marks ∙ l.invariant.0,
      marking-goes (links_of c.args.parents.now) us (get_or us l.u-index 0) (drop (l.u-index + 1) us) l.marks c.mark_up.new.marks
          (subst (λ xs. Marking (links_of c.args.parents.now) us xs l.marks) here l.invariant.1) c.mark_up.ensures,
    )

pub returns : goal.returns
returns c =
    let l = c.loop-u in
    let a = c.args in
    let ls = links_of a.parents.now in
    marking-ends ls a.used.now l.marks (subst (λ us. Marking ls a.used.now us l.marks) (drop_of_length-le _ c.loop-u-test.false) l.invariant.1) l.invariant.0
