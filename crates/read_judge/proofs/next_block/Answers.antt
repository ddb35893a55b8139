-- `read_judge::next_block` meets its contract: the same block, or the next one.
use Prim.Native.Nat.{ℕ, ◌+◌, ◌*◌, ◌/◌}
use mathlib.Core.Path.{◌≡◌, sym, ap, ap₂, ◌∙◌}
use mathlib.Core.Bool.{cond}
use borrow.Author.Tests.{lt-ltb, le-ltb}
use lib.ListN.{length, drop, replicate, length-replicate}
use Rattle.format.specs.Lines.{lines_from}
use Rattle.read_judge.specs.declared.Block.{Block}
use Rattle.read_judge.specs.Blocks.{clash_of, turned, emptied}
use Rattle.read_judge.proofs.next_block.Goals as goal

pub returns-then-line-block : goal.returns-then-line-block
unfolding turned emptied
returns-then-line-block c =
    let a = c.args in
    let e = lt-ltb a.line a.block.until c.if-line-block.true in
    let other : Block = record { until = a.line + length a.area.now / 4 * 3; clash = clash_of a.way.seed a.way.strict a.text.now a.area.now a.block.clash a.line (lines_from a.at (drop a.at a.text.now)) } in record {
      block = (λ _. sym (ap (λ t. cond t a.block other) e));
      wrote = sym (ap (λ t. cond t a.area.now (replicate (length a.area.now) 0)) e);
    }

pub returns : goal.returns
unfolding turned emptied
returns c =
    let a = c.args in
    let e = le-ltb a.line a.block.until c.if-line-block.false in
    let next : ℕ → ℕ → Block = λ u v. record { until = u; clash = v } in
    let clash = clash_of a.way.seed a.way.strict a.text.now a.area.now a.block.clash a.line (lines_from a.at (drop a.at a.text.now)) in
    let area : c.clear.new.area ≡ replicate (length a.area.now) 0 = c.clear.ensures ∙ ap (λ l. replicate (length l) 0) c.first_met-clash.ensures.kept in
    let long : length c.clear.new.area ≡ length a.area.now = ap length area ∙ length-replicate (length a.area.now) 0 in record {
      block = (λ h. ap₂ next (ap (λ n. a.line + n / 4 * 3) long) (c.first_met-clash.ensures.met h) ∙ sym (ap (λ t. cond t a.block (next (a.line + length a.area.now / 4 * 3) clash)) e));
      wrote = area ∙ sym (ap (λ t. cond t a.area.now (replicate (length a.area.now) 0)) e);
    }
