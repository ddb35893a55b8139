-- `record_parser::parse_comment` meets its contract: nothing, another byte, or a tab follows the kind. Assumes nothing.
use Prim.Native.Nat.{ℕ, ◌+◌, ◌-◌, ◌<◌}
use mathlib.Core.Path.{◌≡◌, refl, sym}
use mathlib.Core.List.{List}
use native.Mathlib.Omega.{arith}
use lib.ListN.{length, drop, get_or, length-drop, drop_of_length-le}
use lib.Seq.{drop-cons}
use borrow.Author.Tests.{eq-eqb, ne_eqb}
use Rattle.format.specs.Records.{remark}
use Rattle.record.specs.declared.Head.TheVariants.{Refused, Comment}
use Rattle.record.specs.Head.{head_of}
use Rattle.record_parser.proofs.parse_comment.Goals as goal

module _ (at : ℕ) (s : List ℕ) where
  ended : length s ≡ 3 → head_of (remark (at + 3) (drop 3 s)) ≡ Refused 7
  unfolding head_of remark
  ended h = rw (drop_of_length-le s {i = 3} (omega arith)) refl

  other : 3 < length s → (get_or s 3 0 ≡ 9 → ⊥) → head_of (remark (at + 3) (drop 3 s)) ≡ Refused 6
  unfolding head_of remark
  other h n = rw (drop-cons s 3 0 h, ne_eqb _ _ n) refl

  told : 3 < length s → get_or s 3 0 ≡ 9 → head_of (remark (at + 3) (drop 3 s)) ≡ Comment (record { at = at + 4; len = length s - 4 })
  unfolding head_of remark
  told h e =
      let a : at + 3 + 1 ≡ at + 4 = omega arith in
      rw (drop-cons s 3 0 h, eq-eqb _ _ e, a, length-drop 4 s) refl

pub returns-then-src-eq3 : goal.returns-then-src-eq3
returns-then-src-eq3 c = sym (ended c.args.at c.args.src.now c.if-src-eq3.true)

pub returns-then-src-ne9 : goal.returns-then-src-ne9
returns-then-src-ne9 c =
    let a = c.args in
    sym (other a.at a.src.now (omega arith) c.if-src-ne9.true)

pub returns : goal.returns
returns c =
    let a = c.args in
    sym (told a.at a.src.now (omega arith) c.if-src-ne9.false)
