-- `read_judge::judge_indexed` meets its contract, by plain numbers or by keyed ones.
use mathlib.Core.Path.{◌≡◌, refl, sym, ap, subst, ◌∙◌}
use mathlib.Core.Bool.{Bool, true, false, false≢true}
use mathlib.Core.List.{[]}
use native.Mathlib.Omega.{arith}
use lib.ListN.{length, length-replicate}
use borrow.Author.Tests.{not-true}
use Rattle.format.specs.Slots.{Held}
use Rattle.format.proofs.Slots.{held_none}
use Rattle.key_look.specs.Seed.{plain_seed, seed_of, Seeded}
use Rattle.key_index.specs.KeySlots.{start}
use Rattle.read_judge.proofs.judge_indexed.Goals as goal

-- a flag is false that is not true
no : (b : Bool) → (b ≡ true → ⊥) → b ≡ false
no true h = absurd (h refl)
no false h = refl

pub judge_along-first-requires : goal.judge_along-first-requires
unfolding Seeded plain_seed
judge_along-first-requires c =
    let a = c.args in
    let e = c.plain-plain.ensures in record {
      text_len_bound = c.requires.text_len_bound;
      in_bounds = c.requires.in_bounds;
      held = subst (λ d. Held (start d a.text.now (length a.area.now)) a.area.now []) (sym e) c.requires.held;
      seeded = λ q. absurd (false≢true (sym (ap (λ d. d.keyed) e) ∙ q));
    }

pub returns-then-not-first : goal.returns-then-not-first
returns-then-not-first c = c.judge_along-first.ensures.judged (not-true _ c.if-not-first.true)

pub judge_along-second-requires : goal.judge_along-second-requires
unfolding Seeded
judge_along-second-requires c =
    let e = c.clear.ensures in
    let long : length c.clear.new.area ≡ length c.args.area.now = ap length e ∙ length-replicate (length c.judge_along-first.new.area) 0 ∙ c.judge_along-first.auto.area in record {
      text_len_bound = c.requires.text_len_bound;
      in_bounds = omega (arith, long, c.requires.in_bounds);
      held = rw e (held_none (start _ _ _) (length c.judge_along-first.new.area));
      seeded = λ _. c.seed_of-seed.ensures;
    }

pub returns : goal.returns
unfolding seed_of
returns c =
    let keyed = ap (λ d. d.keyed) c.seed_of-seed.ensures in
    c.judge_along-second.ensures.judged (no c.judge_along-second.result.busy (λ b. false≢true (sym (c.judge_along-second.ensures.busy b) ∙ keyed)))
