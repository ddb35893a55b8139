-- `carry_keys::fill` meets its contract: by the given numbers, or by keyed ones, which are never given up.
use Prim.Native.Nat.{◌*◌, ◌/◌}
use mathlib.Core.Path.{◌≡◌, sym, ap, ◌∙◌}
use mathlib.Core.Bool.{Bool, true, false, false≢true}
use lib.ListN.{length}
use Rattle.std.proofs.Common.{ℕ, rules, Result, Ok, Err, OnErr, IsOk}
use Rattle.std.proofs.lemmas.Result.{IfOk-at_ok}
use Rattle.carry_keys.specs.declared.Looks.{Looks}
use Rattle.key_look.specs.Seed.{seed_of}
use Rattle.carry_keys.specs.Blocks.{after_keyed, filled_for}
use Rattle.carry_keys.proofs.fill.Goals as goal

-- keyed numbers are not given up
never-busy : (r : Result ℕ Looks) (k : Bool) → k ≡ true → OnErr r (k ≡ false) → IsOk r
never-busy (Ok n) k e h = search rules
never-busy (Err l) k e h = absurd (false≢true (sym h ∙ e))

pub unwrap-end-requires : goal.unwrap-end-requires
unfolding seed_of
unwrap-end-requires c = never-busy c.fill_by-2.result _ (ap (λ s. s.keyed) c.seed_of-keyed.ensures) c.fill_by-2.ensures.busy

pub returns : goal.returns
returns c =
    let a = c.args in
    let t = c.args.text.now in
    let end = IfOk-at_ok (λ e. e ≡ after_keyed a.strict (length c.fill_by.new.area / 4 * 3) a.at t) c.unwrap-end.ensures c.fill_by-2.ensures.end in
    let wrote = IfOk-at_ok (λ _. c.fill_by-2.new.area ≡ filled_for c.seed_of-keyed.result a.strict t (length c.fill_by.new.area) a.from a.at) c.unwrap-end.ensures c.fill_by-2.ensures.wrote in
    let long : length c.fill_by.new.area ≡ length a.area.now = c.fill_by.auto.area in record {
      end = end ∙ ap (λ n. after_keyed a.strict (n / 4 * 3) a.at t) long;
      wrote = wrote ∙ ap (λ n. filled_for c.seed_of-keyed.result a.strict t n a.from a.at) long;
    }
