-- `carry_keys::fill_by` meets its contract: its three steps in a row, unless one is given up.
use Prim.Native.Nat.{ℕ, ◌*◌, ◌/◌}
use mathlib.Core.Path.{◌≡◌, ap, ap₂, ◌∙◌}
use lib.ListN.{length, drop, length-replicate}
use Rattle.format.specs.Lines.{lines_from}
use Rattle.carry_keys.specs.Blocks.{keyed_front, after_keyed, earlier, entered, pointed_back, filled_for}
use Rattle.carry_keys.proofs.fill_by.Goals as goal

pub returns-in-Ok : goal.returns-in-Ok
unfolding filled_for
returns-in-Ok c =
    let a = c.args in
    let t = c.args.text.now in
    let n : ℕ = length a.area.now in
    let told = c.in_ok-entered.ensures in
    let long : length c.clear.new.area ≡ n = ap length c.clear.ensures ∙ length-replicate n 0 in record {
      end = told.end ∙ ap (λ m. after_keyed a.strict (m / 4 * 3) a.at t) long;
      wrote = c.in-Ok.ensures.wrote
          ∙ ap (λ s. pointed_back a.seed a.strict t s (earlier a.at (lines_from a.from (drop a.from t))))
          (told.wrote ∙ ap₂ (λ s m. entered a.seed a.strict t s (keyed_front a.strict (m / 4 * 3) (lines_from a.at (drop a.at t)))) c.clear.ensures long);
      busy = tt;
    }
