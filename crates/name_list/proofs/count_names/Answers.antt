-- `name_list::count_names` meets its contract: one for each LF, and one more where the last byte is not an LF.
use Prim.Native.Nat.{ℕ, ◌+◌, ◌-◌}
use mathlib.Core.Path.{◌≡◌, sym, ap, ◌∙◌}
use mathlib.Core.List.{List, [], ◌∷◌}
use native.Mathlib.Omega.{arith}
use lib.ListN.{length, get_or}
use Rattle.std.specs.Prelude.{None, Some}
use Rattle.std.specs.List.{slice_get}
use Rattle.std.proofs.lemmas.Option.{none-some, slice_get-get_or, slice_get_within, get_or_from_slice_get}
use Rattle.name_list.proofs.Asked.{count_none, count-ended, count_left}
use Rattle.name_list.proofs.count_names.Goals as goal

none : (s : List ℕ) → None ≡ slice_get s (length s - 1) → length s ≡ 0
none [] e = omega arith
none (b ∷ s) e = absurd (none-some _ (e ∙ slice_get-get_or (b ∷ s) (length (b ∷ s) - 1) 0 (omega arith)))

module _ (s : List ℕ) (b : ℕ) (e : Some b ≡ slice_get s (length s - 1)) where
  some : length s ≡ 0 → ⊥
  some z = omega (arith, z, slice_get_within s (length s - 1) b (sym e))

  last : get_or s (length s - 1) 0 ≡ b
  last = get_or_from_slice_get s (length s - 1) b 0 (sym e)

pub returns-in_default : goal.returns-in_default
returns-in_default c = c.count_ends-n.ensures ∙ sym (count_none c.args.list.now (none c.args.list.now c.in_default.ensures.value))

pub returns-then-last-eq10 : goal.returns-then-last-eq10
returns-then-last-eq10 c =
    let e = c.in-Some.ensures.value in
    c.count_ends-n.ensures ∙ sym (count-ended c.args.list.now (some c.args.list.now _ e) (last c.args.list.now _ e ∙ c.if-last-eq10.true))

pub returns : goal.returns
returns c =
    let e = c.in-Some.ensures.value in
    ap (λ n. n + 1) c.count_ends-n.ensures ∙ sym (count_left c.args.list.now (some c.args.list.now _ e) (λ z. c.if-last-eq10.false (sym (last c.args.list.now _ e) ∙ z)))
