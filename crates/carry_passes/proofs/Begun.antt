-- Before the first step nothing is judged.
use Prim.Native.Nat.{ℕ}
use mathlib.Core.Path.{refl, sym, subst}
use mathlib.Core.List.{List, []}
use native.Mathlib.Omega.{arith}
use Rattle.format.specs.Reading.{of_kind}
use Rattle.format.specs.Slots.{Held}
use Rattle.byte_slices.specs.Stands.{Each}
use Rattle.key_look.specs.Seed.{plain_seed}
use Rattle.key_look.specs.declared.Seed.{Seed}
use Rattle.key_index.specs.KeySlots.{start}
use Rattle.key_index.specs.HeldKeys.{key_values_of}
use Rattle.format.specs.Carrying.{kept_of}
use Rattle.carry_laws.specs.Judged.{judged_from}
use Rattle.carry_early.specs.First.{First}
use Rattle.carry_early.specs.declared.Begin.{Begin}
use Rattle.carry_lines.specs.Going.{Going}
use Rattle.carry_passes.specs.From.{Fresh}

pub begun : (t : List ℕ) (b : Begin) (seed : Seed) (area ids : List ℕ) → First t b → Fresh t area ids
    → Going b.strict t b.at area ids (record { at = b.at; line = 0; until = b.at; seed = seed; kept = 0; programs = 0 })
unfolding judged_from kept_of of_kind key_values_of Each
begun t b seed area ids f s =
    record {
      passed = [];
      split = refl;
      inside = f.inside;
      slow = omega arith;
      number = refl;
      counted = refl;
      told = refl;
      ended = tt;
      held = subst (λ n. Held (start plain_seed t n) ids []) (sym s.room) s.held;
      few = omega arith;
      some = s.some;
      room = s.room;
      block = λ z. absurd (z refl);
    }
