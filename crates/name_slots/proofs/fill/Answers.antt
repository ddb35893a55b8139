-- `name_slots::fill` meets its contract: emptied, then filled.
use Prim.Native.Nat.{ℕ}
use mathlib.Core.Path.{ap, ◌∙◌}
use native.Mathlib.Omega.{arith}
use lib.ListN.{length, length-replicate}
use lib.Seq.{sets}
use Rattle.catalogue_entries.specs.Entries.{entries_in}
use Rattle.name_slots.specs.Filled.{entering, seats}
use Rattle.name_slots.proofs.fill.Goals as goal

pub put_names-requires : goal.put_names-requires
put_names-requires c =
    let e = ap length c.clear.ensures ∙ length-replicate {A = ℕ} (length c.args.slots.now) 0 in record {
      slots_len_bound = omega (arith, e, c.requires.slots_len_bound);
      by_index = (c.requires.by_index.0, e ∙ c.requires.by_index.1);
      catalogue_len_bound = c.requires.catalogue_len_bound;
    }

pub returns : goal.returns
returns c =
    let a = c.args in record {
      wrote = c.put_names.ensures.wrote ∙ ap (entering a.ordinals a.text.now 0 (entries_in a.catalogue.now)) c.clear.ensures;
      noted = c.put_names.ensures.noted ∙ ap (λ s. sets a.notes.now 0 (seats a.ordinals a.text.now 0 (entries_in a.catalogue.now) s)) c.clear.ensures;
    }
