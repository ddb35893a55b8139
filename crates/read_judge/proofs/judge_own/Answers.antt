-- `read_judge::judge_own` meets its contract: an area of zeros holds no key.
use Prim.Native.Nat.{ℕ}
use lib.ListN.{length-replicate}
use Rattle.format.proofs.Slots.{held_none}
use Rattle.key_look.specs.Seed.{plain_seed}
use Rattle.key_index.specs.KeySlots.{start}
use Rattle.read_judge.proofs.judge_own.Goals as goal

pub judge_indexed-requires-clause-held : goal.judge_indexed-requires-clause-held
judge_indexed-requires-clause-held g c = rw (length-replicate {A = ℕ} g.row.SLOTS 0) (held_none (start plain_seed c.args.text.now g.row.SLOTS) g.row.SLOTS)
