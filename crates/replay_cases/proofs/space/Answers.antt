-- `replay_cases::space` meets its contract.
use Rattle.std.proofs.Common.{ℕ, refl, sym}
use Rattle.std.proofs.lemmas.List.{length-replicate}
use Rattle.replay_cases.proofs.space.Goals as goal

pub returns : goal.returns
returns c = (sym (length-replicate {A = ℕ} 131072 0), refl)
