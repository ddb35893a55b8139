-- What pruning refuses of programs.
use Prim.Native.Nat.{ℕ, suc}
use mathlib.Core.Path.{◌≡◌, refl, ap, ◌∙◌}
use mathlib.Core.Bool.{true, false}
use mathlib.Core.List.{List}
use lib.ListN.{length}
use lib.Dec.{leb}
use Rattle.format.specs.Bytes.{any}
use Rattle.format.specs.Records.{Record}
use Rattle.format.specs.Programs.{programs, links, tangled}
use Rattle.format.specs.Calls.{refused, then, untangled}
use Rattle.format.specs.Prune.{pruning}
use Rattle.prune_laws.specs.Refuses.{Refuses, AllRefuse}
use Rattle.prune_laws.proofs.Beside.{after}

module _ (us : List ℕ) (room : ℕ) (rs : List Record) where
  after-high : any (leb (length (links (programs rs)))) us ≡ true → after us room rs ≡ refused 25 0
  after-high h = rw h refl

  after-tangled : any (leb (length (links (programs rs)))) us ≡ false → (n : ℕ) → tangled (links (programs rs)) ≡ suc n → after us room rs ≡ refused (suc n) 0
  unfolding then untangled
  after-tangled h n q = rw (h, q) refl

pub all-refuse : AllRefuse
unfolding AllRefuse pruning then
all-refuse t c us room rs e = record {
  high = λ h. ap (λ x. then x (after us room)) e ∙ after-high us room rs h;
  tangled = λ h n q. ap (λ x. then x (after us room)) e ∙ after-tangled us room rs h n q;
}
