-- `carry_lines::is_used` meets its contract: programs are looked for in `ids`, other keys in the area.
use Prim.Native.Nat.{ℕ}
use mathlib.Core.Path.{◌≡◌, refl, ap, ◌∙◌}
use mathlib.Core.Bool.{Bool, not}
use mathlib.Core.List.{List, [], ◌∷◌}
use lib.Dec.{ltb}
use denote.Enum.Declared.{tag_of}
use types.Run.{OneOf, miss}
use Rattle.record.specs.contracts.Head.{the_type}
use Rattle.record.specs.declared.Stretch.{Stretch}
use Rattle.record.specs.declared.Head.{Head}
use Rattle.record.specs.declared.Head.TheVariants as head
use Rattle.key_index.specs.KeySlots.{is_first_key, is_found, after_entering}
use Rattle.key_look.specs.Seed.{plain_seed}
use Rattle.key_look.specs.declared.Seed.{Seed}
use Rattle.carry_lines.specs.Kept.{used_by, ids_after}
use Rattle.carry_lines.proofs.is_used.Goals as goal

-- not a program: the area decides
module _ (seed : Seed) (t area ids : List ℕ) (room : Bool) where
  elsewhere : (x : Head) → ((p : Stretch) (n : ℕ) → x ≡ head.Program p n → ⊥) → (not (is_first_key seed t area x) ≡ used_by seed t area ids x) × (ids ≡ ids_after room t ids x)
  unfolding used_by ids_after
  elsewhere (head.Refused n) k = (refl, refl)
  elsewhere (head.Header v n) k = (refl, refl)
  elsewhere (head.ReferenceSequence p l n) k = (refl, refl)
  elsewhere (head.ReadGroup p n) k = (refl, refl)
  elsewhere (head.Program p n) k = absurd (k p n refl)
  elsewhere (head.Comment p) k = (refl, refl)

  -- a program: the kept ones decide
  here : (x : Head) (p : Stretch) (n : ℕ) → x ≡ head.Program p n → (is_found plain_seed t ids x ≡ used_by seed t area ids x) × (after_entering plain_seed room t ids x ≡ ids_after room t ids x)
  unfolding used_by ids_after
  here x p n e = rw e (refl, refl)

pub returns-in-Program : goal.returns-in-Program
unfolding used_by ids_after
returns-in-Program c =
    let a = c.args in
    let room : Bool = ltb a.programs 1024 in
    let e = here a.seed a.text.now a.area.now a.ids.now room a.head _ _ c.in-Program.is in record {
      used = c.find_or_enter.ensures.known ∙ ap (λ s. is_found s a.text.now a.ids.now a.head) c.plain.ensures ∙ e.0;
      wrote = c.find_or_enter.ensures.wrote ∙ ap (λ s. after_entering s room a.text.now a.ids.now a.head) c.plain.ensures ∙ e.1;
    }

pub returns-in_default : goal.returns-in_default
returns-in_default c =
    let a = c.args in
    let e = elsewhere a.seed a.text.now a.area.now a.ids.now (ltb a.programs 1024) a.head (λ p n e. c.in_default.not-Program p n e) in record {
      used = ap not c.is_first_with_key.ensures.first ∙ e.0;
      wrote = e.1;
    }
