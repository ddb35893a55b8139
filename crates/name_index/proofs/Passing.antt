-- Slots passed one after another, up to an empty one.
use Rattle.std.proofs.Common.{◌≡◌, ℕ, zero, suc, ◌+◌, ◌<◌, ◌≤◌, List, ◌∷◌, length, get_or, drop, refl, ap, ◌∙◌, add-one, drop_of_length-le, drop-cons}
use Rattle.format.specs.Slots.{full}

-- the slots `ss`, of which `i` have been passed
module _ (ss : List ℕ) (i : ℕ) where
  pub opened : i < length ss → drop i ss ≡ get_or ss i 0 ∷ drop (i + 1) ss
  opened l = rw (add-one, drop-cons ss i 0)

  pub full-end : length ss ≤ i → full (drop i ss) ≡ 0
  unfolding full
  full-end h = rw drop_of_length-le refl

  pub full-here : i < length ss → get_or ss i 0 ≡ 0 → full (drop i ss) ≡ 0
  unfolding full
  full-here l e = rw (opened l, e) refl

  pub full-on : i < length ss → (get_or ss i 0 ≡ 0 → ⊥) → full (drop i ss) ≡ suc (full (drop (i + 1) ss))
  unfolding full
  full-on l e = ap full (opened l) ∙ go (get_or ss i 0) e
    where
      go : (v : ℕ) → (v ≡ 0 → ⊥) → full (v ∷ drop (i + 1) ss) ≡ suc (full (drop (i + 1) ss))
      go zero n = absurd (n refl)
      go (suc v) n = refl
