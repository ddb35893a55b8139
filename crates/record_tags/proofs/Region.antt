-- A tag among fields, by the bytes: the laws of `occurs`, and that in a run of fields it finds the fields' tags and nothing else.
use Prim.Native.Nat.{ℕ, zero, suc, ◌+◌, ◌≤◌, ◌<◌}
use mathlib.Core.Path.{◌≡◌, refl, ap, ◌∙◌}
use mathlib.Core.Bool.{Bool, true, false, ◌&&◌, ◌||◌, cond}
use mathlib.Core.List.{List, [], ◌∷◌, ◌++◌}
use native.Mathlib.Omega.{arith}
use native.Mathlib.Numerals.{add-one, add-two}
use lib.ListN.{length, drop, get_or}
use lib.Seq.{drop-cons}
use lib.Dec.{eqb}
use borrow.Author.Tests.{ne_eqb}
use Rattle.format.specs.Bytes.{starts, any}
use Rattle.format.specs.Fields.{Field, tagged}
use Rattle.format.specs.Tidy.{field_text, fields_text}
use Rattle.byte_slices.specs.Upto.{upto}
use Rattle.byte_slices.specs.Stands.{Each}
use Rattle.record_tags.specs.Occurs.{occurs}
use Rattle.lists.proofs.Bools.{or-true, eqb-sym}

pub occurs-short : (a b : ℕ) (s : List ℕ) → length s ≤ 2 → occurs a b s ≡ false
unfolding occurs
occurs-short a b [] h = refl
occurs-short a b (c ∷ []) h = go (eqb c 9)
  where
    go : (t : Bool) → (t && false) || false ≡ false
    go true = refl
    go false = refl
occurs-short a b (c ∷ d ∷ []) h = go (eqb c 9) (eqb a d) (eqb d 9)
  where
    go : (t u v : Bool) → (t && (u && false)) || ((v && false) || false) ≡ false
    go true true true = refl
    go true true false = refl
    go true false true = refl
    go true false false = refl
    go false u true = refl
    go false u false = refl
occurs-short a b (c ∷ d ∷ e ∷ s) h = absurd (omega arith)

module _ (a b : ℕ) (s : List ℕ) (i : ℕ) (h : i + 2 < length s) where
  pub occurs-at : occurs a b (drop i s)
      ≡ (eqb (get_or s i 0) 9 && (eqb a (get_or s (i + 1) 0) && (eqb b (get_or s (i + 2) 0) && true))) || occurs a b (drop (i + 1) s)
  unfolding occurs
  occurs-at =
      rw (add-one i, add-two i, drop-cons s i 0 (omega arith))
      (ap (λ l. (eqb (get_or s i 0) 9 && starts (a ∷ b ∷ []) l) || occurs a b (drop (suc i) s))
      (drop-cons s (suc i) 0 (omega arith) ∙ ap (λ l. get_or s (suc i) 0 ∷ l) (drop-cons s (suc (suc i)) 0 (omega arith))))

-- what occurs from a place on, occurs
pub occurs-drop : (a b : ℕ) (s : List ℕ) (i : ℕ) → occurs a b (drop i s) ≡ true → occurs a b s ≡ true
unfolding occurs
occurs-drop a b s zero h = h
occurs-drop a b [] (suc i) h = h
occurs-drop a b (c ∷ s) (suc i) h = ap (λ t. (eqb c 9 && starts (a ∷ b ∷ []) s) || t) (occurs-drop a b s i h) ∙ or-true (eqb c 9 && starts (a ∷ b ∷ []) s)

-- ---- runs of fields

-- no tab in a field's tag or value
pub record Clean (f : Field) : Type 0 where
  pub first : f.tag₀ ≡ 9 → ⊥
  pub second : f.tag₁ ≡ 9 → ⊥
  pub value : upto 9 f.value.bytes ≡ length f.value.bytes

-- bytes that are no tab start no field
occurs-past : (a b : ℕ) (v s : List ℕ) → upto 9 v ≡ length v → occurs a b (v ++ s) ≡ occurs a b s
unfolding occurs upto
occurs-past a b [] s h = refl
occurs-past a b (c ∷ v) s h = go (eqb c 9) h (occurs-past a b v s)
  where
    go : (t : Bool) → cond t 0 (suc (upto 9 v)) ≡ suc (length v) → (upto 9 v ≡ length v → occurs a b (v ++ s) ≡ occurs a b s)
        → (t && starts (a ∷ b ∷ []) (v ++ s)) || occurs a b (v ++ s) ≡ occurs a b s
    go true h ih = absurd (omega arith)
    go false h ih = ih (omega arith)

occurs-field : (a b : ℕ) (f : Field) → Clean f → (s : List ℕ) → occurs a b (field_text f.tag₀ f.tag₁ f.value.bytes ++ s) ≡ tagged a b f || occurs a b s
unfolding occurs field_text tagged
occurs-field a b f k s =
    rw (ne_eqb _ _ k.first, ne_eqb _ _ k.second, occurs-past a b f.value.bytes s k.value, eqb-sym a f.tag₀, eqb-sym b f.tag₁) (go (eqb f.tag₀ a) (eqb f.tag₁ b))
  where
    go : (t u : Bool) → (t && (u && true)) || occurs a b s ≡ (t && u) || occurs a b s
    go true true = refl
    go true false = refl
    go false u = refl

-- in a run of fields a tag occurs exactly if a field has it
pub occurs-fields : (a b : ℕ) (fs : List Field) → Each Clean fs → occurs a b (fields_text fs) ≡ any (tagged a b) fs
unfolding fields_text any Each occurs
occurs-fields a b [] k = refl
occurs-fields a b (f ∷ fs) k = occurs-field a b f k.0 (fields_text fs) ∙ ap (λ t. tagged a b f || t) (occurs-fields a b fs k.1)
