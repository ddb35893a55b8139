-- Fields that all take different marks: no tag is repeated among them.
use Prim.Native.Nat.{ℕ, ◌%◌, ◌<◌}
use mathlib.Core.Path.{◌≡◌, refl, sym, ap, ap₂, ◌∙◌}
use mathlib.Core.Bool.{Bool, true, false, ◌||◌, cond}
use mathlib.Core.List.{List, [], ◌∷◌}
use native.Mathlib.Omega.{arith}
use native.Mathlib.Nat.{mod-lt}
use lib.ListN.{length, get_or, set, length-set}
use lib.Seq.{get_or-set_same, get_or-set_other}
use lib.Dec.{eqb}
use borrow.Author.Tests.{eqb-true}
use Rattle.format.specs.Bytes.{any}
use Rattle.format.specs.Fields.{Field, tagged, repeats}
use Rattle.accepted_line.specs.Number.{tag_number}
use Rattle.lists.proofs.Bools.{never, and_left, and_right}
use Rattle.accepted_line.specs.Tables.{field_number, spread}

-- the mark that a field takes
abbrev slot : Field → ℕ
slot f = field_number f % 112

pub slot-below : (n : ℕ) → n % 112 < 112
slot-below n = mod-lt n {m = 112} (omega arith)

-- a tag has one number
pub same_number : (a b : ℕ) (g : Field) → tagged a b g ≡ true → field_number g ≡ tag_number a b
unfolding tagged field_number
same_number a b g t =
    let x : Bool = eqb g.tag₀ a in
    let y : Bool = eqb g.tag₁ b in
    ap₂ tag_number (eqb-true g.tag₀ a (and_left x y t)) (eqb-true g.tag₁ b (and_right x y t))

-- the mark of `f` is taken: none of the others has its tag
apart : (f : Field) (seen : List Bool) (gs : List Field) → get_or seen (slot f) false ≡ true → spread seen gs ≡ true → any (tagged f.tag₀ f.tag₁) gs ≡ false
unfolding spread any field_number
apart f seen [] m h = refl
apart f seen (g ∷ gs) m h = go (get_or seen (slot g) false) refl h (tagged f.tag₀ f.tag₁ g) refl (λ n. apart f (set seen (slot g) true) gs (get_or-set_other seen (slot g) (slot f) true false n ∙ m))
  where
    go : (t : Bool) → get_or seen (slot g) false ≡ t → cond t false (spread (set seen (slot g) true) gs) ≡ true
        → (u : Bool) → tagged f.tag₀ f.tag₁ g ≡ u
        → ((slot f ≡ slot g → ⊥) → spread (set seen (slot g) true) gs ≡ true → any (tagged f.tag₀ f.tag₁) gs ≡ false)
        → u || any (tagged f.tag₀ f.tag₁) gs ≡ false
    go true e h u d ih = absurd (never (cc))
    go false e h true d ih = absurd (never (let q = same_number f.tag₀ f.tag₁ g d in let z : true ≡ false = sym m ∙ ap (λ n. get_or seen (n % 112) false) (sym q) ∙ e in cc))
    go false e h false d ih = ih (λ q. never (let z : true ≡ false = sym m ∙ ap (λ n. get_or seen n false) q ∙ e in cc)) h

pub spread-once : (seen : List Bool) (gs : List Field) → length seen ≡ 112 → spread seen gs ≡ true → repeats gs ≡ false
unfolding spread repeats
spread-once seen [] l h = refl
spread-once seen (f ∷ fs) l h = go (get_or seen (slot f) false) h (spread-once (set seen (slot f) true) fs (length-set seen (slot f) true ∙ l))
  where
    go : (t : Bool) → cond t false (spread (set seen (slot f) true) fs) ≡ true → (spread (set seen (slot f) true) fs ≡ true → repeats fs ≡ false)
        → any (tagged f.tag₀ f.tag₁) fs || repeats fs ≡ false
    go true h ih = absurd (never (cc))
    go false h ih = ap₂ (λ t u. t || u) (apart f (set seen (slot f) true) fs (get_or-set_same seen (slot f) true false (omega (arith, slot-below (field_number f)))) h) (ih h)
