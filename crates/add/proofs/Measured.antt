-- What measuring says of the answer: a refusal is the answer's, and otherwise the text is written.
use Prim.Native.Nat.{ℕ, ◌≤◌}
use mathlib.Core.Path.{◌≡◌, refl}
use mathlib.Core.Bool.{Bool, true, false, cond}
use mathlib.Core.List.{List}
use mathlib.Core.Option.{Option, none, some}
use native.Mathlib.Omega.{arith}
use lib.ListN.{length}
use lib.Dec.{ltb}
use borrow.Author.Tests.{ltb-false}
use Rattle.format.specs.Reading.{longest}
use Rattle.format.specs.Calls.{Answer, refused, yes, fitting, writing}
use Rattle.std.specs.Prelude.{Ok, Err}
use Rattle.format.specs.declared.Refusal.{Refusal}
use Rattle.add.specs.Added.{planned_of}
use Rattle.add.specs.declared.Plan.{Plan}

pub planned-refused : (p : Plan) (w : Answer (List ℕ)) (r : Refusal) → planned_of p w ≡ Err r → w ≡ refused r.number r.line.0
unfolding planned_of
planned-refused p (refused m k) r e =
    let x : ◌≡◌ {A = Refusal} (record { number = m; line = record { 0 = k } }) r = cc in
    rw (← x) refl
planned-refused p (yes t) r e = absurd (let z : ◌≡◌ {A = ℕ} 0 1 = cc in omega arith)

pub planned-is : (p q : Plan) (room : ℕ) (o : Option ℕ) (t : List ℕ) → planned_of p (writing room o t) ≡ Ok q
    → (p ≡ q) × (writing room o t ≡ yes t) × (length t ≤ 16777216) × (length t ≤ room)
unfolding planned_of writing longest fitting
planned-is p q room (some l) t e = absurd (let z : ◌≡◌ {A = ℕ} 0 1 = cc in omega arith)
planned-is p q room none t e = go (ltb 16777216 (length t)) refl (ltb room (length t)) refl e
  where
    written : Bool → Bool → Answer (List ℕ)
    written a b = cond a (refused 1 0) (cond b (refused 20 0) (yes t))

    go : (a : Bool) → ltb 16777216 (length t) ≡ a → (b : Bool) → ltb room (length t) ≡ b → planned_of p (written a b) ≡ Ok q
        → (p ≡ q) × (written a b ≡ yes t) × (length t ≤ 16777216) × (length t ≤ room)
    go true x b y e = absurd (let z : ◌≡◌ {A = ℕ} 0 1 = cc in omega arith)
    go false x true y e = absurd (let z : ◌≡◌ {A = ℕ} 0 1 = cc in omega arith)
    go false x false y e = (cc, refl, ltb-false 16777216 (length t) x, ltb-false room (length t) y)
