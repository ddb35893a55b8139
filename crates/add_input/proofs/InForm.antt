-- What is known of a prefix and of given fields that are in form.
use Prim.Native.Nat.{ℕ}
use mathlib.Core.Path.{◌≡◌, refl}
use mathlib.Core.Bool.{Bool, true, false, not, ◌||◌}
use mathlib.Core.List.{List}
use lib.Dec.{eqb}
use borrow.Author.Tests.{eqb-true, not-false}
use Rattle.format.specs.Bytes.{any}
use Rattle.format.specs.Fields.{is_value, tagged, Scan, repeats}
use Rattle.format.specs.Adding.{misformed}
use Rattle.add_input.specs.Given.{marred}
use Rattle.lists.proofs.Bools.{or_left, or_right}

-- the prefix is a value; the fields are read to their end, ID is not among them, and no tag is repeated
pub record InForm (prefix : List ℕ) (s : Scan) : Type 0 where
  pub value : is_value prefix ≡ true
  pub stop : s.stop ≡ 0
  pub no-id : any (tagged 73 68) s.fields ≡ false
  pub once : repeats s.fields ≡ false

pub misformed-marred : (prefix : List ℕ) (s : Scan) → misformed prefix s ≡ not (is_value prefix) || marred s
unfolding misformed marred
misformed-marred prefix s = go (not (is_value prefix)) (not (eqb s.stop 0)) (any (tagged 73 68) s.fields)
  where
    go : (v e i : Bool) → v || e || i || repeats s.fields ≡ v || (e || i || repeats s.fields)
    go true e i = refl
    go false e i = refl

pub in-form : (prefix : List ℕ) (s : Scan) → misformed prefix s ≡ false → InForm prefix s
unfolding misformed
in-form prefix s h =
    let v : Bool = not (is_value prefix) in
    let e : Bool = not (eqb s.stop 0) in
    let i : Bool = any (tagged 73 68) s.fields in
    let r : Bool = repeats s.fields in
    let k : v || e || i ≡ false = or_left (v || e || i) r h in
    let l : v || e ≡ false = or_left (v || e) i k in
    record {
      value = not-false (is_value prefix) (or_left v e l);
      stop = eqb-true s.stop 0 (not-false (eqb s.stop 0) (or_right v e l));
      no-id = or_right (v || e) i k;
      once = or_right (v || e || i) r h;
    }
