-- `program_depths::learn` meets its contract: a depth that is known already stays, and one that is found is noted with those above it.
use Prim.Native.Nat.{ℕ, ◌<◌}
use mathlib.Core.Path.{◌≡◌, refl, sym, ◌∙◌}
use mathlib.Core.Bool.{false≢true}
use mathlib.Core.List.{List}
use native.Mathlib.Omega.{arith}
use lib.ListN.{length, get_or, set, length-set}
use Rattle.program_depths.specs.Depths.{KnownRight}
use Rattle.program_depths.proofs.Deep.{deep-le}
use Rattle.program_depths.proofs.Noting.{noted-set, kept_set, kept_same, kept-known, here-set}
use Rattle.program_depths.proofs.learn.Goals as goal
use Rattle.program_depths.proofs.learn.Goals.{Else-d-parents}

pub offset_bounds-depths-i : goal.offset_bounds-depths-i
offset_bounds-depths-i c = omega arith

pub bounds-depths-i : goal.bounds-depths-i
bounds-depths-i c = omega arith

pub returns-then-depths-i : goal.returns-then-depths-i
returns-then-depths-i c = record {
  endless = (λ q. absurd (false≢true (sym q)));
  known = (λ _. c.if-depths-i.true);
  noted = c.requires.known_right;
  kept = kept_same c.args.depths.now;
  sized = refl;
}

pub overflow_cast-d : goal.overflow_cast-d
overflow_cast-d c = omega arith

pub returns-then-d-parents : goal.returns-then-d-parents
returns-then-d-parents c = record {
  endless = (λ _. sym c.climb-d.ensures ∙ c.if-d-parents.true);
  known = (λ q. absurd (false≢true q));
  noted = c.requires.known_right;
  kept = kept_same c.args.depths.now;
  sized = refl;
}

pub offset_bounds-depths-i-2 : goal.offset_bounds-depths-i-2
offset_bounds-depths-i-2 c = omega arith

pub bounds-depths-i-2 : goal.bounds-depths-i-2
bounds-depths-i-2 c = omega arith

abbrev ps : (c : Else-d-parents) → List ℕ
ps c = c.args.parents.now

abbrev ds : (c : Else-d-parents) → List ℕ
ds c = c.args.depths.now

abbrev i : (c : Else-d-parents) → ℕ
i c = c.args.i

abbrev d : (c : Else-d-parents) → ℕ
d c = c.climb-d.result

open-yet : (c : Else-d-parents) → get_or (ds c) (i c) 0 ≡ 4294967295
open-yet c = c.if-depths-i.false

less : (c : Else-d-parents) → (d c) < length (ps c)
less c = let ne = c.if-d-parents.false in omega (arith, c.climb-d.ensures, deep-le (ps c) c.requires.parents_value (i c))

noted : (c : Else-d-parents) → KnownRight (ps c) (set (ds c) (i c) (d c))
noted c = noted-set (ds c) (i c) (d c) (open-yet c) (ps c) c.climb-d.ensures (less c) c.requires.known_right

pub settle-requires : goal.settle-requires
settle-requires c =
    let p = (goal.at.settle-requires c).Else-d-parents in
    record {
      parents_value = c.requires.parents_value;
      parents_len_bound = c.requires.parents_len_bound;
      i_in_bounds = (c.requires.i_in_bounds, c.climb-d.ensures, less p);
      known_right = noted p;
    }

pub returns : goal.returns
returns c =
    let p = (goal.at.returns c).Else-d-parents in
    let known : get_or (set (ds p) (i p) (d p)) (i p) 0 ≡ 4294967295 → ⊥ = λ q. omega (arith, less p, here-set (ds p) (i p) (d p) (open-yet p), c.requires.parents_len_bound) in record {
      endless = (λ q. absurd (false≢true (sym q)));
      known = (λ _. kept-known (set (ds p) (i p) (d p)) c.settle.new.depths c.settle.ensures.kept (i p) known);
      noted = c.settle.ensures.noted;
      kept = (λ k f. c.settle.ensures.kept k (λ q. f (sym (kept_set (ds p) (i p) (d p) (open-yet p) (ds p) (kept_same (ds p)) k f) ∙ q)) ∙ kept_set (ds p) (i p) (d p) (open-yet p) (ds p) (kept_same (ds p)) k f);
      sized = c.settle.ensures.sized ∙ length-set (ds p) (i p) (d p);
    }
