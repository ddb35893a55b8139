-- The laws of the search for a program: the IDs come one after another, and what is still ahead decides.
use Prim.Native.Nat.{ℕ, ◌+◌, ◌*◌, ◌≤◌, ◌<◌}
use mathlib.Core.Path.{◌≡◌, refl, sym, ap, ◌∙◌}
use mathlib.Core.Bool.{true, false, cond}
use mathlib.Core.List.{List, [], ◌∷◌}
use mathlib.Core.Option.{none, some}
use native.Mathlib.Omega.{arith}
use native.Mathlib.Numerals.{add-one}
use lib.ListN.{length, drop, get_or, drop_of_length-le}
use lib.Seq.{drop-cons}
use Rattle.format.specs.Bytes.{same}
use Rattle.format.specs.Programs.{Program, ordinal_from}
use Rattle.byte_slices.proofs.Equal.{same-other}
use Rattle.program_ids.specs.Ids.{id_number, ids_at, IdsInText}
use Rattle.program_ids.specs.Search.{ids_of, id_ordinal_from}
use Rattle.program_ids.proofs.Ids.{ids-number}

-- ---- one after another

-- the answer is what the IDs from the one at `k` on say
abbrev pub Ahead : List ℕ → List (List ℕ) → ℕ → Type 0
Ahead id ids k = (k ≤ length ids) × (id_ordinal_from id 0 ids ≡ id_ordinal_from id k (drop k ids))

module _ (id : List ℕ) (ids : List (List ℕ)) (k : ℕ) (a : Ahead id ids k) where
  pub ahead_none : k ≡ length ids → id_ordinal_from id 0 ids ≡ none
  unfolding id_ordinal_from
  ahead_none e = let l : length ids ≤ k = omega arith in a.1 ∙ ap (id_ordinal_from id k) (drop_of_length-le ids l)

  module _ (h : k < length ids) where
    first : id_ordinal_from id 0 ids ≡ cond (same id (get_or ids k [])) (some k) (id_ordinal_from id (k + 1) (drop (k + 1) ids))
    unfolding id_ordinal_from
    first = a.1 ∙ rw (drop-cons ids k [] h, add-one k) refl

    ahead-here : same id (get_or ids k []) ≡ true → id_ordinal_from id 0 ids ≡ some k
    ahead-here e = first ∙ rw e refl

    ahead-on : same id (get_or ids k []) ≡ false → Ahead id ids (k + 1)
    ahead-on e = (omega arith, first ∙ rw e refl)

-- ---- a step at `k`: the number there decides, and then the bytes

module _ (t ids id : List ℕ) (p : IdsInText t ids) (k : ℕ) (h : k < length (ids_at t ids)) (a : Ahead id (ids_at t ids) k) where
  -- another number, so another ID
  pub turn-other : (get_or ids (k * 3 + 2) 0 ≡ id_number id → ⊥) → Ahead id (ids_at t ids) (k + 1)
  turn-other n = ahead-on id (ids_at t ids) k a h (same-other id (get_or (ids_at t ids) k []) (λ e. n (ids-number t ids p k h ∙ ap id_number (sym e))))

  -- whether the bytes are those of the ID
  pub turn-here : same id (get_or (ids_at t ids) k []) ≡ true → id_ordinal_from id 0 (ids_at t ids) ≡ some k
  turn-here q = ahead-here id (ids_at t ids) k a h q

  pub turn-differs : same id (get_or (ids_at t ids) k []) ≡ false → Ahead id (ids_at t ids) (k + 1)
  turn-differs q = ahead-on id (ids_at t ids) k a h q

-- ---- the IDs of programs

-- the first program with an ID
pub ordinal-ids : (id : List ℕ) (k : ℕ) (ps : List Program) → id_ordinal_from id k (ids_of ps) ≡ ordinal_from k id ps
unfolding id_ordinal_from ordinal_from
ordinal-ids id k [] = refl
ordinal-ids id k (p ∷ ps) = ap (λ o. cond (same id p.id) (some k) o) (ordinal-ids id (k + 1) ps)
