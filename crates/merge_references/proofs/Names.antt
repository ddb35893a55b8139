-- What a list has of a name, if no two have the same name: the first with that name decides.
use Prim.Native.Nat.{ℕ, ◌≤◌}
use mathlib.Core.Path.{◌≡◌, refl, sym, ap, ap₂, subst, ◌∙◌}
use mathlib.Core.Bool.{Bool, true, false, not, ◌&&◌, ◌||◌, cond}
use mathlib.Core.List.{List, [], ◌∷◌, ◌++◌}
use native.Mathlib.Omega.{arith}
use lib.ListN.{length}
use lib.Seq.{append_snoc}
use lib.Dec.{eqb}
use borrow.Author.Tests.{eq-eqb, ne_eqb}
use Rattle.format.specs.Bytes.{same, any}
use Rattle.format.specs.Lines.{Piece}
use Rattle.format.specs.Fields.{Field}
use Rattle.format.specs.Records.{Record, header, reference, group, program, comment, code, key}
use Rattle.format.specs.Reading.{clash, same_keys}
use Rattle.byte_slices.proofs.Equal.{same-equal}
use Rattle.accepted.specs.Admits.{KeysDiffer}
use Rattle.lists.proofs.Bools.{never, split, or_left, or_right, any_append}
use Rattle.format.specs.References.{Reference, sq_list}
use Rattle.format.specs.Merge.{same_name, differ}
use Rattle.binary_references.specs.Next.{sq_from}
use Rattle.merge_references.specs.Joining.{met_in, Apart, From}
use Rattle.std.specs.Prelude.{Option, None, Some}

-- ---- one after another

module _ (q : Reference) (rs : List Reference) where
  pub met-none : rs ≡ [] → met_in q rs ≡ None
  unfolding met_in
  met-none e = rw e refl

  module _ (r : Reference) (rest : List Reference) (e : rs ≡ r ∷ rest) where
    pub met-named : same_name q r ≡ true → met_in q rs ≡ Some (eqb q.size r.size)
    unfolding met_in
    met-named n = rw (e, n) refl

    pub met-same : same_name q r ≡ true → q.size ≡ r.size → met_in q rs ≡ Some true
    unfolding met_in
    met-same n s = rw (e, n, eq-eqb q.size r.size s) refl

    pub met-other : same_name q r ≡ true → (q.size ≡ r.size → ⊥) → met_in q rs ≡ Some false
    unfolding met_in
    met-other n s = rw (e, n, ne_eqb q.size r.size s) refl

    pub met-past : same_name q r ≡ false → met_in q rs ≡ met_in q rest
    unfolding met_in
    met-past n = rw (e, n) refl

-- ---- all of them

unfoldable is_known : Option Bool → Bool
is_known None = false
is_known (Some t) = true

unfoldable is_other : Option Bool → Bool
is_other None = false
is_other (Some t) = not t

-- the name of one is the name of the other
any-named : (q r : Reference) (rs : List Reference) → same_name q r ≡ true → any (same_name q) rs ≡ any (same_name r) rs
unfolding same_name
any-named q r rs n = let e : q.name ≡ r.name = same-equal q.name r.name n in ap (λ s. any (λ x. same s x.name) rs) e

-- where none has the name, none has another length
pub none-differs : (q : Reference) (rs : List Reference) → any (same_name q) rs ≡ false → any (differ q) rs ≡ false
unfolding any differ
none-differs q [] h = refl
none-differs q (r ∷ rs) h =
    let a = or_left (same_name q r) (any (same_name q) rs) h in
    ap₂ (λ t u. (t && not (eqb q.size r.size)) || u) a (none-differs q rs (or_right (same_name q r) (any (same_name q) rs) h))

known_is : (q : Reference) (rs : List Reference) → any (same_name q) rs ≡ is_known (met_in q rs)
unfolding any met_in is_known
known_is q [] = refl
known_is q (r ∷ rs) = go (same_name q r) (eqb q.size r.size) (known_is q rs)
  where
    go : (t u : Bool) → any (same_name q) rs ≡ is_known (met_in q rs) → t || any (same_name q) rs ≡ is_known (cond t (Some u) (met_in q rs))
    go true true ih = refl
    go true false ih = refl
    go false u ih = ih

other-is : (q : Reference) (rs : List Reference) → Apart rs → any (differ q) rs ≡ is_other (met_in q rs)
unfolding any met_in is_other Apart differ
other-is q [] h = refl
other-is q (r ∷ rs) h = go (same_name q r) refl (eqb q.size r.size) (other-is q rs h.1)
  where
    go : (t : Bool) → same_name q r ≡ t → (u : Bool) → any (differ q) rs ≡ is_other (met_in q rs) → (t && not u) || any (differ q) rs ≡ is_other (cond t (Some u) (met_in q rs))
    go true e true ih = none-differs q rs (any-named q r rs e ∙ h.0)
    go true e false ih = refl
    go false e u ih = ih

module _ (q : Reference) (rs : List Reference) (h : Apart rs) where
  pub met-nothing : met_in q rs ≡ None → (any (same_name q) rs ≡ false) × (any (differ q) rs ≡ false)
  unfolding is_known is_other
  met-nothing e = (known_is q rs ∙ ap is_known e, other-is q rs h ∙ ap is_other e)

  pub met-agrees : met_in q rs ≡ Some true → (any (same_name q) rs ≡ true) × (any (differ q) rs ≡ false)
  unfolding is_known is_other
  met-agrees e = (known_is q rs ∙ ap is_known e, other-is q rs h ∙ ap is_other e)

  pub met-differs : met_in q rs ≡ Some false → any (differ q) rs ≡ true
  unfolding is_known is_other
  met-differs e = other-is q rs h ∙ ap is_other e

-- ---- the last of them

-- a later one has the name: none before has
pub past-front : (q f : Reference) (front rest : List Reference) → any (same_name f) (front ++ rest) ≡ false → any (same_name q) rest ≡ true → same_name q f ≡ false
past-front q f front rest h n =
    split (same_name q f)
    (λ e. absurd (never (let z : true ≡ false = sym n ∙ any-named q f rest e ∙ or_right (any (same_name f) front) (any (same_name f) rest) (sym (any_append (same_name f) front rest) ∙ h) in cc)))
    (λ e. e)

met-behind : (q : Reference) (front rest : List Reference) → Apart (front ++ rest) → any (same_name q) rest ≡ true → met_in q (front ++ rest) ≡ met_in q rest
unfolding Apart
met-behind q [] rest h n = refl
met-behind q (f ∷ front) rest h n = met-past q (f ∷ (front ++ rest)) f (front ++ rest) refl (past-front q f front rest h.0 n) ∙ met-behind q front rest h.1 n

-- what the last references of a text have of a name, all have
pub met-from : (strict : Bool) (t : List ℕ) (at : ℕ) → From strict t at → Apart (sq_from strict t 0) → (q : Reference) → any (same_name q) (sq_from strict t at) ≡ true → met_in q (sq_from strict t 0) ≡ met_in q (sq_from strict t at)
met-from strict t at f h q n = ap (met_in q) f.joined ∙ met-behind q f.front (sq_from strict t at) (subst Apart f.joined h) n

module _ (strict : Bool) (t : List ℕ) (at : ℕ) (f : From strict t at) (h : Apart (sq_from strict t 0)) (q : Reference) where
  pub same_from_lem : met_in q (sq_from strict t at) ≡ Some true → met_in q (sq_from strict t 0) ≡ Some true
  unfolding is_known
  same_from_lem e = met-from strict t at f h q (known_is q (sq_from strict t at) ∙ ap is_known e) ∙ e

  pub other_from : met_in q (sq_from strict t at) ≡ Some false → met_in q (sq_from strict t 0) ≡ Some false
  unfolding is_known
  other_from e = met-from strict t at f h q (known_is q (sq_from strict t at) ∙ ap is_known e) ∙ e

pub from_start : (strict : Bool) (t : List ℕ) → From strict t 0
from_start strict t = record { within = omega arith; front = []; joined = refl }

pub from_next : (strict : Bool) (t : List ℕ) (at next : ℕ) (r : Reference) → From strict t at → sq_from strict t at ≡ r ∷ sq_from strict t next → next ≤ length t → From strict t next
from_next strict t at next r f e l = record {
  within = l;
  front = f.front ++ (r ∷ []);
  joined = f.joined ∙ ap (λ l. f.front ++ l) e ∙ sym (append_snoc f.front r (sq_from strict t next));
}

-- ---- in an accepted text no two have one name

module _ (x : Piece) (n : ℕ) (fs : List Field) where
  abbrev own : Reference
  own = record { name = x.bytes; size = n }

  named-apart : (rs : List Record) → any (clash (reference x n fs)) rs ≡ false → any (same_name own) (sq_list rs) ≡ false
  unfolding any sq_list clash code key same_keys same_name
  named-apart [] h = refl
  named-apart (header v gs ∷ rs) h = named-apart rs h
  named-apart (reference y m gs ∷ rs) h = ap₂ (λ t u. t || u) (or_left (same x.bytes y.bytes) (any (clash (reference x n fs)) rs) h) (named-apart rs (or_right (same x.bytes y.bytes) (any (clash (reference x n fs)) rs) h))
  named-apart (group y gs ∷ rs) h = named-apart rs h
  named-apart (program y gs ∷ rs) h = named-apart rs h
  named-apart (comment y ∷ rs) h = named-apart rs h

pub apart-list : (rs : List Record) → KeysDiffer rs → Apart (sq_list rs)
unfolding KeysDiffer Apart sq_list
apart-list [] h = tt
apart-list (header v fs ∷ rs) h = apart-list rs h.1
apart-list (reference x n fs ∷ rs) h = (named-apart x n fs rs h.0, apart-list rs h.1)
apart-list (group x fs ∷ rs) h = apart-list rs h.1
apart-list (program x fs ∷ rs) h = apart-list rs h.1
apart-list (comment x ∷ rs) h = apart-list rs h.1
