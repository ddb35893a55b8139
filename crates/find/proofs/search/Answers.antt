-- `find::search` meets its contract: what the entries ahead say is the answer, and the first bytes of two equally long keys decide.
use Prim.Native.Nat.{ℕ, ◌+◌, ◌-◌, ◌≤◌}
use mathlib.Core.Path.{◌≡◌, sym, ap, subst, ◌∙◌}
use mathlib.Core.Bool.{true, false}
use mathlib.Core.List.{List}
use mathlib.Core.Option.{some}
use native.Mathlib.Omega.{arith}
use lib.ListN.{length, get_or, take, drop}
use Rattle.format.specs.Bytes.{same}
use Rattle.catalogue_entries.specs.declared.Place.{Place}
use Rattle.catalogue_entries.specs.declared.Entry.{Entry}
use Rattle.catalogue_entries.specs.Entries.{kind_byte, entry_size, entry_of, entries_in}
use Rattle.program_ids.specs.Search.{id_ordinal_from}
use Rattle.find.proofs.Front.{Front, front-none, front-other, front-on}
use Rattle.find.specs.Keys.{key_place, keys_in, found_of}
use Rattle.find.proofs.SearchSteps.{Ahead, search-end, turn-fits, key-inside, turn-kind, turn-length, turn-here, turn-differs}
use Rattle.find.proofs.search.Goals as goal
use Rattle.find.proofs.search.Goals.{Else-len-eq0, Then-place-key, then-kind_of-kind, then-place-key+else-i-eq0+then-text-start, else-place-key, else-kind_of-kind}

-- ---- an entry of the kind whose key is as long as the one that is asked for

module _ (t c : List ℕ) (k : ℕ) (x : List ℕ) (at n len : ℕ) (e : Entry) (found : e ≡ entry_of (drop at c)) (long : len ≡ entry_size e) (a : Ahead t c k x at n) (h : len ≡ 0 → ⊥)
    (p : Place) (is : p ≡ key_place e) (even : p.len ≡ length x) where
  -- so many bytes are within the text
  fits : p.at + length x ≤ length t
  fits = omega (arith, subst (λ (q : Place). q.at + q.len ≤ length t) (sym is) (key-inside t c k x at n len e found long a h), even)

  sized : (key_place e).len ≡ length x
  sized = ap (λ (q : Place). q.len) (sym is) ∙ even

  same_at : p.at ≡ (key_place e).at
  same_at = ap (λ (q : Place). q.at) is

  -- all bytes were compared
  here : kind_byte e ≡ k → (i : ℕ) → Front t x p.at i → i ≡ 0 → id_ordinal_from x 0 (keys_in t k (entries_in c)) ≡ some n
  here q i f z = turn-here t c k x at n len e found long a h q sized (subst (λ m. same x (take (length x) (drop m t)) ≡ true) same_at (front-none t x p.at fits i f z))

  -- one of them differs
  differs : kind_byte e ≡ k → (i : ℕ) → Front t x p.at i → (i ≡ 0 → ⊥) → (get_or t (p.at + (i - 1)) 0 ≡ get_or x (i - 1) 0 → ⊥) → Ahead t c k x (at + len) (n + 1)
  differs q i f z d = turn-differs t c k x at n len e found long a h q sized (subst (λ m. same x (take (length x) (drop m t)) ≡ false) same_at (front-other t x p.at fits i f z d))

-- ---- in a step of the loop

room : (c : Then-place-key) → c.key_place-place.result.at + length c.args.key.now ≤ length c.args.text.now
room c = fits _ _ _ _ _ _ _ _ c.entry_at-e.ensures c.size-len.ensures c.search.invariant c.if-len-eq0.false _ c.key_place-place.ensures c.if-place-key.true

pub bounds-text-start : goal.bounds-text-start
bounds-text-start c = omega (arith, room (goal.at.bounds-text-start c).Then-place-key, c.loop-i.invariant.0, c.if-i-eq0.false)

pub loop-i-preserved : goal.loop-i-preserved
loop-i-preserved c =
    front-on c.args.text.now c.args.key.now c.key_place-place.result.at (room (goal.at.loop-i-preserved c).Then-place-key) c.loop-i.i c.loop-i.invariant c.if-i-eq0.false c.if-text-start.false

-- the entry is within the catalogue
within : (c : Else-len-eq0) → c.search.at + c.size-len.result ≤ length c.args.catalogue.now
within c = turn-fits _ _ _ _ _ _ _ _ c.entry_at-e.ensures c.size-len.ensures c.search.invariant c.if-len-eq0.false

pub overflow_add-at : goal.overflow_add-at
overflow_add-at c = omega (arith, within (goal.at.overflow_add-at c).Else-len-eq0)

pub search-smaller : goal.search-smaller
search-smaller c = omega (arith, within (goal.at.search-smaller c).Else-len-eq0, c.if-len-eq0.false)

pub search-preserved : goal.search-preserved
search-preserved c =
    let a = c.args in
    let s = c.search in
    let found = c.entry_at-e.ensures in
    let long = c.size-len.ensures in
    let more = c.if-len-eq0.false in
    let is = c.kind_of.ensures in
    let Next = Ahead a.text.now a.catalogue.now a.kind a.key.now (s.at + c.size-len.result) in
    elim c.if-kind_of-kind.branch [
      | then-kind_of-kind w ↦
          let kind = sym is ∙ w.if-kind_of-kind.true in
          subst Next (sym w.ordinal-is)
          (elim w.if-place-key.branch [
            | then-place-key+else-i-eq0+then-text-start v ↦
                differs _ _ _ _ _ _ _ _ found long s.invariant more _ w.key_place-place.ensures v.if-place-key.true kind v.loop-i.i v.loop-i.invariant v.if-i-eq0.false v.if-text-start.true
            | else-place-key v ↦
                turn-length _ _ _ _ _ _ _ _ found long s.invariant more kind (λ q. v.if-place-key.false (ap (λ (p : Place). p.len) w.key_place-place.ensures ∙ q))
          ])
      | else-kind_of-kind w ↦
          subst Next (sym w.ordinal-is)
          (turn-kind _ _ _ _ _ _ _ _ found long s.invariant more (λ q. w.if-kind_of-kind.false (is ∙ q)))
    ]

pub returns-then-len-eq0 : goal.returns-then-len-eq0
unfolding found_of
returns-then-len-eq0 c = sym (ap found_of (search-end _ _ _ _ _ _ _ _ c.entry_at-e.ensures c.size-len.ensures c.search.invariant c.if-len-eq0.true))

pub returns-then-i-eq0 : goal.returns-then-i-eq0
unfolding found_of
returns-then-i-eq0 c =
    sym (ap found_of
    (here _ _ _ _ _ _ _ _ c.entry_at-e.ensures c.size-len.ensures c.search.invariant c.if-len-eq0.false _ c.key_place-place.ensures c.if-place-key.true (sym c.kind_of.ensures ∙ c.if-kind_of-kind.true) c.loop-i.i c.loop-i.invariant c.if-i-eq0.true))
