-- `key_index::is_first_with_key` meets its contract.
use Prim.Native.Nat.{◌+◌, ◌≤◌, ◌<◌}
use mathlib.Core.Path.{◌≡◌, sym, ap, ap₂, ◌∙◌}
use mathlib.Core.Logic.{inl, inr}
use native.Mathlib.Omega.{arith}
use Rattle.std.specs.Prelude.{Some, None, ⊤}
use Rattle.std.proofs.lemmas.Option.{MatchOption-at_some}
use lib.ListN.{length}
use Rattle.key_look.specs.declared.Sought.{Sought}
use Rattle.key_look.specs.declared.Sought.TheVariants.{Known, Free, Full}
use Rattle.key_index.specs.KeySlots.{is_own, is_first_key, looks_of, sought_of, offset_of}
use Rattle.key_index.specs.Keyed.{key_of, sought_by, looks_by}
use Rattle.key_index.proofs.Keys.{key-inside, key-offset, sought-by-key, looks-by-key}
use Rattle.key_index.proofs.Looking.{known-below}
use Rattle.key_index.proofs.is_first_with_key.Goals as goal
use Rattle.key_index.proofs.is_first_with_key.Goals.{In-Some, After-look_at-looked, In-Known}

-- the head's key
key-is : (c : In-Some) → key_of c.args.head ≡ Some c.in-Some.key
key-is c = sym c.key_of.ensures ∙ c.in-Some.is

-- looking for the head's key ended as the definition says
ended : (c : After-look_at-looked)
    → let a = c.args in
    c.look_at-looked.result.sought ≡ sought_of a.seed a.text.now a.area.now a.head
unfolding sought_by
ended c =
    let a = c.args in
    c.look_at-looked.ensures.sought ∙ sym (ap (sought_by a.seed a.text.now a.area.now) (key-is (goal.at.After-look_at-looked c).In-Some)) ∙ sought-by-key a.seed a.text.now a.area.now a.head

looked : (c : After-look_at-looked)
    → let a = c.args in
    c.look_at-looked.result.slots ≡ looks_of a.seed a.text.now a.area.now a.head
unfolding looks_by
looked c =
    let a = c.args in
    c.look_at-looked.ensures.slots ∙ sym (ap (looks_by a.seed a.text.now a.area.now) (key-is (goal.at.After-look_at-looked c).In-Some)) ∙ looks-by-key a.seed a.text.now a.area.now a.head

place : (c : In-Some) → c.in-Some.key.place.at ≡ offset_of c.args.head
place c = MatchOption-at_some ⊤ (λ k. k.place.at ≡ offset_of c.args.head) c.in-Some.key (key-is c) (key-offset c.args.head)

-- the slot that holds the key is one of the slots
below : (c : In-Known) → c.in-Known.i < length c.args.area.now
below c =
    known-below c.args.seed c.args.text.now c.args.area.now c.args.head c.in-Known.i c.requires.area_nonzero (sym (ended (goal.at.In-Known c).After-look_at-looked) ∙ c.in-Known.is)

-- what is answered, by how the search ended
told : (c : After-look_at-looked) (s : Sought) → c.look_at-looked.result.sought ≡ s
    → let a = c.args in
    is_own c.in-Some.key.place.at a.area.now s ≡ is_first_key a.seed a.text.now a.area.now a.head
unfolding is_first_key
told c s e =
    let a = c.args in
    ap₂ (λ at k. is_own at a.area.now k) (place (goal.at.After-look_at-looked c).In-Some) (sym e ∙ ended c)

pub look_at-looked-requires : goal.look_at-looked-requires
look_at-looked-requires c = record {
  text_len_bound = c.requires.text_len_bound;
  area_nonzero = c.requires.area_nonzero;
  len_in_bounds = MatchOption-at_some ⊤ (λ k. k.place.at + k.place.len ≤ length c.args.text.now) c.in-Some.key (key-is (goal.at.look_at-looked-requires c).In-Some) (key-inside (length c.args.text.now) c.args.head c.requires.key_in_text);
}

pub offset_bounds-area-i : goal.offset_bounds-area-i
offset_bounds-area-i c = omega (arith, below c)

pub bounds-area-i : goal.bounds-area-i
bounds-area-i c = below (goal.at.bounds-area-i c).In-Known

pub returns-in-Known : goal.returns-in-Known
unfolding is_own
returns-in-Known c = record {
  first = told (goal.at.returns-in-Known c).After-look_at-looked (Known c.in-Known.i) c.in-Known.is;
  slots = looked (goal.at.returns-in-Known c).After-look_at-looked;
}

pub returns-in-Free : goal.returns-in-Free
unfolding is_own
returns-in-Free c =
    let k = (goal.at.returns-in-Free c).After-look_at-looked in record {
      first = elim c.in-Free.is [ inl w ↦ told k (Free w.0) w.1 | inr w ↦ told k Full w ];
      slots = looked k;
    }

-- a head without a key
pub returns-in_default : goal.returns-in_default
unfolding sought_by looks_by is_own is_first_key
returns-in_default c =
    let a = c.args in
    let e : key_of a.head ≡ None = sym c.key_of.ensures ∙ c.in_default.is in record {
      first = ap (is_own (offset_of a.head) a.area.now) (sym (ap (sought_by a.seed a.text.now a.area.now) e) ∙ sought-by-key a.seed a.text.now a.area.now a.head);
      slots = sym (ap (looks_by a.seed a.text.now a.area.now) e) ∙ looks-by-key a.seed a.text.now a.area.now a.head;
    }
