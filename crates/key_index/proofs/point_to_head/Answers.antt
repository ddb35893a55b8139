-- `key_index::point_to_head` meets its contract.
use Prim.Native.Nat.{ℕ, ◌+◌, ◌≤◌, ◌<◌}
use mathlib.Core.Path.{◌≡◌, refl, sym, ap, ap₂, ◌∙◌}
use native.Mathlib.Omega.{arith}
use Rattle.std.specs.Prelude.{Some, None, ⊤}
use Rattle.std.proofs.lemmas.Option.{MatchOption-at_some}
use lib.ListN.{length}
use Rattle.key_look.specs.declared.Sought.{Sought}
use Rattle.key_look.specs.declared.Sought.TheVariants.{Known, Free, Full}
use Rattle.key_index.specs.KeySlots.{value, pointed, after_pointing, looks_of, sought_of, offset_of}
use Rattle.key_index.specs.Keyed.{key_of, sought_by, looks_by}
use Rattle.key_index.proofs.Keys.{key-inside, key-offset, sought-by-key, looks-by-key}
use Rattle.key_index.proofs.Looking.{known-below, offset-small}
use Rattle.key_index.proofs.point_to_head.Goals as goal
use Rattle.key_index.proofs.point_to_head.Goals.{In-Some, After-look_at-looked, In-Known}

-- the head's key
key-is : (c : In-Some) → key_of c.args.head ≡ Some c.in-Some.key
key-is c = sym c.key_of.ensures ∙ c.in-Some.is

-- looking for the head's key ended as the definition says
ended : (c : After-look_at-looked)
    → let a = c.args in
    c.look_at-looked.result.sought ≡ sought_of a.seed a.text.now a.area.now a.head
unfolding sought_by
ended c =
    let a = c.args in
    c.look_at-looked.ensures.sought ∙ sym (ap (sought_by a.seed a.text.now a.area.now) (key-is (goal.at.After-look_at-looked c).In-Some)) ∙ sought-by-key a.seed a.text.now a.area.now a.head

looked : (c : After-look_at-looked)
    → let a = c.args in
    c.look_at-looked.result.slots ≡ looks_of a.seed a.text.now a.area.now a.head
unfolding looks_by
looked c =
    let a = c.args in
    c.look_at-looked.ensures.slots ∙ sym (ap (looks_by a.seed a.text.now a.area.now) (key-is (goal.at.After-look_at-looked c).In-Some)) ∙ looks-by-key a.seed a.text.now a.area.now a.head

place : (c : In-Some) → c.in-Some.key.place.at ≡ offset_of c.args.head
place c = MatchOption-at_some ⊤ (λ k. k.place.at ≡ offset_of c.args.head) c.in-Some.key (key-is c) (key-offset c.args.head)

-- the slot that holds the key is one of the slots
below : (c : In-Known) → c.in-Known.i < length c.args.area.now
below c =
    known-below c.args.seed c.args.text.now c.args.area.now c.args.head c.in-Known.i c.requires.area_nonzero (sym (ended (goal.at.In-Known c).After-look_at-looked) ∙ c.in-Known.is)

small : (c : In-Some) → c.in-Some.key.place.at < 16777216
small c =
    omega (arith, place c, offset-small (length c.args.text.now) c.args.head c.requires.key_in_text)

-- what the slots become, by how the search ended
told : (c : After-look_at-looked) (s : Sought) → c.look_at-looked.result.sought ≡ s
    → let a = c.args in
    pointed c.in-Some.key.place.at a.area.now s ≡ after_pointing a.seed a.text.now a.area.now a.head
unfolding after_pointing
told c s e =
    let a = c.args in
    ap₂ (λ at k. pointed at a.area.now k) (place (goal.at.After-look_at-looked c).In-Some) (sym e ∙ ended c)

pub look_at-looked-requires : goal.look_at-looked-requires
look_at-looked-requires c = record {
  text_len_bound = c.requires.text_len_bound;
  area_nonzero = c.requires.area_nonzero;
  len_in_bounds = MatchOption-at_some ⊤ (λ k. k.place.at + k.place.len ≤ length c.args.text.now) c.in-Some.key (key-is (goal.at.look_at-looked-requires c).In-Some) (key-inside (length c.args.text.now) c.args.head c.requires.key_in_text);
}

pub offset_bounds-area-i : goal.offset_bounds-area-i
offset_bounds-area-i c = omega (arith, below c)

pub bounds-area-i : goal.bounds-area-i
bounds-area-i c = below (goal.at.bounds-area-i c).In-Known

pub overflow_mul-area : goal.overflow_mul-area
overflow_mul-area c = omega (arith, c.slice_known-in-Known-1.given c.in-Known.i)

pub overflow_cast-area : goal.overflow_cast-area
overflow_cast-area c = omega (arith, small (goal.at.overflow_cast-area c).In-Some)

pub overflow_add-area : goal.overflow_add-area
overflow_add-area c = omega (arith, c.slice_known-in-Known-1.given c.in-Known.i, small (goal.at.overflow_add-area c).In-Some)

pub offset_bounds-area-i-in-Known : goal.offset_bounds-area-i-in-Known
offset_bounds-area-i-in-Known c = omega (arith, below (goal.at.offset_bounds-area-i-in-Known c).In-Known)

pub bounds-area-i-in-Known : goal.bounds-area-i-in-Known
bounds-area-i-in-Known c = below (goal.at.bounds-area-i-in-Known c).In-Known

pub returns-in-Known : goal.returns-in-Known
unfolding pointed value
returns-in-Known c = record {
  slots = looked (goal.at.returns-in-Known c).After-look_at-looked;
  wrote = told (goal.at.returns-in-Known c).After-look_at-looked (Known c.in-Known.i) c.in-Known.is;
}

-- a head without a key
pub returns-in_default : goal.returns-in_default
unfolding sought_by looks_by pointed after_pointing
returns-in_default c =
    let a = c.args in
    let e : key_of a.head ≡ None = sym c.key_of.ensures ∙ c.in_default.is in record {
      slots = sym (ap (looks_by a.seed a.text.now a.area.now) e) ∙ looks-by-key a.seed a.text.now a.area.now a.head;
      wrote = ap (pointed (offset_of a.head) a.area.now) (sym (ap (sought_by a.seed a.text.now a.area.now) e) ∙ sought-by-key a.seed a.text.now a.area.now a.head);
    }

-- no slot holds it, and none changes
unknown : (c : After-look_at-looked) (s : Sought) → c.look_at-looked.result.sought ≡ s → ((i : ℕ) → s ≡ Known i → ⊥)
    → let a = c.args in
    a.area.now ≡ after_pointing a.seed a.text.now a.area.now a.head
unfolding pointed
unknown c (Known i) e h = absurd (h i refl)
unknown c (Free i) e h = told c (Free i) e
unknown c Full e h = told c Full e

pub returns-in_default-sought : goal.returns-in_default-sought
returns-in_default-sought c =
    let k = (goal.at.returns-in_default-sought c).After-look_at-looked in record {
      slots = looked k;
      wrote = unknown k c.look_at-looked.result.sought refl c.in_default-sought.not-Known;
    }
