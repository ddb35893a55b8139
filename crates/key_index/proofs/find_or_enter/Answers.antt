-- `key_index::find_or_enter` meets its contract.
use Prim.Native.Nat.{ℕ, ◌+◌, ◌*◌, ◌≤◌, ◌<◌}
use mathlib.Core.Path.{◌≡◌, sym, ap, ◌∙◌}
use mathlib.Core.Bool.{cond}
use native.Mathlib.Omega.{arith}
use Rattle.std.specs.Prelude.{Some, None, ⊤}
use Rattle.std.proofs.lemmas.Option.{MatchOption-at_some, MatchOption-at_none}
use lib.ListN.{length, set}
use Rattle.key_look.specs.declared.Sought.{Sought}
use Rattle.key_look.specs.declared.Sought.TheVariants.{Known, Free, Full}
use Rattle.key_index.specs.KeySlots.{offset_of, value, says_known, after_looking, is_found, looks_of, after_entering}
use Rattle.key_index.specs.Keyed.{key_of, sought_by, looks_by, print_by}
use Rattle.key_index.proofs.Looking.{free-below, offset-small}
use Rattle.key_index.proofs.Keys.{key-inside, key-offset, print-small, sought-by-key, looks-by-key, found-by-key, entered-by-key}
use Rattle.key_index.proofs.find_or_enter.Goals as goal
use Rattle.key_index.proofs.find_or_enter.Goals.{In-Some, After-look_at-looked, In-Free}

-- the head's key
key-is : (c : In-Some) → key_of c.args.head ≡ Some c.in-Some.key
key-is c = sym c.key_of.ensures ∙ c.in-Some.is

-- looking for the head's key ended as the definition says
ended : (c : After-look_at-looked)
    → let a = c.args in
    c.look_at-looked.result.sought ≡ sought_by a.seed a.text.now a.area.now (key_of a.head)
unfolding sought_by
ended c =
    let a = c.args in
    c.look_at-looked.ensures.sought ∙ sym (ap (sought_by a.seed a.text.now a.area.now) (key-is (goal.at.After-look_at-looked c).In-Some))

-- the empty slot is one of the slots
below : (c : In-Free) → c.in-Free.i < length c.args.area.now
below c =
    let a = c.args in
    free-below a.seed a.text.now a.area.now a.head c.in-Free.i c.requires.area_nonzero
    (sym (sought-by-key a.seed a.text.now a.area.now a.head) ∙ sym (ended (goal.at.In-Free c).After-look_at-looked) ∙ c.in-Free.is)

print : (c : After-look_at-looked)
    → let a = c.args in
    c.look_at-looked.result.print ≡ print_by a.seed a.text.now (key_of a.head)
unfolding print_by
print c =
    let a = c.args in
    c.look_at-looked.ensures.print ∙ sym (ap (print_by a.seed a.text.now) (key-is (goal.at.After-look_at-looked c).In-Some))

few : (c : After-look_at-looked) → c.look_at-looked.result.print ≤ 255
few c =
    let a = c.args in
    omega (arith, print c, print-small a.seed a.text.now a.area.now a.head)

place : (c : In-Some) → c.in-Some.key.place.at ≡ offset_of c.args.head
place c = MatchOption-at_some ⊤ (λ k. k.place.at ≡ offset_of c.args.head) c.in-Some.key (key-is c) (key-offset c.args.head)

small : (c : In-Some) → c.in-Some.key.place.at < 16777216
small c =
    omega (arith, place c, offset-small (length c.args.text.now) c.args.head c.requires.key_in_text)

looked : (c : After-look_at-looked)
    → let a = c.args in
    c.look_at-looked.result.slots ≡ looks_of a.seed a.text.now a.area.now a.head
unfolding looks_by
looked c =
    let a = c.args in
    c.look_at-looked.ensures.slots ∙ sym (ap (looks_by a.seed a.text.now a.area.now) (key-is (goal.at.After-look_at-looked c).In-Some)) ∙ looks-by-key a.seed a.text.now a.area.now a.head

-- what is answered and what the slots become, by how the search ended
says : (c : After-look_at-looked) (s : Sought) → c.look_at-looked.result.sought ≡ s
    → let a = c.args in
    says_known s ≡ is_found a.seed a.text.now a.area.now a.head
says c s e =
    let a = c.args in
    ap says_known (sym e ∙ ended c) ∙ found-by-key a.seed a.text.now a.area.now a.head

after : (c : After-look_at-looked) (s : Sought) → c.look_at-looked.result.sought ≡ s
    → let a = c.args in
    after_looking a.room (value c.look_at-looked.result.print c.in-Some.key.place.at) a.area.now s
    ≡ after_entering a.seed a.room a.text.now a.area.now a.head
after c s e =
    let a = c.args in
    let k = (goal.at.After-look_at-looked c).In-Some in
    let key = c.in-Some.key in
    ap (λ m. after_looking a.room (value m key.place.at) a.area.now s) (print c ∙ ap (print_by a.seed a.text.now) (key-is k))
    ∙ ap (after_looking a.room (value (print_by a.seed a.text.now (Some key)) key.place.at) a.area.now) (sym e ∙ ended c ∙ ap (sought_by a.seed a.text.now a.area.now) (key-is k))
    ∙ MatchOption-at_some (a.area.now ≡ after_entering a.seed a.room a.text.now a.area.now a.head) (λ k. after_looking a.room (value (print_by a.seed a.text.now (Some k)) k.place.at) a.area.now (sought_by a.seed a.text.now a.area.now (Some k)) ≡ after_entering a.seed a.room a.text.now a.area.now a.head) key (key-is k) (entered-by-key a.seed a.text.now a.area.now a.room a.head)

pub look_at-looked-requires : goal.look_at-looked-requires
look_at-looked-requires c = record {
  text_len_bound = c.requires.text_len_bound;
  area_nonzero = c.requires.area_nonzero;
  len_in_bounds = MatchOption-at_some ⊤ (λ k. k.place.at + k.place.len ≤ length c.args.text.now) c.in-Some.key (key-is (goal.at.look_at-looked-requires c).In-Some) (key-inside (length c.args.text.now) c.args.head c.requires.key_in_text);
}

pub overflow_mul-area : goal.overflow_mul-area
overflow_mul-area c = omega (arith, few (goal.at.overflow_mul-area c).After-look_at-looked)

pub overflow_cast-area : goal.overflow_cast-area
overflow_cast-area c = omega (arith, small (goal.at.overflow_cast-area c).In-Some)

pub overflow_add-area : goal.overflow_add-area
overflow_add-area c =
    omega (arith, few (goal.at.overflow_add-area c).After-look_at-looked, small (goal.at.overflow_add-area c).In-Some)

pub offset_bounds-area-i : goal.offset_bounds-area-i
offset_bounds-area-i c = omega (arith, below (goal.at.offset_bounds-area-i c).In-Free)

pub bounds-area-i : goal.bounds-area-i
bounds-area-i c = below (goal.at.bounds-area-i c).In-Free

-- a head without a key
pub returns-in_default : goal.returns-in_default
unfolding sought_by looks_by says_known
returns-in_default c =
    let a = c.args in
    let e : key_of a.head ≡ None = sym c.key_of.ensures ∙ c.in_default.is in record {
      known = sym (ap (λ k. says_known (sought_by a.seed a.text.now a.area.now k)) e) ∙ found-by-key a.seed a.text.now a.area.now a.head;
      slots = sym (ap (looks_by a.seed a.text.now a.area.now) e) ∙ looks-by-key a.seed a.text.now a.area.now a.head;
      wrote = MatchOption-at_none (a.area.now ≡ after_entering a.seed a.room a.text.now a.area.now a.head) (λ k. after_looking a.room (value (print_by a.seed a.text.now (Some k)) k.place.at) a.area.now (sought_by a.seed a.text.now a.area.now (Some k)) ≡ after_entering a.seed a.room a.text.now a.area.now a.head) e (entered-by-key a.seed a.text.now a.area.now a.room a.head);
    }

pub returns-in-Known : goal.returns-in-Known
unfolding says_known after_looking
returns-in-Known c =
    let s = Known c.in-Known.field-0 in record {
      known = says (goal.at.returns-in-Known c).After-look_at-looked s c.in-Known.is;
      slots = looked (goal.at.returns-in-Known c).After-look_at-looked;
      wrote = after (goal.at.returns-in-Known c).After-look_at-looked s c.in-Known.is;
    }

pub returns-then-room : goal.returns-then-room
unfolding says_known after_looking value
returns-then-room c =
    let a = c.args in
    let j : ℕ = c.in-Free.i in
    let v : ℕ = c.look_at-looked.result.print * 16777216 + c.in-Some.key.place.at in record {
      known = says (goal.at.returns-then-room c).After-look_at-looked (Free j) c.in-Free.is;
      slots = looked (goal.at.returns-then-room c).After-look_at-looked;
      wrote = sym (ap (λ b. cond b (set a.area.now j v) a.area.now) c.if-room.true) ∙ after (goal.at.returns-then-room c).After-look_at-looked (Free j) c.in-Free.is;
    }

pub returns-else-room : goal.returns-else-room
unfolding says_known after_looking value
returns-else-room c =
    let a = c.args in
    let j : ℕ = c.in-Free.i in
    let v : ℕ = c.look_at-looked.result.print * 16777216 + c.in-Some.key.place.at in record {
      known = says (goal.at.returns-else-room c).After-look_at-looked (Free j) c.in-Free.is;
      slots = looked (goal.at.returns-else-room c).After-look_at-looked;
      wrote = sym (ap (λ b. cond b (set a.area.now j v) a.area.now) c.if-room.false) ∙ after (goal.at.returns-else-room c).After-look_at-looked (Free j) c.in-Free.is;
    }

pub returns-in-Full : goal.returns-in-Full
unfolding says_known after_looking
returns-in-Full c = record {
  known = says (goal.at.returns-in-Full c).After-look_at-looked Full c.in-Full.is;
  slots = looked (goal.at.returns-in-Full c).After-look_at-looked;
  wrote = after (goal.at.returns-in-Full c).After-look_at-looked Full c.in-Full.is;
}
