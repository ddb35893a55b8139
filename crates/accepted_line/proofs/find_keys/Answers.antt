-- `accepted_line::find_keys` meets its contract: one search for each key of the kind.
use mathlib.Core.Path.{◌≡◌, refl, sym, ap, ap₂, ◌∙◌}
use mathlib.Core.Bool.{true}
use mathlib.Core.Logic.{⊎_elim}
use Rattle.format.specs.declared.Kind.{Kind}
use Rattle.format.specs.Bytes.{between, letter, digit}
use Rattle.format.specs.Fields.{is_tag}
use Rattle.accepted_line.specs.Run.{fields_from}
use Rattle.accepted_line.specs.Next.{no_value, or_value, last_in}
use Rattle.accepted_line.specs.Keys.{last_key, last_number, keys_from, keys_in}
use Rattle.accepted_line.proofs.find_keys.Goals as goal

-- the tags of keys
vn : is_tag 86 78 ≡ true
unfolding is_tag letter digit between
vn = refl

sn : is_tag 83 78 ≡ true
unfolding is_tag letter digit between
sn = refl

ln : is_tag 76 78 ≡ true
unfolding is_tag letter digit between
ln = refl

id : is_tag 73 68 ≡ true
unfolding is_tag letter digit between
id = refl

pub find_value-requires : goal.find_value-requires
find_value-requires c = record {
  walkable = c.requires.walkable;
  b_value = vn;
  line_bound = c.requires.src_bound;
}

pub find_value-requires-in-ReferenceSequence : goal.find_value-requires-in-ReferenceSequence
find_value-requires-in-ReferenceSequence c = record {
  walkable = c.requires.walkable;
  b_value = sn;
  line_bound = c.requires.src_bound;
}

pub find_value-requires-in-ReferenceSequence-2 : goal.find_value-requires-in-ReferenceSequence-2
find_value-requires-in-ReferenceSequence-2 c = record {
  walkable = c.requires.walkable;
  b_value = ln;
  line_bound = c.requires.src_bound;
}

pub find_value-requires-in-ReadGroup : goal.find_value-requires-in-ReadGroup
find_value-requires-in-ReadGroup c = record {
  walkable = c.requires.walkable;
  b_value = id;
  line_bound = c.requires.src_bound;
}

pub returns-in-Header : goal.returns-in-Header
unfolding keys_in keys_from last_key last_number last_in or_value
returns-in-Header c =
    let a = c.args in
    ap (λ v. record { key = v; number = no_value }) c.find_value.ensures ∙ sym (ap (λ k. keys_in k (fields_from a.at a.src.now 3)) c.in-Header.is)

pub returns-in-ReferenceSequence : goal.returns-in-ReferenceSequence
unfolding keys_in keys_from last_key last_number last_in
returns-in-ReferenceSequence c =
    let a = c.args in
    ap₂ (λ v w. record { key = v; number = w }) c.find_value-in-ReferenceSequence.ensures c.find_value-in-ReferenceSequence-2.ensures ∙ sym (ap (λ k. keys_in k (fields_from a.at a.src.now 3)) c.in-ReferenceSequence.is)

pub returns-in-ReadGroup : goal.returns-in-ReadGroup
unfolding keys_in keys_from last_key last_number last_in or_value
returns-in-ReadGroup c =
    let a = c.args in
    let among = λ (k : Kind). keys_in k (fields_from a.at a.src.now 3) in
    ap (λ v. record { key = v; number = no_value }) c.find_value-in-ReadGroup.ensures
    ∙ ⊎_elim (λ e. sym (ap among e)) (λ e. sym (ap among e)) c.in-ReadGroup.is

pub returns-in-Comment : goal.returns-in-Comment
unfolding keys_in keys_from last_key last_number or_value
returns-in-Comment c =
    let a = c.args in
    c.new.ensures ∙ sym (ap (λ k. keys_in k (fields_from a.at a.src.now 3)) c.in-Comment.is)
