-- `tidy_line::once_size` meets its contract: a line that is ready gets one more byte, and of another the keys say how long its other fields are.
use Prim.Native.Nat.{◌+◌, ◌-◌, ◌≤◌}
use mathlib.Core.Path.{◌≡◌, refl, sym, ap, ◌∙◌}
use mathlib.Core.Bool.{true, false}
use mathlib.Core.List.{[], ◌∷◌}
use native.Mathlib.Omega.{arith}
use lib.ListN.{length, length-append}
use borrow.Author.Tests.{not-true, not-false}
use Rattle.format.specs.Records.{line}
use Rattle.format.specs.declared.Kind.{Kind}
use Rattle.format.specs.declared.Kind.TheVariants.{Header, ReferenceSequence, ReadGroup, Program, Comment}
use Rattle.lists.proofs.Bools.{never}
use Rattle.accepted_line.specs.Run.{fields_from}
use Rattle.accepted_line.proofs.fields.Start.{once-walkable}
use Rattle.accepted_line.specs.Keys.{keys_in}
use Rattle.accepted_line.specs.Found.{is_comment}
use Rattle.accepted_line.specs.declared.KeyValues.{KeyValues}
use Rattle.tidy_line.specs.Line.{line_writable, line_size}
use Rattle.tidy_fields.specs.Others.{others_text}
use Rattle.tidy_line.specs.Heads.{keys_length}
use Rattle.std.specs.Prelude.{Some}
use Rattle.tidy_line.proofs.Whole.{ready-text}
use Rattle.tidy_line.proofs.Once.{once-others}
use Rattle.tidy_line.proofs.once_size.Goals as goal
use Rattle.tidy_line.proofs.once_size.Goals.{After-find_keys-keys, After-keys_len, Else-not-is_writable, Start}

-- a key field takes four bytes or more
some-keys : (k : Kind) (ks : KeyValues) → is_comment k ≡ false → 4 ≤ keys_length k ks
some-keys Header ks n = omega arith
some-keys ReferenceSequence ks n = omega arith
some-keys ReadGroup ks n = omega arith
some-keys Program ks n = omega arith
some-keys Comment ks n = absurd (never (cc))

-- so the line has seven
seven : (s : Start) → 7 ≤ length s.args.src.now
seven s =
    let a = s.args in
    omega (
      arith,
      once-others a.at a.src.now s.requires.line_of.accepted a.kind s.requires.line_of.kind s.requires.kind_value s.requires.at_field,
      some-keys a.kind (keys_in a.kind (fields_from a.at a.src.now 3)) s.requires.kind_value,
    )

-- it can be written
writable : (c : Else-not-is_writable) → (let a = c.args in line_writable (line false (record { at = a.at; bytes = a.src.now })) ≡ true)
writable c = sym c.is_writable.ensures ∙ not-false c.is_writable.result c.if-not-is_writable.false-raw

-- the parts of the line
parts : (c : After-find_keys-keys)
    → (let a = c.args in 3 + keys_length a.kind c.find_keys-keys.result + length (others_text a.kind a.at a.src.now) ≡ length a.src.now)
parts c =
    let a = c.args in
    ap (λ k. 3 + keys_length a.kind k + length (others_text a.kind a.at a.src.now)) c.find_keys-keys.ensures
    ∙ once-others a.at a.src.now c.requires.line_of.accepted a.kind c.requires.line_of.kind c.requires.kind_value c.requires.at_field

-- and what is left of it
others : (c : After-keys_len)
    → (let a = c.args in
    (3 + c.keys_len.result ≤ length a.src.now) × (length a.src.now - 3 - c.keys_len.result ≡ length (others_text a.kind a.at a.src.now)))
others c = let p = parts (goal.at.After-keys_len c).After-find_keys-keys in (omega (arith, p, c.keys_len.ensures), omega (arith, p, c.keys_len.ensures))

pub is_ready-requires : goal.is_ready-requires
is_ready-requires c = seven (goal.at.is_ready-requires c).Start

pub returns-then-is_ready : goal.returns-then-is_ready
unfolding line_size
returns-then-is_ready c =
    let a = c.args in
    let w = ready-text a.at a.src.now c.requires.line_of.accepted c.requires.at_field a.kind c.requires.line_of.kind (sym c.is_ready.ensures ∙ c.if-is_ready.true) in
    rw w.1 (ap Some (omega (arith, ap length w.0, length-append a.src.now (10 ∷ []))))

pub is_writable-requires : goal.is_writable-requires
is_writable-requires c = record {
  line_of = c.requires.line_of;
  kind_value = c.requires.kind_value;
  walkable = once-walkable c.args.at c.args.src.now c.requires.at_field;
}

pub returns-then-not-is_writable : goal.returns-then-not-is_writable
unfolding line_size
returns-then-not-is_writable c = rw (sym c.is_writable.ensures ∙ not-true c.is_writable.result c.if-not-is_writable.true-raw) refl

pub find_keys-keys-requires : goal.find_keys-keys-requires
find_keys-keys-requires c = record {
  walkable = once-walkable c.args.at c.args.src.now c.requires.at_field;
  src_bound = omega (arith, c.requires.line_of.short);
}

pub overflow_sub-others : goal.overflow_sub-others
overflow_sub-others c = omega (arith, parts c)

pub keys_len-requires : goal.keys_len-requires
keys_len-requires c = omega (arith, parts c, c.requires.line_of.short)

pub overflow_sub-others-2 : goal.overflow_sub-others-2
overflow_sub-others-2 c = omega (arith, others c)

pub parts_len-requires : goal.parts_len-requires
parts_len-requires c = record {
  line_of = c.requires.line_of;
  kind_value = c.requires.kind_value;
  keys_value = c.find_keys-keys.ensures;
  others_value = (others c).1;
}

pub returns : goal.returns
unfolding line_size
returns c =
    rw (writable (goal.at.returns c).Else-not-is_writable) (ap Some c.parts_len.ensures)
