-- `accepted_line::sequence_of` meets its contract: SN is in the line, and LN spells the number.
use Prim.Native.Nat.{◌+◌, ◌-◌, ◌≤◌, ◌^◌}
use mathlib.Core.Path.{◌≡◌, sym, ap, ap₂, ◌∙◌}
use mathlib.Core.Bool.{false}
use native.Mathlib.Omega.{arith}
use lib.ListN.{length}
use Rattle.format.specs.Fields.{last_of}
use Rattle.format.specs.Records.{line}
use Rattle.format.specs.declared.Kind.TheVariants.{ReferenceSequence}
use Rattle.lists.proofs.Bools.{never}
use Rattle.record.specs.Head.{head_of}
use Rattle.record.specs.declared.Head.TheVariants as head
use Rattle.accepted_line.specs.Run.{fields_from}
use Rattle.accepted_line.specs.Next.{or_value, no_value}
use Rattle.accepted_line.specs.Found.{uncounted}
use Rattle.accepted_line.specs.Keys.{last_key, last_number, keys_from, keys_in}
use Rattle.accepted_line.proofs.Finds.{OfReference, Held, held, found-place, value-within, value-bytes, front-digits}
use Rattle.format.specs.Decimal.{worth}
use Rattle.std.specs.Prelude.{Result, Ok}
use Rattle.decimal.specs.Number.{number_of, number_at_front}
use Rattle.decimal.specs.declared.Number.{Number}
use Rattle.decimal.specs.declared.NumberError.{NumberError}
use Rattle.accepted_line.proofs.sequence_of.Goals as goal
use Rattle.accepted_line.proofs.sequence_of.Goals.{After-read_u64, Start}

number_is : (n m : Number) → ◌≡◌ {A = Result Number NumberError} (Ok n) (Ok m) → n.value ≡ m.value
number_is n m e = let i : n ≡ m = cc in ap (λ k. k.value) i

kept : (s : Start) → (let a = s.args in OfReference a.at a.src.now (uncounted (head_of (line false (record { at = a.at; bytes = a.src.now })))))
unfolding Held
kept s = (held false s.args.at s.args.src.now s.requires.line_of.accepted ReferenceSequence s.requires.line_of.kind).1

-- the values that were found
name : (s : Start) → (let a = s.args in a.keys.key ≡ or_value no_value (last_of 83 78 (fields_from a.at a.src.now 3)))
unfolding keys_in keys_from last_key
name s = ap (λ k. k.key) s.requires.keys_value

number : (s : Start) → (let a = s.args in a.keys.number ≡ or_value no_value (last_of 76 78 (fields_from a.at a.src.now 3)))
unfolding keys_in keys_from last_number
number s = ap (λ k. k.number) s.requires.keys_value

-- LN is in the line
within : (s : Start) → (let a = s.args in let v = s.args.keys.number in (a.at ≤ v.at) × (v.at - a.at + v.len ≤ length a.src.now))
within s = let a = s.args in value-within a.at a.src.now 76 78 (kept s).size (kept s).has-size a.keys.number (number s)

-- and spells the number
told : (c : After-read_u64) → (let z = (kept (goal.at.After-read_u64 c).Start).size.bytes in c.read_u64.result ≡ Ok (number_of (worth z) (length z)))
told c =
    let a = c.args in
    let k = kept (goal.at.After-read_u64 c).Start in
    c.read_u64.ensures.is
    ∙ ap (number_at_front (2 ^ 64)) (value-bytes a.at a.src.now 76 78 k.size k.has-size a.keys.number (number (goal.at.After-read_u64 c).Start))
    ∙ front-digits (2 ^ 64) k.size.bytes k.spells k.fits

pub overflow_sub-from : goal.overflow_sub-from
overflow_sub-from c = (within (goal.at.overflow_sub-from c).Start).0

pub overflow_add-from : goal.overflow_add-from
overflow_add-from c = omega (arith, within (goal.at.overflow_add-from c).Start, c.requires.line_of.short)

pub slice_bounds-read_u64-end : goal.slice_bounds-read_u64-end
slice_bounds-read_u64-end c = omega (arith, within (goal.at.slice_bounds-read_u64-end c).Start)

pub returns-in-Ok : goal.returns-in-Ok
returns-in-Ok c =
    let a = c.args in
    let k = kept (goal.at.returns-in-Ok c).Start in
    ap₂ (λ p n. head.ReferenceSequence p n 0) (found-place a.at a.src.now 83 78 k.name k.has-name a.keys.key (name (goal.at.returns-in-Ok c).Start))
    (sym (number_is (number_of (worth k.size.bytes) (length k.size.bytes)) c.in-Ok.n (sym (told (goal.at.returns-in-Ok c).After-read_u64) ∙ c.in-Ok.is)))
    ∙ sym k.is

pub returns-in-Err : goal.returns-in-Err
returns-in-Err c =
    absurd (never (let e = sym (told (goal.at.returns-in-Err c).After-read_u64) ∙ c.in-Err.is in cc))
