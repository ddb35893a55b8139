-- `catalogue_lines::plain_line` meets its contract: what was recognised whole is the head of the line.
use Prim.Native.Nat.{◌+◌, ◌≤◌}
use mathlib.Core.Path.{◌≡◌, refl, sym, ap, subst, ◌∙◌}
use mathlib.Core.Bool.{false}
use native.Mathlib.Omega.{arith}
use lib.ListN.{length, drop}
use Rattle.format.specs.Records.{fielded, line}
use Rattle.format.specs.declared.Kind.TheVariants as kind
use Rattle.record.specs.Head.{head_of}
use Rattle.record.specs.declared.Head.TheVariants.{ReferenceSequence}
use Rattle.record_parser.specs.Plain as parsed
use Rattle.accepted_line.proofs.Finds.{three}
use Rattle.catalogue_entries.specs.Entries.{FitsEntry}
use Rattle.catalogue_lines.specs.Parts.{own_entry, plain_head}
use Rattle.catalogue_lines.proofs.LineEntries.{own-fits}
use Rattle.catalogue_lines.proofs.Plain.{sequence-line}
use Rattle.catalogue_lines.proofs.plain_line.Goals as goal
use Rattle.catalogue_lines.proofs.plain_line.Goals.{In_ok-plain, Start}

-- an accepted line has three bytes
long : (s : Start) → 3 ≤ length s.args.src.now
long s = three false s.args.at s.args.src.now s.requires.src_value

-- what was recognised is the head of the line
told : (k : In_ok-plain)
    → (let a = k.args in
    ReferenceSequence (record { at = a.at + 7; len = k.in_ok-plain.plain.name_len }) k.in_ok-plain.plain.length 0 ≡ head_of (line false (record { at = a.at; bytes = a.src.now })))
unfolding parsed.plain_head
told k =
    let a = k.args in
    ap (parsed.plain_head a.at (head_of (fielded false kind.ReferenceSequence (a.at + 3) (drop 3 a.src.now)))) (sym k.in_ok-plain.was)
    ∙ k.parse_plain.ensures a.at false
    ∙ sym (ap head_of (sequence-line false a.at a.src.now k.if-src-ne83.false k.requires.src_value))

pub bounds-src-1 : goal.bounds-src-1
bounds-src-1 c = omega (arith, long (goal.at.bounds-src-1 c).Start)

pub returns-then-src-ne83 : goal.returns-then-src-ne83
unfolding plain_head
returns-then-src-ne83 c = refl

pub parse_plain-requires : goal.parse_plain-requires
parse_plain-requires c = long (goal.at.parse_plain-requires c).Start

pub returns-in_err-plain : goal.returns-in_err-plain
unfolding plain_head
returns-in_err-plain c = rw c.from_residual.ensures refl

pub narrow-name-requires : goal.narrow-name-requires
unfolding FitsEntry own_entry
narrow-name-requires c =
    (omega (arith, c.requires.src_bound), (subst (λ h. FitsEntry (own_entry 0 h)) (sym (told c)) (own-fits 0 c.args.at c.args.src.now c.requires.src_value (omega arith) c.requires.src_bound)).0.1)

pub returns : goal.returns
unfolding plain_head
returns c =
    ap (λ p. ReferenceSequence (record { at = p.at; len = p.len }) c.in_ok-plain.plain.length 0) c.narrow-name.ensures ∙ told (goal.at.returns c).In_ok-plain
