-- `program_parents::find_parent` meets its contract: no PP, or the program that has it as ID.
use Prim.Native.Nat.{ℕ, ◌+◌, ◌-◌}
use mathlib.Core.Path.{◌≡◌, refl, sym, ap, ◌∙◌}
use mathlib.Core.List.{List}
use mathlib.Core.Option as maybe
use mathlib.Core.Option.{none, some}
use Rattle.std.specs.Prelude.{Option, Some, None}
use native.Mathlib.Omega.{arith}
use lib.ListN.{take, drop}
use borrow.Author.Tests.{eq-eqb, ne_eqb}
use Rattle.program_chains.specs.Parents.{nobody}
use Rattle.catalogue_entries.specs.declared.Place.{Place}
use Rattle.format.specs.declared.ProgramNo.{ProgramNo}
use Rattle.program_ids.specs.Places.{bytes_at}
use Rattle.program_ids.specs.Ids.{ids_at}
use Rattle.program_ids.specs.Search.{id_ordinal_from, named_of}
use Rattle.program_parents.specs.Parents.{stranger, or_stranger, parent_of}
use Rattle.program_parents.proofs.find_parent.Goals as goal
use Rattle.program_parents.proofs.find_parent.Goals.{After-find_program}

-- a program that is found, as a parent's number
number : Option ProgramNo → ℕ
number None = stranger
number (Some k) = k.0

number-named : (o : maybe.Option ℕ) → number (named_of o) ≡ or_stranger o
unfolding number named_of or_stranger
number-named none = refl
number-named (some k) = refl

-- the bytes that are lent are those at the place
parent-found : (t : List ℕ) (ids : List (List ℕ)) (p : Place) (n : Option ProgramNo) → (p.at ≡ 4294967295 → ⊥)
    → n ≡ named_of (id_ordinal_from (take (p.at + p.len - p.at) (drop p.at t)) 0 ids) → parent_of t ids p ≡ number n
unfolding parent_of bytes_at
parent-found t ids p n h e =
    let z : p.at + p.len - p.at ≡ p.len = omega arith in
    rw (ne_eqb p.at 4294967295 h) (sym (number-named (id_ordinal_from (bytes_at t p) 0 ids)) ∙ ap (λ m. number (named_of (id_ordinal_from (take m (drop p.at t)) 0 ids))) (sym z) ∙ ap number (sym e))

answered : (c : After-find_program) (n : Option ProgramNo) → c.find_program.result ≡ n
    → let a = c.args in
    parent_of a.text.now (ids_at a.text.now a.ids.now) a.previous ≡ number n
answered c n e =
    let a = c.args in
    parent-found a.text.now (ids_at a.text.now a.ids.now) a.previous n c.if-previous-eq-NOWHERE.false (sym e ∙ c.find_program.ensures)

pub returns-then-previous-eq-NOWHERE : goal.returns-then-previous-eq-NOWHERE
unfolding parent_of nobody
returns-then-previous-eq-NOWHERE c = rw (eq-eqb _ _ c.if-previous-eq-NOWHERE.true) refl

pub slice_bounds-find_program-end : goal.slice_bounds-find_program-end
slice_bounds-find_program-end c = omega (arith, c.requires.somewhere c.if-previous-eq-NOWHERE.false)

pub returns-in-None : goal.returns-in-None
unfolding number stranger
returns-in-None c = sym (answered (goal.at.returns-in-None c).After-find_program None c.in-None.is)

pub returns-in-Some : goal.returns-in-Some
unfolding number
returns-in-Some c = sym (answered (goal.at.returns-in-Some c).After-find_program (Some c.in-Some.k) c.in-Some.is)
