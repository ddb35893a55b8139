use mathlib.Core.List.{List}
use Rattle.format.specs.Programs.{Program}
use Rattle.program_places.specs.Gathered.{programs_in}
use Rattle.program_parents.specs.Placed.{PlacesOf}
use Rattle.program_parents.proofs.Numbers.{Found}
use Rattle.program_parents.proofs.find_parents.Given as goal

abbrev pub invariant-loop-i : goal.invariant-loop-i
invariant-loop-i l =
    (ps : List Program) → PlacesOf l.text ps (programs_in l.ats l.lens l.from l.widths l.count) → Found ps l.list l.dangling l.i
