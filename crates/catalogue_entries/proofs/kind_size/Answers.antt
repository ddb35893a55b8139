-- `catalogue_entries::kind_size` meets its contract: one arm for each kind.
use mathlib.Core.Path.{sym, ap}
use Rattle.catalogue_entries.specs.Entries.{kind_size}
use Rattle.catalogue_entries.proofs.Walk.{no_kind}
use Rattle.catalogue_entries.proofs.kind_size.Goals as goal

pub returns-in-1 : goal.returns-in-1
unfolding kind_size
returns-in-1 c = sym (ap kind_size c.in-1.is)

pub returns-in-2 : goal.returns-in-2
unfolding kind_size
returns-in-2 c = sym (ap kind_size c.in-2.is)

pub returns-in-3 : goal.returns-in-3
unfolding kind_size
returns-in-3 c = sym (ap kind_size c.in-3.is)

pub returns-in-4 : goal.returns-in-4
unfolding kind_size
returns-in-4 c = sym (ap kind_size c.in-4.is)

pub returns-in-5 : goal.returns-in-5
unfolding kind_size
returns-in-5 c = sym (ap kind_size c.in-5.is)

pub returns-in-6 : goal.returns-in-6
unfolding kind_size
returns-in-6 c = sym (ap kind_size c.in-6.is)

pub returns-in_default : goal.returns-in_default
returns-in_default c = let r = c.in_default.in_default-own.rest in sym (no_kind _ r.0.0.0.0.0.1 r.0.0.0.0.1 r.0.0.0.1 r.0.0.1 r.0.1 r.1)
