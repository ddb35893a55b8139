-- Records that a text can hold: each may follow those before it, each has what its kind needs, and no comment holds an LF or a CR. The laws of the
-- tidy text need only this. The records of an accepted text, those that carrying on keeps, those of a header with programs added, and those of a
-- header with programs dropped are all such records.
use Rattle.std.specs.Prelude.{List, []}
use Rattle.format.specs.Records.{Record}
use Rattle.byte_slices.specs.Stands.{Each}
use Rattle.accepted.specs.Sound.{Sound}
use Rattle.accepted.specs.Admits.{Unbarred}
use Rattle.tidy_laws.specs.Line.{Unbroken}

pub record Writable (rs : List Record) : Type 0 where
  pub unbarred : Unbarred [] rs
  pub sound : Each Sound rs
  pub unbroken : Each Unbroken rs
