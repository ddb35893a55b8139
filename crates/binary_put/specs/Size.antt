-- How many references a list has, and how many bytes they take.
use Rattle.std.specs.Prelude.{List, length}
use Rattle.format.specs.References.{Reference}
use Rattle.format.specs.Binary.{list_bytes}
use Rattle.binary_put.specs.declared.ListSize.{ListSize}

unfoldable pub list_size : List Reference → ListSize
unfolding list_bytes
list_size list = record { count = length list; bytes = length (list_bytes list) }
