-- The first line of a text, given by its two lengths.
use Rattle.std.specs.Prelude.{ℕ, suc, List, length, take}
use Rattle.format.specs.Lines.{chomp}
use Rattle.byte_slices.specs.Upto.{upto}
use Rattle.byte_slices.specs.declared.Cut.{Cut}

-- without its ending, and with it; both are 0 if there is no text
unfoldable pub first_line : List ℕ → Cut
unfolding upto chomp
first_line s =
    let line : List ℕ = take (suc (upto 10 s)) s in
    record { len = length (chomp line); next = length line }
