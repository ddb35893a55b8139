-- The entries of a line, from the answer of reading it: the own entry from its head, and one entry per other field that a walk gives.
use Rattle.std.specs.Prelude.{ℕ, ◌+◌, ◌*◌, List, Option, Some, None}
use Rattle.format.specs.Catalogue.{tails}
use Rattle.format.specs.declared.Kind.{Kind}
use Rattle.format.specs.declared.Kind.TheVariants as kind
use Rattle.record.specs.declared.Stretch as record'
use Rattle.record.specs.declared.Head.{Head}
use Rattle.record.specs.declared.Head.TheVariants.{Refused, Header, ReferenceSequence, ReadGroup, Program, Comment}
use Rattle.record_tags.specs.Others.{firsts}
use Rattle.accepted_line.specs.Run.{fields_to, fields_from}
use Rattle.catalogue_entries.specs.declared.Place.{Place}
use Rattle.catalogue_entries.specs.declared.Entry.{Entry}
use Rattle.catalogue_entries.specs.declared.Entry.TheVariants as entry
use Rattle.catalogue_entries.specs.Entries.{kind_size, entry_size}
use Rattle.catalogue_lines.specs.declared.PlainLine.{PlainLine}

-- a place, in the numbers of an entry
abbrev pub entry_place : record'.Stretch → Place
entry_place p = record { at = p.at; len = p.len }

-- the own entry of a record on the line `k`; none for a refusal
unfoldable pub own_entry : ℕ → Head → Entry
own_entry k (Refused n) = entry.End
own_entry k (Header v n) = entry.Header v k
own_entry k (ReferenceSequence p l n) = entry.ReferenceSequence (entry_place p) l k
own_entry k (ReadGroup p n) = entry.ReadGroup (entry_place p) k
own_entry k (Program p n) = entry.Program (entry_place p) k
own_entry k (Comment p) = entry.Comment (entry_place p) k

-- the head of a line that may have been recognised whole: of another line it is `h`
unfoldable pub plain_head : Head → Option PlainLine → Head
plain_head h None = h
plain_head h (Some p) = ReferenceSequence (record { at = p.name.at; len = p.name.len }) p.length 0

-- how many other fields it has
unfoldable pub others_of : Head → ℕ
others_of (Refused n) = 0
others_of (Header v n) = n
others_of (ReferenceSequence p l n) = n
others_of (ReadGroup p n) = n
others_of (Program p n) = n
others_of (Comment p) = 0

-- how many bytes the entries of a record take, on any line: its own, and those of its other fields, which are of kind 6
unfoldable pub size_of_head : Head → ℕ
unfolding entry_size own_entry others_of kind_size
size_of_head h = entry_size (own_entry 0 h) + others_of h * kind_size 6

-- how long the own entry of a record of a kind is
abbrev pub own_size : Kind → ℕ
own_size kind.Header = 13
own_size kind.ReferenceSequence = 21
own_size kind.ReadGroup = 13
own_size kind.Program = 13
own_size kind.Comment = 13

-- the entries of the other fields from the place `pos` of a line on
unfoldable pub field_bytes : Kind → ℕ → List ℕ → ℕ → List ℕ
unfolding tails firsts
field_bytes k at line pos = tails (firsts k (fields_to at line pos) (fields_from at line pos))
