-- What is found in the catalogue of an accepted text is what the calls answer: 25 if there is nothing.
use Rattle.std.specs.Prelude.{ℕ, ◌≡◌, List, Option, None, Some}
use Rattle.std.proofs.Math.ListN.{get_elem?}
use Rattle.format.specs.Lines.{Piece}
use Rattle.format.specs.declared.LineNo.{LineNo}
use Rattle.format.specs.Records.{Record}
use Rattle.format.specs.Reading.{read_text, accept, of_kind}
use Rattle.format.specs.Catalogue.{catalogue}
use Rattle.format.specs.Calls.{Answer, refused, yes, there, key_if_there, length_if_there, lines_of, value_if_there}
use Rattle.catalogue_entries.specs.declared.Place.{Place}
use Rattle.catalogue_entries.specs.Entries.{piece_at}

-- ---- what each case means

unfoldable pub found_answer : Option Place → Answer Place
found_answer None = refused 25 0
found_answer (Some p) = yes p

unfoldable pub sized_answer : Option ℕ → Answer ℕ
sized_answer None = refused 25 0
sized_answer (Some n) = yes n

unfoldable pub located_answer : Option LineNo → Answer ℕ
located_answer None = refused 25 0
located_answer (Some l) = yes l.0

-- ---- what the calls answer

-- where the piece in an answer is
unfoldable pub standing : Answer Piece → Answer Place
unfolding piece_at
standing (refused n l) = refused n l
standing (yes p) = yes (piece_at p)

-- `c` is the catalogue of a text that reads as `rs`
pub record CatalogueOf (rs : List Record) (c : List ℕ) : Type 0 where
  pub text : List ℕ
  pub reads : read_text text ≡ accept rs
  pub is : c ≡ catalogue rs

abbrev pub KeyTold : List ℕ → ℕ → ℕ → Option Place → Type 0
KeyTold c k i r = (rs : List Record) → CatalogueOf rs c → found_answer r ≡ standing (there (key_if_there (get_elem? (of_kind k rs) i)))

abbrev pub LengthTold : List ℕ → ℕ → Option ℕ → Type 0
LengthTold c i r = (rs : List Record) → CatalogueOf rs c → sized_answer r ≡ there (length_if_there (get_elem? (of_kind 2 rs) i))

abbrev pub LineTold : List ℕ → ℕ → ℕ → Option LineNo → Type 0
LineTold c k i r = (rs : List Record) → CatalogueOf rs c → located_answer r ≡ there (get_elem? (lines_of k 0 rs) i)

abbrev pub FieldTold : List ℕ → ℕ → ℕ → ℕ → ℕ → Option Place → Type 0
FieldTold c k i a b r = (rs : List Record) → CatalogueOf rs c → found_answer r ≡ standing (there (value_if_there a b (get_elem? (of_kind k rs) i)))
