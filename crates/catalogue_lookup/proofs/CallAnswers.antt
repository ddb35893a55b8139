-- What is found in a catalogue is what the calls answer.
use Prim.Native.Nat.{ℕ}
use mathlib.Core.Path.{◌≡◌, refl, ap, ◌∙◌}
use mathlib.Core.List.{List}
use mathlib.Core.Option.{Option, none, some}
use lib.ListN.{get_elem?}
use Rattle.std.specs.Prelude as code
use Rattle.format.specs.Lines.{Piece}
use Rattle.format.specs.declared.LineNo.{LineNo}
use Rattle.format.specs.Reading.{of_kind}
use Rattle.format.specs.Calls.{there, key_if_there, length_if_there, lines_of, value_if_there}
use Rattle.catalogue_entries.specs.declared.Place.{Place}
use Rattle.catalogue_entries.specs.Entries.{piece_at, entries_in}
use Rattle.catalogue_lookup.specs.Lookup.{found_of, sized_of, located_of, key_in, length_in, line_in, field_in}
use Rattle.catalogue_lookup.specs.CallAnswers.{found_answer, sized_answer, located_answer, standing, KeyTold, LengthTold, LineTold, FieldTold}
use Rattle.catalogue_lookup.proofs.Answers.{text-key, text-ln, text-line, text-field}

found-there : (o : Option Piece) → found_answer (found_of o) ≡ standing (there o)
unfolding found_answer found_of standing there piece_at
found-there none = refl
found-there (some p) = refl

sized-there : (o : Option ℕ) → sized_answer (sized_of o) ≡ there o
unfolding sized_answer sized_of there
sized-there none = refl
sized-there (some n) = refl

located-there : (o : Option ℕ) → located_answer (located_of o) ≡ there o
unfolding located_answer located_of there
located-there none = refl
located-there (some l) = refl

module _ (c : List ℕ) where
  pub key-told : (k i : ℕ) (r : code.Option Place) → r ≡ key_in k i (entries_in c) → (r ≡ key_in k i (entries_in c)) × KeyTold c k i r
  key-told k i r e = (
    e,
    (λ rs h. ap found_answer (e ∙ ap (λ d. key_in k i (entries_in d)) h.is ∙ text-key h.text rs h.reads k i) ∙ found-there (key_if_there (get_elem? (of_kind k rs) i))),
  )

  pub length-told : (i : ℕ) (r : code.Option ℕ) → r ≡ length_in i (entries_in c) → (r ≡ length_in i (entries_in c)) × LengthTold c i r
  length-told i r e = (
    e,
    (λ rs h. ap sized_answer (e ∙ ap (λ d. length_in i (entries_in d)) h.is ∙ text-ln h.text rs h.reads i) ∙ sized-there (length_if_there (get_elem? (of_kind 2 rs) i))),
  )

  pub line-told : (k i : ℕ) (r : code.Option LineNo) → r ≡ line_in k i (entries_in c) → (r ≡ line_in k i (entries_in c)) × LineTold c k i r
  line-told k i r e = (
    e,
    (λ rs h. ap located_answer (e ∙ ap (λ d. line_in k i (entries_in d)) h.is ∙ text-line h.text rs h.reads k i) ∙ located-there (get_elem? (lines_of k 0 rs) i)),
  )

  pub field_told : (k i a b : ℕ) (r : code.Option Place) → r ≡ field_in k i a b (entries_in c) → (r ≡ field_in k i a b (entries_in c)) × FieldTold c k i a b r
  field_told k i a b r e = (
    e,
    (λ rs h. ap found_answer (e ∙ ap (λ d. field_in k i a b (entries_in d)) h.is ∙ text-field h.text rs h.reads k i a b) ∙ found-there (value_if_there a b (get_elem? (of_kind k rs) i))),
  )
