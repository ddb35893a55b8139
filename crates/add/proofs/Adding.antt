-- What adding answers over a catalogue that is the text's own, refusal by refusal.
use Prim.Native.Nat.{ℕ, zero, suc}
use mathlib.Core.Path.{◌≡◌, refl, sym, ap, ◌∙◌}
use mathlib.Core.Bool.{Bool, true, false, not}
use mathlib.Core.List.{List, ◌++◌}
use mathlib.Core.Option.{Option, none, some}
use Rattle.format.specs.Bytes.{any}
use Rattle.format.specs.Lines.{Piece}
use Rattle.format.specs.Fields.{Field, last_of}
use Rattle.format.specs.Records.{Record}
use Rattle.format.specs.Programs.{Program, programs, link, links, found, is_dangling, ordinal_from, loops_from, tangled}
use Rattle.format.specs.Tidy.{tidy, unwritable}
use Rattle.format.specs.Adding.{given, misformed, is_known, added, unaddable}
use Rattle.format.specs.Calls.{refused, then, fresh, untangled, writing, adding}
use Rattle.accepted.specs.Read.{records_of}
use Rattle.program_ids.specs.Search.{ids_of}
use Rattle.program_ids.proofs.Search.{ordinal-ids}
use Rattle.program_parents.proofs.Road.{none-dangles}
use Rattle.read.proofs.Fresh.{Current, goes_on, stops}
use Rattle.add_ids.specs.Taken.{is_among}
use Rattle.add.specs.Added.{stray, crowded, adding_on}

-- a refusal of the check
pub add-refused : (t c prefix fields : List ℕ) (room n l : ℕ) → fresh t c ≡ refused n l → adding t c prefix fields room ≡ refused n l
unfolding adding
add-refused t c prefix fields room n l e =
    stops t c (λ rs. then (untangled rs (unaddable rs prefix (given fields))) (λ rs. writing room (unwritable 0 rs) (tidy (rs ++ added prefix (given fields).fields (programs rs))))) n l e

found-known : (o : Option ℕ) → is_dangling (found o) ≡ not (is_known o)
unfolding is_dangling found is_known
found-known none = refl
found-known (some k) = refl

-- the given PP dangles exactly if it is a stray
pub stray-is : (ps : List Program) (o : Option Piece) → stray (ids_of ps) o ≡ is_dangling (link ps o)
unfolding stray link is_dangling
stray-is ps none = refl
stray-is ps (some p) = go
  where
    go : not (is_among p.bytes (ids_of ps)) ≡ is_dangling (found (ordinal_from 0 p.bytes ps))
    go = unfold is_among in (ap (λ o. not (is_known o)) (ordinal-ids p.bytes 0 ps) ∙ sym (found-known (ordinal_from 0 p.bytes ps)))

module _ (t c : List ℕ) (k : Current t c) where
  abbrev rs : List Record
  rs = records_of t

  abbrev ps : List Program
  ps = programs (records_of t)

  module _ (prefix fields : List ℕ) (room : ℕ) where
    abbrev fs : List Field
    fs = (given fields).fields

    abbrev prior : Option Piece
    prior = last_of 80 80 fs

    adding-is : (n : ℕ) → unaddable rs prefix (given fields) ≡ n
        → adding t c prefix fields room ≡ then (untangled rs n) (λ rs. writing room (unwritable 0 rs) (tidy (rs ++ added prefix fs (programs rs))))
    unfolding adding
    adding-is n e =
        goes_on t c (λ rs. then (untangled rs (unaddable rs prefix (given fields))) (λ rs. writing room (unwritable 0 rs) (tidy (rs ++ added prefix fs (programs rs))))) k
        ∙ ap (λ n. then (untangled rs n) (λ rs. writing room (unwritable 0 rs) (tidy (rs ++ added prefix fs (programs rs))))) e

    pub add-misformed : misformed prefix (given fields) ≡ true → adding t c prefix fields room ≡ refused 26 0
    unfolding unaddable then untangled
    add-misformed e = adding-is 26 (rw e refl)

    module _ (formed : misformed prefix (given fields) ≡ false) where
      pub add-stray : stray (ids_of ps) prior ≡ true → adding t c prefix fields room ≡ refused 22 0
      unfolding unaddable then untangled any
      add-stray e = adding-is 22 (rw (formed, sym (stray-is ps prior) ∙ e) refl)

      module _ (known-prior : stray (ids_of ps) prior ≡ false) where
        tangled-first : (a b : Bool) → any is_dangling (links ps) ≡ a → loops_from (links ps) 0 (links ps) ≡ b → (tangled (links ps) ≡ 0 → ⊥) → unaddable rs prefix (given fields) ≡ tangled (links ps)
        unfolding unaddable any tangled
        tangled-first true b q r z = rw (formed, sym (stray-is ps prior) ∙ known-prior, q) refl
        tangled-first false true q r z = rw (formed, sym (stray-is ps prior) ∙ known-prior, q, r) refl
        tangled-first false false q r z = absurd (z (rw (q, r) refl))

        -- 22 or 23
        pub add-tangled : (n : ℕ) → n ≡ tangled (links ps) → (n ≡ 0 → ⊥) → adding t c prefix fields room ≡ refused n 0
        unfolding then untangled
        add-tangled zero e z = absurd (z refl)
        add-tangled (suc n) e z = adding-is (suc n) (tangled-first (any is_dangling (links ps)) (loops_from (links ps) 0 (links ps)) refl refl (λ q. z (e ∙ q)) ∙ sym e)

        pub add-on : tangled (links ps) ≡ 0 → adding t c prefix fields room ≡ adding_on rs prefix fs room
        unfolding adding_on
        add-on z = adding-is (crowded ps (added prefix fs ps)) go
          where
            go : unaddable rs prefix (given fields) ≡ crowded ps (added prefix fs ps)
            go = unfold unaddable any crowded in (rw (formed, sym (stray-is ps prior) ∙ known-prior, z, none-dangles (links ps) z) refl)
