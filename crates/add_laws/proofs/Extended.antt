-- What adding writes reads back as the old records and the new programs.
use Prim.Native.Nat.{ℕ, ◌+◌}
use mathlib.Core.Path.{◌≡◌, refl, ap}
use mathlib.Core.Bool.{Bool, true, false, cond}
use mathlib.Core.List.{List, [], ◌∷◌, ◌++◌}
use mathlib.Core.Option.{none, some}
use Rattle.format.specs.Records.{Record, code}
use Rattle.format.specs.Programs.{programs}
use Rattle.format.specs.Tidy.{is_writable, unwritable}
use Rattle.format.specs.Adding.{given, added}
use Rattle.format.specs.Calls.{read_answer, records}
use Rattle.byte_slices.specs.Stands.{Each}
use Rattle.byte_slices.proofs.Stands.{each_map}
use Rattle.accepted.specs.Sound.{Sound}
use Rattle.accepted.specs.Admits.{Unbarred}
use Rattle.accepted.specs.Read.{records_of}
use Rattle.lists.proofs.Bools.{never}
use Rattle.tidy_laws.specs.Line.{Unbroken}
use Rattle.tidy_laws.specs.Writable.{Writable}
use Rattle.tidy_laws.proofs.Unbarred.{unbarred-append}
use Rattle.tidy_laws.proofs.Order.{each_append}
use Rattle.tidy_laws.proofs.Gathered.{text-gathered, gathered-writable}
use Rattle.tidy_laws.proofs.Faithful.{holds}
use Rattle.add_laws.specs.Extended.{extended, AllExtended}
use Rattle.add_laws.proofs.Passed.{Answered, answered}
use Rattle.add_laws.proofs.New.{New, all_new}
use Rattle.add_laws.proofs.Unbarred.{new-unbarred}

-- names that can be written, and records without such a name after them
names-append : (l : ℕ) (rs qs : List Record) → unwritable l rs ≡ none → Each (λ r. is_writable r ≡ true) qs → unwritable l (rs ++ qs) ≡ none
unfolding unwritable Each
names-append l [] [] h w = refl
names-append l [] (q ∷ qs) h w = rw w.0 (names-append (l + 1) [] qs refl w.1)
names-append l (r ∷ rs) qs h w = go (is_writable r) h (names-append (l + 1) rs qs)
  where
    go : (t : Bool) → cond t (unwritable (l + 1) rs) (some l) ≡ none → (unwritable (l + 1) rs ≡ none → Each (λ r. is_writable r ≡ true) qs → unwritable (l + 1) (rs ++ qs) ≡ none)
        → cond t (unwritable (l + 1) (rs ++ qs)) (some l) ≡ none
    go true e ih = ih e w
    go false e ih = absurd (never (cc))

module _ (text prefix fields out : List ℕ) (rs : List Record) (a : Answered text prefix fields out rs) where
  abbrev new : List Record
  new = added prefix (given fields).fields (programs rs)

  is-new : Each New new
  is-new = all_new prefix fields a.passes.formed text rs a.accepted

  behind : Unbarred rs new
  behind = new-unbarred rs new (each_map New (λ r. code r ≡ 4) (λ r n. n.kind) new is-new) a.passes.unused a.passes.few

  old : Writable rs
  old = gathered-writable text rs (text-gathered text rs a.accepted)

  writable : Writable (rs ++ new)
  writable =
      record {
        unbarred = unbarred-append [] rs new old.unbarred behind;
        sound = each_append Sound rs new old.sound (each_map New Sound (λ r n. n.sound) new is-new);
        unbroken = each_append Unbroken rs new old.unbroken (each_map New Unbroken (λ r n. n.unbroken) new is-new);
      }

  names : unwritable 0 (rs ++ new) ≡ none
  names = names-append 0 rs new a.names (each_map New (λ r. is_writable r ≡ true) (λ r n. n.writable) new is-new)

pub all-extended : AllExtended
unfolding AllExtended extended records read_answer
all-extended text c prefix fields room out e =
    let rs : List Record = records_of text in
    let a : Answered text prefix fields out rs = answered text c prefix fields room out e in
    record { accepted = ap read_answer a.accepted; written = a.written; holds = holds (extended text prefix fields) (writable text prefix fields out rs a) a.fits (names text prefix fields out rs a) }
