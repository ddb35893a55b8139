-- The tidy text of records that a text can hold: it reads back as the records in order, it is its own tidy text, and different headers have different ones.
use Prim.Native.Nat.{ℕ, ◌+◌, ◌≤◌}
use mathlib.Core.Path.{◌≡◌, refl, sym, ap, ◌∙◌}
use mathlib.Core.Bool.{Bool, true, false, cond}
use mathlib.Core.List.{List, [], ◌∷◌, map}
use mathlib.Core.Option.{none, some}
use lib.ListN.{length}
use Rattle.format.specs.Records.{Record, header, reference, group, program, comment}
use Rattle.format.specs.Reading.{accept, read_text}
use Rattle.format.specs.Tidy.{in_order, tidy, is_writable, unwritable}
use Rattle.byte_slices.specs.Stands.{Each}
use Rattle.accepted.specs.Sound.{Sound}
use Rattle.lists.proofs.Bools.{never}
use Rattle.tidy_laws.specs.Bare.{bare_bytes, bare, Equal}
use Rattle.tidy_laws.specs.Line.{Unbroken}
use Rattle.tidy_laws.specs.Writable.{Writable}
use Rattle.tidy_laws.proofs.Bare.{tidy-equal}
use Rattle.tidy_laws.proofs.Unbarred.{unbarred-order}
use Rattle.tidy_laws.proofs.Order.{each-order, order-equal, same-equal, equal-sym, equal-trans}
use Rattle.tidy_laws.proofs.Back.{Back, text-back}

module _ (rs : List Record) (w : Writable rs) (h : length (tidy rs) ≤ 16777216) where
  -- the tidy text is accepted
  pub tidy-back : Back (in_order rs) (read_text (tidy rs))
  unfolding tidy
  tidy-back =
      text-back (in_order rs) (unbarred-order rs w.unbarred) (each-order Sound rs w.sound) (each-order Unbroken rs w.unbroken) h

  -- it holds the same records
  pub back-equal : Equal tidy-back.found rs
  back-equal = equal-trans tidy-back.found (in_order rs) rs (same-equal tidy-back.found (in_order rs) tidy-back.same) (order-equal rs)

  -- its tidy text is itself
  pub tidy-again : tidy tidy-back.found ≡ tidy rs
  tidy-again = tidy-equal tidy-back.found rs back-equal

-- one reading has one answer
accept-one : (rs qs : List Record) → accept rs ≡ accept qs → rs ≡ qs
accept-one rs qs e = cc

-- headers with one tidy text are equal
pub tidy-tells : (rs qs : List Record) → Writable rs → Writable qs → length (tidy rs) ≤ 16777216 → tidy rs ≡ tidy qs → Equal rs qs
tidy-tells rs qs w v h q =
    let k : length (tidy qs) ≤ 16777216 = rw (← q) h in
    let b : Back (in_order rs) (read_text (tidy rs)) = tidy-back rs w h in
    let c : Back (in_order qs) (read_text (tidy qs)) = tidy-back qs v k in
    let one : b.found ≡ c.found = accept-one b.found c.found (sym b.reads ∙ ap read_text q ∙ c.reads) in
    equal-trans rs c.found qs (equal-sym c.found rs (rw one at (back-equal rs w h))) (back-equal qs v k)

-- ---- reference names

writable-bare : (r : Record) → is_writable (bare r) ≡ is_writable r
unfolding is_writable bare bare_bytes
writable-bare (header v fs) = refl
writable-bare (reference p n fs) = refl
writable-bare (group p fs) = refl
writable-bare (program p fs) = refl
writable-bare (comment p) = refl

unwritable-bare : (l : ℕ) (rs : List Record) → unwritable l (map bare rs) ≡ unwritable l rs
unfolding unwritable
unwritable-bare l [] = refl
unwritable-bare l (r ∷ rs) = rw (writable-bare r, unwritable-bare (l + 1) rs) refl

each-writable : (l : ℕ) (rs : List Record) → unwritable l rs ≡ none → Each (λ r. is_writable r ≡ true) rs
unfolding unwritable Each
each-writable l [] h = tt
each-writable l (r ∷ rs) h = go (is_writable r) refl (each-writable (l + 1) rs) h
  where
    go : (t : Bool) → is_writable r ≡ t → (unwritable (l + 1) rs ≡ none → Each (λ r. is_writable r ≡ true) rs)
        → cond t (unwritable (l + 1) rs) (some l) ≡ none → Each (λ r. is_writable r ≡ true) (r ∷ rs)
    go true e ih h = (e, ih h)
    go false e ih h = absurd (never (cc))

writable-each : (l : ℕ) (rs : List Record) → Each (λ r. is_writable r ≡ true) rs → unwritable l rs ≡ none
unfolding unwritable Each
writable-each l [] h = refl
writable-each l (r ∷ rs) h = rw h.0 (writable-each (l + 1) rs h.1)

-- names that can be written can be written again
pub names-again : (rs qs : List Record) → map bare qs ≡ map bare (in_order rs) → unwritable 0 rs ≡ none → unwritable 0 qs ≡ none
names-again rs qs e h =
    sym (unwritable-bare 0 qs) ∙ ap (unwritable 0) e ∙ unwritable-bare 0 (in_order rs) ∙ writable-each 0 (in_order rs) (each-order (λ r. is_writable r ≡ true) rs (each-writable 0 rs h))
