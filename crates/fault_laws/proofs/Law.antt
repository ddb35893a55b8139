-- A text has no faults exactly if reading, tidying and the leaves all accept.
use Prim.Native.Nat.{ℕ, zero, suc, ◌+◌, ◌≤◌}
use mathlib.Core.Path.{◌≡◌, refl, sym, ap, subst, ◌∙◌}
use mathlib.Core.Logic.{◌↔◌}
use mathlib.Core.Bool.{Bool, true, false, cond}
use mathlib.Core.List.{List, [], ◌∷◌}
use mathlib.Core.Option.{Option, none, some}
use native.Mathlib.Omega.{arith}
use lib.ListN.{length}
use lib.Dec.{ltb}
use borrow.Author.Tests.{le-ltb}
use Rattle.format.specs.Bytes.{same}
use Rattle.format.specs.Records.{Record, Line}
use Rattle.format.specs.Reading.{longest}
use Rattle.format.specs.Catalogue.{catalogue}
use Rattle.format.specs.Programs.{links, programs, leaves, hops, tangled}
use Rattle.format.specs.Tidy.{tidy, unwritable}
use Rattle.format.specs.Calls.{Answer, refused, yes, then, records, reading, fitting, writing, tidying, current, fresh, untangled, leafing}
use Rattle.byte_slices.proofs.Equal.{same_self}
use Rattle.lists.proofs.Bools.{never}
use Rattle.tidy_laws.proofs.Total.{gathered-length}
use Rattle.program_parents.proofs.Numbers.{links-count}
use Rattle.format.specs.Carrying.{kept_of, carried_lines, Skip, skips}
use Rattle.carry_laws.specs.Carried.{unless_skipped}
use Rattle.carry_laws.proofs.Skips.{reads}
use Rattle.carry_laws.proofs.Kept.{carried-gathered}
use Rattle.format.specs.Faults.{link_fault, faults_in}
use Rattle.fault_rules.specs.Law.{AllAccept, FaultsTell}
use Rattle.fault_laws.proofs.None.{Clear, clear, cleared, faults-untangled, untangled-faults}

-- what fits
fits : (room : ℕ) (xs : List ℕ) → length xs ≤ room → fitting room xs ≡ yes xs
unfolding fitting
fits room xs h = rw (le-ltb room (length xs) h) refl

module _ (t : List ℕ) (small : length t ≤ 16777215) where
  abbrev rs : List Record
  rs = kept_of (carried_lines t)

  fits-text : length t ≤ 16777216
  fits-text = omega arith

  -- ---- no faults

  module _ (e : faults_in (carried_lines t) ≡ []) where
    unfolded : Clear (links (programs rs)) 0 0 (carried_lines t)
    unfolding faults_in
    unfolded = clear (links (programs rs)) 0 0 (carried_lines t) e

    read_all : records t ≡ yes rs
    unfolding unless_skipped
    read_all = reads t fits-text ∙ ap (λ ss. unless_skipped ss rs) unfolded.unskipped

    clear-links : tangled (links (programs rs)) ≡ 0
    clear-links = faults-untangled (links (programs rs)) (λ j h. ap (link_fault (links (programs rs))) (let z : j ≡ 0 + j = omega arith in z) ∙ unfolded.linked j (omega (arith, links-count (programs rs))))

    pub accepted : AllAccept t
    unfolding then reading tidying writing longest leafing fresh current untangled
    accepted =
        let n : ℕ = length (catalogue rs) + (length (tidy rs) + length (leaves (links (programs rs)))) in
        record {
          room = n;
          kept = catalogue rs;
          reads = rw read_all (fits n (catalogue rs) (omega arith));
          tidied = tidy rs;
          tidies = rw (read_all, unfolded.names, le-ltb 16777216 (length (tidy rs)) (omega (arith, gathered-length t rs (carried-gathered t)))) (fits n (tidy rs) (omega arith));
          found = (leaves (links (programs rs)), hops (links (programs rs)));
          leaves = rw (read_all, same_self (catalogue rs), clear-links, fits n (leaves (links (programs rs))) (omega arith)) refl;
        }

  -- ---- all accept

  unskipped : (ss : List Skip) (qs : List Record) → unless_skipped ss rs ≡ yes qs → (ss ≡ []) × (rs ≡ qs)
  unfolding unless_skipped
  unskipped [] qs e = (refl, cc)
  unskipped (s ∷ ss) qs e = absurd (never cc)

  -- an answer that is not a refusal comes from one
  then-yes : {A B : Type 0} (x : Answer A) (f : A → Answer B) (b : B) → then x f ≡ yes b → ({C : Type 0} → ((a : A) → x ≡ yes a → f a ≡ yes b → C) → C)
  unfolding then
  then-yes (refused n l) f b e g = absurd (never cc)
  then-yes (yes a) f b e g = g a refl e

  names-none : (room : ℕ) (o : Option ℕ) (xs ys : List ℕ) → writing room o xs ≡ yes ys → o ≡ none
  unfolding writing
  names-none room none xs ys e = refl
  names-none room (some l) xs ys e = absurd (never cc)

  untangled-none : (qs ps : List Record) (n : ℕ) → untangled qs n ≡ yes ps → n ≡ 0
  unfolding untangled
  untangled-none qs ps zero e = refl
  untangled-none qs ps (suc n) e = absurd (never cc)

  current-is : (c : List ℕ) (qs ps : List Record) → current c qs ≡ yes ps → qs ≡ ps
  unfolding current
  current-is c qs ps e = go (same c (catalogue qs)) e
    where
      go : (b : Bool) → cond {A = Answer (List Record)} b (yes qs) (refused 21 0) ≡ yes ps → qs ≡ ps
      go true e = cc
      go false e = absurd (never cc)

  module _ (a : AllAccept t) where
    no-skips : skips 0 (carried_lines t) ≡ []
    unfolding reading
    no-skips = then-yes (records t) _ _ a.reads (λ qs e f. (unskipped (skips 0 (carried_lines t)) qs (sym (reads t fits-text) ∙ e)).0)

    all_read_lem : records t ≡ yes rs
    unfolding unless_skipped
    all_read_lem = reads t fits-text ∙ ap (λ ss. unless_skipped ss rs) no-skips

    all-names : unwritable 0 rs ≡ none
    unfolding tidying then
    all-names = names-none a.room (unwritable 0 rs) (tidy rs) a.tidied (rw all_read_lem at a.tidies)

    all-linked : tangled (links (programs rs)) ≡ 0
    unfolding leafing fresh then
    all-linked =
        let e = rw all_read_lem at a.leaves in
        then-yes (current a.kept rs) _ _ e (λ qs p f. let z : rs ≡ qs = current-is a.kept rs qs p in
        then-yes (untangled qs (tangled (links (programs qs)))) _ _ f (λ ps q g. rw z (untangled-none qs ps (tangled (links (programs qs))) q)))

    pub no-faults : faults_in (carried_lines t) ≡ []
    unfolding faults_in
    no-faults = cleared (links (programs rs)) 0 0 (carried_lines t) no-skips all-names (untangled-faults (links (programs rs)) all-linked)

  none-exactly : (faults_in (carried_lines t) ≡ []) ↔ AllAccept t
  none-exactly = (accepted, no-faults)

pub faults-tell : FaultsTell
faults-tell = record { none = none-exactly }
