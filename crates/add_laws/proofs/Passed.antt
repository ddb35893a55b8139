-- What an add that is answered has passed, and what it answers.
use Prim.Native.Nat.{ℕ, zero, suc, ◌+◌, ◌≤◌}
use mathlib.Core.Path.{◌≡◌, refl, sym, ap, ◌∙◌}
use mathlib.Core.Bool.{Bool, true, false, ◌||◌, cond, false≢true}
use mathlib.Core.List.{List, ◌++◌}
use mathlib.Core.Option.{Option, none, some}
use native.Mathlib.Omega.{arith}
use lib.ListN.{length}
use lib.Dec.{eqb, ltb}
use borrow.Author.Tests.{ltb-false}
use Rattle.format.specs.Bytes.{any, same}
use Rattle.format.specs.Fields.{Scan, last_of}
use Rattle.format.specs.Records.{Record}
use Rattle.format.specs.Reading.{accept, read_text}
use Rattle.format.specs.Programs.{Program, programs, link, links, is_dangling, loops_from, tangled}
use Rattle.format.specs.Tidy.{tidy, unwritable}
use Rattle.format.specs.Adding.{given, misformed, added, used, unaddable}
use Rattle.format.specs.Calls.{yes, fresh, untangled, adding}
use Rattle.accepted.specs.Read.{kept, records_of}
use Rattle.lists.proofs.Bools.{or_right, split}
use Rattle.tidy_laws.proofs.Answered.{then-yes, fresh-yes, untangled-yes, writing-yes}
use Rattle.add_input.proofs.InForm.{InForm, in-form}

-- ---- none of the reasons for adding nothing holds

pub record Passed (rs : List Record) (prefix : List ℕ) (s : Scan) : Type 0 where
  pub formed : InForm prefix s
  pub linked : any is_dangling (links (programs rs)) ≡ false
  pub acyclic : loops_from (links (programs rs)) 0 (links (programs rs)) ≡ false
  pub unused : used (programs rs) (programs (added prefix s.fields (programs rs))) ≡ false
  pub few : length (programs rs) + length (added prefix s.fields (programs rs)) ≤ 1024

-- a refusal that is not one
clear : (t : Bool) (n m : ℕ) → cond t (suc n) m ≡ 0 → (t ≡ false) × (m ≡ 0)
clear true n m e = absurd (omega arith)
clear false n m e = (refl, e)

pub passed : (rs : List Record) (prefix : List ℕ) (s : Scan) → unaddable rs prefix s ≡ 0 → Passed rs prefix s
unfolding unaddable tangled any
passed rs prefix s e =
    let ps : List Program = programs rs in
    let new : List Record = added prefix s.fields ps in
    let dangles : Bool = any is_dangling (links ps) in
    let loops : Bool = loops_from (links ps) 0 (links ps) in
    let a = clear (misformed prefix s) 25 _ e in
    let b = clear (is_dangling (link ps (last_of 80 80 s.fields)) || dangles) 21 _ a.1 in
    let c = clear (eqb (cond dangles 22 (cond loops 23 0)) 23) 22 _ b.1 in
    let d = clear (used ps (programs new)) 17 _ c.1 in
    let f = clear (ltb 1024 (length ps + length new)) 18 0 d.1 in
    let linked : dangles ≡ false = or_right (is_dangling (link ps (last_of 80 80 s.fields))) dangles b.0 in
    record {
      formed = in-form prefix s a.0;
      linked = linked;
      acyclic = split loops (λ t. absurd (false≢true (sym (rw (linked, t) at c.0)))) (λ t. t);
      unused = d.0;
      few = ltb-false 1024 (length ps + length new) f.0;
    }

-- ---- what is answered

-- of a text with the records `rs`
pub record Answered (text prefix fields out : List ℕ) (rs : List Record) : Type 0 where
  pub accepted : read_text text ≡ accept rs
  pub passes : Passed rs prefix (given fields)
  pub names : unwritable 0 rs ≡ none
  pub written : out ≡ tidy (rs ++ added prefix (given fields).fields (programs rs))
  pub fits : length (tidy (rs ++ added prefix (given fields).fields (programs rs))) ≤ 16777216

pub answered : (text c prefix fields : List ℕ) (room : ℕ) (out : List ℕ) → adding text c prefix fields room ≡ yes out → Answered text prefix fields out (records_of text)
unfolding adding records_of kept
answered text c prefix fields room out e =
    let f = then-yes (fresh text c) _ out e in
    let u = then-yes (untangled f.value (unaddable f.value prefix (given fields))) _ out f.second in
    let rs : List Record = u.value in
    let clean = untangled-yes f.value rs (unaddable f.value prefix (given fields)) u.first in
    let w = writing-yes room (unwritable 0 rs) (tidy (rs ++ added prefix (given fields).fields (programs rs))) out u.second in
    let is : read_text text ≡ accept rs = fresh-yes text c f.value f.first ∙ ap accept clean.1 in
    let own : rs ≡ kept (read_text text) = sym (ap kept is) in
    rw (← own) (record { accepted = is; passes = passed rs prefix (given fields) (ap (λ rs. unaddable rs prefix (given fields)) (sym clean.1) ∙ clean.0); names = w.0; written = w.2; fits = w.1 })
