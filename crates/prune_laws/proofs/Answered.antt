-- What a pruning that is answered has passed, and what it answers.
use Prim.Native.Nat.{ℕ, ◌≤◌}
use mathlib.Core.Path.{◌≡◌, refl, sym, ap, subst, ◌∙◌}
use mathlib.Core.Bool.{Bool, true, false, cond}
use mathlib.Core.List.{List}
use mathlib.Core.Option.{none}
use lib.ListN.{length}
use lib.Dec.{leb}
use Rattle.format.specs.Bytes.{any}
use Rattle.format.specs.Records.{Record}
use Rattle.format.specs.Reading.{accept, read_text}
use Rattle.format.specs.Programs.{programs, links, tangled}
use Rattle.format.specs.Tidy.{tidy, unwritable}
use Rattle.format.specs.Calls.{Answer, refused, yes, fresh, untangled, writing}
use Rattle.format.specs.Prune.{pruned, pruning}
use Rattle.accepted.specs.Read.{kept, records_of}
use Rattle.lists.proofs.Bools.{never}
use Rattle.tidy_laws.proofs.Answered.{then-yes, fresh-yes, untangled-yes, writing-yes}

high-yes : (b : Bool) (a : Answer (List ℕ)) (out : List ℕ) → cond b (refused 25 0) a ≡ yes out → (b ≡ false) × (a ≡ yes out)
high-yes true a out e = absurd (never (cc))
high-yes false a out e = (refl, e)

-- of a text with the records `rs`
pub record Answered (text us out : List ℕ) (rs : List Record) : Type 0 where
  pub accepted : read_text text ≡ accept rs
  pub low : any (leb (length (links (programs rs)))) us ≡ false
  pub whole : tangled (links (programs rs)) ≡ 0
  pub names : unwritable 0 rs ≡ none
  pub written : out ≡ tidy (pruned us rs)
  pub fits : length (tidy (pruned us rs)) ≤ 16777216

pub answered : (text c us : List ℕ) (room : ℕ) (out : List ℕ) → pruning text c us room ≡ yes out → Answered text us out (records_of text)
unfolding pruning records_of kept
answered text c us room out e =
    let a = then-yes (fresh text c) _ out e in
    let rs : List Record = a.value in
    let h = high-yes (any (leb (length (links (programs rs)))) us) _ out a.second in
    let b = then-yes (untangled rs (tangled (links (programs rs)))) _ out h.1 in
    let u = untangled-yes rs b.value (tangled (links (programs rs))) b.first in
    let w = writing-yes room (unwritable 0 b.value) (tidy (pruned us b.value)) out b.second in
    let is : read_text text ≡ accept b.value = fresh-yes text c rs a.first ∙ ap accept u.1 in
    let own : b.value ≡ kept (read_text text) = sym (ap kept is) in
    subst (Answered text us out) own (record {
      accepted = is;
      low = ap (λ rs. any (leb (length (links (programs rs)))) us) (sym u.1) ∙ h.0;
      whole = ap (λ rs. tangled (links (programs rs))) (sym u.1) ∙ u.0;
      names = w.0;
      written = w.2;
      fits = w.1;
    })
