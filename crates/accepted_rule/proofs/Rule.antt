-- What reading by a rule that gives a text's own reading says of its lines, and which rules do.
use Prim.Native.Nat.{ℕ}
use mathlib.Core.Path.{◌≡◌, refl, sym, ap, ◌∙◌}
use mathlib.Core.Bool.{Bool, true, false, false≢true}
use mathlib.Core.List.{List, []}
use Rattle.format.specs.Lines.{lines}
use Rattle.format.specs.Records.{Record, read, line}
use Rattle.format.specs.Reading.{accept, read_from, read_text}
use Rattle.accepted.specs.Admits.{strictly}
use Rattle.lists.specs.Pairs.{Pairs}
use Rattle.accepted.specs.Read.{is_accepted}
use Rattle.accepted.proofs.Admits.{Rest, read-rest, admits-read, admits-lines}
use Rattle.accepted.proofs.Text.{text-admits}
use Rattle.accepted_rule.specs.Rule.{ReadsBy, is_once}
use Rattle.accepted_rule.proofs.Lax.{from-lax}

-- each line of an accepted text is its record by such a rule
pub lines-by : (strict : Bool) (t : List ℕ) (rs : List Record) → read_text t ≡ accept rs → ReadsBy strict t → Pairs (λ p r. line strict p ≡ read r) (lines t) rs
unfolding ReadsBy
lines-by strict t rs e s =
    let x : Rest strict [] (lines t) rs = read-rest strict 0 [] (lines t) rs (s ∙ e) in
    admits-lines strict [] (lines t) rs (rw x.joined x.admits)

-- its own rule is one
own-rule : (t : List ℕ) (rs : List Record) → read_text t ≡ accept rs → ReadsBy (strictly t) t
unfolding ReadsBy
own-rule t rs e = admits-read (strictly t) 0 [] (lines t) rs (text-admits t rs e) ∙ sym e

-- so is the strict one where that accepts the lines, and otherwise the other
pub once-reads : (t : List ℕ) (rs : List Record) → read_text t ≡ accept rs → ReadsBy (is_once t) t
unfolding ReadsBy is_once is_accepted
once-reads t rs e = go (strictly t) (is_once t) (own-rule t rs e) refl
  where
    go : (s o : Bool) → read_from s 0 [] (lines t) ≡ read_text t → is_accepted (read_from true 0 [] (lines t)) ≡ o → read_from o 0 [] (lines t) ≡ read_text t
    go true true r a = r
    go false true r a = from-lax 0 [] (lines t) a ∙ r
    go false false r a = r
    go true false r a = absurd (false≢true (sym a ∙ ap is_accepted (r ∙ e)))
