-- A catalogue is fresh exactly when reading this text gives it.
use Prim.Native.Nat.{ℕ}
use mathlib.Core.Path.{◌≡◌, refl, sym, ap, subst, ◌∙◌}
use mathlib.Core.Bool.{Bool, true, false, cond, false≢true}
use mathlib.Core.List.{List}
use Rattle.format.specs.Bytes.{same}
use Rattle.format.specs.Records.{Record}
use Rattle.format.specs.Reading.{accept, read_text}
use Rattle.format.specs.Catalogue.{catalogue}
use Rattle.format.specs.Calls.{refused, yes, records, fitting, reading, fresh}
use Rattle.byte_slices.proofs.Equal.{same-equal, same_self}
use Rattle.tidy_laws.proofs.Answered.{Gave, then-yes, fitting-yes, read_of}
use Rattle.read.proofs.AnswerCases.{fresh-reads}
use Rattle.read.proofs.Fresh.{refused-is-no-answer}
use Rattle.sam_header_laws.specs.Fresh.{FreshExactly, AllFreshExactly}

module _ (text c : List ℕ) (rs : List Record) (reads : read_text text ≡ accept rs) where
  told : (b : Bool) → same c (catalogue rs) ≡ b → fresh text c ≡ cond b (yes rs) (refused 21 0)
  told b e = fresh-reads text c rs reads ∙ ap (λ b. cond b (yes rs) (refused 21 0)) e

  own : FreshExactly text (catalogue rs) c
  own = go (same c (catalogue rs)) refl
    where
      go : (b : Bool) → same c (catalogue rs) ≡ b → FreshExactly text (catalogue rs) c
      go true e =
          let equal : c ≡ catalogue rs = same-equal c (catalogue rs) e in
          record {
            taken = ((λ _. equal), (λ _. (rs, told true e)));
            stale = ((λ s. absurd (refused-is-no-answer 21 0 rs (sym s ∙ told true e))), (λ n. absurd (n equal)));
          }
      go false e =
          let other : c ≡ catalogue rs → ⊥ = λ q. false≢true (sym e ∙ ap (λ x. same x (catalogue rs)) q ∙ same_self (catalogue rs)) in
          record {
            taken = ((λ t. absurd (refused-is-no-answer 21 0 t.0 (sym (told false e) ∙ t.1))), (λ q. absurd (other q)));
            stale = ((λ _. other), (λ _. told false e));
          }

pub all-fresh-exactly : AllFreshExactly
unfolding AllFreshExactly reading
all-fresh-exactly text given c room e =
    let g : Gave (records text) (λ rs. fitting room (catalogue rs)) given = then-yes (records text) (λ rs. fitting room (catalogue rs)) given e in
    let is : given ≡ catalogue g.value = fitting-yes room (catalogue g.value) given g.second in
    subst (λ k. FreshExactly text k c) (sym is) (own text c g.value (read_of text g.value g.first))
