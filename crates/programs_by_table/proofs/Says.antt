-- Three facts and a proposition: what a call with three clauses ensures. Assumes nothing.
use seplogic.Ra.Ura.{Ura}
use base.Logic.{SProp, ent, sep, emp, via, comm∗, mono∗, mono_l, emp∗}
use contract.Monad.{fact, fact_i}

pub says3 : {M : Type 1} (𝓤 : Ura M) (Q : SProp 𝓤) {φ χ ψ : Type 0} → φ → χ → ψ → ent 𝓤 Q (sep 𝓤 Q (sep 𝓤 (fact 𝓤 φ) (sep 𝓤 (fact 𝓤 χ) (fact 𝓤 ψ))))
says3 𝓤 Q {φ} {χ} {ψ} x y z =
    via 𝓤 (sep 𝓤 (emp 𝓤) Q) (emp∗ 𝓤 Q)
    (via 𝓤 (sep 𝓤 (sep 𝓤 (fact 𝓤 φ) (sep 𝓤 (fact 𝓤 χ) (fact 𝓤 ψ))) Q)
    (mono_l 𝓤 Q (via 𝓤 (sep 𝓤 (emp 𝓤) (emp 𝓤)) (emp∗ 𝓤 (emp 𝓤)) (mono∗ 𝓤 (fact_i 𝓤 φ (emp 𝓤) x) (via 𝓤 (sep 𝓤 (emp 𝓤) (emp 𝓤)) (emp∗ 𝓤 (emp 𝓤)) (mono∗ 𝓤 (fact_i 𝓤 χ (emp 𝓤) y) (fact_i 𝓤 ψ (emp 𝓤) z))))))
    (comm∗ 𝓤 (sep 𝓤 (fact 𝓤 φ) (sep 𝓤 (fact 𝓤 χ) (fact 𝓤 ψ))) Q))
