-- By what was measured: whether each name can be written.
use Prim.Native.Nat.{ℕ}
use mathlib.Core.Path.{◌≡◌, refl, sym, ap, ◌∙◌}
use mathlib.Core.List.{List}
use mathlib.Core.Option.{Option, none, some}
use Rattle.format.specs.declared.LineNo.{LineNo}
use Rattle.format.specs.Calls.{Answer, refused, yes, writing}
use Rattle.carry_early.specs.declared.Begin.{Begin}
use Rattle.carry_passes.specs.From.{unwritable_from}
use Rattle.lists.proofs.Bools.{never}
use Rattle.tidy_sizes.specs.declared.PerKind.{PerKind}
use Rattle.carry_passes.specs.Measured.{kept_measured, measured_from, kept_answer, KeptTold}
use Rattle.carry_passes.specs.declared.KeptSizes.{KeptSizes}
use Rattle.std.specs.Prelude.{Result, Ok, Err}

pub measured-bad : (o : Option ℕ) (s : PerKind) (n : ℕ) (l : LineNo) → kept_measured o s n ≡ Err l → o ≡ some l.0
unfolding kept_measured
measured-bad none s n l e = absurd (never cc)
measured-bad (some k) s n l e =
    let y : ◌≡◌ {A = LineNo} (record { 0 = k }) l = cc in
    rw (← y) refl

pub measured-is : (o : Option ℕ) (s : PerKind) (n : ℕ) (k : KeptSizes) → kept_measured o s n ≡ Ok k → (o ≡ none) × ((s ≡ k.sizes) × (n ≡ k.skipped))
unfolding kept_measured
measured-is none s n k e =
    let y : ◌≡◌ {A = KeptSizes} (record { sizes = s; skipped = n }) k = cc in
    (refl, (ap (λ m. m.sizes) y, ap (λ m. m.skipped) y))
measured-is (some l) s n k e = absurd (never cc)

told : {A : Type 0} → Answer A → ℕ × ℕ
told (refused n l) = (n, l)
told (yes a) = (0, 0)

-- a refusal is writing's own
kept-refused : (o : Option ℕ) (s : PerKind) (m room n l : ℕ) (text : List ℕ) → kept_answer (kept_measured o s m) ≡ refused n l → writing room o text ≡ refused n l
unfolding kept_answer kept_measured writing told
kept-refused none s m room n l text e = absurd (never (cc))
kept-refused (some k) s m room n l text e = ap (λ p. refused p.0 p.1) (ap told e)

pub kept-told : (t : List ℕ) (b : Begin) (r : Result KeptSizes LineNo) → r ≡ measured_from t b → KeptTold t b r
kept-told t b r e room n l text h = kept-refused (unwritable_from t b) _ _ room n l text (ap kept_answer (sym e) ∙ h)
