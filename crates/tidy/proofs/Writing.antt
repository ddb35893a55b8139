-- What judging and measuring say of the tidying call's answer.
use Prim.Native.Nat.{ℕ}
use mathlib.Core.Path.{◌≡◌, refl}
use mathlib.Core.Bool.{true}
use mathlib.Core.List.{List}
use mathlib.Core.Option.{Option, none, some}
use native.Mathlib.Omega.{arith}
use Rattle.format.specs.Reading.{refused_text, read_text}
use Rattle.format.specs.Tidy.{tidy, unwritable}
use Rattle.format.specs.Calls.{refused, then, read_answer, records, writing, tidying}
use Rattle.format.specs.declared.LineNo.{LineNo}
use Rattle.accepted.proofs.Read.{accepted-reads}
use Rattle.accepted.specs.Read.{is_accepted, records_of}
use Rattle.tidy_text.specs.Accepted.{measured_of}
use Rattle.tidy_sizes.specs.declared.PerKind.{PerKind}
use Rattle.std.specs.Prelude.{Ok, Err}

-- ---- by what was measured

pub measured-bad : (o : Option ℕ) (n : PerKind) (l : LineNo) → measured_of o n ≡ Err l → o ≡ some l.0
unfolding measured_of
measured-bad none n l e = absurd (let z : ◌≡◌ {A = ℕ} 0 1 = cc in omega arith)
measured-bad (some k) n l e =
    let y : ◌≡◌ {A = LineNo} (record { 0 = k }) l = cc in
    rw (← y) refl

pub measured-is : (o : Option ℕ) (n m : PerKind) → measured_of o n ≡ Ok m → (o ≡ none) × (n ≡ m)
unfolding measured_of
measured-is none n m e = (refl, cc)
measured-is (some k) n m e = absurd (let z : ◌≡◌ {A = ℕ} 0 1 = cc in omega arith)

-- ---- by what was judged

module _ (t : List ℕ) (room : ℕ) where
  pub tidy-refused : (n l : ℕ) → read_text t ≡ refused_text n l → tidying t room ≡ refused n l
  unfolding tidying then records read_answer
  tidy-refused n l e = rw e refl

  pub tidy-accepted : is_accepted (read_text t) ≡ true → tidying t room ≡ writing room (unwritable 0 (records_of t)) (tidy (records_of t))
  unfolding tidying then records read_answer
  tidy-accepted h = rw (accepted-reads t h) refl
