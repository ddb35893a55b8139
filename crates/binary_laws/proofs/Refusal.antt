-- Binary in answers 28 exactly if the bytes are no binary header.
use Prim.Native.Nat.{ℕ, ◌<◌}
use mathlib.Core.Path.{◌≡◌, refl}
use mathlib.Core.List.{List}
use mathlib.Core.Option.{Option, none, some}
use native.Mathlib.Omega.{arith}
use lib.ListN.{length}
use lib.Dec.{ltb}
use Rattle.format.specs.Records.{Record}
use Rattle.format.specs.Reading.{Reading, refused_text, accept, read_text, longest}
use Rattle.format.specs.Tidy.{tidy, unwritable}
use Rattle.format.specs.Calls.{Answer, refused, yes, then, read_answer, records, fitting, writing}
use Rattle.format.specs.References.{Reference, sq_list, same_references}
use Rattle.format.specs.Binary.{binary_parts, unpadded, well_formed, listed_alike, binary_in}
use Rattle.binary_laws.specs.Exact.{AllBytes, IsBinary, PartsAreBinary, BinaryIsTakenApart, NoneIs28, BinaryIsNot28}
use Rattle.binary_laws.proofs.Low.{cond_both, reading-low}
use Rattle.binary_laws.proofs.Apart.{parts-are-binary, binary-is-taken-apart}

-- not 28
unfoldable Other : {A : Type 0} → Answer A → Type 0
Other (refused n l) = n ≡ 28 → ⊥
Other (yes a) = Unit

other-then : {A B : Type 0} (a : Answer A) (f : A → Answer B) → Other a → ((x : A) → Other (f x)) → Other (then a f)
unfolding Other then
other-then (refused n l) f h k = h
other-then (yes x) f h k = k x

other-records : (t : List ℕ) → Other (records t)
unfolding Other records read_answer
other-records t = go (read_text t) (reading-low t)
  where
    go : (r : Reading) → ((n l : ℕ) → r ≡ refused_text n l → n < 28) → Other (read_answer r)
    go (refused_text n l) h = let k = h n l refl in λ z. omega arith
    go (accept rs) h = tt

other-alike : (list : List Reference) (rs : List Record) → Other (listed_alike list rs)
unfolding Other listed_alike
other-alike list rs = cond_both Other (same_references list (sq_list rs)) _ _ tt (λ z. omega arith)

other-writing : (room : ℕ) (o : Option ℕ) (t : List ℕ) → Other (writing room o t)
unfolding Other writing fitting
other-writing room (some l) t = λ z. omega arith
other-writing room none t =
    cond_both Other (ltb longest (length t)) _ _ (λ z. omega arith) (cond_both Other (ltb room (length t)) _ _ (λ z. omega arith) tt)

behind : (room : ℕ) (p : List ℕ × List Reference)
    → Other (then (records (unpadded p.0)) (λ rs. then (listed_alike p.1 rs) (λ rs. writing room (unwritable 0 rs) (tidy rs))))
behind room p =
    other-then (records (unpadded p.0)) _ (other-records (unpadded p.0)) (λ rs.
    other-then (listed_alike p.1 rs) _ (other-alike p.1 rs) (λ rs. other-writing room (unwritable 0 rs) (tidy rs)))

-- ---- by the parts

pub not-apart : (s : List ℕ) (room : ℕ) → binary_parts s ≡ none → binary_in s room ≡ refused 28 0
unfolding binary_in then well_formed
not-apart s room e = rw e refl

other-in : (s : List ℕ) (room : ℕ) (p : List ℕ × List Reference) → binary_parts s ≡ some p → Other (binary_in s room)
unfolding binary_in then well_formed
other-in s room p q = rw q (behind room p)

pub taken-apart : (s : List ℕ) (room l : ℕ) (p : List ℕ × List Reference) → binary_parts s ≡ some p → binary_in s room ≡ refused 28 l → ⊥
unfolding Other
taken-apart s room l p e f = let k : ◌≡◌ {A = ℕ} 28 28 → ⊥ = rw f at (other-in s room p e) in k refl

-- ---- by the bytes

pub none-is-28 : NoneIs28
unfolding NoneIs28 PartsAreBinary
none-is-28 s room h k = go (binary_parts s) refl
  where
    go : (o : Option (List ℕ × List Reference)) → binary_parts s ≡ o → binary_in s room ≡ refused 28 0
    go none e = not-apart s room e
    go (some p) e = absurd (k p.0 p.1 (parts-are-binary s p.0 p.1 h e))

pub binary-is-not-28 : BinaryIsNot28
unfolding BinaryIsNot28 BinaryIsTakenApart
binary-is-not-28 s t list room l b e = taken-apart s room l (t, list) (binary-is-taken-apart s t list b) e
