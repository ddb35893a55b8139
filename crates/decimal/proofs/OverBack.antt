-- Writing a run of bytes from its last to its first. Assumes nothing.
use Prim.Native.Nat.{ℕ, zero, suc, ◌+◌, ◌-◌, ◌/◌, ◌%◌, ◌≤◌, ◌<◌}
use mathlib.Core.Path.{◌≡◌, sym, ap, ◌∙◌}
use mathlib.Core.List.{List, [], ◌∷◌, ◌++◌, append_assoc, append-nil}
use native.Mathlib.Omega.{arith}
use native.Mathlib.Nat.{add-suc, add-zero, add_comm}
use lib.ListN.{length, take, drop, set, take-append-drop}
use lib.Seq.{take-set-le, drop-set-lt, drop-cons, get_or-set_same, append_snoc, lt-length-set}
use Rattle.format.specs.Decimal.{written_f}
use Rattle.byte_slices.specs.Over.{over}
use Rattle.decimal.proofs.Written.{length-snoc, written-turn}

pub over_none : (out : List ℕ) (at : ℕ) → over out at [] ≡ out
unfolding over
over_none out at = rw (append-nil, add-zero) (take-append-drop at out)

-- no digit is left to write
pub digits-end : (out : List ℕ) (at i n : ℕ) → i ≡ 0 → over out at (written_f i n []) ≡ out
unfolding written_f
digits-end out at i n e = ap (λ k. over out at (written_f k n [])) e ∙ over_none out at

-- the last byte may be written first
pub over-back : (out : List ℕ) (at : ℕ) (xs : List ℕ) (d : ℕ) → at + length xs < length out
    → over out at (xs ++ (d ∷ [])) ≡ over (set out (at + length xs) d) at xs
unfolding over
over-back out at xs d h =
    let k : ℕ = at + length xs in
    let tail : drop k (set out k d) ≡ d ∷ drop (suc k) out =
    drop-cons (set out k d) k 0 (lt-length-set out k d h) ∙ rw (get_or-set_same out k d 0 h, drop-set-lt (suc k) out k d (omega arith)) in
    ap (λ m. take at out ++ (xs ++ (d ∷ [])) ++ drop m out) (ap (λ m. at + m) (length-snoc xs d) ∙ add-suc at (length xs))
    ∙ ap (λ l. l ++ drop (suc k) out) (sym (append_assoc (take at out) xs (d ∷ [])))
    ∙ append_snoc (take at out ++ xs) d (drop (suc k) out)
    ∙ sym (ap (λ l. l ++ xs ++ drop k (set out k d)) (take-set-le at out k d (omega arith)) ∙ ap (λ l. take at out ++ xs ++ l) tail)

-- one digit is written, and the digits before it are left
pub digit-back : (out : List ℕ) (at i n : ℕ) → 0 < i → at + i ≤ length out → length (written_f i n []) ≡ i
    → (length (written_f (i - 1) (n / 10) []) ≡ i - 1)
    × (over out at (written_f i n []) ≡ over (set out (at + (i - 1)) (n % 10 + 48)) at (written_f (i - 1) (n / 10) []))
digit-back out at zero n p h e = absurd (omega arith)
digit-back out at (suc j) n p h e =
    let z : suc j - 1 ≡ j = omega arith in
    let t : written_f (suc j) n [] ≡ written_f j (n / 10) [] ++ ((48 + n % 10) ∷ []) = written-turn j n e in
    let m : length (written_f j (n / 10) []) ≡ j = omega (arith, e, ap length t, length-snoc (written_f j (n / 10) []) (48 + n % 10)) in
    let xs : List ℕ = written_f j (n / 10) [] in
    rw z (
      m,
      ap (over out at) t
          ∙ over-back out at xs (48 + n % 10) (omega arith)
          ∙ ap (λ k. over (set out (at + k) (48 + n % 10)) at xs) m
          ∙ ap (λ d. over (set out (at + j) d) at xs) (add_comm 48 (n % 10)),
    )
