-- What tidying's answer says of the seal, and of the check of one.
use Prim.Native.Nat.{ℕ, ◌≤◌}
use mathlib.Core.Path.{◌≡◌, refl, sym, ap, ◌∙◌}
use mathlib.Core.Bool.{Bool, true, false, cond}
use mathlib.Core.List.{List, ◌++◌}
use native.Mathlib.Omega.{arith}
use lib.ListN.{length, take, drop, length-append}
use lib.Seq.{take_at, length-take-le}
use Rattle.std.specs.Prelude.{Result, Ok, Err}
use Rattle.format.specs.Bytes.{same}
use Rattle.format.specs.Records.{Record}
use Rattle.format.specs.Calls.{Answer, refused, yes, then, fresh, tidying}
use Rattle.format.specs.declared.Refusal.{Refusal}
use Rattle.lists.proofs.Bools.{never}
use Rattle.read.specs.Answers.{answer_of, output_of, checked_of}
use Rattle.read.proofs.Fresh.{refused-is-no-answer}
use Rattle.format.specs.Sha256.{sha256}
use Rattle.format.specs.Seal.{sealing, tidying_fresh, own_seal, checking_sealed}

-- ---- by the word of a call that writes

-- what it counts is at the front of its output
pub record Written (a : Answer (List ℕ)) (n : ℕ) (last : List ℕ) : Type 0 where
  pub bytes : List ℕ
  pub says : a ≡ yes bytes
  pub room : n ≤ length last
  pub part : n ≡ length (take n last)
  pub front : take n last ≡ bytes

written : (xs out last : List ℕ) (n : ℕ) → n ≡ length xs → last ≡ xs ++ drop (length xs) out → Written (yes xs) n last
written xs out last n k o =
    let long : n ≤ length last = omega (arith, ap length o, length-append xs (drop (length xs) out)) in
    record {
      bytes = xs;
      says = refl;
      room = long;
      part = sym (length-take-le n last long);
      front = ap (take n) o ∙ take_at xs (drop (length xs) out) n (sym k);
    }

pub written-by : (a : Answer (List ℕ)) (out last : List ℕ) {w : Result ℕ Refusal} (n : ℕ) → w ≡ answer_of a → last ≡ output_of a out → w ≡ Ok n → Written a n last
unfolding answer_of output_of
written-by (refused m l) out last n s o e = absurd (never (cc))
written-by (yes xs) out last n s o e = written xs out last n (cc) o

pub refused-by : (a : Answer (List ℕ)) {w : Result ℕ Refusal} (r : Refusal) → w ≡ answer_of a → w ≡ Err r → a ≡ refused r.number r.line.0
unfolding answer_of
refused-by (refused m k) r s e =
    let x : ◌≡◌ {A = Refusal} (record { number = m; line = record { 0 = k } }) r = cc in
    rw (← x) refl
refused-by (yes xs) r s e = absurd (never (cc))

-- ---- the seal

module _ (t : List ℕ) (room : ℕ) where
  pub seal-refused : (n l : ℕ) → tidying t room ≡ refused n l → sealing t room ≡ refused n l
  unfolding sealing then
  seal-refused n l e = ap (λ a. then a (λ x. yes (sha256 x))) e

  pub seal-yes : (x : List ℕ) → tidying t room ≡ yes x → sealing t room ≡ yes (sha256 x)
  unfolding sealing then
  seal-yes x e = ap (λ a. then a (λ x. yes (sha256 x))) e

-- ---- the check of one, once it is known what the catalogue is

-- 33: the seal is another header's
abbrev pub not-sealed : Refusal
not-sealed = record { number = 33; line = record { 0 = 0 } }

told : (b : Bool) (rs : List Record) → checked_of (cond b (yes rs) (refused 33 0)) ≡ cond b (Ok tt) (Err not-sealed)
unfolding checked_of
told true rs = refl
told false rs = refl

module _ (t s : List ℕ) (room : ℕ) where
  refused-when : (f : Answer (List Record)) (n l : ℕ) → then f (λ rs. tidying t room) ≡ refused n l
      → then f (λ rs. then (sealing t room) (λ own. own_seal s own rs)) ≡ refused n l
  unfolding then
  refused-when (refused m k) n l e = cc
  refused-when (yes rs) n l e = ap (λ a. then a (λ own. own_seal s own rs)) (seal-refused t room n l e)

  told-when : (f : Answer (List Record)) (x : List ℕ) (b : Bool) → then f (λ rs. tidying t room) ≡ yes x → b ≡ same s (sha256 x)
      → cond b (Ok tt) (Err not-sealed) ≡ checked_of (then f (λ rs. then (sealing t room) (λ own. own_seal s own rs)))
  unfolding then own_seal
  told-when (refused n l) x b e q = absurd (refused-is-no-answer n l x e)
  told-when (yes rs) x b e q =
      sym (ap (λ a. checked_of (then a (λ own. own_seal s own rs))) (seal-yes t room x e) ∙ ap (λ b. checked_of (cond b (yes rs) (refused 33 0))) (sym q) ∙ told b rs)

  pub check-refused : (c : List ℕ) (n l : ℕ) → tidying_fresh t c room ≡ refused n l → checking_sealed t c s room ≡ refused n l
  unfolding tidying_fresh checking_sealed
  check-refused c n l e = refused-when (fresh t c) n l e

  pub check-told : (c x : List ℕ) (b : Bool) → tidying_fresh t c room ≡ yes x → b ≡ same s (sha256 x)
      → cond b (Ok tt) (Err not-sealed) ≡ checked_of (checking_sealed t c s room)
  unfolding tidying_fresh checking_sealed
  check-told c x b e q = told-when (fresh t c) x b e q
