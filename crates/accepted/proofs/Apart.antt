-- Records that may follow one another: keys of one kind differ, programs are at most 1,024, HD comes first.
use Prim.Native.Nat.{ℕ, zero, suc, ◌+◌, ◌≤◌, ◌<◌}
use mathlib.Core.Path.{◌≡◌, refl, sym, ◌∙◌}
use mathlib.Core.Bool.{Bool, true, false, ◌&&◌, cond, and-true}
use mathlib.Core.List.{List, [], ◌∷◌, ◌++◌, append-nil, append_assoc}
use mathlib.Core.Option.{Option, none, some}
use native.Mathlib.Omega.{arith}
use lib.ListN.{length, drop, get_or, length-append}
use lib.Dec.{eqb, leb}
use borrow.Author.Tests.{leb-false}
use Rattle.format.specs.Bytes.{any, none?, same}
use Rattle.format.specs.Lines.{Piece}
use Rattle.format.specs.Records.{Record, code, key}
use Rattle.format.specs.Reading.{clash, same_keys, of_kind}
use Rattle.byte_slices.specs.Stands.{Each}
use Rattle.byte_slices.proofs.Stands.{each_map}
use Rattle.accepted.specs.Admits.{Unbarred, KeysDiffer, MayFollow}
use Rattle.lists.proofs.Bools.{or_left, or_right, eqb-sym, any_snoc}
use Rattle.accepted.proofs.OfKind.{of_kind-append}
use Rattle.accepted.proofs.Admits.{barred-clear}

-- ---- keys

pub same-sym : (s t : List ℕ) → same s t ≡ same t s
unfolding same
same-sym [] [] = refl
same-sym [] (b ∷ t) = refl
same-sym (a ∷ s) [] = refl
same-sym (a ∷ s) (b ∷ t) = rw (eqb-sym a b, same-sym s t) refl

keys-sym : (p q : Option Piece) → same_keys p q ≡ same_keys q p
unfolding same_keys
keys-sym none none = refl
keys-sym none (some q) = refl
keys-sym (some p) none = refl
keys-sym (some p) (some q) = same-sym p.bytes q.bytes

pub clash-sym : (r q : Record) → clash r q ≡ clash q r
unfolding clash
clash-sym r q = rw (eqb-sym (code r) (code q), keys-sym (key r) (key q)) refl

any-each : {A : Type 0} (p : A → Bool) (xs : List A) → Each (λ x. p x ≡ false) xs → any p xs ≡ false
unfolding any Each
any-each p [] h = refl
any-each p (x ∷ xs) h = rw (h.0, any-each p xs h.1) refl

-- those that follow `before` clash with none of it
unbarred-before : (before rs : List Record) → Unbarred before rs → Each (λ q. any (clash q) before ≡ false) rs
unfolding Unbarred Each
unbarred-before before [] h = tt
unbarred-before before (r ∷ rs) h = (
  (barred-clear before r h.0).apart,
  each_map (λ q. any (clash q) (before ++ (r ∷ [])) ≡ false) (λ q. any (clash q) before ≡ false)
      (λ q g. or_left (any (clash q) before) (clash q r) (sym (any_snoc (clash q) before r) ∙ g)) rs (unbarred-before (before ++ (r ∷ [])) rs h.1),
)

pub unbarred-apart : (before rs : List Record) → Unbarred before rs → KeysDiffer rs
unfolding Unbarred KeysDiffer
unbarred-apart before [] h = tt
unbarred-apart before (r ∷ rs) h = (
  any-each (clash r) rs (
      each_map (λ q. any (clash q) (before ++ (r ∷ [])) ≡ false) (λ q. clash r q ≡ false)
      (λ q g. clash-sym r q ∙ or_right (any (clash q) before) (clash q r) (sym (any_snoc (clash q) before r) ∙ g)) rs
      (unbarred-before (before ++ (r ∷ [])) rs h.1)),
  unbarred-apart (before ++ (r ∷ [])) rs h.1,
)

any_at : {A : Type 0} (p : A → Bool) (xs : List A) (i : ℕ) (x : A) → any p xs ≡ false → i < length xs → p (get_or xs i x) ≡ false
unfolding any
any_at p [] i x h l = absurd (omega arith)
any_at p (y ∷ xs) zero x h l = or_left (p y) (any p xs) h
any_at p (y ∷ xs) (suc i) x h l = any_at p xs i x (or_right (p y) (any p xs) h) (omega arith)

-- by their places
pub apart-at : (rs : List Record) (i j : ℕ) (r : Record) → KeysDiffer rs → i < j → j < length rs → clash (get_or rs i r) (get_or rs j r) ≡ false
unfolding KeysDiffer
apart-at [] i j r h m l = absurd (omega arith)
apart-at (q ∷ rs) i zero r h m l = absurd (omega arith)
apart-at (q ∷ rs) zero (suc j) r h m l = any_at (clash q) rs j r h.0 (omega arith)
apart-at (q ∷ rs) (suc i) (suc j) r h m l = apart-at rs i j r h.1 (omega arith) (omega arith)

-- ---- programs

clear-programs : (before : List Record) (r : Record) → MayFollow before r → length (of_kind 4 before) ≤ 1024 → length (of_kind 4 (before ++ (r ∷ []))) ≤ 1024
unfolding of_kind
clear-programs before r c h =
    rw (of_kind-append 4 before (r ∷ []), length-append (of_kind 4 before) (of_kind 4 (r ∷ []))) (go (eqb (code r) 4) c.room)
  where
    go : (t : Bool) → t && leb 1024 (length (of_kind 4 before)) ≡ false → length (of_kind 4 before) + length (cond t (r ∷ []) []) ≤ 1024
    go true e = omega (arith, leb-false 1024 (length (of_kind 4 before)) e)
    go false e = omega arith

pub unbarred-programs : (before rs : List Record) → Unbarred before rs → length (of_kind 4 before) ≤ 1024 → length (of_kind 4 (before ++ rs)) ≤ 1024
unfolding Unbarred
unbarred-programs before [] h l = rw append-nil l
unbarred-programs before (r ∷ rs) h l =
    rw (← append_assoc before (r ∷ []) rs) (unbarred-programs (before ++ (r ∷ [])) rs h.1 (clear-programs before r (barred-clear before r h.0) l))

-- ---- HD

-- after a record, none is an HD
pub unbarred-headless : (before rs : List Record) → Unbarred before rs → none? before ≡ false → Each (λ r. eqb (code r) 1 ≡ false) rs
unfolding Unbarred Each none?
unbarred-headless before [] h n = tt
unbarred-headless before (r ∷ rs) h n = (
  sym (and-true (eqb (code r) 1)) ∙ (rw n at (barred-clear before r h.0).leading),
  unbarred-headless (before ++ (r ∷ [])) rs h.1 (go before),
)
  where
    go : (b : List Record) → none? (b ++ (r ∷ [])) ≡ false
    go [] = refl
    go (q ∷ b) = refl

-- HD is the first record or none
pub unbarred-first : (rs : List Record) → Unbarred [] rs → Each (λ r. eqb (code r) 1 ≡ false) (drop 1 rs)
unfolding Unbarred Each
unbarred-first [] h = tt
unbarred-first (r ∷ rs) h = unbarred-headless (r ∷ []) rs h.1 (unfold none? in refl)
