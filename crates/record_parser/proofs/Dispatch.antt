-- The front of a line: `@`, the kind, and what follows it; and lines with an LF or a CR.
use Prim.Native.Nat.{ℕ, ◌+◌, ◌≤◌}
use mathlib.Core.Path.{◌≡◌, refl, ap, ◌∙◌}
use mathlib.Core.Bool.{Bool, true, false}
use mathlib.Core.List.{List, [], ◌∷◌}
use mathlib.Core.Option.{Option, none, some}
use native.Mathlib.Omega.{arith}
use lib.ListN.{length, drop}
use Rattle.format.specs.Bytes.{any}
use Rattle.format.specs.Records.{Record, header, reference, group, program, comment, code, Line, refused_line, read, prefixed, kinded, bodied, body, kind_of, line, breaks}
use Rattle.format.specs.declared.Kind.{Kind}
use Rattle.byte_slices.specs.Upto.{leads}
use Rattle.std.specs.Prelude.{Result, Ok, Err}
use Rattle.record_kind.specs.declared.KindError.{KindError}
use Rattle.record_kind.specs.declared.KindError.TheVariants.{Empty, Invalid}
use Rattle.record_kind.specs.Kind.{parsed_kind_of, kind_at}
use Rattle.accepted.proofs.Clean.{unbroken}
use Rattle.record.specs.Head.{head_of, record_head, has_fields}

-- ---- the `@`

module _ (strict : Bool) (at : ℕ) where
  pub prefix-missing : (s : List ℕ) → leads 64 s ≡ false → prefixed strict at s ≡ refused_line 3
  unfolding leads prefixed
  prefix-missing [] h = refl
  prefix-missing (b ∷ s) h = rw h refl

  pub prefix-there : (s : List ℕ) → leads 64 s ≡ true → (1 ≤ length s) × (prefixed strict at s ≡ kinded strict (at + 1) (drop 1 s))
  unfolding leads prefixed
  prefix-there [] h = absurd (let z : ◌≡◌ {A = ℕ} 0 1 = cc in omega arith)
  prefix-there (b ∷ s) h = (omega arith, rw h refl)

  -- ---- the kind

  pub by_kind : List ℕ → Result Kind KindError → Line
  by_kind s (Err Empty) = refused_line 4
  by_kind s (Err Invalid) = refused_line 5
  by_kind s (Ok k) = body strict k (at + 2) s

  pub kinded-at : (s : List ℕ) → kinded strict at s ≡ by_kind (drop 2 s) (kind_at s)
  unfolding kinded kind_at by_kind bodied
  kinded-at [] = refl
  kinded-at (a ∷ []) = refl
  kinded-at (a ∷ b ∷ s) = go (kind_of a b)
    where
      go : (o : Option Kind) → bodied strict (at + 2) s o ≡ by_kind s (parsed_kind_of o)
      go none = refl
      go (some k) = refl

  pub kind-empty : (s : List ℕ) → kind_at s ≡ Err Empty → kinded strict at s ≡ refused_line 4
  unfolding by_kind
  kind-empty s e = kinded-at s ∙ ap (by_kind (drop 2 s)) e

  pub kind-invalid : (s : List ℕ) → kind_at s ≡ Err Invalid → kinded strict at s ≡ refused_line 5
  unfolding by_kind
  kind-invalid s e = kinded-at s ∙ ap (by_kind (drop 2 s)) e

  pub kind-is : (s : List ℕ) (k : Kind) → kind_at s ≡ Ok k → kinded strict at s ≡ body strict k (at + 2) (drop 2 s)
  unfolding by_kind
  kind-is s k e = kinded-at s ∙ ap (by_kind (drop 2 s)) e

pub kind-long : (s : List ℕ) (k : Kind) → kind_at s ≡ Ok k → 2 ≤ length s
unfolding kind_at
kind-long [] k e = absurd (let z : ◌≡◌ {A = ℕ} 0 1 = cc in omega arith)
kind-long (a ∷ []) k e = absurd (let z : ◌≡◌ {A = ℕ} 0 1 = cc in omega arith)
kind-long (a ∷ b ∷ s) k e = omega arith

-- ---- LF and CR

record-fields : (r : Record) → has_fields (record_head r) ≡ true → code r ≡ 5 → ⊥
unfolding has_fields record_head code
record-fields (header v fs) h e = omega arith
record-fields (reference p n fs) h e = omega arith
record-fields (group p fs) h e = omega arith
record-fields (program p fs) h e = omega arith
record-fields (comment p) h e = let z : ◌≡◌ {A = ℕ} 0 1 = cc in omega arith

-- where fields are accepted, no byte breaks the line
fields-unbroken : (strict : Bool) (at : ℕ) (s : List ℕ) → has_fields (head_of (prefixed strict at s)) ≡ true → any breaks s ≡ false
unfolding head_of has_fields
fields-unbroken strict at s h = go (prefixed strict at s) refl h
  where
    go : (l : Line) → prefixed strict at s ≡ l → has_fields (head_of l) ≡ true → any breaks s ≡ false
    go (refused_line n) e h = absurd (let z : ◌≡◌ {A = ℕ} 0 1 = cc in omega arith)
    go (read r) e h = unbroken strict at s r e (record-fields r h)

module _ (strict : Bool) (at : ℕ) (s : List ℕ) where
  pub line-unbroken : any breaks s ≡ false → line strict (record { at = at; bytes = s }) ≡ prefixed strict at s
  unfolding line
  line-unbroken h = rw h refl

  pub line-broken : any breaks s ≡ true → line strict (record { at = at; bytes = s }) ≡ refused_line 2
  unfolding line
  line-broken h = rw h refl

  pub line-fields : has_fields (head_of (prefixed strict at s)) ≡ true → line strict (record { at = at; bytes = s }) ≡ prefixed strict at s
  line-fields h = line-unbroken (fields-unbroken strict at s h)
