-- New programs whose IDs are not used may follow.
use Prim.Native.Nat.{ℕ, ◌+◌, ◌≤◌}
use mathlib.Core.Path.{◌≡◌, refl, ◌∙◌}
use mathlib.Core.Bool.{Bool, true, false, ◌||◌, cond}
use mathlib.Core.List.{List, [], ◌∷◌, ◌++◌}
use mathlib.Core.Option.{some}
use native.Mathlib.Omega.{arith}
use lib.ListN.{length, length-append, length-map}
use borrow.Author.Tests.{lt-leb}
use Rattle.format.specs.Bytes.{any, same}
use Rattle.format.specs.Lines.{Piece}
use Rattle.format.specs.Fields.{Field}
use Rattle.format.specs.Records.{Record, header, reference, group, program, comment, code, key}
use Rattle.format.specs.Reading.{same_keys, clash, of_kind, barred}
use Rattle.format.specs.Programs.{bytes_of, program_of, programs, ordinal_from}
use Rattle.format.specs.Adding.{is_known, used}
use Rattle.byte_slices.specs.Stands.{Each}
use Rattle.accepted.specs.Admits.{Unbarred}
use Rattle.lists.proofs.Bools.{or_left, or_right}
use Rattle.add_laws.proofs.Links.{programs-append}

-- a program clashes exactly if its ID is known
clash-known : (p : Piece) (fs : List Field) (k : ℕ) (rs : List Record) → any (clash (program p fs)) rs ≡ is_known (ordinal_from k p.bytes (programs rs))
unfolding any clash code key same_keys is_known ordinal_from programs of_kind program_of bytes_of
clash-known p fs k [] = refl
clash-known p fs k (header v gs ∷ rs) = clash-known p fs k rs
clash-known p fs k (reference q n gs ∷ rs) = clash-known p fs k rs
clash-known p fs k (group q gs ∷ rs) = clash-known p fs k rs
clash-known p fs k (program q gs ∷ rs) = go (same p.bytes q.bytes) (clash-known p fs (k + 1) rs)
  where
    go : (t : Bool) → any (clash (program p fs)) rs ≡ is_known (ordinal_from (k + 1) p.bytes (programs rs))
        → t || any (clash (program p fs)) rs ≡ is_known (cond t (some k) (ordinal_from (k + 1) p.bytes (programs rs)))
    go true ih = refl
    go false ih = ih
clash-known p fs k (comment q ∷ rs) = clash-known p fs k rs

programs-length : (rs : List Record) → length (programs rs) ≡ length (of_kind 4 rs)
unfolding programs
programs-length rs = length-map (of_kind 4 rs) program_of

pub new-unbarred : (before new : List Record) → Each (λ r. code r ≡ 4) new → used (programs before) (programs new) ≡ false → length (programs before) + length new ≤ 1024 → Unbarred before new
unfolding Unbarred Each code
new-unbarred before [] k u l = tt
new-unbarred before (header v fs ∷ new) k u l = absurd (omega (arith, k.0))
new-unbarred before (reference p n fs ∷ new) k u l = absurd (omega (arith, k.0))
new-unbarred before (group p fs ∷ new) k u l = absurd (omega (arith, k.0))
new-unbarred before (comment p ∷ new) k u l = absurd (omega (arith, k.0))
new-unbarred before (program p fs ∷ new) k u l = (may, new-unbarred (before ++ (program p fs ∷ [])) new k.1 (rw more rest) (rw more (omega (arith, length-append (programs before) (program_of (program p fs) ∷ [])))))
  where
    more : programs (before ++ (program p fs ∷ [])) ≡ programs before ++ (program_of (program p fs) ∷ [])
    more = programs-append before (program p fs ∷ []) ∙ unfold programs of_kind in refl

    known : Bool
    known = is_known (ordinal_from 0 p.bytes (programs before))

    split-used : known || used (programs before ++ (program_of (program p fs) ∷ [])) (programs new) ≡ false
    split-used = unfold programs of_kind used program_of bytes_of key in u

    rest : used (programs before ++ (program_of (program p fs) ∷ [])) (programs new) ≡ false
    rest = or_right known _ split-used

    may : barred before (program p fs) ≡ 0
    may = unfold barred in rw (clash-known p fs 0 before ∙ or_left known _ split-used, lt-leb 1024 (length (of_kind 4 before)) (omega (arith, programs-length before))) refl
