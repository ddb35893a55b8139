-- What is known of the records of an accepted text.
use Prim.Native.Nat.{ℕ, ◌+◌, ◌≤◌, ◌<◌}
use mathlib.Core.Path.{◌≡◌, refl, sym}
use mathlib.Core.Bool.{Bool, true, false, cond}
use mathlib.Core.List.{List, []}
use native.Mathlib.Omega.{arith}
use lib.ListN.{length, take, drop, get_or}
use lib.Dec.{eqb, ltb}
use borrow.Author.Tests.{ltb-false}
use Rattle.format.specs.Lines.{Piece, lines}
use Rattle.format.specs.Records.{Record, code, read, line}
use Rattle.format.specs.Reading.{accept, refused_text, admitted, read_from, longest, read_text, of_kind}
use Rattle.byte_slices.specs.Stands.{Stands, Each}
use Rattle.byte_slices.proofs.Stands.{each_map, lines-stand}
use Rattle.accepted.specs.Pieces.{pieces}
use Rattle.lists.specs.Pairs.{Pairs}
use Rattle.accepted.specs.Sound.{Sound}
use Rattle.accepted.specs.Admits.{strictly, Admits, Unbarred, KeysDiffer}
use Rattle.lists.proofs.Bools.{never}
use Rattle.lists.proofs.Pairs.{each_all, pairs-right, pairs-length}
use Rattle.accepted.proofs.Stands.{stands-within, line-stand}
use Rattle.accepted.proofs.Sound.{line-sound}
use Rattle.accepted.proofs.Admits.{Rest, read-rest, admits-lines, admits-unbarred, admits-at}
use Rattle.accepted.proofs.Apart.{unbarred-apart, unbarred-programs, unbarred-first}
use Rattle.accepted.proofs.OfKind.{of_kind-none}
use Rattle.accepted.proofs.Onward.{lines-count}

module _ (t : List ℕ) (rs : List Record) (h : read_text t ≡ accept rs) where
  -- not too long, and read from its first line on
  opened : (length t ≤ 16777216) × (read_from (strictly t) 0 [] (lines t) ≡ accept rs)
  unfolding read_text longest strictly
  opened = go (ltb 16777216 (length t)) refl h
    where
      go : (b : Bool) → ltb 16777216 (length t) ≡ b → cond b (refused_text 1 0) (read_from (strictly t) 0 [] (lines t)) ≡ accept rs
          → (length t ≤ 16777216) × (read_from (strictly t) 0 [] (lines t) ≡ accept rs)
      go true e g = absurd (never (cc))
      go false e g = (ltb-false 16777216 (length t) e, g)

  pub text-fits : length t ≤ 16777216
  text-fits = opened.0

  -- each line's record, after those before it
  pub text-admits : Admits (strictly t) [] (lines t) rs
  text-admits = let x : Rest (strictly t) [] (lines t) rs = read-rest (strictly t) 0 [] (lines t) rs opened.1 in rw x.joined x.admits

  pub text_at : (i : ℕ) (p : Piece) (r : Record) → i < length (lines t) → admitted (strictly t) (take i rs) (get_or (lines t) i p) ≡ read (get_or rs i r)
  text_at i p r l = admits-at (strictly t) [] (lines t) rs i p r text-admits l

  pub text-lines : Pairs (λ p r. line (strictly t) p ≡ read r) (lines t) rs
  text-lines = admits-lines (strictly t) [] (lines t) rs text-admits

  -- as many records as lines, and no more than bytes
  pub text-length : length rs ≡ length (lines t)
  text-length = sym (pairs-length (λ p r. line (strictly t) p ≡ read r) (lines t) rs text-lines)

  pub text-count : length rs ≤ length t
  unfolding lines
  text-count = omega (arith, text-length, lines-count 0 t)

  -- ---- each record

  pub text-stand : Each (λ r. Each (Stands t 0) (pieces r)) rs
  unfolding lines
  text-stand = pairs-right (λ p r. line (strictly t) p ≡ read r) (Stands t 0) (λ r. Each (Stands t 0) (pieces r)) one (lines t) rs (lines-stand 0 t) text-lines
    where
      one : (p : Piece) (r : Record) → Stands t 0 p → line (strictly t) p ≡ read r → Each (Stands t 0) (pieces r)
      one p r s e = each_map (Stands p.bytes p.at) (Stands t 0) (λ q k. stands-within t 0 p q s k) (pieces r) (line-stand (strictly t) p r e)

  -- offsets and lengths are small
  pub text-small : Each (λ r. Each (λ p. p.at + length p.bytes ≤ 16777216) (pieces r)) rs
  text-small =
      each_map (λ r. Each (Stands t 0) (pieces r)) (λ r. Each (λ p. p.at + length p.bytes ≤ 16777216) (pieces r))
      (λ r s. each_map (Stands t 0) (λ p. p.at + length p.bytes ≤ 16777216) (λ p k. omega (arith, k.within, text-fits)) (pieces r) s)
      rs text-stand

  pub text-sound : Each Sound rs
  text-sound =
      pairs-right (λ p r. line (strictly t) p ≡ read r) (λ p. Unit) Sound (λ p r u e. line-sound (strictly t) p r e)
      (lines t) rs (each_all (λ p. Unit) (λ p. tt) (lines t)) text-lines

  -- ---- one record after another

  pub text-unbarred : Unbarred [] rs
  text-unbarred = admits-unbarred (strictly t) [] (lines t) rs text-admits

  -- keys of one kind differ
  pub text-apart : KeysDiffer rs
  text-apart = unbarred-apart [] rs text-unbarred

  pub text-programs : length (of_kind 4 rs) ≤ 1024
  text-programs = unbarred-programs [] rs text-unbarred (unfold of_kind in omega arith)

  -- HD is the first record or none
  pub text-first : Each (λ r. eqb (code r) 1 ≡ false) (drop 1 rs)
  text-first = unbarred-first rs text-unbarred

  pub text-headless : of_kind 1 (drop 1 rs) ≡ []
  text-headless = of_kind-none 1 (drop 1 rs) text-first
