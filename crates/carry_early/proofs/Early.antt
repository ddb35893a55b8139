-- A line that is skipped before any is kept, and the first that is kept.
use Prim.Native.Nat.{ℕ, suc, ◌+◌, ◌-◌, ◌≤◌, ◌<◌}
use mathlib.Core.Path.{◌≡◌, refl, sym, ap, ◌∙◌}
use mathlib.Core.Bool.{Bool, true, false}
use mathlib.Core.List.{List, [], ◌∷◌}
use native.Mathlib.Omega.{arith}
use lib.ListN.{length, drop}
use lib.Dec.{ltb}
use borrow.Author.Tests.{ltb-true, ltb-false}
use Rattle.format.specs.Bytes.{any}
use Rattle.format.specs.Lines.{Piece}
use Rattle.format.specs.Records as records
use Rattle.format.specs.Records.{Line, refused_line, read}
use Rattle.format.specs.Reading.{announced, of_kind, admitted}
use Rattle.byte_slices.specs.First.{first_line}
use Rattle.byte_slices.specs.Stands.{Stands}
use Rattle.accepted.specs.First.{first_at}
use Rattle.accepted.proofs.Ahead.{ahead, ahead_none, ahead-one, next-within, next_more}
use Rattle.record.specs.Head.{head_of}
use Rattle.record.specs.declared.Head.{Head}
use Rattle.record.specs.declared.Head.TheVariants as head
use Rattle.read_admission.specs.Admission.{line_refusal, is_used, is_taken, barring}
use Rattle.read_admission.proofs.Admission.{barring-is, refusal-none, refusal-some}
use Rattle.read_repeat_rule.specs.Rule.{strict_after}
use Rattle.carry_early.specs.Early.{with_line, early_from}

-- no key is used if no line comes before
untaken : (t : List ℕ) (x : Head) → is_taken [] t x ≡ false
unfolding is_taken is_used any
untaken t (head.Refused n) = refl
untaken t (head.Header v n) = refl
untaken t (head.ReferenceSequence p l n) = refl
untaken t (head.ReadGroup p n) = refl
untaken t (head.Program p n) = refl
untaken t (head.Comment p) = refl

-- what is judged of the head of a line before which none is kept
pub barring-first : (t : List ℕ) (strict : Bool) (p : Piece) → Stands t 0 p → barring false 0 0 (head_of (records.line strict p)) ≡ line_refusal (admitted strict [] p)
unfolding of_kind
barring-first t strict p s =
    ap (λ b. barring b 0 0 (head_of (records.line strict p))) (sym (untaken t (head_of (records.line strict p)))) ∙ barring-is t [] strict p s

module _ (strict : Bool) (p : Piece) (ps : List Piece) where
  abbrev rule : Bool
  rule = strict_after strict (announced (p ∷ []))

  -- it is kept
  kept : line_refusal (admitted rule [] p) ≡ 0 → early_from strict (p ∷ ps) ≡ record { refusals = []; strict = rule; rest = p ∷ ps }
  unfolding early_from with_line
  kept e = let a = refusal-none rule [] p e in ap (with_line rule p ps (early_from rule ps)) a.2

  -- it is skipped
  skipped : (n : ℕ) → n ≡ line_refusal (admitted rule [] p) → (n ≡ 0 → ⊥)
      → early_from strict (p ∷ ps) ≡ record { refusals = n ∷ (early_from rule ps).refusals; strict = (early_from rule ps).strict; rest = (early_from rule ps).rest }
  unfolding early_from with_line
  skipped n e h = ap (with_line rule p ps (early_from rule ps)) (refusal-some rule [] p n (sym e) h)

  -- it is skipped, as there are refusals
  some : (k : ℕ) → length (early_from strict (p ∷ ps)).refusals ≡ suc k
      → (early_from strict (p ∷ ps)).refusals ≡ line_refusal (admitted rule [] p) ∷ (early_from rule ps).refusals
  unfolding early_from with_line line_refusal
  some k e = go (admitted rule [] p) e
    where
      go : (l : Line) → length (with_line rule p ps (early_from rule ps) l).refusals ≡ suc k → (with_line rule p ps (early_from rule ps) l).refusals ≡ line_refusal l ∷ (early_from rule ps).refusals
      go (refused_line n) e = refl
      go (read r) e = absurd (omega arith)

-- the line at the offset `at`, judged: the rule with it, 0 or why it is skipped, and where the next line starts
module _ (t : List ℕ) (at : ℕ) (strict : Bool) (h : at < length t) (rule : Bool) (n next : ℕ)
    (r : rule ≡ strict_after strict (announced (first_at at t ∷ [])))
    (e : n ≡ line_refusal (admitted rule [] (first_at at t)))
    (o : next ≡ at + (first_line (drop at t)).next) where
  split : ahead t at ≡ first_at at t ∷ ahead t next
  split = rw o (ahead-one t at h)

  pub early-within : (at < next) × (next ≤ length t)
  early-within = rw o (next_more t at h, next-within t at h)

  pub early-kept : n ≡ 0 → early_from strict (ahead t at) ≡ record { refusals = []; strict = rule; rest = ahead t at }
  early-kept z = rw (split, r) (kept strict (first_at at t) (ahead t next) (rw (← r) (sym e ∙ z)))

  pub early-skipped : (n ≡ 0 → ⊥)
      → early_from strict (ahead t at) ≡ record { refusals = n ∷ (early_from rule (ahead t next)).refusals; strict = (early_from rule (ahead t next)).strict; rest = (early_from rule (ahead t next)).rest }
  early-skipped z = rw (split, r) (skipped strict (first_at at t) (ahead t next) n (rw (← r) e) z)

  -- it is skipped, as there are refusals
  pub early-some : 0 < length (early_from strict (ahead t at)).refusals → (early_from strict (ahead t at)).refusals ≡ n ∷ (early_from rule (ahead t next)).refusals
  early-some z =
      let k : ℕ = length (early_from strict (ahead t at)).refusals - 1 in
      rw (split, e, r) (some strict (first_at at t) (ahead t next) k (rw (← split) (omega (arith, z))))

-- where a line is skipped there is one
pub early-ahead : (t : List ℕ) (at : ℕ) (strict : Bool) → 0 < length (early_from strict (ahead t at)).refusals → at < length t
unfolding early_from
early-ahead t at strict h = go (ltb at (length t)) refl
  where
    go : (b : Bool) → ltb at (length t) ≡ b → at < length t
    go true e = ltb-true at (length t) e
    go false e = absurd (omega (arith, h, ap (λ ps. length (early_from strict ps).refusals) (ahead_none t at (ltb-false at (length t) e))))
