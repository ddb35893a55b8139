-- A whole text by its lines, and what its judgement says.
use Prim.Native.Nat.{ℕ, ◌≤◌, ◌<◌}
use mathlib.Core.Path.{◌≡◌, refl, sym, ap, subst, ◌∙◌}
use mathlib.Core.Bool.{Bool}
use mathlib.Core.List.{List, []}
use native.Mathlib.Omega.{arith}
use lib.ListN.{length}
use borrow.Author.Tests.{lt-ltb, le-ltb}
use Rattle.format.specs.Lines.{lines}
use Rattle.format.specs.Reading.{Reading, refused_text, accept, read_text, read_from, announced, is_strict, longest}
use Rattle.format.specs.Catalogue.{catalogue}
use Rattle.accepted.specs.Read.{kept, records_of}
use Rattle.accepted_rule.specs.Rule.{ReadsBy, is_once}
use Rattle.accepted_rule.proofs.Rule.{once-reads}
use Rattle.std.specs.Prelude.{Ok, Err}
use Rattle.format.specs.declared.Refusal.{Refusal}
use Rattle.read_judge.specs.declared.Accepted.{Accepted}
use Rattle.read_judge.specs.Judged.{judged_of, judgement}

-- ---- by its lines

pub too_long : (t : List ℕ) → 16777216 < length t → read_text t ≡ refused_text 1 0
unfolding read_text longest
too_long t h = rw (lt-ltb _ _ h) refl

pub by_lines : (strict : Bool) (t : List ℕ) → length t ≤ 16777216 → strict ≡ is_strict (announced (lines t)) → read_text t ≡ read_from strict 0 [] (lines t)
unfolding read_text longest
by_lines strict t h e = rw (le-ltb 16777216 (length t) h, e) refl

-- ---- what its judgement says

pub text-refused : (t : List ℕ) (r : Refusal) → judgement t ≡ Err r → read_text t ≡ refused_text r.number r.line.0
unfolding judgement judged_of
text-refused t r j = go (read_text t) j
  where
    go : (x : Reading) → judged_of (is_once t) x ≡ Err r → x ≡ refused_text r.number r.line.0
    go (refused_text m k) j =
        let e : ◌≡◌ {A = Refusal} (record { number = m; line = record { 0 = k } }) r = cc in
        rw (← e) refl
    go (accept rs) j = absurd (let z : ◌≡◌ {A = ℕ} 0 1 = cc in omega arith)

-- the text is accepted, and so are its lines by the rule that is told: the strict one where no tag is repeated
pub record Told (t : List ℕ) (a : Accepted) : Type 0 where
  pub reads : read_text t ≡ accept (records_of t)
  pub size : a.size ≡ length (catalogue (records_of t))
  pub told : a.once ≡ is_once t
  pub rule : ReadsBy a.once t

pub text-accepted : (t : List ℕ) (a : Accepted) → judgement t ≡ Ok a → Told t a
unfolding judgement judged_of records_of kept
text-accepted t a j = go (read_text t) refl j
  where
    go : (r : Reading) → read_text t ≡ r → judged_of (is_once t) r ≡ Ok a → Told t a
    go (refused_text m k) q j = absurd (let z : ◌≡◌ {A = ℕ} 0 1 = cc in omega arith)
    go (accept rs) q j =
        let own : records_of t ≡ rs = ap kept q in
        let e : ◌≡◌ {A = Accepted} (record { size = length (catalogue rs); once = is_once t }) a = cc in
        let told : is_once t ≡ a.once = ap (λ x. x.once) e in
        record { reads = q ∙ ap accept (sym own); size = sym (ap (λ x. x.size) e) ∙ ap (λ x. length (catalogue x)) (sym own); told = sym told; rule = subst (λ b. ReadsBy b t) told (once-reads t rs q) }
