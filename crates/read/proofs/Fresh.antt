-- What the check of text and catalogue says to every call: the records that the catalogue is of, or the refusal.
use Prim.Native.Nat.{ℕ}
use mathlib.Core.Path.{◌≡◌, refl, sym, ap, subst, ◌∙◌}
use mathlib.Core.Bool.{Bool, true, false, cond}
use mathlib.Core.List.{List}
use native.Mathlib.Omega.{arith}
use Rattle.format.specs.Bytes.{same}
use Rattle.format.specs.Records.{Record}
use Rattle.format.specs.Reading.{Reading, refused_text, accept, read_text}
use Rattle.format.specs.Catalogue.{catalogue}
use Rattle.format.specs.Calls.{Answer, refused, yes, then, fresh}
use Rattle.byte_slices.proofs.Equal.{same-equal}
use Rattle.lists.proofs.Bools.{never}
use Rattle.accepted.specs.Read.{kept, records_of}
use Rattle.std.specs.Prelude.{Result, Ok, Err, ⊤}
use Rattle.format.specs.declared.Refusal.{Refusal}
use Rattle.accepted_rule.specs.Rule.{ReadsBy, is_once}
use Rattle.accepted_rule.proofs.Rule.{once-reads}
use Rattle.read.specs.Answers.{checked_of, checked_text_of, without_rule}
use Rattle.read.proofs.AnswerCases.{fresh-refused, fresh-reads}

-- a refusal is no answer
pub refused-is-no-answer : {A : Type 0} (n l : ℕ) (a : A) → refused n l ≡ yes a → ⊥
refused-is-no-answer n l a e = never cc

-- the text is read, and the catalogue is its own
pub record Current (t c : List ℕ) : Type 0 where
  pub reads : read_text t ≡ accept (records_of t)
  pub own : c ≡ catalogue (records_of t)
  pub says : fresh t c ≡ yes (records_of t)

-- a check without the rule is the check of the face
pub without-rule : (once : Bool) (a : Answer (List Record)) → without_rule (checked_text_of once a) ≡ checked_of a
unfolding without_rule checked_text_of checked_of
without-rule once (refused n l) = refl
without-rule once (yes rs) = refl

module _ (t c : List ℕ) where
  answer-refused : (a : Answer (List Record)) (r : Refusal) → checked_of a ≡ Err r → a ≡ refused r.number r.line.0
  unfolding checked_of
  answer-refused (refused m k) r e =
      let x : ◌≡◌ {A = Refusal} (record { number = m; line = record { 0 = k } }) r = cc in
      rw (← x) refl
  answer-refused (yes rs) r e = absurd (let z : ◌≡◌ {A = ℕ} 0 1 = cc in omega arith)

  -- a refusal is not fresh
  never-fresh : (n l : ℕ) → checked_of (refused n l) ≡ Ok tt → ⊥
  unfolding checked_of
  never-fresh n l e = let z : ◌≡◌ {A = ℕ} 0 1 = cc in omega arith

  pub check-fresh : checked_of (fresh t c) ≡ Ok tt → Current t c
  unfolding records_of kept
  check-fresh e = go (read_text t) refl
    where
      judged : (rs : List Record) → read_text t ≡ accept rs → (b : Bool) → same c (catalogue rs) ≡ b → Current t c
      judged rs q true s =
          let own : records_of t ≡ rs = ap kept q in
          record {
            reads = q ∙ ap accept (sym own);
            own = same-equal c (catalogue rs) s ∙ ap catalogue (sym own);
            says = fresh-reads t c rs q ∙ ap (λ b. cond b (yes rs) (refused 21 0)) s ∙ ap yes (sym own);
          }
      judged rs q false s =
          absurd (never-fresh 21 0 (sym (ap checked_of (fresh-reads t c rs q ∙ ap (λ b. cond b (yes rs) (refused 21 0)) s)) ∙ e))

      go : (r : Reading) → read_text t ≡ r → Current t c
      go (refused_text n l) q = absurd (never-fresh n l (sym (ap checked_of (fresh-refused t c n l q)) ∙ e))
      go (accept rs) q = judged rs q (same c (catalogue rs)) refl

  -- by the word of the check
  pub refused-by : {w : Result ⊤ Refusal} → w ≡ checked_of (fresh t c) → (r : Refusal) → w ≡ Err r → fresh t c ≡ refused r.number r.line.0
  refused-by said r e = answer-refused (fresh t c) r (sym said ∙ e)

  pub fresh-by : {w : Result ⊤ Refusal} → w ≡ checked_of (fresh t c) → w ≡ Ok tt → Current t c
  fresh-by said e = check-fresh (sym said ∙ e)

  -- by the word of the check that tells the rule too
  module _ {w : Result Bool Refusal} (said : w ≡ checked_text_of (is_once t) (fresh t c)) where
    told : without_rule w ≡ checked_of (fresh t c)
    told = ap without_rule said ∙ without-rule (is_once t) (fresh t c)

    pub text-refused-by : (r : Refusal) → w ≡ Err r → fresh t c ≡ refused r.number r.line.0
    unfolding without_rule
    text-refused-by r e = refused-by told r (ap without_rule e)

    pub text-fresh-by : (once : Bool) → w ≡ Ok once → Current t c
    unfolding without_rule
    text-fresh-by once e = fresh-by told (ap without_rule e)

    pub rule-by : (once : Bool) → w ≡ Ok once → ReadsBy once t
    unfolding checked_text_of
    rule-by once e = subst (λ b. ReadsBy b t) (go (fresh t c) (sym said ∙ e)) (once-reads t (records_of t) (text-fresh-by once e).reads)
      where
        go : (a : Answer (List Record)) → checked_text_of (is_once t) a ≡ Ok once → is_once t ≡ once
        go (refused n l) e = absurd (never (cc))
        go (yes rs) e = cc

  -- ---- what a call goes on with

  module _ {A : Type 0} (f : List Record → Answer A) where
    pub goes_on : Current t c → then (fresh t c) f ≡ f (records_of t)
    unfolding then
    goes_on k = ap (λ a. then a f) k.says

    pub stops : (n l : ℕ) → fresh t c ≡ refused n l → then (fresh t c) f ≡ refused n l
    unfolding then
    stops n l e = ap (λ a. then a f) e

    -- what is answered is answered over the text's own catalogue
    pub passed : (a : A) → then (fresh t c) f ≡ yes a → Current t c
    unfolding checked_of
    passed a e = go (fresh t c) refl
      where
        go : (x : Answer (List Record)) → fresh t c ≡ x → Current t c
        go (refused n l) q = absurd (refused-is-no-answer n l a (sym (stops n l q) ∙ e))
        go (yes rs) q = check-fresh (ap checked_of q)
