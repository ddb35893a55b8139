-- The laws of seals, by those of the tidy text.
use Prim.Native.Nat.{ℕ, ◌≤◌}
use mathlib.Core.Path.{◌≡◌, refl, sym, ap, ◌∙◌}
use mathlib.Core.Bool.{Bool, true, false, cond}
use mathlib.Core.Logic.{inl, inr}
use mathlib.Core.List.{List}
use lib.ListN.{length}
use native.Mathlib.Omega.{arith}
use Rattle.format.specs.Bytes.{same}
use Rattle.format.specs.Records.{Record}
use Rattle.format.specs.Reading.{accept, read_text}
use Rattle.format.specs.Tidy.{tidy, unwritable}
use Rattle.format.specs.Calls.{Answer, refused, yes, then, read_answer, records, fresh, fitting, writing, tidying}
use Rattle.byte_slices.proofs.Equal.{same-equal, same_self}
use Rattle.lists.proofs.Bools.{never}
use Rattle.tidy_laws.specs.Bare.{Equal}
use Rattle.tidy_laws.specs.Writable.{Writable}
use Rattle.tidy_laws.specs.Faithful.{Allowed, Kept, Holds, Faithful}
use Rattle.tidy_laws.proofs.Answered.{then-yes, read_of, fresh-yes, writing-yes}
use Rattle.tidy_laws.proofs.Gathered.{text-gathered, gathered-writable}
use Rattle.tidy_laws.proofs.Tidy.{tidy-tells}
use Rattle.tidy_laws.proofs.Bare.{tidy-equal}
use Rattle.tidy_laws.proofs.Faithful.{faithful}
use Rattle.read.proofs.AnswerCases.{fits}
use Rattle.format.specs.Sha256.{sha256}
use Rattle.sha256.proofs.Laws.{digest-length}
use Rattle.format.specs.Seal.{sealing, own_seal, checking_sealed}
use Rattle.seal_laws.specs.Sealed.{EqualOrCollision, sealed, Sealed}

-- ---- what has been sealed

pub record Given (t s : List ℕ) (rs : List Record) : Type 0 where
  pub digest : s ≡ sha256 (tidy rs)
  pub fits : length (tidy rs) ≤ 16777216

one-yes : (x y : List ℕ) → ◌≡◌ {A = Answer (List ℕ)} (yes x) (yes y) → x ≡ y
one-yes x y e = cc

given : (t s : List ℕ) (rs : List Record) (room : ℕ) → records t ≡ yes rs → sealing t room ≡ yes s → Given t s rs
unfolding sealing tidying then
given t s rs room r e =
    let g = then-yes (tidying t room) (λ x. yes (sha256 x)) s e in
    let w = writing-yes room (unwritable 0 rs) (tidy rs) g.value (sym (ap (λ a. then a (λ rs. writing room (unwritable 0 rs) (tidy rs))) r) ∙ g.first) in
    record { digest = sym (one-yes (sha256 g.value) s g.second) ∙ ap sha256 w.2; fits = w.1 }

-- ---- texts that have a seal

module _ (t : List ℕ) (rs : List Record) (a : Allowed t rs) where
  kept : Kept t rs
  kept = faithful.kept t rs a

  small : length (tidy rs) ≤ 16777216
  small = omega (arith, kept.long, a.small)

  has : sealed t ≡ yes (sha256 (tidy rs))
  unfolding sealed sealing then
  has = ap (λ x. then x (λ s. yes (sha256 s))) (kept.answers 16777216 ∙ fits 16777216 (tidy rs) small)

  again : sealed (tidy rs) ≡ sealed t
  unfolding sealed sealing then
  again = ap (λ x. then x (λ s. yes (sha256 s))) (kept.holds.again 16777216 ∙ sym (kept.answers 16777216))

one : (t u : List ℕ) (rs qs : List Record) → Allowed t rs → Allowed u qs → Equal rs qs → sealed t ≡ sealed u
one t u rs qs a b e = has t rs a ∙ ap (λ x. yes (sha256 x)) (tidy-equal rs qs e) ∙ sym (has u qs b)

long : (t : List ℕ) (room : ℕ) (s : List ℕ) → sealing t room ≡ yes s → length s ≡ 32
unfolding sealing
long t room s e =
    let g = then-yes (tidying t room) (λ x. yes (sha256 x)) s e in
    ap length (sym (one-yes (sha256 g.value) s g.second)) ∙ digest-length g.value

-- ---- one seal

writable : (t : List ℕ) (rs : List Record) → records t ≡ yes rs → Writable rs
writable t rs r = gathered-writable t rs (text-gathered t rs (read_of t rs r))

told : (t u s : List ℕ) (rs qs : List Record) (room more : ℕ) → records t ≡ yes rs → records u ≡ yes qs
    → sealing t room ≡ yes s → sealing u more ≡ yes s → EqualOrCollision rs qs
told t u s rs qs room more r q e f = go (same (tidy rs) (tidy qs)) refl
  where
    go : (b : Bool) → same (tidy rs) (tidy qs) ≡ b → EqualOrCollision rs qs
    go true h = inl (tidy-tells rs qs (writable t rs r) (writable u qs q) (given t s rs room r e).fits (same-equal (tidy rs) (tidy qs) h))
    go false h =
        inr (record {
          differ = λ x. other (ap (λ y. same y (tidy qs)) x ∙ same_self (tidy qs)) h;
          collide = sym (given t s rs room r e).digest ∙ (given u s qs more q f).digest;
        })
      where
        other : {b : Bool} → b ≡ true → b ≡ false → ⊥
        other p n = never (let z : true ≡ false = sym p ∙ n in cc)

-- ---- a text that passes

own-seal : (s own : List ℕ) (rs qs : List Record) → own_seal s own rs ≡ yes qs → (s ≡ own) × (rs ≡ qs)
unfolding own_seal
own-seal s own rs qs e = go (same s own) refl e
  where
    go : (b : Bool) → same s own ≡ b → cond {A = Answer (List Record)} b (yes rs) (refused 33 0) ≡ yes qs → (s ≡ own) × (rs ≡ qs)
    go true q e = (same-equal s own q, cc)
    go false q e = absurd (never (cc))

passed : (t u c s : List ℕ) (rs qs : List Record) (room more : ℕ) → records t ≡ yes rs → sealing t room ≡ yes s → checking_sealed u c s more ≡ yes qs
    → EqualOrCollision rs qs
unfolding checking_sealed records read_answer
passed t u c s rs qs room more r e k =
    let f = then-yes (fresh u c) (λ rs. then (sealing u more) (λ own. own_seal s own rs)) qs k in
    let g = then-yes (sealing u more) (λ own. own_seal s own f.value) qs f.second in
    let o = own-seal s g.value f.value qs g.second in
    let read : read_text u ≡ accept qs = fresh-yes u c f.value f.first ∙ ap accept o.1 in
    told t u s rs qs room more r (ap read_answer read) e (g.first ∙ ap yes (sym o.0))

pub laws : Sealed
laws = record { has = has; one = one; again = again; long = long; told = told; passed = passed }
