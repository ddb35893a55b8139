-- The definition's steps: the first refusal is the verdict.
use Prim.Native.Nat.{ℕ, zero, suc}
use mathlib.Core.Path.{◌≡◌, refl, sym, ap}
use mathlib.Core.Bool.{true, false, not, ◌&&◌, cond}
use mathlib.Core.List.{List}
use lib.ListN.{length}
use lib.Dec.{eqb, ltb}
use borrow.Author.Tests.{eqb-true}
use Rattle.format.specs.Bytes.{all, distinct}
use Rattle.format.specs.Records.{Record}
use Rattle.format.specs.Reading.{read_text, refused_text}
use Rattle.format.specs.Programs.{programs, links, tangled}
use Rattle.format.specs.Calls.{read_answer, records, untangled}
use Rattle.std.specs.Prelude.{Result, Err, ⊤}
use Rattle.program_parents.specs.Parents.{tangle_of}
use Rattle.program_parents.proofs.Road.{err-tangled, no-err-untangled}
use Rattle.accepted.specs.Read.{is_accepted, records_of}
use Rattle.lists.proofs.Bools.{and_left, and_right}
use Rattle.accepted.proofs.Read.{accepted-reads}
use Rattle.format.specs.References.{sq_list}
use Rattle.format.specs.Merge.{Which, Verdict, merged, unfit, unmerged, about, is_joined, assigns, covers, assigned, images, shapes, judged_merge, untangled_records}

-- ---- one text

module _ (w : Which) (f : List Record → Verdict) where
  pub unread : (t : List ℕ) (n l : ℕ) → read_text t ≡ refused_text n l → about w (records t) f ≡ unfit w n l
  unfolding records read_answer about
  unread t n l e = ap (λ r. about w (read_answer r) f) e

  pub read : (t : List ℕ) → is_accepted (read_text t) ≡ true → about w (records t) f ≡ f (records_of t)
  unfolding records read_answer about
  read t h = ap (λ r. about w (read_answer r) f) (accepted-reads t h)

  module _ (rs : List Record) (r : Result ⊤ ℕ) (is : r ≡ tangle_of (links (programs rs))) where
    pub tangles : (n : ℕ) → r ≡ Err n → about w (untangled_records rs) f ≡ unfit w n 0
    unfolding untangled_records about untangled
    tangles n e = let told = err-tangled (links (programs rs)) tt r is n e in go n told.0 told.1
      where
        go : (n : ℕ) → n ≡ tangled (links (programs rs)) → (n ≡ 0 → ⊥) → about w (untangled rs (tangled (links (programs rs)))) f ≡ unfit w n 0
        go zero t d = absurd (d refl)
        go (suc n) t d = ap (λ k. about w (untangled rs k) f) (sym t)

    pub flows : ((n : ℕ) → r ≡ Err n → ⊥) → about w (untangled_records rs) f ≡ f rs
    unfolding untangled_records about untangled
    flows d = ap (λ k. about w (untangled rs k) f) (no-err-untangled (links (programs rs)) tt r is d)

-- ---- how they go together

module _ (a b m : List Record) (la lb : List ℕ) where
  abbrev rest : Verdict
  rest = cond (not (images la (shapes a) (shapes m) && images lb (shapes b) (shapes m))) (unmerged 32) merged

  pub judged-30 : is_joined (sq_list a) (sq_list b) (sq_list m) ≡ false → judged_merge a b m la lb ≡ unmerged 30
  unfolding judged_merge
  judged-30 e = rw e refl

  module _ (j : is_joined (sq_list a) (sq_list b) (sq_list m) ≡ true) where
    pub judged-31 : assigned (length (shapes a)) (length (shapes b)) (length (shapes m)) la lb ≡ false → judged_merge a b m la lb ≡ unmerged 31
    unfolding judged_merge
    judged-31 e = rw (j, e) refl

    module _ (s : assigned (length (shapes a)) (length (shapes b)) (length (shapes m)) la lb ≡ true) where
      pub judged-first : images la (shapes a) (shapes m) ≡ false → judged_merge a b m la lb ≡ unmerged 32
      unfolding judged_merge
      judged-first e = rw (j, s, e) refl

      pub judged-second : images la (shapes a) (shapes m) ≡ true → images lb (shapes b) (shapes m) ≡ false → judged_merge a b m la lb ≡ unmerged 32
      unfolding judged_merge
      judged-second e d = rw (j, s, e, d) refl

      pub judged-merged : images la (shapes a) (shapes m) ≡ true → images lb (shapes b) (shapes m) ≡ true → judged_merge a b m la lb ≡ merged
      unfolding judged_merge
      judged-merged e d = rw (j, s, e, d) refl

-- ---- the lists are in order

pub assigns-true : (n m : ℕ) (list : List ℕ) → assigns n m list ≡ true → (length list ≡ n) × (all (λ k. ltb k m) list ≡ true)
unfolding assigns
assigns-true n m list h =
    let x = and_left (eqb (length list) n && all (λ k. ltb k m) list) (distinct list) h in
    (eqb-true (length list) n (and_left (eqb (length list) n) (all (λ k. ltb k m) list) x), and_right (eqb (length list) n) (all (λ k. ltb k m) list) x)

module _ (a b m : ℕ) (la lb : List ℕ) (h : assigned a b m la lb ≡ true) where
  both : assigns a m la && assigns b m lb ≡ true
  unfolding assigned
  both = and_left (assigns a m la && assigns b m lb) (covers m la lb) h

  pub first-list : (length la ≡ a) × (all (λ k. ltb k m) la ≡ true)
  first-list = assigns-true a m la (and_left (assigns a m la) (assigns b m lb) both)

  pub second-list : (length lb ≡ b) × (all (λ k. ltb k m) lb ≡ true)
  second-list = assigns-true b m lb (and_right (assigns a m la) (assigns b m lb) both)
