-- A merge is accepted exactly if document 02's conditions hold; each number is given exactly if its condition is the first that fails.
use Prim.Native.Nat.{ℕ}
use mathlib.Core.Path.{◌≡◌, refl, sym, ap, ◌∙◌}
use mathlib.Core.Logic.{◌↔◌, ◌⊎◌, inl, inr}
use mathlib.Core.Bool.{Bool, true, false, not, ◌&&◌, cond, false≢true}
use mathlib.Core.List.{List, [], ◌∷◌}
use mathlib.Core.Option.{Option, none, some}
use native.Mathlib.Omega.{arith}
use lib.ListN.{length}
use Rattle.format.specs.Records.{Record}
use Rattle.format.specs.Programs.{programs, links, tangled}
use Rattle.format.specs.References.{sq_list}
use Rattle.format.specs.Calls.{Answer, refused, yes, records, untangled}
use Rattle.format.specs.Merge.{Which, Verdict, merged, unfit, unmerged, is_joined, assigned, images, shapes, judged_merge, about, untangled_records, judging_merge}
use Rattle.accepted.specs.Read.{kept, records_of}
use Rattle.lists.proofs.Bools.{never, and_left, and_right}
use Rattle.tidy_laws.proofs.Answered.{read_of, untangled-yes}
use Rattle.merge_laws.specs.Fit.{parent_links, Fit, Fits}
use Rattle.merge_laws.specs.IsMerge.{IsMerge}
use Rattle.merge_laws.specs.Exactly.{text_checks, first_refusal, JoinsTexts, ListsTexts, ImagesTexts, Exactly, AllExactly}
use Rattle.merge_laws.proofs.Members.{both}
use Rattle.merge_laws.proofs.Joins.{joins}
use Rattle.merge_laws.proofs.Lists.{lists-are}
use Rattle.merge_laws.proofs.Links.{untangled-is}
use Rattle.merge_laws.proofs.Images.{shape-count, images-are}

-- ---- texts that are fit

pub records-of : (t : List ℕ) (rs : List Record) → records t ≡ yes rs → records_of t ≡ rs
unfolding records_of kept
records-of t rs e = ap kept (read_of t rs e)

fit-untangled : (t : List ℕ) → Fit t → untangled_records (records_of t) ≡ yes (records_of t)
unfolding untangled_records parent_links untangled
fit-untangled t f = rw ((untangled-is (links (programs (records_of t)))).1 (f.linked, f.acyclic)) refl

to-fit : (t : List ℕ) (qs : List Record) → records t ≡ yes (records_of t) → untangled_records (records_of t) ≡ yes qs → Fit t
unfolding untangled_records parent_links
to-fit t qs e u =
    let ls = links (programs (records_of t)) in
    let z = (untangled-is ls).0 (untangled-yes (records_of t) qs (tangled ls) u).0 in
    record { accepted = e; linked = z.0; acyclic = z.1 }

-- ---- the first refusal

-- reading accepts, or refuses
read-or : (t : List ℕ) {C : Type 0} → ((n l : ℕ) → records t ≡ refused n l → C) → (records t ≡ yes (records_of t) → C) → C
read-or t {C} f g = go (records t) refl
  where
    go : (x : Answer (List Record)) → records t ≡ x → C
    go (refused n l) e = f n l e
    go (yes rs) e = g (e ∙ ap yes (sym (records-of t rs e)))

-- so does the check of the programs
graph-or : (rs : List Record) {C : Type 0} → ((n l : ℕ) → untangled_records rs ≡ refused n l → C) → (untangled_records rs ≡ yes rs → C) → C
unfolding untangled_records
graph-or rs {C} f g = go (untangled_records rs) refl
  where
    go : (x : Answer (List Record)) → untangled_records rs ≡ x → C
    go (refused n l) e = f n l e
    go (yes qs) e = g (e ∙ ap yes (sym (untangled-yes rs qs (tangled (links (programs rs))) e).1))

-- what is refused is refused for one text
abbrev Refusal : Option Verdict → Type 0
Refusal none = Unit
Refusal (some v) = (w : Which) × (n : ℕ) × (l : ℕ) × (v ≡ unfit w n l)

refused-first : (cs : List (Which × Answer (List Record))) → Refusal (first_refusal cs)
unfolding first_refusal
refused-first [] = tt
refused-first ((w, refused n l) ∷ cs) = (w, n, l, refl)
refused-first ((w, yes rs) ∷ cs) = refused-first cs

otherwise : Option Verdict → Verdict → Verdict
otherwise none v = v
otherwise (some w) v = w

module _ (a b m list_a list_b : List ℕ) where
  abbrev judged : Verdict
  judged = judged_merge (records_of a) (records_of b) (records_of m) list_a list_b

  first-judged : judging_merge a b m list_a list_b ≡ otherwise (first_refusal (text_checks a b m)) judged
  unfolding judging_merge about first_refusal text_checks otherwise
  first-judged =
      read-or a (λ n l e. rw e refl) (λ x.
      read-or b (λ n l e. rw (x, e) refl) (λ y.
      read-or m (λ n l e. rw (x, y, e) refl) (λ z.
      graph-or (records_of a) (λ n l e. rw (x, y, z, e) refl) (λ u.
      graph-or (records_of b) (λ n l e. rw (x, y, z, u, e) refl) (λ v.
      graph-or (records_of m) (λ n l e. rw (x, y, z, u, v, e) refl) (λ w. rw (x, y, z, u, v, w) refl))))))

  unrefused : Fits a b m → first_refusal (text_checks a b m) ≡ none
  unfolding first_refusal text_checks
  unrefused f =
      rw (f.fit_a.accepted, f.fit_b.accepted, f.fit_merged.accepted, fit-untangled a f.fit_a, fit-untangled b f.fit_b, fit-untangled m f.fit_merged) refl

  fits : first_refusal (text_checks a b m) ≡ none → Fits a b m
  unfolding first_refusal text_checks
  fits h =
      read-or a (λ n l e. absurd (never (cc (rw e at h)))) (λ x.
      read-or b (λ n l e. absurd (never (cc (rw (x, e) at h)))) (λ y.
      read-or m (λ n l e. absurd (never (cc (rw (x, y, e) at h)))) (λ z.
      graph-or (records_of a) (λ n l e. absurd (never (cc (rw (x, y, z, e) at h)))) (λ u.
      graph-or (records_of b) (λ n l e. absurd (never (cc (rw (x, y, z, u, e) at h)))) (λ v.
      graph-or (records_of m) (λ n l e. absurd (never (cc (rw (x, y, z, u, v, e) at h))))
      (λ w. record { fit_a = to-fit a (records_of a) x u; fit_b = to-fit b (records_of b) y v; fit_merged = to-fit m (records_of m) z w }))))))

-- ---- three tests in a row

unfoldable verdict : Bool → Bool → Bool → Verdict
verdict x y z = cond (not x) (unmerged 30) (cond (not y) (unmerged 31) (cond (not z) (unmerged 32) merged))

number : Verdict → ℕ
number merged = 0
number (unfit w n l) = 1
number (unmerged n) = n

-- it is about no single text
verdict-joint : (x y z : Bool) (w : Which) (n l : ℕ) → verdict x y z ≡ unfit w n l → ⊥
unfolding verdict
verdict-joint true true true w n l e = never (cc)
verdict-joint true true false w n l e = never (cc)
verdict-joint true false z w n l e = never (cc)
verdict-joint false y z w n l e = never (cc)

-- it has one of three numbers
verdict-numbers : (x y z : Bool) (n : ℕ) → verdict x y z ≡ unmerged n → (n ≡ 30) ⊎ (n ≡ 31) ⊎ (n ≡ 32)
unfolding verdict
verdict-numbers true true true n e = absurd (never (cc))
verdict-numbers true true false n e = inr (inr (cc))
verdict-numbers true false z n e = inr (inl (cc))
verdict-numbers false y z n e = inl (cc)

-- a verdict by its number
says-0 : (x y z : Bool) → number (verdict x y z) ≡ 0 → (x ≡ true) × (y ≡ true) × (z ≡ true)
unfolding number verdict
says-0 true true true e = (refl, refl, refl)
says-0 true true false e = absurd (omega arith)
says-0 true false z e = absurd (omega arith)
says-0 false y z e = absurd (omega arith)

says-30 : (x y z : Bool) → number (verdict x y z) ≡ 30 → x ≡ false
unfolding number verdict
says-30 true true true e = absurd (omega arith)
says-30 true true false e = absurd (omega arith)
says-30 true false z e = absurd (omega arith)
says-30 false y z e = refl

says-31 : (x y z : Bool) → number (verdict x y z) ≡ 31 → (x ≡ true) × (y ≡ false)
unfolding number verdict
says-31 true true true e = absurd (omega arith)
says-31 true true false e = absurd (omega arith)
says-31 true false z e = (refl, refl)
says-31 false y z e = absurd (omega arith)

says-32 : (x y z : Bool) → number (verdict x y z) ≡ 32 → (x ≡ true) × (y ≡ true) × (z ≡ false)
unfolding number verdict
says-32 true true true e = absurd (omega arith)
says-32 true true false e = (refl, refl, refl)
says-32 true false z e = absurd (omega arith)
says-32 false y z e = absurd (omega arith)

-- ---- a test and what it says

fails : {P : Type 0} (t : Bool) → (t ≡ true) ↔ P → t ≡ false → P → ⊥
fails t i e p = false≢true (sym e ∙ i.1 p)

not_so : {P : Type 0} (t : Bool) → (t ≡ true) ↔ P → (P → ⊥) → t ≡ false
not_so true i f = absurd (f (i.0 refl))
not_so false i f = refl

module _ (a b m list_a list_b : List ℕ) where
  abbrev sq : Bool
  sq = is_joined (sq_list (records_of a)) (sq_list (records_of b)) (sq_list (records_of m))

  abbrev hits : Bool
  hits = assigned (length (shapes (records_of a))) (length (shapes (records_of b))) (length (shapes (records_of m))) list_a list_b

  abbrev kept-programs : Bool
  kept-programs = images list_a (shapes (records_of a)) (shapes (records_of m)) && images list_b (shapes (records_of b)) (shapes (records_of m))

  sq-is : (sq ≡ true) ↔ JoinsTexts a b m
  unfolding JoinsTexts
  sq-is = joins (sq_list (records_of a)) (sq_list (records_of b)) (sq_list (records_of m))

  hits-is : (hits ≡ true) ↔ ListsTexts a b m list_a list_b
  unfolding ListsTexts
  hits-is =
      rw (← shape-count (records_of a), ← shape-count (records_of b), ← shape-count (records_of m))
      (lists-are (length (shapes (records_of a))) (length (shapes (records_of b))) (length (shapes (records_of m))) list_a list_b)

  module _ (f : Fits a b m) where
    first : judging_merge a b m list_a list_b ≡ verdict sq hits kept-programs
    unfolding judged_merge verdict otherwise
    first = first-judged a b m list_a list_b ∙ ap (λ o. otherwise o (judged a b m list_a list_b)) (unrefused a b m list_a list_b f)

    numbered : (v : Verdict) → judging_merge a b m list_a list_b ≡ v → number (verdict sq hits kept-programs) ≡ number v
    numbered v e = ap number (sym first ∙ e)

    programs-is : ListsTexts a b m list_a list_b → (kept-programs ≡ true) ↔ ImagesTexts a b m list_a list_b
    unfolding ListsTexts ImagesTexts parent_links
    programs-is l =
        let x : Bool = images list_a (shapes (records_of a)) (shapes (records_of m)) in
        let y : Bool = images list_b (shapes (records_of b)) (shapes (records_of m)) in
        let i = images-are (records_of a) (records_of m) list_a f.fit_a.linked l.of_a.count in
        let j = images-are (records_of b) (records_of m) list_b f.fit_b.linked l.of_b.count in
        (λ e. (i.0 (and_left x y e), j.0 (and_right x y e)), λ h. both x y (i.1 h.0) (j.1 h.1))

    is-merge : number (verdict sq hits kept-programs) ≡ 0 → IsMerge (records_of a) (records_of b) (records_of m) list_a list_b
    unfolding JoinsTexts ListsTexts ImagesTexts
    is-merge e =
        let s = says-0 sq hits kept-programs e in
        let l = hits-is.0 s.1 in
        let p = (programs-is l).0 s.2 in
        record { references = sq-is.0 s.0; lists = l; images_a = p.0; images_b = p.1 }

    merge-is : IsMerge (records_of a) (records_of b) (records_of m) list_a list_b → judging_merge a b m list_a list_b ≡ merged
    unfolding JoinsTexts ListsTexts ImagesTexts verdict
    merge-is i = first ∙ rw (sq-is.1 i.references, hits-is.1 i.lists, (programs-is i.lists).1 (i.images_a, i.images_b)) refl

  -- a verdict that is about all three texts
  fit_of : (v : Verdict) → judging_merge a b m list_a list_b ≡ v → ((w : Which) (n l : ℕ) → v ≡ unfit w n l → ⊥) → Fits a b m
  unfolding first_refusal otherwise
  fit_of v e j = go (first_refusal (text_checks a b m)) refl (refused-first (text_checks a b m))
    where
      go : (o : Option Verdict) → first_refusal (text_checks a b m) ≡ o → Refusal o → Fits a b m
      go none q r = fits a b m list_a list_b q
      go (some u) q r = absurd (j r.0 r.1 r.2 (sym e ∙ first-judged a b m list_a list_b ∙ ap (λ o. otherwise o (judged a b m list_a list_b)) q ∙ r.3))

  unfit-first : (w : Which) (n l : ℕ) → judging_merge a b m list_a list_b ≡ unfit w n l → first_refusal (text_checks a b m) ≡ some (unfit w n l)
  unfolding otherwise
  unfit-first w n l e = go (first_refusal (text_checks a b m)) refl
    where
      go : (o : Option Verdict) → first_refusal (text_checks a b m) ≡ o → first_refusal (text_checks a b m) ≡ some (unfit w n l)
      go none q = absurd (verdict-joint sq hits kept-programs w n l (sym (first (fits a b m list_a list_b q)) ∙ e))
      go (some u) q = q ∙ ap some (sym (first-judged a b m list_a list_b ∙ ap (λ o. otherwise o (judged a b m list_a list_b)) q) ∙ e)

  exact : Exactly a b m list_a list_b (judging_merge a b m list_a list_b)
  unfolding number verdict otherwise
  exact =
      record {
        accepted = (λ e. let f = fit_of merged e (λ w n l x. never (cc)) in (f, is-merge f (numbered f merged e)), λ h. merge-is h.0 h.1);
        unfitted = λ w n l. (unfit-first w n l, λ e. first-judged a b m list_a list_b ∙ ap (λ o. otherwise o (judged a b m list_a list_b)) e);
        fitted = (fits a b m list_a list_b, unrefused a b m list_a list_b);
        numbers = λ n e. verdict-numbers sq hits kept-programs n (sym (first (fit_of (unmerged n) e (λ w k l x. never (cc)))) ∙ e);
        number30 = (
          λ e. let f = fit_of (unmerged 30) e (λ w n l x. never (cc)) in (f, fails sq sq-is (says-30 sq hits kept-programs (numbered f (unmerged 30) e))),
          λ h. first h.0 ∙ rw (not_so sq sq-is h.1) refl,
        );
        number31 = (
          λ e.
              let f = fit_of (unmerged 31) e (λ w n l x. never (cc)) in
              let s = says-31 sq hits kept-programs (numbered f (unmerged 31) e) in
              (f, sq-is.0 s.0, fails hits hits-is s.1),
          λ h. first h.0 ∙ rw (sq-is.1 h.1, not_so hits hits-is h.2) refl,
        );
        number32 = (
          λ e.
              let f = fit_of (unmerged 32) e (λ w n l x. never (cc)) in
              let s = says-32 sq hits kept-programs (numbered f (unmerged 32) e) in
              let l = hits-is.0 s.1 in
              (f, sq-is.0 s.0, l, fails kept-programs (programs-is f l) s.2),
          λ h. first h.0 ∙ rw (sq-is.1 h.1, hits-is.1 h.2, not_so kept-programs (programs-is h.0 h.2) h.3) refl,
        );
      }

pub all-exactly : AllExactly
unfolding AllExactly
all-exactly a b m list_a list_b = exact a b m list_a list_b
