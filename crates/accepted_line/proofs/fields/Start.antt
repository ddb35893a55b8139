-- The walk over an accepted line starts after its kind bytes, and gives the other fields of its record.
use Prim.Native.Nat.{ℕ, suc, ◌+◌}
use mathlib.Core.Path.{◌≡◌, refl, sym, ap, ◌∙◌}
use mathlib.Core.Bool.{Bool, true, false, ◌&&◌, ◌||◌, cond}
use mathlib.Core.List.{List, [], ◌∷◌, ◌++◌, map}
use native.Mathlib.Omega.{arith}
use lib.ListN.{length, drop, get_or, replicate, length-replicate, get_or-replicate, get_or-eq_default}
use lib.Dec.{eqb, ltb}
use borrow.Author.Tests.{eqb-true, eqb-false, ltb-true, ltb-false}
use Rattle.format.specs.Bytes.{none?}
use Rattle.format.specs.Lines.{Piece, onto, cut, placed}
use Rattle.format.specs.Fields.{Field, tagged, repeats, settled, without}
use Rattle.format.specs.Records.{Record, others}
use Rattle.format.specs.Tidy.{field_text, fields_text}
use Rattle.format.specs.declared.Kind.{Kind}
use Rattle.format.specs.declared.Kind.TheVariants.{Header, ReferenceSequence, ReadGroup, Program}
use Rattle.byte_slices.specs.Upto.{upto}
use Rattle.byte_slices.specs.Stands.{Each}
use Rattle.byte_slices.proofs.Stands.{pieces-free}
use Rattle.lists.specs.Pairs.{Pairs}
use Rattle.accepted.specs.Sound.{kind}
use Rattle.format.specs.Keys.{is_key}
use Rattle.accepted.specs.Spelled as sp
use Rattle.accepted.specs.Spelled.{Good, Made, Spelled}
use Rattle.lists.proofs.Bools.{never, split, or_split}
use Rattle.lists.proofs.Pairs.{pairs-right}
use Rattle.accepted.proofs.Sound.{made-kind}
use Rattle.record_tags.specs.Others.{unkeyed, firsts}
use Rattle.record_tags.proofs.Firsts.{settled-firsts}
use Rattle.record_tags.proofs.Region.{Clean}
use Rattle.accepted_line.specs.Run.{field_of, fields_of, Runs, fields_to, fields_from, AtField}
use Rattle.accepted_line.specs.Tables.{HasTag, spread, noted, Blank, Noted, Walkable}
use Rattle.accepted_line.proofs.fields.Runs.{runs_none}
use Rattle.accepted_line.proofs.fields.Here.{laxly}
use Rattle.accepted_line.proofs.fields.Spread.{spread-once}
use Rattle.accepted_line.proofs.fields.Noted.{tables-size}

-- ---- the pieces of a line are its fields

-- pieces, a tab in front of each
glued : List (List ℕ) → List ℕ
glued [] = []
glued (p ∷ ps) = 9 ∷ p ++ glued ps

glued-cut : (s : List ℕ) → glued (cut 9 s) ≡ 9 ∷ s
unfolding cut onto glued
glued-cut [] = refl
glued-cut (b ∷ s) = go (eqb b 9) refl (cut 9 s) (glued-cut s)
  where
    go : (t : Bool) → eqb b 9 ≡ t → (ps : List (List ℕ)) → glued ps ≡ 9 ∷ s → glued (cond t ([] ∷ ps) (onto b ps)) ≡ 9 ∷ b ∷ s
    go true e ps h = rw (eqb-true b 9 e) (ap (λ l. 9 ∷ l) h)
    go false e [] h = absurd (never (cc))
    go false e (p ∷ ps) h = let z : p ++ glued ps ≡ s = cc in ap (λ l. 9 ∷ b ∷ l) z

module _ (k : Kind) where
  pieces-text : (at : ℕ) (ps : List (List ℕ)) (fs : List Field) → Pairs (λ p f. Good k p.at p.bytes f) (placed at ps) fs → glued ps ≡ fields_text fs
  unfolding Pairs placed fields_text field_text glued
  pieces-text at [] [] h = refl
  pieces-text at [] (f ∷ fs) h = absurd h
  pieces-text at (p ∷ ps) [] h = absurd h
  pieces-text at (p ∷ ps) (f ∷ fs) h = ap (λ l. 9 ∷ l ++ glued ps) h.0.spells ∙ ap (λ l. 9 ∷ f.tag₀ ∷ f.tag₁ ∷ 58 ∷ f.value.bytes ++ l) (pieces-text (at + length p + 1) ps fs h.1)

  piece-field : (p : Piece) (f : Field) → Good k p.at p.bytes f → field_of p ≡ f
  unfolding field_of
  piece-field p f g =
      ap (λ l. record { tag₀ = get_or l 0 0; tag₁ = get_or l 1 0; value = record { at = p.at + 3; bytes = drop 3 l } }) g.spells
      ∙ ap (λ n. record { tag₀ = f.tag₀; tag₁ = f.tag₁; value = record { at = n; bytes = f.value.bytes } }) (sym g.place)

  pieces-fields : (ps : List Piece) (fs : List Field) → Pairs (λ p f. Good k p.at p.bytes f) ps fs → map field_of ps ≡ fs
  unfolding Pairs
  pieces-fields [] [] h = refl
  pieces-fields [] (f ∷ fs) h = absurd h
  pieces-fields (p ∷ ps) [] h = absurd h
  pieces-fields (p ∷ ps) (f ∷ fs) h = ap (λ g. g ∷ map field_of ps) (piece-field p f h.0) ∙ ap (λ l. f ∷ l) (pieces-fields ps fs h.1)

  -- a piece holds no tab
  piece-clean : (p : Piece) (f : Field) → upto 9 p.bytes ≡ length p.bytes → Good k p.at p.bytes f → Clean f
  unfolding upto
  piece-clean p f e g = go (eqb f.tag₀ 9) (eqb f.tag₁ 9) refl refl (rw g.spells at e)
    where
      go : (t u : Bool) → eqb f.tag₀ 9 ≡ t → eqb f.tag₁ 9 ≡ u
          → cond t 0 (suc (cond u 0 (suc (suc (upto 9 f.value.bytes))))) ≡ suc (suc (suc (length f.value.bytes))) → Clean f
      go true u x y z = absurd (omega arith)
      go false true x y z = absurd (omega arith)
      go false false x y z = record { first = eqb-false f.tag₀ 9 x; second = eqb-false f.tag₁ 9 y; value = omega arith }

-- ---- the fields that are no key

-- one key
unkeyed-one : (k : Kind) (x y : ℕ) → ((a b : ℕ) → is_key k a b ≡ eqb a x && eqb b y) → (fs : List Field) → unkeyed k fs ≡ without x y fs
unfolding unkeyed without tagged
unkeyed-one k x y h [] = refl
unkeyed-one k x y h (f ∷ fs) = rw (h f.tag₀ f.tag₁, unkeyed-one k x y h fs) refl

-- two
unkeyed-reference : (fs : List Field) → unkeyed ReferenceSequence fs ≡ without 83 78 (without 76 78 fs)
unfolding unkeyed without is_key tagged
unkeyed-reference [] = refl
unkeyed-reference (f ∷ fs) = go (eqb f.tag₀ 83 && eqb f.tag₁ 78) refl (eqb f.tag₀ 76 && eqb f.tag₁ 78) (unkeyed-reference fs)
  where
    go : (t : Bool) → eqb f.tag₀ 83 && eqb f.tag₁ 78 ≡ t → (u : Bool) → unkeyed ReferenceSequence fs ≡ without 83 78 (without 76 78 fs)
        → cond (t || u) (unkeyed ReferenceSequence fs) (f ∷ unkeyed ReferenceSequence fs) ≡ without 83 78 (cond u (without 76 78 fs) (f ∷ without 76 78 fs))
    go true e true ih = ih
    go false e true ih = ih
    go true e false ih = rw e ih
    go false e false ih = rw e (ap (λ l. f ∷ l) ih)

made-others : (fs : List Field) (k : Kind) (r : Record) → Made fs k r → settled (unkeyed k fs) ≡ others r
unfolding is_key others
made-others fs k r (sp.of-header p v e g) = ap settled (unkeyed-one Header 86 78 (λ a b. refl) fs)
made-others fs k r (sp.of-reference p n e g) = ap settled (unkeyed-reference fs)
made-others fs k r (sp.of-group p e) = ap settled (unkeyed-one ReadGroup 73 68 (λ a b. refl) fs)
made-others fs k r (sp.of-program p e) = ap settled (unkeyed-one Program 73 68 (λ a b. refl) fs)

-- ---- an accepted line of fields

-- no field comes before the first
pub start_none : (at : ℕ) (s : List ℕ) → fields_to at s 3 ≡ []
unfolding fields_of
start_none at s = refl

module _ (strict : Bool) (at : ℕ) (s : List ℕ) (r : Record) (a : Spelled strict at s r) where
  fields : Runs (at + 3) (drop 3 s) a.fields
  unfolding fields_of
  fields =
      let q : at + 3 + 1 ≡ at + 4 = omega arith in
      rw a.spells
      (record {
        spells = sym (glued-cut a.rest) ∙ pieces-text a.kind (at + 4) (cut 9 a.rest) a.fields a.each;
        clean = pairs-right (λ p f. Good a.kind p.at p.bytes f) (λ p. upto 9 p.bytes ≡ length p.bytes) Clean (piece-clean a.kind) (placed (at + 4) (cut 9 a.rest)) a.fields (pieces-free 9 (at + 4) a.rest) a.each;
        places = rw q (pieces-fields a.kind (placed (at + 4) (cut 9 a.rest)) a.fields a.each);
      })

  -- the fields from there on are those that the line is spelled by
  pub accepted-fields : fields_from at s 3 ≡ a.fields
  accepted-fields = fields.places

  -- the walk may start after the kind bytes
  pub accepted-start : AtField strict at s 3
  unfolding fields_of
  accepted-start = record {
    from = omega arith;
    within = omega (arith, ap length a.spells);
    done = runs_none (at + 3);
    rest = rw fields.places fields;
    once = ap (λ l. strict && repeats l) fields.places ∙ a.once;
  }

  -- each has a tag
  pub accepted-tags : Each HasTag (fields_from at s 3)
  unfolding HasTag
  accepted-tags =
      rw accepted-fields
      (pairs-right (λ p f. Good a.kind p.at p.bytes f) (λ p. upto 9 p.bytes ≡ length p.bytes) HasTag (λ p f h g. g.tag) (placed (at + 4) (cut 9 a.rest)) a.fields (pieces-free 9 (at + 4) a.rest) a.each)

  -- from there on, the walk gives the record's other fields
  pub accepted-others : firsts (kind r) [] (fields_from at s 3) ≡ others r
  accepted-others =
      ap (λ k. firsts k [] (fields_from at s 3)) (made-kind a.fields a.kind r a.made)
      ∙ ap (firsts a.kind []) fields.places
      ∙ sym (settled-firsts a.kind a.fields)
      ∙ made-others a.fields a.kind r a.made

-- ---- what a walk is lent

-- no tag is repeated: it is forbidden, or the marks show it
pub once-start : (strict : Bool) (at : ℕ) (s : List ℕ) → AtField strict at s 3 → strict || spread (replicate 112 false) (fields_from at s 3) ≡ true → AtField true at s 3
unfolding fields_of
once-start strict at s h t = record {
  from = h.from;
  within = h.within;
  done = h.done;
  rest = h.rest;
  once =
      or_split strict (spread (replicate 112 false) (fields_from at s 3)) t
      (λ k. ap (λ b. b && repeats (fields_from at s 3)) (sym k) ∙ h.once)
      (spread-once (replicate 112 false) (fields_from at s 3) (length-replicate 112 false));
}

pub once-walkable : (at : ℕ) (s : List ℕ) → AtField true at s 3 → Walkable at s []
unfolding none?
once-walkable at s h = record { start = h; tables = λ e. absurd (never (cc)) }

-- an array of zeros
pub blank-tables : Blank (replicate 6448 0)
blank-tables = record {
  size = length-replicate {A = ℕ} 6448 0;
  zero = λ n. split (ltb n 6448) (λ l. get_or-replicate {A = ℕ} 6448 n 0 0 (ltb-true n 6448 l)) (λ l. get_or-eq_default {A = ℕ} (replicate 6448 0) 0 {n = n} (omega (arith, ltb-false n 6448 l, length-replicate {A = ℕ} 6448 0)));
}

-- tables are not none
some-tables : (t : List ℕ) → length t ≡ 6448 → none? t ≡ false
unfolding none?
some-tables [] e = absurd (omega (arith, e))
some-tables (x ∷ t) e = refl

pub noted-walkable : (strict : Bool) (at : ℕ) (s blank t : List ℕ) → AtField strict at s 3 → Each HasTag (fields_from at s 3) → Blank blank → t ≡ noted blank (at + 3) (fields_from at s 3) → Walkable at s t
noted-walkable strict at s blank t h g b e =
    let n : Noted at s t = record { blank = blank; start = b; tags = g; is = e } in
    record { start = rw (some-tables t (tables-size at s t n)) (laxly strict at s 3 h); tables = λ z. n }
