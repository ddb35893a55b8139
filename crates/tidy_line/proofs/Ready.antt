-- An accepted line that is ready: its keys come first, and it can be written.
use Prim.Native.Nat.{ℕ, suc, ◌+◌, ◌<◌}
use mathlib.Core.Path.{◌≡◌, refl, sym, ap, ◌∙◌}
use mathlib.Core.Bool.{Bool, true, false, not, ◌&&◌, cond}
use mathlib.Core.List.{List, [], ◌∷◌, ◌++◌}
use mathlib.Core.Option.{some}
use native.Mathlib.Omega.{arith}
use lib.ListN.{length, take, drop, get_or}
use lib.Seq.{get_or-drop, drop-drop, take-append_seam}
use lib.Dec.{eqb}
use borrow.Author.Tests.{eqb-true, eqb-false, ne_eqb, not-true}
use Rattle.format.specs.Bytes.{digit, letter, between, any}
use Rattle.format.specs.Lines.{Piece}
use Rattle.format.specs.Fields.{Field, tagged, later, last_of}
use Rattle.format.specs.Records.{Record}
use Rattle.format.specs.Tidy.{marks, name_first, name_later, is_name, is_writable, field_text, fields_text}
use Rattle.format.specs.declared.Kind.{Kind}
use Rattle.format.specs.declared.Kind.TheVariants.{Header, ReferenceSequence, ReadGroup, Program, Comment}
use Rattle.byte_slices.specs.Upto.{upto}
use Rattle.accepted.specs.Spelled as sp
use Rattle.accepted.specs.Spelled.{Made, Spelled, AcceptedLine}
use Rattle.lists.proofs.Bools.{never, and_left, and_right}
use Rattle.accepted_line.specs.Run.{fields_from}
use Rattle.accepted_line.specs.Next.{field_length}
use Rattle.accepted_line.proofs.fields.Here.{Found}
use Rattle.accepted_line.specs.Found.{kind_by}
use Rattle.accepted_line.proofs.Finds.{first_byte}
use Rattle.tidy_laws.proofs.Once.{last-absent}
use Rattle.tidy_name.specs.Runs.{later_run, name_run}
use Rattle.tidy_name.proofs.Runs.{name-taken}
use Rattle.tidy_neat.specs.Neat.{has_tag, plain_length, neat, named_before, named_sequence, ready}
use Rattle.tidy_line.proofs.Neat.{First, own, first, rest-is, start, fields, once}

-- ---- a name and a tab

tab-never : name_later 9 ≡ false
unfolding name_later name_first digit letter between any marks
tab-never = refl

no-tab : (b : ℕ) → name_later b ≡ true → eqb b 9 ≡ false
no-tab b e = ne_eqb b 9 (λ q. apart (sym e ∙ ap name_later q ∙ tab-never))
  where
    apart : true ≡ false → ⊥
    apart z = never (cc)

-- a run that ends at a tab has no tab before
later-upto : (s : List ℕ) → get_or s (later_run s) 0 ≡ 9 → upto 9 s ≡ later_run s
unfolding upto later_run
later-upto [] h = refl
later-upto (b ∷ s) h = go (name_later b) refl h (later-upto s)
  where
    go : (t : Bool) → name_later b ≡ t → get_or (b ∷ s) (cond t (suc (later_run s)) 0) 0 ≡ 9 → (get_or s (later_run s) 0 ≡ 9 → upto 9 s ≡ later_run s)
        → cond (eqb b 9) 0 (suc (upto 9 s)) ≡ cond t (suc (later_run s)) 0
    go true e h ih = rw (no-tab b e) (ap suc (ih h))
    go false e h ih = rw h refl

first-later : (b : ℕ) → name_first b ≡ true → name_later b ≡ true
unfolding name_later
first-later b e = rw e refl

name-upto : (s : List ℕ) → get_or s (name_run s) 0 ≡ 9 → upto 9 s ≡ name_run s
unfolding upto name_run
name-upto [] h = refl
name-upto (b ∷ s) h = go (name_first b) refl h
  where
    go : (t : Bool) → name_first b ≡ t → get_or (b ∷ s) (cond t (suc (later_run s)) 0) 0 ≡ 9 → cond (eqb b 9) 0 (suc (upto 9 s)) ≡ cond t (suc (later_run s)) 0
    go true e h = rw (no-tab b (first-later b e)) (ap suc (later-upto s h))
    go false e h = rw h refl

-- ---- which records can be written

made-writable : (fs : List Field) (k : Kind) (r : Record) → (k ≡ ReferenceSequence → (p : Piece) → last_of 83 78 fs ≡ some p → is_name p.bytes ≡ true) → Made fs k r → is_writable r ≡ true
unfolding is_writable
made-writable fs k r f (sp.of-header p v e g) = refl
made-writable fs k r f (sp.of-reference p n e g) = f refl p e
made-writable fs k r f (sp.of-group p e) = refl
made-writable fs k r f (sp.of-program p e) = refl

first-name : (fs : List Field) (f : First 83 78 fs) → last_of 83 78 fs ≡ some f.piece
unfolding last_of later tagged
first-name fs f = ap (last_of 83 78) f.is ∙ rw (last-absent 83 78 f.rest f.absent) refl

-- ---- a line of fields

module _ (at : ℕ) (s : List ℕ) (r : Record) (a : Spelled true at s r) where
  module _ (h : named_sequence s ≡ true) where
    -- the name's length
    abbrev n : ℕ
    n = name_run (drop 7 s)

    sn : has_tag s 3 83 78 ≡ true
    unfolding named_sequence
    sn = and_left (has_tag s 3 83 78) (named_before s n) h

    after : (0 < n) × (plain_length s (7 + n) ≡ true) × (get_or s (7 + n) 0 ≡ 9)
    unfolding named_sequence named_before
    after =
        let p = plain_length s (7 + n) in
        let t = eqb (get_or s (7 + n) 0) 9 in
        let b = and_right (has_tag s 3 83 78) (named_before s n) h in
        let z = eqb-false n 0 (not-true (eqb n 0) (and_left (not (eqb n 0)) (p && t) b)) in
        let q = and_right (not (eqb n 0)) (p && t) b in
        (omega (arith, z), and_left p t q, eqb-true _ _ (and_right p t q))

    -- its field
    abbrev name : Found true at s 3
    name = own at s 3 (start at s r a) (once at s r a) 83 78 sn

    abbrev value : List ℕ
    value = name.field.value.bytes

    abbrev behind : List ℕ
    behind = fields_text (fields_from at s (3 + field_length name.field))

    spelled : drop 3 s ≡ 9 ∷ 83 ∷ 78 ∷ 58 ∷ (value ++ behind)
    unfolding fields_text field_text
    spelled = (start at s r a).rest.spells ∙ ap fields_text (rest-is at s 3 (start at s r a) (once at s r a) 83 78 sn)

    seventh : drop 7 s ≡ value ++ behind
    seventh = sym (drop-drop 4 3 s) ∙ ap (drop 4) spelled

    -- the tab after it
    tab : upto 9 (drop 4 s) ≡ 3 + n
    unfolding upto
    tab =
        let t : get_or (drop 7 s) n 0 ≡ 9 = get_or-drop 7 s n 0 ∙ after.2 in
        let q : upto 9 (drop 4 s) ≡ suc (suc (suc (upto 9 (drop 7 s)))) =
        sym (ap (upto 9) (drop-drop 1 3 s)) ∙ ap (λ l. upto 9 (drop 1 l)) spelled ∙ ap (λ l. suc (suc (suc (upto 9 l)))) (sym seventh) in
        omega (arith, q, name-upto (drop 7 s) t)

    ends : n ≡ length value
    ends = omega (arith, tab, name.here.end, name.here.size)

    value-is : take n (drop 7 s) ≡ value
    value-is = ap (λ m. take m (drop 7 s)) ends ∙ ap (take (length value)) seventh ∙ take-append_seam value behind

    value-name : is_name value ≡ true
    value-name = sym (ap is_name value-is) ∙ name-taken (drop 7 s) after.0

    is-neat : neat ReferenceSequence s ≡ true
    unfolding neat
    is-neat =
        let q : plain_length s (4 + upto 9 (drop 4 s)) ≡ true = ap (λ m. plain_length s (4 + m)) tab ∙ ap (plain_length s) (same n) ∙ after.1 in
        rw (sn, q) refl
      where
        same : (n : ℕ) → 4 + (3 + n) ≡ 7 + n
        same n = omega arith

    last_name : (p : Piece) → last_of 83 78 a.fields ≡ some p → is_name p.bytes ≡ true
    last_name p e =
        let l : last_of 83 78 a.fields ≡ some name.field.value =
        sym (ap (last_of 83 78) (fields at s r a)) ∙ first-name (fields_from at s 3) (first at s 3 (start at s r a) (once at s r a) 83 78 sn) in
        let q : p ≡ name.field.value = cc in
        ap (λ p. is_name p.bytes) q ∙ value-name

  -- another kind has no name
  other : (k : Kind) → a.kind ≡ k → (k ≡ ReferenceSequence → ⊥) → is_writable r ≡ true
  other k e n = made-writable a.fields a.kind r (λ q. absurd (n (sym e ∙ q))) a.made

  fields-ready : (k : Kind) → a.kind ≡ k → ready k s ≡ true → (neat k s ≡ true) × (is_writable r ≡ true)
  unfolding ready
  fields-ready Header e h = (h, other Header e (λ q. never (cc)))
  fields-ready ReferenceSequence e h = (is-neat h, made-writable a.fields a.kind r (λ q. last_name h) a.made)
  fields-ready ReadGroup e h = (h, other ReadGroup e (λ q. never (cc)))
  fields-ready Program e h = (h, other Program e (λ q. never (cc)))
  fields-ready Comment e h = (h, other Comment e (λ q. never (cc)))

-- ---- any accepted line

pub ready-neat : (at : ℕ) (s : List ℕ) (r : Record) → AcceptedLine true at s r → ready (kind_by (get_or s 1 0)) s ≡ true → (neat (kind_by (get_or s 1 0)) s ≡ true) × (is_writable r ≡ true)
unfolding ready is_writable kind_by
ready-neat at s r (sp.of-remark t) h = (h, refl)
ready-neat at s r (sp.of_fields a) h =
    let k : kind_by (get_or s 1 0) ≡ a.kind = ap (λ l. kind_by (get_or l 1 0)) a.spells ∙ first_byte a.kind in
    let f = fields-ready at s r a a.kind refl (sym (ap (λ k. ready k s) k) ∙ h) in
    (ap (λ k. neat k s) k ∙ f.0, f.1)
