-- A line in which no tag is repeated: its fields but the keys are its record's other fields, byte for byte.
use Prim.Native.Nat.{ℕ, ◌+◌}
use mathlib.Core.Path.{◌≡◌, refl, sym, ap, ap₂, ◌∙◌}
use mathlib.Core.Bool.{Bool, true, false, ◌&&◌, ◌||◌, cond}
use mathlib.Core.List.{List, [], ◌∷◌}
use mathlib.Core.Option.{Option, none, some}
use native.Mathlib.Omega.{arith}
use lib.ListN.{length, get_or, length-drop}
use lib.Dec.{eqb}
use borrow.Author.Tests.{eqb-true}
use Rattle.format.specs.Bytes.{any}
use Rattle.format.specs.Lines.{Piece}
use Rattle.format.specs.Fields.{Field, tagged, repeats, later, last_of, without}
use Rattle.format.specs.Records.{Record, others, line}
use Rattle.format.specs.Tidy.{fields_text}
use Rattle.format.specs.declared.Kind.{Kind}
use Rattle.accepted.specs.Read.{is_read}
use Rattle.accepted.specs.Sound.{kind}
use Rattle.accepted.specs.Spelled as sp
use Rattle.accepted.specs.Spelled.{Made, Spelled, AcceptedLine}
use Rattle.lists.proofs.Bools.{never, or_left, or_right, and_left, and_right}
use Rattle.accepted.proofs.Sound.{made-kind}
use Rattle.accepted.proofs.Spelled.{line-accepted}
use Rattle.accepted_line.specs.Run.{fields_of, fields_from, AtField}
use Rattle.accepted_line.specs.Next.{or_value}
use Rattle.accepted_line.proofs.fields.Start.{accepted-fields, accepted-others}
use Rattle.accepted_line.specs.Found.{kind_by, is_comment}
use Rattle.accepted_line.specs.Keys.{last_key, last_number, keys_from, keys_in}
use Rattle.accepted_line.proofs.Finds.{accepted-byte, by-record}
use Rattle.tidy_laws.proofs.Once.{without-absent, last-absent, settled-once}
use Rattle.tidy_laws.proofs.Length.{one_more, last-without}
use Rattle.tidy_fields.specs.Others.{others_text}
use Rattle.tidy_line.specs.Heads.{keys_length}
use Rattle.tidy_line.proofs.Heads.{spelled}

-- ---- without a tag

any-without : (x y a b : ℕ) (fs : List Field) → any (tagged x y) fs ≡ false → any (tagged x y) (without a b fs) ≡ false
unfolding any without
any-without x y a b [] h = refl
any-without x y a b (f ∷ fs) h = go (tagged a b f) (or_left (tagged x y f) (any (tagged x y) fs) h) (any-without x y a b fs (or_right (tagged x y f) (any (tagged x y) fs) h))
  where
    go : (t : Bool) → tagged x y f ≡ false → any (tagged x y) (without a b fs) ≡ false → any (tagged x y) (cond t (without a b fs) (f ∷ without a b fs)) ≡ false
    go true e ih = ih
    go false e ih = ap₂ (λ t u. t || u) e ih

repeats-without : (a b : ℕ) (fs : List Field) → repeats fs ≡ false → repeats (without a b fs) ≡ false
unfolding repeats without
repeats-without a b [] h = refl
repeats-without a b (f ∷ fs) h =
    let m = any (tagged f.tag₀ f.tag₁) fs in
    go (tagged a b f) (any-without f.tag₀ f.tag₁ a b fs (or_left m (repeats fs) h)) (repeats-without a b fs (or_right m (repeats fs) h))
  where
    go : (t : Bool) → any (tagged f.tag₀ f.tag₁) (without a b fs) ≡ false → repeats (without a b fs) ≡ false → repeats (cond t (without a b fs) (f ∷ without a b fs)) ≡ false
    go true e ih = ih
    go false e ih = ap₂ (λ t u. t || u) e ih

-- the one field with a tag, and the others
without-length : (a b : ℕ) (fs : List Field) (p : Piece) → repeats fs ≡ false → last_of a b fs ≡ some p → length (fields_text (without a b fs)) + (4 + length p.bytes) ≡ length (fields_text fs)
unfolding repeats without last_of tagged
without-length a b [] p h e = absurd (never (cc))
without-length a b (f ∷ fs) p h e =
    let m = any (tagged f.tag₀ f.tag₁) fs in
    go (tagged a b f) refl e (or_left m (repeats fs) h) (without-length a b fs p (or_right m (repeats fs) h))
  where
    none-later : (o : Option Piece) → later none o ≡ o
    none-later none = refl
    none-later (some q) = refl

    go : (t : Bool) → tagged a b f ≡ t → later (cond t (some f.value) none) (last_of a b fs) ≡ some p → any (tagged f.tag₀ f.tag₁) fs ≡ false
        → (last_of a b fs ≡ some p → length (fields_text (without a b fs)) + (4 + length p.bytes) ≡ length (fields_text fs))
        → length (fields_text (cond t (without a b fs) (f ∷ without a b fs))) + (4 + length p.bytes) ≡ length (fields_text (f ∷ fs))
    go true t e m ih =
        let x = eqb f.tag₀ a in
        let y = eqb f.tag₁ b in
        let n : any (tagged a b) fs ≡ false = ap₂ (λ c d. any (tagged c d) fs) (sym (eqb-true f.tag₀ a (and_left x y t))) (sym (eqb-true f.tag₁ b (and_right x y t))) ∙ m in
        let q : some f.value ≡ some p = sym (ap (later (some f.value)) (last-absent a b fs n)) ∙ e in
        let v : f.value ≡ p = cc in
        omega (arith, ap (λ l. length (fields_text l)) (without-absent a b fs n), one_more f fs, ap (λ p. length p.bytes) v)
    go false t e m ih = omega (arith, one_more f (without a b fs), one_more f fs, ih (sym (none-later (last_of a b fs)) ∙ e))

-- ---- the other fields of a record

made-length : (fs : List Field) (k : Kind) (r : Record) → repeats fs ≡ false → Made fs k r → length (fields_text (others r)) + keys_length k (keys_in k fs) ≡ length (fields_text fs)
unfolding others keys_in keys_from last_key last_number or_value later
made-length fs k r h (sp.of-header p v e g) = rw (e, settled-once (without 86 78 fs) (repeats-without 86 78 fs h)) (without-length 86 78 fs p h e)
made-length fs k r h (sp.of-reference p n e g) =
    let ws = without 76 78 fs in
    let o = repeats-without 76 78 fs h in
    let name : last_of 83 78 ws ≡ some p = last-without 83 78 76 78 apart fs ∙ e in
    rw (e, g, settled-once (without 83 78 ws) (repeats-without 83 78 ws o)) (omega (arith, without-length 83 78 ws p o name, without-length 76 78 fs n h g))
  where
    apart : (f : Field) → tagged 76 78 f ≡ true → tagged 83 78 f ≡ false
    apart f t =
        let x = eqb f.tag₀ 76 in
        let y = eqb f.tag₁ 78 in
        ap (λ n. eqb n 83 && eqb f.tag₁ 78) (eqb-true f.tag₀ 76 (and_left x y t))
made-length fs k r h (sp.of-group p e) = rw (e, settled-once (without 73 68 fs) (repeats-without 73 68 fs h)) (without-length 73 68 fs p h e)
made-length fs k r h (sp.of-program p e) = rw (e, settled-once (without 73 68 fs) (repeats-without 73 68 fs h)) (without-length 73 68 fs p h e)

module _ (at : ℕ) (s : List ℕ) (h : is_read (line false (record { at = at; bytes = s })) ≡ true) (k : Kind) (q : kind_by (get_or s 1 0) ≡ k) (n : is_comment k ≡ false) where
  -- three bytes, the keys and the others make the line
  pub once-others : AtField true at s 3 → 3 + keys_length k (keys_in k (fields_from at s 3)) + length (others_text k at s) ≡ length s
  unfolding fields_of others_text
  once-others o =
      by-record false at s h (λ l. 3 + keys_length k (keys_in k (fields_from at s 3)) + length (others_text k at s) ≡ length s)
      (λ r d.
      let a = line-accepted false (record { at = at; bytes = s }) r d in
      let b : kind r ≡ k = sym (accepted-byte false at s r a).1 ∙ q in
      let c : Spelled false at s r = spelled at s r (ap is_comment b ∙ n) a in
      let f : fields_from at s 3 ≡ c.fields = accepted-fields false at s r c in
      let m = made-length c.fields c.kind r (sym (ap repeats f) ∙ o.once) c.made in
      let g : c.kind ≡ k = kind-of c.fields c.kind r c.made ∙ b in
      let t : others_text k at s ≡ fields_text (others r) = ap (λ k. others_text k at s) (sym b) ∙ ap fields_text (accepted-others false at s r c) in
      omega (arith, m, ap₂ (λ k fs. keys_length k (keys_in k fs)) g (sym f), ap length t, ap (λ l. length (fields_text l)) f, ap length o.rest.spells, length-drop 3 s, o.within))
    where
      kind-of : (fs : List Field) (k : Kind) (r : Record) → Made fs k r → k ≡ kind r
      kind-of fs k r m = sym (made-kind fs k r m)
