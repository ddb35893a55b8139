-- The keys of the fields read so far: one more field, and the head that they make when the line ends.
use Prim.Native.Nat.{ℕ, suc}
use mathlib.Core.Path.{◌≡◌, refl, sym, ap, ◌∙◌}
use mathlib.Core.Bool.{Bool, true, false, ◌||◌, cond}
use mathlib.Core.List.{List, [], ◌∷◌, ◌++◌, append-nil}
use mathlib.Core.Option.{Option, none, some}
use native.Mathlib.Omega.{arith}
use lib.ListN.{length}
use lib.Dec.{eqb}
use borrow.Author.Tests.{eqb-true, ne_eqb}
use Rattle.format.specs.Bytes.{any}
use Rattle.format.specs.Lines.{Piece}
use Rattle.format.specs.Decimal.{worth}
use Rattle.format.specs.Fields.{Field, tagged, later, last_of, without, settled}
use Rattle.format.specs.Records as records
use Rattle.format.specs.Records.{made}
use Rattle.format.specs.Version.{version}
use Rattle.format.specs.declared.Version.{Version}
use Rattle.format.specs.declared.Kind.{Kind}
use Rattle.format.specs.declared.Kind.TheVariants.{Header, ReferenceSequence, ReadGroup, Program, Comment}
use Rattle.byte_slices.specs.Stands.{Each}
use Rattle.field_tag.specs.Numbers.{is_version, is_length}
use Rattle.std.specs.Prelude.{Result, Ok}
use Rattle.field.specs.declared.ParsedField.{ParsedField}
use Rattle.field.specs.Parsed.{kept_by, sized_by, field_numbers, versioned_by}
use Rattle.field.specs.Spelled.{parsed_version_of}
use Rattle.field.proofs.Answer.{Told}
use Rattle.field.proofs.Shown.{valued-length, valued-kept, told-version, valued-version}
use Rattle.record.specs.declared.Keys.{Keys}
use Rattle.record.specs.declared.Stretch.{Stretch}
use Rattle.record.specs.declared.Head.{Head}
use Rattle.record.specs.declared.Head.TheVariants as head
use Rattle.record.specs.Head.{stretch_of, head_of}
use Rattle.format.specs.Keys.{is_key}
use Rattle.record_tags.specs.Others.{unkeyed}
use Rattle.record.specs.Keys.{key_among, spelt, version_among, worth_if_there, length_among, stretch_if_there, plainly, keys_of, with_field, head_from, versioned_head, keyed_head}
use Rattle.lists.proofs.Bools.{or-true, split, and_left}
use Rattle.accepted.proofs.Tags.{last_of_snoc, settled-snoc, any_settled, length-put}
use Rattle.accepted.proofs.Fields.{last_of-of}
use Rattle.record_tags.proofs.Firsts.{not_key}

-- ---- one more field

unkeyed-append : (k : Kind) (fs gs : List Field) → unkeyed k (fs ++ gs) ≡ unkeyed k fs ++ unkeyed k gs
unfolding unkeyed
unkeyed-append k [] gs = refl
unkeyed-append k (f ∷ fs) gs = go (is_key k f.tag₀ f.tag₁) (unkeyed-append k fs gs)
  where
    go : (t : Bool) → unkeyed k (fs ++ gs) ≡ unkeyed k fs ++ unkeyed k gs
        → cond t (unkeyed k (fs ++ gs)) (f ∷ unkeyed k (fs ++ gs)) ≡ cond t (unkeyed k fs) (f ∷ unkeyed k fs) ++ unkeyed k gs
    go true ih = ih
    go false ih = ap (λ x. f ∷ x) ih

any-unkeyed : (k : Kind) (a b : ℕ) → is_key k a b ≡ false → (fs : List Field) → any (tagged a b) (unkeyed k fs) ≡ any (tagged a b) fs
unfolding any unkeyed
any-unkeyed k a b n [] = refl
any-unkeyed k a b n (f ∷ fs) = go (is_key k f.tag₀ f.tag₁) refl (any-unkeyed k a b n fs)
  where
    go : (t : Bool) → is_key k f.tag₀ f.tag₁ ≡ t → any (tagged a b) (unkeyed k fs) ≡ any (tagged a b) fs
        → any (tagged a b) (cond t (unkeyed k fs) (f ∷ unkeyed k fs)) ≡ tagged a b f || any (tagged a b) fs
    go true e ih = ih ∙ ap (λ t. t || any (tagged a b) fs) (sym (not_key k a b n f e))
    go false e ih = ap (λ t. tagged a b f || t) ih

module _ (k : Kind) (fs : List Field) (f : Field) where
  counted : ℕ
  counted = length (settled (unkeyed k fs))

  -- a key is no field more, nor is a tag that was there
  others-key : is_key k f.tag₀ f.tag₁ ≡ true → length (settled (unkeyed k (fs ++ (f ∷ [])))) ≡ length (settled (unkeyed k fs))
  unfolding unkeyed
  others-key h = ap (λ l. length (settled l)) (unkeyed-append k fs (f ∷ []) ∙ rw (h, append-nil (unkeyed k fs)) refl)

  others-field : is_key k f.tag₀ f.tag₁ ≡ false
      → length (settled (unkeyed k (fs ++ (f ∷ []))))
      ≡ cond (any (tagged f.tag₀ f.tag₁) fs) (length (settled (unkeyed k fs))) (suc (length (settled (unkeyed k fs))))
  unfolding unkeyed
  others-field h =
      ap (λ l. length (settled l)) (unkeyed-append k fs (f ∷ []) ∙ rw h refl)
      ∙ ap length (settled-snoc (unkeyed k fs) f)
      ∙ length-put f (settled (unkeyed k fs))
      ∙ ap (λ t. cond t (length (settled (unkeyed k fs))) (suc (length (settled (unkeyed k fs)))))
      (any_settled f.tag₀ f.tag₁ (unkeyed k fs) ∙ any-unkeyed k f.tag₀ f.tag₁ h fs)

module _ (a b : ℕ) (fs : List Field) (f : Field) where
  last-yes : tagged a b f ≡ true → last_of a b (fs ++ (f ∷ [])) ≡ some f.value
  unfolding later
  last-yes h = last_of_snoc a b fs f ∙ rw h refl

  last-no : tagged a b f ≡ false → last_of a b (fs ++ (f ∷ [])) ≡ last_of a b fs
  unfolding later
  last-no h = last_of_snoc a b fs f ∙ rw h refl

-- ---- what the fields say, with one more

plain-path : {p q : Option Piece} {v w : Option Version} {l m n o : ℕ} → p ≡ q → v ≡ w → l ≡ m → n ≡ o → plainly p v l n ≡ plainly q w m o
plain-path a b c d = λ i. plainly (a i) (b i) (c i) (d i)

-- a field has one answer
pub same-answer : {r : Result ParsedField ℕ} {g h : ParsedField} → r ≡ Ok g → r ≡ Ok h → g ≡ h
same-answer {g = g} {h = h} p q = let e : ◌≡◌ {A = Result ParsedField ℕ} (Ok g) (Ok h) = sym p ∙ q in cc

module _ (k : Kind) (fs : List Field) (f : Field) (g : ParsedField) (q : field_numbers k f ≡ Ok g) where
  -- a field that is no key is neither VN nor LN
  module _ (n : is_key k f.tag₀ f.tag₁ ≡ false) (l : is_length k f.tag₀ f.tag₁ ≡ false) (v : is_version k f.tag₀ f.tag₁ ≡ false) where
    other-snoc : key_among k (fs ++ (f ∷ [])) ≡ key_among k fs → version_among k (fs ++ (f ∷ [])) ≡ version_among k fs → length_among k (fs ++ (f ∷ [])) ≡ length_among k fs
        → keys_of k (fs ++ (f ∷ [])) ≡ with_field k g f.value.at (any (tagged f.tag₀ f.tag₁) fs) (keys_of k fs)
    unfolding keys_of with_field
    other-snoc a b c =
        let e : kept_by f.tag₀ f.tag₁ (length f.value.bytes) ≡ g = same-answer (valued-kept k f l v) q in
        plain-path a b c (others-field k fs f n) ∙ rw (← e, n) refl

  module _ (y : is_key k f.tag₀ f.tag₁ ≡ true) where
    -- a key that is kept by its place
    place-snoc : is_length k f.tag₀ f.tag₁ ≡ false → is_version k f.tag₀ f.tag₁ ≡ false
        → key_among k (fs ++ (f ∷ [])) ≡ some f.value → version_among k (fs ++ (f ∷ [])) ≡ version_among k fs → length_among k (fs ++ (f ∷ [])) ≡ length_among k fs
        → keys_of k (fs ++ (f ∷ [])) ≡ with_field k g f.value.at (any (tagged f.tag₀ f.tag₁) fs) (keys_of k fs)
    unfolding keys_of with_field
    place-snoc l v a b c =
        let e : kept_by f.tag₀ f.tag₁ (length f.value.bytes) ≡ g = same-answer (valued-kept k f l v) q in
        plain-path a b c (others-key k fs f y) ∙ rw (← e, y, v, l) refl

-- VN of HD
version-snoc : (fs : List Field) (f : Field) (g : ParsedField) → field_numbers Header f ≡ Ok g → Told Header f → tagged 86 78 f ≡ true
    → keys_of Header (fs ++ (f ∷ [])) ≡ with_field Header g f.value.at (any (tagged f.tag₀ f.tag₁) fs) (keys_of Header fs)
unfolding keys_of with_field key_among version_among length_among is_key is_version is_length versioned_by parsed_version_of tagged
version-snoc fs f g q t y =
    let e = same-answer (valued-version Header f t y) q in
    plain-path {p = none} {l = 0} refl (ap spelt (last-yes 86 78 fs f y) ∙ (told-version Header f t y).1) refl (others-key Header fs f y)
    ∙ rw (← e) refl

-- LN of SQ
length-snoc : (fs : List Field) (f : Field) (g : ParsedField) → field_numbers ReferenceSequence f ≡ Ok g → tagged 83 78 f ≡ false → tagged 76 78 f ≡ true
    → keys_of ReferenceSequence (fs ++ (f ∷ []))
    ≡ with_field ReferenceSequence g f.value.at (any (tagged f.tag₀ f.tag₁) fs) (keys_of ReferenceSequence fs)
unfolding keys_of with_field key_among version_among length_among is_key is_version is_length tagged
length-snoc fs f g q n y =
    let e : sized_by (length f.value.bytes) (worth f.value.bytes) ≡ g = same-answer (valued-length ReferenceSequence f y) q in
    plain-path {v = none} (last-no 83 78 fs f n) refl (ap worth_if_there (last-yes 76 78 fs f y)) (others-key ReferenceSequence fs f (ap (λ u. tagged 83 78 f || u) y ∙ or-true (tagged 83 78 f)))
    ∙ rw (← e) refl

-- a tag is only one tag
not-both : (f : Field) → tagged 76 78 f ≡ true → tagged 83 78 f ≡ false
unfolding tagged
not-both f t =
    let x : Bool = eqb f.tag₀ 76 in
    let y : Bool = eqb f.tag₁ 78 in
    let e : f.tag₀ ≡ 76 = eqb-true f.tag₀ 76 (and_left x y t) in
    rw e refl

module _ (fs : List Field) (f : Field) where
  -- one more field, whatever the kind
  pub keys-snoc : (k : Kind) → Told k f → (g : ParsedField) → field_numbers k f ≡ Ok g
      → keys_of k (fs ++ (f ∷ [])) ≡ with_field k g f.value.at (any (tagged f.tag₀ f.tag₁) fs) (keys_of k fs)
  unfolding key_among version_among length_among is_key is_version is_length tagged
  keys-snoc Header t g q =
      split (tagged 86 78 f)
      (version-snoc fs f g q t)
      (λ n. other-snoc Header fs f g q n refl n refl (ap spelt (last-no 86 78 fs f n)) refl)
  keys-snoc ReferenceSequence t g q =
      split (tagged 76 78 f)
      (λ y. length-snoc fs f g q (not-both f y) y)
      (λ n.
      split (tagged 83 78 f)
      (λ y. place-snoc ReferenceSequence fs f g q (ap (λ u. u || tagged 76 78 f) y) n refl (last-yes 83 78 fs f y) refl (ap worth_if_there (last-no 76 78 fs f n)))
      (λ m. other-snoc ReferenceSequence fs f g q (ap (λ u. u || tagged 76 78 f) m ∙ n) n refl (last-no 83 78 fs f m) refl (ap worth_if_there (last-no 76 78 fs f n))))
  keys-snoc ReadGroup t g q =
      split (tagged 73 68 f)
      (λ y. place-snoc ReadGroup fs f g q y refl refl (last-yes 73 68 fs f y) refl refl)
      (λ n. other-snoc ReadGroup fs f g q n refl refl (last-no 73 68 fs f n) refl refl)
  keys-snoc Program t g q =
      split (tagged 73 68 f)
      (λ y. place-snoc Program fs f g q y refl refl (last-yes 73 68 fs f y) refl refl)
      (λ n. other-snoc Program fs f g q n refl refl (last-no 73 68 fs f n) refl refl)
  keys-snoc Comment t g q = other-snoc Comment fs f g q refl refl refl refl refl refl

-- ---- the line ends

without-unkeyed : (k : Kind) (a b : ℕ) → ((f : Field) → is_key k f.tag₀ f.tag₁ ≡ tagged a b f) → (fs : List Field) → without a b fs ≡ unkeyed k fs
unfolding without unkeyed
without-unkeyed k a b h [] = refl
without-unkeyed k a b h (f ∷ fs) =
    ap (λ t. cond t (without a b fs) (f ∷ without a b fs)) (sym (h f))
    ∙ ap (λ r. cond (is_key k f.tag₀ f.tag₁) r (f ∷ r)) (without-unkeyed k a b h fs)

without-both : (fs : List Field) → without 83 78 (without 76 78 fs) ≡ unkeyed ReferenceSequence fs
unfolding without unkeyed is_key tagged
without-both [] = refl
without-both (f ∷ fs) = go (tagged 76 78 f) refl (tagged 83 78 f) refl (without-both fs)
  where
    go : (t : Bool) → tagged 76 78 f ≡ t → (u : Bool) → tagged 83 78 f ≡ u → without 83 78 (without 76 78 fs) ≡ unkeyed ReferenceSequence fs
        → without 83 78 (cond t (without 76 78 fs) (f ∷ without 76 78 fs)) ≡ cond (u || t) (unkeyed ReferenceSequence fs) (f ∷ unkeyed ReferenceSequence fs)
    go true e u d ih = ih ∙ ap (λ t. cond t (unkeyed ReferenceSequence fs) (f ∷ unkeyed ReferenceSequence fs)) (sym (or-true u))
    go false e true d ih = rw d ih
    go false e false d ih = rw d (ap (λ x. f ∷ x) ih)

-- a value that was accepted has at least one byte
some_bytes : (k : Kind) (fs : List Field) → Each (Told k) fs → (a b : ℕ) (p : Piece) → last_of a b fs ≡ some p → length p.bytes ≡ 0 → ⊥
some_bytes k fs h a b p e = let o = last_of-of (Told k) a b fs p h e in rw o.value at o.holds.some

header_made : (fs : List Field) → Each (Told Header) fs → head_from Header (keys_of Header fs) ≡ head_of (made Header fs)
unfolding head_from versioned_head parsed_version_of keys_of version_among head_of made is_key tagged records.versioned records.announcing is_version
header_made fs h = go (last_of 86 78 fs) refl ∙ ap (λ l. head_of (records.versioned (settled l) (last_of 86 78 fs))) (sym (without-unkeyed Header 86 78 (λ f. refl) fs))
  where
    n : ℕ
    n = length (settled (unkeyed Header fs))

    spell : (o : Option Version) (v : Version) → o ≡ some v
        → versioned_head (parsed_version_of o) (length (settled (unkeyed Header fs)))
        ≡ head_of (records.announcing (settled (unkeyed Header fs)) o)
    spell none v e = absurd (let z : ◌≡◌ {A = ℕ} 0 1 = cc in omega arith)
    spell (some w) v e = refl

    go : (o : Option Piece) → last_of 86 78 fs ≡ o
        → versioned_head (parsed_version_of (spelt o)) (length (settled (unkeyed Header fs)))
        ≡ head_of (records.versioned (settled (unkeyed Header fs)) o)
    go none e = refl
    go (some p) e =
        let o = last_of-of (Told Header) 86 78 fs p h e in
        let w = told-version Header o.field o.holds o.tag in
        spell (version p.bytes) w.0 (ap (λ q. version q.bytes) (sym o.value) ∙ w.1)

keyed-made : (k : Kind) (a b : ℕ) (fs : List Field) → Each (Told k) fs → (h : Stretch → Head) (r : Piece → records.Record) → ((p : Piece) → h (stretch_of p) ≡ head_of (records.read (r p)))
    → (keys : Keys) → keys.key_at ≡ (stretch_if_there (last_of a b fs)).at → keys.key_len ≡ (stretch_if_there (last_of a b fs)).len
    → keyed_head h keys ≡ head_of (records.keyed r (last_of a b fs))
unfolding keyed_head records.keyed head_of stretch_if_there stretch_of
keyed-made k a b fs w h r q keys e d = go (last_of a b fs) refl e d
  where
    go : (o : Option Piece) → last_of a b fs ≡ o → keys.key_at ≡ (stretch_if_there o).at → keys.key_len ≡ (stretch_if_there o).len
        → cond (eqb keys.key_len 0) (head.Refused 15) (h (record { at = keys.key_at; len = keys.key_len })) ≡ head_of (records.keyed r o)
    go none c e d = rw d refl
    go (some p) c e d = rw (e, d, ne_eqb _ _ (some_bytes k fs w a b p c)) (q p)

reference-made : (fs : List Field) → Each (Told ReferenceSequence) fs → head_from ReferenceSequence (keys_of ReferenceSequence fs) ≡ head_of (made ReferenceSequence fs)
unfolding head_from keys_of key_among length_among head_of made records.measured stretch_of keyed_head worth_if_there stretch_if_there is_length
reference-made fs h =
    go (last_of 83 78 fs) refl (last_of 76 78 fs) refl
    ∙ ap (λ l. head_of (records.measured (settled l) (last_of 83 78 fs) (last_of 76 78 fs))) (sym (without-both fs))
  where
    some-length : (q : Piece) → last_of 76 78 fs ≡ some q → worth q.bytes ≡ 0 → ⊥
    some-length q e = let o = last_of-of (Told ReferenceSequence) 76 78 fs q h e in rw o.value at (o.holds.sized o.tag)

    go : (o : Option Piece) → last_of 83 78 fs ≡ o → (q : Option Piece) → last_of 76 78 fs ≡ q
        → cond (eqb (stretch_if_there o).len 0) (head.Refused 15)
        (cond (eqb (worth_if_there q) 0) (head.Refused 16)
        (head.ReferenceSequence (record { at = (stretch_if_there o).at; len = (stretch_if_there o).len }) (worth_if_there q) (length (settled (unkeyed ReferenceSequence fs)))))
        ≡ head_of (records.measured (settled (unkeyed ReferenceSequence fs)) o q)
    go none e q d = refl
    go (some p) e none d = rw (ne_eqb _ _ (some_bytes ReferenceSequence fs h 83 78 p e)) refl
    go (some p) e (some q) d = rw (ne_eqb _ _ (some_bytes ReferenceSequence fs h 83 78 p e), ne_eqb _ _ (some-length q d)) refl

group-made : (fs : List Field) → Each (Told ReadGroup) fs → head_from ReadGroup (keys_of ReadGroup fs) ≡ head_of (made ReadGroup fs)
unfolding head_from keys_of key_among head_of made is_key tagged
group-made fs h =
    keyed-made ReadGroup 73 68 fs h (λ p. head.ReadGroup p (length (settled (unkeyed ReadGroup fs)))) (λ p. records.group p (settled (unkeyed ReadGroup fs))) (λ p. refl) (keys_of ReadGroup fs) refl refl
    ∙ ap (λ l. head_of (records.keyed (λ p. records.group p (settled l)) (last_of 73 68 fs))) (sym (without-unkeyed ReadGroup 73 68 (λ f. refl) fs))

program-made : (fs : List Field) → Each (Told Program) fs → head_from Program (keys_of Program fs) ≡ head_of (made Program fs)
unfolding head_from keys_of key_among head_of made is_key tagged
program-made fs h =
    keyed-made Program 73 68 fs h (λ p. head.Program p (length (settled (unkeyed Program fs)))) (λ p. records.program p (settled (unkeyed Program fs))) (λ p. refl) (keys_of Program fs) refl refl
    ∙ ap (λ l. head_of (records.keyed (λ p. records.program p (settled l)) (last_of 73 68 fs))) (sym (without-unkeyed Program 73 68 (λ f. refl) fs))

comment-made : (fs : List Field) → head_from Comment (keys_of Comment fs) ≡ head_of (made Comment fs)
unfolding head_from head_of made
comment-made fs = refl

-- the keys make the head of the record that the fields make
pub head-made : (k : Kind) (fs : List Field) → Each (Told k) fs → head_from k (keys_of k fs) ≡ head_of (made k fs)
head-made Header fs h = header_made fs h
head-made ReferenceSequence fs h = reference-made fs h
head-made ReadGroup fs h = group-made fs h
head-made Program fs h = program-made fs h
head-made Comment fs h = comment-made fs
