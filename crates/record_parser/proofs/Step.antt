-- One step of the field loop: one more field, a refusal, or a repeated tag.
use Prim.Native.Nat.{ℕ, suc, ◌+◌, ◌-◌, ◌≤◌, ◌<◌}
use mathlib.Core.Path.{◌≡◌, refl, sym, ap, ◌∙◌}
use mathlib.Core.Bool.{Bool, true, false, ◌&&◌, ◌||◌, cond}
use mathlib.Core.List.{List, [], ◌∷◌, ◌++◌, append-nil, append_assoc}
use native.Mathlib.Omega.{arith}
use native.Mathlib.Numerals.{add-one}
use lib.ListN.{length, take, drop, get_or, set, replicate, length-drop, drop_of_length-le}
use lib.Seq.{drop-cons, drop-drop, take-add}
use borrow.Author.Tests.{ne_eqb}
use Rattle.format.specs.Bytes.{any}
use Rattle.format.specs.Lines.{cut, placed}
use Rattle.format.specs.Fields.{Field, tagged, is_tag, repeats, Scan, scan}
use Rattle.format.specs.Records.{refused_line, judged, fielded}
use Rattle.format.specs.Tidy.{field_text, fields_text}
use Rattle.format.specs.declared.Kind.{Kind}
use Rattle.format.specs.declared.Kind.TheVariants.{Header, ReferenceSequence, ReadGroup, Program, Comment}
use Rattle.byte_slices.specs.Upto.{upto}
use Rattle.byte_slices.specs.Stands.{Each}
use Rattle.byte_slices.proofs.Lines.{upto_le}
use Rattle.byte_slices.proofs.Before.{upto_take}
use Rattle.byte_slices.proofs.Run.{upto-onward}
use Rattle.field.specs.declared.ParsedField.{ParsedField}
use Rattle.field_tag.specs.Numbers.{is_version, is_length}
use Rattle.field.proofs.Answer.{Told}
use Rattle.field.proofs.Shown.{Shown, shown}
use Rattle.format.specs.Keys.{is_key}
use Rattle.accepted.proofs.Tags.{repeats-snoc}
use Rattle.record_tags.specs.Occurs.{occurs}
use Rattle.record_tags.proofs.Region.{Clean, occurs-fields}
use Rattle.record.specs.declared.Keys.{Keys}
use Rattle.record.specs.Head.{head_of}
use Rattle.record.specs.Keys.{keys_of, no_keys, with_field, head_from}
use Rattle.record_parser.specs.Marks.{mark_place, marks_of}
use Rattle.record_parser.proofs.marks.Marks.{marked-none, marked-again, marked_more, place-below}
use Rattle.record_parser.proofs.FieldByField.{tail_scan, prepend, fielded-tail, judged-stop, judged-twice, judged-end, prepend-prepend, upto-not}
use Rattle.record_parser.proofs.Made.{keys-snoc, head-made}
use Rattle.record_parser.proofs.Walked.{Walked, Turned}

-- one more field at the end of a run
fields_snoc : (fs : List Field) (f : Field) → fields_text (fs ++ (f ∷ [])) ≡ fields_text fs ++ field_text f.tag₀ f.tag₁ f.value.bytes
unfolding fields_text
fields_snoc [] f = append-nil (field_text f.tag₀ f.tag₁ f.value.bytes)
fields_snoc (g ∷ fs) f =
    ap (λ l. field_text g.tag₀ g.tag₁ g.value.bytes ++ l) (fields_snoc fs f)
    ∙ sym (append_assoc (field_text g.tag₀ g.tag₁ g.value.bytes) (fields_text fs) (field_text f.tag₀ f.tag₁ f.value.bytes))

each_snoc : (P : Field → Type 0) (fs : List Field) (f : Field) → Each P fs → P f → Each P (fs ++ (f ∷ []))
unfolding Each
each_snoc P [] f e p = (p, tt)
each_snoc P (g ∷ fs) f e p = (e.0, each_snoc P fs f e.1 p)

-- three bytes at the front
three : (s : List ℕ) (n : ℕ) → 3 ≤ length s → take (3 + n) s ≡ get_or s 0 0 ∷ get_or s 1 0 ∷ get_or s 2 0 ∷ take n (drop 3 s)
three [] n h = absurd (omega arith)
three (a ∷ []) n h = absurd (omega arith)
three (a ∷ b ∷ []) n h = absurd (omega arith)
three (a ∷ b ∷ c ∷ s) n h = ap (λ k. take k (a ∷ b ∷ c ∷ s)) (let e : 3 + n ≡ suc (suc (suc n)) = omega arith in e)

module _ (kind : Kind) (at : ℕ) (s : List ℕ) (g : ParsedField) (t : Turned kind at s g) where
  f : Field
  f = t.field

  size : ℕ
  size = length t.field.value.bytes

  long : 3 + length t.field.value.bytes ≤ length s
  long = omega (arith, t.within, upto_le 9 s)

  pub clean-field : Clean t.field
  clean-field =
      record {
        first = λ e. upto-not 9 s 0 (omega (arith, t.within)) (sym t.kept.first ∙ e);
        second = λ e. upto-not 9 s 1 (omega (arith, t.within)) (sym t.kept.second ∙ e);
        value =
            ap (upto 9) t.kept.bytes
            ∙ upto_take 9 (drop 3 s) (length t.field.value.bytes) (omega (arith, t.within, upto-onward 9 s 3 (omega (arith, t.within))));
      }

  pub spelled-text : 9 ∷ take (3 + length t.field.value.bytes) s ≡ field_text t.field.tag₀ t.field.tag₁ t.field.value.bytes
  unfolding field_text
  spelled-text =
      ap (λ l. 9 ∷ l) (three s (length t.field.value.bytes) (omega (arith, long)))
      ∙ rw (t.colon, ← t.kept.first, ← t.kept.second, ← t.kept.bytes) refl

-- what was answered is the field's
pub turn-shown : (kind : Kind) (at : ℕ) (s : List ℕ) (g : ParsedField) (t : Turned kind at s g) → Shown t.field g
turn-shown kind at s g t = shown kind t.field t.told g t.answer

-- one more field is at most one more other field
pub with-few : (k : Kind) (g : ParsedField) (at : ℕ) (again : Bool) (keys : Keys) → (with_field k g at again keys).others ≤ suc keys.others
unfolding with_field
with-few k g at again keys = go (is_key k g.tag_0 g.tag_1) refl (is_version k g.tag_0 g.tag_1) refl (is_length k g.tag_0 g.tag_1) refl again
  where
    go : (x : Bool) → is_key k g.tag_0 g.tag_1 ≡ x → (y : Bool) → is_version k g.tag_0 g.tag_1 ≡ y → (z : Bool) → is_length k g.tag_0 g.tag_1 ≡ z → (u : Bool)
        → (with_field k g at u keys).others ≤ suc keys.others
    go true e true d z f u = rw (e, d) (omega arith)
    go true e false d true f u = rw (e, d, f) (omega arith)
    go true e false d false f u = rw (e, d, f) (omega arith)
    go false e y d z f true = rw e (omega arith)
    go false e y d z f false = rw e (omega arith)

-- ---- where the loop starts, and where it ends

no_keys_lem : (k : Kind) → keys_of k [] ≡ no_keys
unfolding keys_of
no_keys_lem Header = refl
no_keys_lem ReferenceSequence = refl
no_keys_lem ReadGroup = refl
no_keys_lem Program = refl
no_keys_lem Comment = refl

pub walked_start : (kind : Kind) (src : List ℕ) (at : ℕ) (strict exact : Bool) (seen : List Bool) (keys : Keys) → 3 ≤ length src → seen ≡ replicate (marks_of exact) false → keys ≡ no_keys
    → Walked kind src at strict exact seen keys 3
unfolding fields_text Each prepend repeats any
walked_start kind src at strict exact seen keys h c e =
    record {
      fields = [];
      low = omega arith;
      high = h;
      region = refl;
      clean = tt;
      left = fielded-tail strict kind (at + 3) (drop 3 src);
      once = never strict;
      says = e ∙ sym (no_keys_lem kind);
      told = tt;
      marked = rw c (marked-none exact);
      few = rw e (omega arith);
    }
  where
    never : (t : Bool) → t && false ≡ false
    never true = refl
    never false = refl

module _ (kind : Kind) (src : List ℕ) (at : ℕ) (strict exact : Bool) (seen : List Bool) (keys : Keys) (pos : ℕ) (w : Walked kind src at strict exact seen keys pos) where
  -- a byte that is not a tab is where one must be
  pub turn-six : pos < length src → (get_or src pos 0 ≡ 9 → ⊥) → fielded strict kind (at + 3) (drop 3 src) ≡ refused_line 6
  unfolding tail_scan
  turn-six h n =
      w.left
      ∙ ap (λ l. judged strict kind (prepend w.fields (tail_scan kind (at + pos) l))) (drop-cons src pos 0 h)
      ∙ ap (λ t. judged strict kind (prepend w.fields (cond t (scan kind (placed (at + pos + 1) (cut 9 (drop (suc pos) src)))) (record { fields = []; stop = 6 })))) (ne_eqb _ _ n)
      ∙ judged-stop kind w.fields strict 6 w.once (λ e. omega arith)

  -- the line ends
  pub turn_end : length src ≤ pos → head_from kind keys ≡ head_of (fielded strict kind (at + 3) (drop 3 src))
  unfolding tail_scan
  turn_end h =
      ap (head_from kind) w.says
      ∙ head-made kind w.fields w.told
      ∙ sym
      (ap head_of
      (w.left
      ∙ ap (λ l. judged strict kind (prepend w.fields (tail_scan kind (at + pos) l))) (drop_of_length-le src h)
      ∙ judged-end kind w.fields strict w.once))

-- ---- a step at a tab

module _ (kind : Kind) (src : List ℕ) (at : ℕ) (strict exact : Bool) (seen : List Bool) (keys : Keys) (pos : ℕ)
    (w : Walked kind src at strict exact seen keys pos) (h : pos < length src) (tab : get_or src pos 0 ≡ 9) where
  open-tail : drop pos src ≡ 9 ∷ drop (pos + 1) src
  open-tail = drop-cons src pos 0 h ∙ rw (tab, add-one pos) refl

  -- a field is refused: nothing was repeated before it
  pub turn-refused : (n : ℕ) → tail_scan kind (at + pos) (9 ∷ drop (pos + 1) src) ≡ record { fields = []; stop = n } → (n ≡ 0 → ⊥)
      → fielded strict kind (at + 3) (drop 3 src) ≡ refused_line n
  turn-refused n e m =
      w.left
      ∙ ap (λ l. judged strict kind (prepend w.fields (tail_scan kind (at + pos) l))) open-tail
      ∙ ap (λ l. judged strict kind (prepend w.fields l)) e
      ∙ judged-stop kind w.fields strict n w.once m

  module _ (g : ParsedField) (t : Turned kind (at + pos) (drop (pos + 1) src) g) where
    more : List Field
    more = w.fields ++ (t.field ∷ [])

    len : g.len ≡ length t.field.value.bytes
    len = (turn-shown kind (at + pos) (drop (pos + 1) src) g t).len

    rest : length (drop (pos + 1) src) ≡ length src - (pos + 1)
    rest = length-drop (pos + 1) src

    pub next-within : pos + 4 + g.len ≤ length src
    next-within = omega (arith, len, long kind (at + pos) (drop (pos + 1) src) g t, rest)

    -- its tag is one, and its mark is in the table
    pub turn-tag : is_tag g.tag_0 g.tag_1 ≡ true
    turn-tag = let s = turn-shown kind (at + pos) (drop (pos + 1) src) g t in rw (s.first, s.second) t.tag

    pub turn-place : mark_place exact g.tag_0 g.tag_1 < length seen
    turn-place = omega (arith, w.marked.size, place-below exact g.tag_0 g.tag_1 turn-tag)

    -- what the loop learns of the tag: exactly whether it was there before
    pub told-again : get_or seen (mark_place exact g.tag_0 g.tag_1) false && (exact || occurs g.tag_0 g.tag_1 (take (pos - 3) (drop 3 src)))
        ≡ any (tagged t.field.tag₀ t.field.tag₁) w.fields
    told-again =
        let s = turn-shown kind (at + pos) (drop (pos + 1) src) g t in
        rw (s.first, s.second, w.region, occurs-fields t.field.tag₀ t.field.tag₁ w.fields w.clean)
        (marked-again exact seen w.fields w.marked t.field.tag₀ t.field.tag₁ t.tag)

    left : fielded strict kind (at + 3) (drop 3 src)
        ≡ judged strict kind (prepend (w.fields ++ (t.field ∷ [])) (tail_scan kind (at + (pos + 4 + g.len)) (drop (pos + 4 + g.len) src)))
    left =
        let n = length t.field.value.bytes in
        let a : at + pos + 1 + (3 + n) ≡ at + (pos + 4 + g.len) = omega (arith, len) in
        let b : pos + 1 + (3 + n) ≡ pos + 4 + g.len = omega (arith, len) in
        w.left
        ∙ ap (λ l. judged strict kind (prepend w.fields (tail_scan kind (at + pos) l))) open-tail
        ∙ ap (λ l. judged strict kind (prepend w.fields l)) t.onward
        ∙ ap (judged strict kind) (prepend-prepend w.fields (t.field ∷ []) (tail_scan kind (at + pos + 1 + (3 + n)) (drop (3 + n) (drop (pos + 1) src))))
        ∙ ap (λ l. judged strict kind (prepend (w.fields ++ (t.field ∷ [])) (tail_scan kind (at + pos + 1 + (3 + n)) l))) (drop-drop (3 + n) (pos + 1) src)
        ∙ rw (a, b) refl

    -- a tag is repeated where that is forbidden
    pub turn_twice : strict ≡ true → any (tagged t.field.tag₀ t.field.tag₁) w.fields ≡ true → fielded strict kind (at + 3) (drop 3 src) ≡ refused_line 14
    turn_twice s y =
        let m : Scan = tail_scan kind (at + (pos + 4 + g.len)) (drop (pos + 4 + g.len) src) in
        left
        ∙ ap (λ u. judged u kind (prepend (w.fields ++ (t.field ∷ [])) m)) s
        ∙ judged-twice kind (w.fields ++ (t.field ∷ [])) m.fields m.stop (repeats-snoc w.fields t.field ∙ ap (λ u. u || repeats w.fields) y)

    region : take (pos + 4 + g.len - 3) (drop 3 src) ≡ fields_text (w.fields ++ (t.field ∷ []))
    region =
        let n = length t.field.value.bytes in
        let a : pos + 4 + g.len - 3 ≡ (pos - 3) + suc (3 + n) = omega (arith, len, w.low) in
        let b : 3 + (pos - 3) ≡ pos = omega (arith, w.low) in
        ap (λ k. take k (drop 3 src)) a
        ∙ take-add (pos - 3) (suc (3 + n)) (drop 3 src)
        ∙ ap (λ l. take (pos - 3) (drop 3 src) ++ take (suc (3 + n)) l) (drop-drop (pos - 3) 3 src ∙ ap (λ k. drop k src) b ∙ open-tail)
        ∙ ap (λ l. l ++ (9 ∷ take (3 + n) (drop (pos + 1) src))) w.region
        ∙ ap (λ l. fields_text w.fields ++ l) (spelled-text kind (at + pos) (drop (pos + 1) src) g t)
        ∙ sym (fields_snoc w.fields t.field)

    once : strict && any (tagged t.field.tag₀ t.field.tag₁) w.fields ≡ false → strict && repeats (w.fields ++ (t.field ∷ [])) ≡ false
    once n = ap (λ u. strict && u) (repeats-snoc w.fields t.field) ∙ go strict n w.once
      where
        go : (s : Bool) → s && any (tagged t.field.tag₀ t.field.tag₁) w.fields ≡ false → s && repeats w.fields ≡ false
            → s && (any (tagged t.field.tag₀ t.field.tag₁) w.fields || repeats w.fields) ≡ false
        go true n o = ap (λ u. u || repeats w.fields) n ∙ o
        go false n o = refl

    -- one more field
    pub walked : strict && any (tagged t.field.tag₀ t.field.tag₁) w.fields ≡ false
        → Walked kind src at strict exact (set seen (mark_place exact g.tag_0 g.tag_1) true)
        (with_field kind g (at + pos + 4) (any (tagged t.field.tag₀ t.field.tag₁) w.fields) keys) (pos + 4 + g.len)
    walked n =
        let a : at + pos + 1 + 3 ≡ at + pos + 4 = omega arith in
        let s = turn-shown kind (at + pos) (drop (pos + 1) src) g t in
        record {
          fields = w.fields ++ (t.field ∷ []);
          low = omega (arith, w.low);
          high = next-within;
          region = region;
          clean = each_snoc Clean w.fields t.field w.clean (clean-field kind (at + pos) (drop (pos + 1) src) g t);
          left = left;
          once = once n;
          says =
              ap (with_field kind g (at + pos + 4) (any (tagged t.field.tag₀ t.field.tag₁) w.fields)) w.says
              ∙ ap (λ p. with_field kind g p (any (tagged t.field.tag₀ t.field.tag₁) w.fields) (keys_of kind w.fields)) (sym (t.kept.starts ∙ a))
              ∙ sym (keys-snoc w.fields t.field kind t.told g t.answer);
          told = each_snoc (Told kind) w.fields t.field w.told t.told;
          marked = rw (s.first, s.second) (marked_more exact seen w.fields w.marked t.field t.tag);
          few = omega (arith, w.few, with-few kind g (at + pos + 4) (any (tagged t.field.tag₀ t.field.tag₁) w.fields) keys);
        }
