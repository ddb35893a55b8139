-- What is judged of a line's head is what the line's record may be after the records before it.
use Prim.Native.Nat.{ℕ, zero, suc, ◌+◌, ◌-◌}
use mathlib.Core.Path.{◌≡◌, refl, sym, ap, ◌∙◌}
use mathlib.Core.Bool.{Bool, true, false, not, ◌&&◌, ◌||◌, cond}
use mathlib.Core.List.{List, [], ◌∷◌, map}
use mathlib.Core.Option.{Option, none, some}
use native.Mathlib.Omega.{arith}
use lib.ListN.{length, take, drop}
use lib.Dec.{eqb, leb}
use borrow.Author.Tests.{ne_eqb}
use Rattle.format.specs.Bytes.{any, none?}
use Rattle.format.specs.Lines.{Piece, lines, cut, placed}
use Rattle.format.specs.Records as records
use Rattle.format.specs.Records.{Record, header, reference, group, program, comment, code, key, Line, refused_line, read}
use Rattle.format.specs.Records.{announcing, versioned, measured, keyed, made, stopped, judged, fielded, remark, body, kind_of, bodied, kinded, prefixed, breaks}
use Rattle.format.specs.Fields.{Field, Scan, scan, repeats, last_of, settled, without}
use Rattle.format.specs.Version.{version}
use Rattle.format.specs.declared.Version.{Version}
use Rattle.format.specs.declared.Kind.{Kind}
use Rattle.format.specs.declared.Kind.TheVariants.{Header, ReferenceSequence, ReadGroup, Program, Comment}
use Rattle.format.specs.Reading as reading
use Rattle.format.specs.Reading.{same_keys, clash, of_kind, unless, following, admitted}
use Rattle.byte_slices.specs.Stands.{Stands, Each}
use Rattle.byte_slices.proofs.Stands.{each_map}
use Rattle.accepted.specs.Pieces.{pieces}
use Rattle.lists.specs.Pairs.{Pairs}
use Rattle.lists.proofs.Bools.{never}
use Rattle.accepted.proofs.Stands.{line-stand, stands-within}
use Rattle.record.specs.Head.{head_of, record_head, stretch_of}
use Rattle.record.specs.declared.Head.{Head}
use Rattle.record.specs.declared.Head.TheVariants as head
use Rattle.read_admission.specs.Admission.{line_refusal, is_keyed, has_key, is_used, is_taken, barring}

-- ---- a line's key is in the text

-- the pieces of a line that is in the text are there too
pub stood : (strict : Bool) (t : List ℕ) (p : Piece) → Stands t 0 p → (r : Record) → records.line strict p ≡ read r → Each (Stands t 0) (pieces r)
stood strict t p s r e = each_map (Stands p.bytes p.at) (Stands t 0) (λ x. stands-within t 0 p x s) (pieces r) (line-stand strict p r e)

-- ---- a key used before

any_same : (f g : Record → Bool) → ((q : Record) → f q ≡ g q) → (rs : List Record) → any f rs ≡ any g rs
unfolding any
any_same f g h [] = refl
any_same f g h (r ∷ rs) = ap (λ t. t || any f rs) (h r) ∙ ap (λ t. g r || t) (any_same f g h rs)

-- a record with a key clashes with those of its kind that have its bytes for their key
keyed-clash : (r : Record) (k : ℕ) (p : Piece) → code r ≡ k → key r ≡ some p → (q : Record) → clash r q ≡ has_key k p.bytes q
unfolding clash has_key same_keys is_keyed
keyed-clash r k p c e q = ap (λ n. eqb n (code q) && same_keys (key r) (key q)) c ∙ ap (λ o. eqb k (code q) && same_keys o (key q)) e ∙ ap (λ t. eqb k (code q) && t) (go (key q))
  where
    go : (o : Option Piece) → same_keys (some p) o ≡ is_keyed p.bytes o
    go none = refl
    go (some x) = refl

-- one without a key clashes with none
unkeyed-clash : (r : Record) → key r ≡ none → (rs : List Record) → any (clash r) rs ≡ false
unfolding any clash same_keys
unkeyed-clash r e [] = refl
unkeyed-clash r e (q ∷ rs) = ap (λ o. (eqb (code r) (code q) && same_keys o (key q)) || any (clash r) rs) e ∙ go (eqb (code r) (code q)) (unkeyed-clash r e rs)
  where
    go : (t : Bool) → any (clash r) rs ≡ false → (t && false) || any (clash r) rs ≡ false
    go true ih = ih
    go false ih = ih

-- ---- after the records before

unless-refusal : (n : ℕ) (r : Record) → line_refusal (unless n r) ≡ n
unfolding line_refusal unless
unless-refusal zero r = refl
unless-refusal (suc n) r = refl

new : (b : Bool) (n : ℕ) → cond b 18 n ≡ 0 → b ≡ false
new true n e = absurd (omega (arith, e))
new false n e = refl

module _ (t : List ℕ) (before : List Record) where
  pub used-is : (r : Record) (k : ℕ) (p : Piece) → code r ≡ k → key r ≡ some p → Stands t 0 p → is_used before t k (stretch_of p) ≡ any (clash r) before
  unfolding is_used stretch_of
  used-is r k p c e s =
      ap (λ b. any (has_key k b) before) (sym bytes) ∙ any_same (has_key k p.bytes) (clash r) (λ q. sym (keyed-clash r k p c e q)) before
    where
      bytes : p.bytes ≡ take (length p.bytes) (drop p.at t)
      bytes = s.bytes ∙ ap (λ m. take (length p.bytes) (drop m t)) (let z : p.at - 0 ≡ p.at = omega arith in z)

  -- a record's key is taken exactly if one of them clashes with it
  pub taken-clash : (r : Record) → Each (Stands t 0) (pieces r) → is_taken before t (record_head r) ≡ any (clash r) before
  unfolding is_taken record_head pieces Each code key
  taken-clash (header v fs) s = sym (unkeyed-clash (header v fs) refl before)
  taken-clash (reference p n fs) s = used-is (reference p n fs) 2 p refl refl s.0
  taken-clash (group p fs) s = used-is (group p fs) 3 p refl refl s.0
  taken-clash (program p fs) s = used-is (program p fs) 4 p refl refl s.0
  taken-clash (comment p) s = sym (unkeyed-clash (comment p) refl before)

  record-barring : (r : Record) → Each (Stands t 0) (pieces r) → barring (is_taken before t (record_head r)) (length before) (length (of_kind 4 before)) (record_head r) ≡ reading.barred before r
  unfolding barring is_taken record_head reading.barred pieces Each code key any none?
  record-barring (header v fs) s = go before
    where
      go : (rs : List Record) → ◌≡◌ {A = ℕ} (cond (eqb (length rs) 0) 0 17) (cond (not (none? rs)) 17 (cond (any (clash (header v fs)) rs) 18 0))
      go [] = refl
      go (q ∷ rs) = ap (λ u. cond u 0 17) (ne_eqb (length (q ∷ rs)) 0 (λ e. omega arith))
  record-barring (reference p n fs) s = ap (λ u. cond u 18 0) (taken-clash (reference p n fs) s)
  record-barring (group p fs) s = ap (λ u. cond u 18 0) (taken-clash (group p fs) s)
  record-barring (program p fs) s = ap (λ u. cond u 18 (cond (leb 1024 (length (of_kind 4 before))) 19 0)) (taken-clash (program p fs) s)
  record-barring (comment p) s = ap (λ u. cond u 18 0) (taken-clash (comment p) s)

  pub barring-is : (strict : Bool) (p : Piece) → Stands t 0 p
      → barring (is_taken before t (head_of (records.line strict p))) (length before) (length (of_kind 4 before)) (head_of (records.line strict p)) ≡ line_refusal (admitted strict before p)
  unfolding admitted following head_of barring line_refusal
  barring-is strict p s = go (records.line strict p) refl
    where
      go : (l : Line) → records.line strict p ≡ l → barring (is_taken before t (head_of l)) (length before) (length (of_kind 4 before)) (head_of l) ≡ line_refusal (following before l)
      go (refused_line n) e = refl
      go (read r) e = record-barring r (stood strict t p s r e) ∙ sym (unless-refusal (reading.barred before r) r)

  -- a line that may follow has a new key
  pub unbarred-new : (count programs : ℕ) (x : Head) → barring (is_taken before t x) count programs x ≡ 0 → is_taken before t x ≡ false
  unfolding barring is_taken
  unbarred-new count programs (head.Refused n) e = refl
  unbarred-new count programs (head.Header v n) e = refl
  unbarred-new count programs (head.ReferenceSequence p l n) e = new (is_used before t 2 p) 0 e
  unbarred-new count programs (head.ReadGroup p n) e = new (is_used before t 3 p) 0 e
  unbarred-new count programs (head.Program p n) e = new (is_used before t 4 p) (cond (leb 1024 programs) 19 0) e
  unbarred-new count programs (head.Comment p) e = refl

-- ---- a refusal is never 0

data Numbered : Line → Type 0 where
  of-refused : (n : ℕ) → Numbered (refused_line (suc n))
  of-read : (r : Record) → Numbered (read r)

either : (t : Bool) {i j : Line} → Numbered i → Numbered j → Numbered (cond t i j)
either true h k = h
either false h k = k

made-numbered : (k : Kind) (fs : List Field) → Numbered (made k fs)
unfolding made versioned announcing measured keyed
made-numbered Header fs = go (last_of 86 78 fs)
  where
    last : (o : Option Version) → Numbered (announcing (settled (without 86 78 fs)) o)
    last none = of-refused 10
    last (some v) = of-read _

    go : (o : Option Piece) → Numbered (versioned (settled (without 86 78 fs)) o)
    go none = of-refused 14
    go (some p) = last (version p.bytes)
made-numbered ReferenceSequence fs = go (last_of 83 78 fs) (last_of 76 78 fs)
  where
    go : (o i : Option Piece) → Numbered (measured (settled (without 83 78 (without 76 78 fs))) o i)
    go none i = of-refused 14
    go (some p) none = of-refused 15
    go (some p) (some n) = of-read _
made-numbered ReadGroup fs = go (last_of 73 68 fs)
  where
    go : (o : Option Piece) → Numbered (keyed (λ p. group p (settled (without 73 68 fs))) o)
    go none = of-refused 14
    go (some p) = of-read _
made-numbered Program fs = go (last_of 73 68 fs)
  where
    go : (o : Option Piece) → Numbered (keyed (λ p. program p (settled (without 73 68 fs))) o)
    go none = of-refused 14
    go (some p) = of-read _
made-numbered Comment fs = of-refused 14

stopped-numbered : (k : Kind) (fs : List Field) (n : ℕ) → Numbered (stopped k fs n)
unfolding stopped
stopped-numbered k fs zero = made-numbered k fs
stopped-numbered k fs (suc n) = of-refused n

fielded-numbered : (strict : Bool) (k : Kind) (at : ℕ) (s : List ℕ) → Numbered (fielded strict k at s)
unfolding fielded judged
fielded-numbered strict k at [] = of-refused 14
fielded-numbered strict k at (b ∷ s) = either (eqb b 9) (go (scan k (placed (at + 1) (cut 9 s)))) (of-refused 5)
  where
    go : (x : Scan) → Numbered (judged strict k x)
    go x = either (strict && repeats x.fields) (of-refused 13) (stopped-numbered k x.fields x.stop)

remark-numbered : (at : ℕ) (s : List ℕ) → Numbered (remark at s)
unfolding remark
remark-numbered at [] = of-refused 6
remark-numbered at (b ∷ s) = either (eqb b 9) (of-read _) (of-refused 5)

bodied-numbered : (strict : Bool) (at : ℕ) (s : List ℕ) (o : Option Kind) → Numbered (bodied strict at s o)
unfolding bodied body
bodied-numbered strict at s none = of-refused 4
bodied-numbered strict at s (some Header) = fielded-numbered strict Header at s
bodied-numbered strict at s (some ReferenceSequence) = fielded-numbered strict ReferenceSequence at s
bodied-numbered strict at s (some ReadGroup) = fielded-numbered strict ReadGroup at s
bodied-numbered strict at s (some Program) = fielded-numbered strict Program at s
bodied-numbered strict at s (some Comment) = remark-numbered at s

kinded-numbered : (strict : Bool) (at : ℕ) (s : List ℕ) → Numbered (kinded strict at s)
unfolding kinded
kinded-numbered strict at [] = of-refused 3
kinded-numbered strict at (a ∷ []) = of-refused 4
kinded-numbered strict at (a ∷ b ∷ s) = bodied-numbered strict (at + 2) s (kind_of a b)

prefixed-numbered : (strict : Bool) (at : ℕ) (s : List ℕ) → Numbered (prefixed strict at s)
unfolding prefixed
prefixed-numbered strict at [] = of-refused 2
prefixed-numbered strict at (b ∷ s) = either (eqb b 64) (kinded-numbered strict (at + 1) s) (of-refused 2)

line-numbered : (strict : Bool) (p : Piece) → Numbered (records.line strict p)
unfolding records.line
line-numbered strict p = either (any breaks p.bytes) (of-refused 1) (prefixed-numbered strict p.at p.bytes)

pub refused-some : (strict : Bool) (p : Piece) (n : ℕ) → records.line strict p ≡ refused_line n → n ≡ 0 → ⊥
unfolding line_refusal
refused-some strict p n e = go (line-numbered strict p) e
  where
    go : {l : Line} → Numbered l → l ≡ refused_line n → n ≡ 0 → ⊥
    go (of-refused m) e z = let k : suc m ≡ n = ap line_refusal e in omega arith
    go (of-read r) e z = never (cc)

-- ---- what the number says

-- 0: the line is read, and its record may follow
pub refusal-none : (strict : Bool) (before : List Record) (p : Piece) → line_refusal (admitted strict before p) ≡ 0
    → (r : Record) × (records.line strict p ≡ read r) × (admitted strict before p ≡ read r)
unfolding admitted following line_refusal unless
refusal-none strict before p h = go (records.line strict p) refl h
  where
    free : (n : ℕ) (r : Record) → line_refusal (unless n r) ≡ 0 → unless n r ≡ read r
    free zero r e = refl
    free (suc n) r e = absurd (omega arith)

    go : (l : Line) → records.line strict p ≡ l → line_refusal (following before l) ≡ 0 → (r : Record) × (records.line strict p ≡ read r) × (following before (records.line strict p) ≡ read r)
    go (refused_line n) e h = absurd (refused-some strict p n e h)
    go (read r) e h = (r, e, ap (following before) e ∙ free (reading.barred before r) r h)

-- another number: the line is refused with it
pub refusal-some : (strict : Bool) (before : List Record) (p : Piece) (n : ℕ) → line_refusal (admitted strict before p) ≡ n → (n ≡ 0 → ⊥) → admitted strict before p ≡ refused_line n
unfolding line_refusal
refusal-some strict before p n h s = go (admitted strict before p) h
  where
    go : (l : Line) → line_refusal l ≡ n → l ≡ refused_line n
    go (refused_line m) e = ap refused_line e
    go (read r) e = absurd (s (sym e))
