-- The SQ list line by line: the first line's reference, and those of the lines after it.
use Prim.Native.Nat.{ℕ, ◌+◌, ◌-◌, ◌≤◌, ◌<◌}
use mathlib.Core.Path.{◌≡◌, refl, sym, ap, subst, ◌∙◌}
use mathlib.Core.Bool.{Bool, true, false, false≢true}
use mathlib.Core.List.{List, [], ◌∷◌, ◌++◌}
use native.Mathlib.Omega.{arith}
use lib.ListN.{length, take, drop, get_or, length-drop, drop_of_length-le}
use lib.Dec.{ltb}
use lib.Seq.{drop-drop, length-take-le}
use borrow.Author.Tests.{eq-eqb, ltb-true, ltb-false}
use Rattle.format.specs.Lines.{Piece, lines, lines_from}
use Rattle.format.specs.Records as records
use Rattle.format.specs.Records.{Record, header, reference, group, program, comment, Line, refused_line, read}
use Rattle.format.specs.Reading.{accept, read_text}
use Rattle.byte_slices.specs.First.{first_line}
use Rattle.byte_slices.specs.Stands.{Stands, Each}
use Rattle.byte_slices.specs.declared.Cut.{Cut}
use Rattle.byte_slices.proofs.Lines.{lines_none}
use Rattle.byte_slices.proofs.First.{lines-first, first-le, first-within, first_some}
use Rattle.byte_slices.proofs.Stands.{stands-front, stands-onward}
use Rattle.accepted.specs.Pieces.{pieces}
use Rattle.lists.specs.Pairs.{Pairs}
use Rattle.accepted.specs.Sound.{FitsRecord, kind}
use Rattle.accepted.specs.Spelled as sp
use Rattle.accepted.specs.Spelled.{AcceptedLine, kind₀}
use Rattle.lists.proofs.Bools.{never}
use Rattle.accepted.proofs.Sound.{made-kind, line-sound}
use Rattle.accepted.proofs.Spelled.{line-accepted}
use Rattle.accepted.proofs.Stands.{stands-within, line-stand}
use Rattle.accepted_rule.specs.Rule.{ReadsBy}
use Rattle.accepted_rule.proofs.Rule.{lines-by}
use Rattle.record.specs.Head.{stretch_of, record_head, head_of}
use Rattle.record.specs.declared.Head.{Head}
use Rattle.record.specs.declared.Head.TheVariants as head
use Rattle.record.specs.declared.Stretch.{Stretch}
use Rattle.format.specs.References.{Reference, sq_list}
use Rattle.binary_references.specs.Next.{may_be_sq, with_reference, line_references, sq_from, told_reference, told_list, start_of, next_by, next_in, next_from}
use Rattle.binary_references.specs.declared.NextReference.{NextReference}
use Rattle.std.specs.Prelude.{Option, None, Some}

-- ---- all lines of an accepted text

one_more : (r : Record) (rs : List Record) → sq_list (r ∷ rs) ≡ sq_list (r ∷ []) ++ sq_list rs
unfolding sq_list
one_more (header v fs) rs = refl
one_more (reference p n fs) rs = refl
one_more (group p fs) rs = refl
one_more (program p fs) rs = refl
one_more (comment p) rs = refl

pairs-list : (strict : Bool) (ps : List Piece) (rs : List Record) → Pairs (λ p r. records.line strict p ≡ read r) ps rs → line_references strict ps ≡ sq_list rs
unfolding Pairs line_references with_reference sq_list
pairs-list strict [] [] h = refl
pairs-list strict [] (r ∷ rs) h = absurd h
pairs-list strict (p ∷ ps) [] h = absurd h
pairs-list strict (p ∷ ps) (r ∷ rs) h = ap (λ l. with_reference l (line_references strict ps)) h.0 ∙ ap (λ l. sq_list (r ∷ []) ++ l) (pairs-list strict ps rs h.1) ∙ sym (one_more r rs)

-- from the first line on it is the SQ list
pub sq-all : (strict : Bool) (t : List ℕ) (rs : List Record) → read_text t ≡ accept rs → ReadsBy strict t → sq_from strict t 0 ≡ sq_list rs
unfolding lines
sq-all strict t rs e s = pairs-list strict (lines t) rs (lines-by strict t rs e s)

-- there is no line after the last
pub sq-none : (strict : Bool) (t : List ℕ) (at : ℕ) → length t ≤ at → sq_from strict t at ≡ []
unfolding line_references
sq-none strict t at h = ap (λ s. line_references strict (lines_from at s)) (drop_of_length-le t h) ∙ ap (line_references strict) (lines_none at)

-- and none is answered
pub next-none : (strict : Bool) (t : List ℕ) (at : ℕ) → length t ≤ at → next_from strict t at ≡ None
unfolding next_in
next-none strict t at k =
    ap (λ s. next_in strict (length t) (lines_from at s)) (drop_of_length-le t k) ∙ ap (next_in strict (length t)) (lines_none at)

-- where the lines from an offset on start
start-at : (t : List ℕ) (at : ℕ) → at ≤ length t → start_of (length t) (lines_from at (drop at t)) ≡ at
unfolding start_of
start-at t at h = go (ltb at (length t)) refl
  where
    go : (b : Bool) → ltb at (length t) ≡ b → start_of (length t) (lines_from at (drop at t)) ≡ at
    go true e = ap (start_of (length t)) (lines-first at (drop at t) (omega (arith, length-drop at t, ltb-true at (length t) e)))
    go false e =
        let k : length t ≤ at = ltb-false at (length t) e in
        let z : length t ≡ at = omega arith in
        ap (λ s. start_of (length t) (lines_from at s)) (drop_of_length-le t k) ∙ ap (start_of (length t)) (lines_none at) ∙ z

-- ---- the first line of those that are left

-- the part of the text that the line is lent as
abbrev pub lent : List ℕ → ℕ → ℕ → List ℕ
lent t at n = take (at + n - at) (drop at t)

pub record Turn (strict : Bool) (t : List ℕ) (at : ℕ) (c : Cut) : Type 0 where
  pub inside : at + c.len ≤ length t
  pub onward : 0 < c.next
  pub within : at + c.next ≤ length t
  pub list : sq_from strict t at ≡ with_reference (records.line strict (record { at = at; bytes = lent t at c.len })) (sq_from strict t (at + c.next))
  pub next : next_from strict t at ≡ next_by (records.line strict (record { at = at; bytes = lent t at c.len })) (at + c.next) (next_from strict t (at + c.next))
  pub stands : Stands t 0 (record { at = at; bytes = lent t at c.len })

pub turn : (strict : Bool) (t : List ℕ) (at : ℕ) → at < length t → (c : Cut) → c ≡ first_line (drop at t) → Turn strict t at c
unfolding line_references next_in
turn strict t at h c f =
    let s : List ℕ = drop at t in
    let l : length s ≡ length t - at = length-drop at t in
    let bound : (c.len ≤ c.next) × (c.next ≤ length s) × (0 < c.next) = rw f (first-le s, first-within s, first_some s (omega arith)) in
    let m : at + c.len - at ≡ c.len = omega arith in
    let zero-at : at ≡ 0 + at = omega arith in
    let cut : lines_from at s ≡ record { at = at; bytes = lent t at c.len } ∷ lines_from (at + c.next) (drop (at + c.next) t) =
    rw m (lines-first at s (omega arith) ∙ rw (← f, drop-drop c.next at t) refl) in
    record {
      inside = omega (arith, bound);
      onward = bound.2;
      within = omega (arith, bound);
      list = ap (line_references strict) cut;
      next = ap (next_in strict (length t)) cut
          ∙ ap (λ k. next_by (records.line strict (record { at = at; bytes = lent t at c.len })) k (next_from strict t (at + c.next))) (start-at t (at + c.next) (omega (arith, bound)));
      stands = rw m (stands-onward t 0 at (omega arith) (record { at = at; bytes = take c.len s }) (subst (λ k. Stands s k (record { at = at; bytes = take c.len s })) zero-at (stands-front s at c.len (omega (arith, bound)))));
    }

-- ---- by the line's head

-- an SQ: its name is in the text, its LN is small, and its reference comes first
pub record IsSq (t : List ℕ) (q : Stretch) (n : ℕ) (l : Line) : Type 0 where
  pub inside : q.at + q.len ≤ length t
  pub small : n < 2147483648
  pub list : (rest : List Reference) → with_reference l rest ≡ record { name = take q.len (drop q.at t); size = n } ∷ rest
  pub next : (k : ℕ) (rest : Option NextReference) → next_by l k rest ≡ Some (record { name = q; length = n; next = k })

module _ (strict : Bool) (t : List ℕ) (p : Piece) (s : Stands t 0 p) where
  sq-record : (r : Record) → records.line strict p ≡ read r → (q : Stretch) (n k : ℕ) → record_head r ≡ head.ReferenceSequence q n k → IsSq t q n (read r)
  unfolding record_head stretch_of with_reference sq_list next_by pieces Each FitsRecord
  sq-record (header v fs) e q n k h = absurd (never (cc))
  sq-record (reference x m fs) e q n k h =
      let i : Stands t 0 x = stands-within t 0 p x s (line-stand strict p (reference x m fs) e).0 in
      let a : x.at ≡ q.at = ap (λ s. s.at) (same h) in
      let b : length x.bytes ≡ q.len = ap (λ s. s.len) (same h) in
      let z : x.at - 0 ≡ x.at = omega arith in
      record {
        inside = omega (arith, i.within, a, b);
        small = omega (arith, (line-sound strict p (reference x m fs) e).fits.1, number h);
        list = λ rest. ap (λ y. y ∷ rest) (made (i.bytes ∙ rw (z, a, b) refl) (number h));
        next = λ k rest. told k (same h) (number h);
      }
    where
      same : head.ReferenceSequence (record { at = x.at; len = length x.bytes }) m (length fs) ≡ head.ReferenceSequence q n k → record { at = x.at; len = length x.bytes } ≡ q
      same h = cc

      number : head.ReferenceSequence (record { at = x.at; len = length x.bytes }) m (length fs) ≡ head.ReferenceSequence q n k → m ≡ n
      number h = cc

      told : {p : Stretch} {m : ℕ} (k : ℕ) → p ≡ q → m ≡ n → ◌≡◌ {A = Option NextReference} (Some (record { name = p; length = m; next = k })) (Some (record { name = q; length = n; next = k }))
      told k e f = rw (e, f) refl

      made : {a b : List ℕ} {c d : ℕ} → a ≡ b → c ≡ d → ◌≡◌ {A = Reference} (record { name = a; size = c }) (record { name = b; size = d })
      made e f = rw (e, f) refl
  sq-record (group x fs) e q n k h = absurd (never (cc))
  sq-record (program x fs) e q n k h = absurd (never (cc))
  sq-record (comment x) e q n k h = absurd (never (cc))

  pub sq-line : (q : Stretch) (n k : ℕ) → head_of (records.line strict p) ≡ head.ReferenceSequence q n k → IsSq t q n (records.line strict p)
  unfolding head_of
  sq-line q n k h = go (records.line strict p) refl h
    where
      go : (l : Line) → records.line strict p ≡ l → head_of l ≡ head.ReferenceSequence q n k → IsSq t q n l
      go (refused_line x) e h = absurd (never (cc))
      go (read r) e h = sq-record r e q n k h

-- any other line has no reference
pub record NoSq (l : Line) : Type 0 where
  pub list : (rest : List Reference) → with_reference l rest ≡ rest
  pub next : (k : ℕ) (rest : Option NextReference) → next_by l k rest ≡ rest

other-head : (l : Line) → ((q : Stretch) (n k : ℕ) → head_of l ≡ head.ReferenceSequence q n k → ⊥) → NoSq l
unfolding head_of record_head with_reference sq_list next_by
other-head (refused_line n) h = record { list = λ rest. refl; next = λ k rest. refl }
other-head (read (header v fs)) h = record { list = λ rest. refl; next = λ k rest. refl }
other-head (read (reference p n fs)) h = absurd (h _ _ _ refl)
other-head (read (group p fs)) h = record { list = λ rest. refl; next = λ k rest. refl }
other-head (read (program p fs)) h = record { list = λ rest. refl; next = λ k rest. refl }
other-head (read (comment p)) h = record { list = λ rest. refl; next = λ k rest. refl }

pub sq-other : (l : Line) (x : Head) → x ≡ head_of l → ((q : Stretch) (n k : ℕ) → x ≡ head.ReferenceSequence q n k → ⊥) → NoSq l
sq-other l x e h = other-head l (λ q n k d. h q n k (e ∙ d))

-- ---- by the line's second byte

pub second-byte : (strict : Bool) (at : ℕ) (s : List ℕ) (r : Record) → AcceptedLine strict at s r → get_or s 1 0 ≡ kind₀ (kind r)
unfolding kind₀ kind
second-byte strict at s r (sp.of-remark t) = refl
second-byte strict at s r (sp.of_fields a) = ap (λ l. get_or l 1 0) a.spells ∙ ap kind₀ (sym (made-kind a.fields a.kind r a.made))

no-sq : (s : List ℕ) (r : Record) → get_or s 1 0 ≡ kind₀ (kind r) → may_be_sq s ≡ false → NoSq (read r)
unfolding kind₀ kind may_be_sq with_reference sq_list next_by
no-sq s (header v fs) e h = record { list = λ rest. refl; next = λ k rest. refl }
no-sq s (reference p n fs) e h = absurd (false≢true (sym h ∙ eq-eqb (get_or s 1 0) 83 e))
no-sq s (group p fs) e h = record { list = λ rest. refl; next = λ k rest. refl }
no-sq s (program p fs) e h = record { list = λ rest. refl; next = λ k rest. refl }
no-sq s (comment p) e h = record { list = λ rest. refl; next = λ k rest. refl }

-- a line whose second byte is not `S` has no reference
pub sq-never : (strict : Bool) (p : Piece) → may_be_sq p.bytes ≡ false → NoSq (records.line strict p)
unfolding with_reference next_by
sq-never strict p h = go (records.line strict p) refl
  where
    go : (l : Line) → records.line strict p ≡ l → NoSq l
    go (refused_line n) e = record { list = λ rest. refl; next = λ k rest. refl }
    go (read r) e = no-sq p.bytes r (second-byte strict p.at p.bytes r (line-accepted strict p r e)) h

-- ---- by what the next reference is

-- none is left
pub told_none : (strict : Bool) (t : List ℕ) → told_list strict t None ≡ []
unfolding told_list
told_none strict t = refl

module _ (strict : Bool) (t : List ℕ) (r : NextReference) where
  -- it is found: it comes before those after it
  pub told-one : told_list strict t (Some r) ≡ told_reference t r ∷ sq_from strict t r.next
  unfolding told_list
  told-one = refl

  -- how long its name is
  pub told-length : r.name.at + r.name.len ≤ length t → length (told_reference t r).name ≡ r.name.len
  unfolding told_reference
  told-length h = length-take-le r.name.len (drop r.name.at t) (omega (arith, length-drop r.name.at t, h))
