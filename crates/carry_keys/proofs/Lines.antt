-- Where the lines of a text and their keys are: the key of a line comes before every later line.
use Prim.Native.Nat.{ℕ, zero, suc, ◌+◌, ◌%◌, ◌≤◌, ◌<◌}
use mathlib.Core.Path.{◌≡◌, refl, sym, ap, subst, ◌∙◌}
use mathlib.Core.Bool.{Bool, true, false, cond, false≢true}
use mathlib.Core.List.{List, [], ◌∷◌, ◌++◌}
use native.Mathlib.Omega.{arith}
use lib.ListN.{length, drop, get_or, length-take}
use lib.Dec.{ltb}
use borrow.Author.Tests.{lt-ltb, le-ltb, ltb-true, ltb-false}
use Rattle.format.specs.Bytes.{none?}
use Rattle.format.specs.Lines.{Piece, lines_from}
use Rattle.format.specs.Fields.{is_value}
use Rattle.format.specs.Records.{Record, header, reference, group, program, comment, key, Line, refused_line, read, line}
use Rattle.byte_slices.specs.First.{first_line}
use Rattle.byte_slices.specs.Stands.{Stands, Each}
use Rattle.byte_slices.proofs.First.{first-le}
use Rattle.byte_slices.proofs.Stands.{lines-stand}
use Rattle.accepted.specs.Sound.{KeyIsValue}
use Rattle.accepted.specs.Pieces.{pieces}
use Rattle.accepted.proofs.Sound.{line-sound}
use Rattle.accepted.proofs.Stands.{line-stand}
use Rattle.accepted.specs.First.{first_at}
use Rattle.accepted.proofs.Ahead.{ahead_none, ahead-one, next_more, ahead-stands}
use Rattle.read_admission.proofs.Admission.{stood}
use Rattle.key_index.specs.KeySlots.{value}
use Rattle.key_look.specs.Sought.{fingerprint}
use Rattle.key_index.specs.HeldKeys.{values_of, key_values_of}
use Rattle.accepted.specs.Ended.{Ended}
use Rattle.key_index.proofs.Held.{value-place}
use Rattle.accepted.proofs.LineKeys.{line-ended}
use Rattle.carry_keys.specs.Blocks.{earlier, record_if_read, read_in}
use Rattle.key_look.specs.declared.Seed.{Seed}

-- ---- each of a list

pub each_left : {A : Type 0} (P : A → Type 0) (xs ys : List A) → Each P (xs ++ ys) → Each P xs
unfolding Each
each_left P [] ys h = tt
each_left P (x ∷ xs) ys h = (h.0, each_left P xs ys h.1)

pub each_right : {A : Type 0} (P : A → Type 0) (xs ys : List A) → Each P (xs ++ ys) → Each P ys
unfolding Each
each_right P [] ys h = h
each_right P (x ∷ xs) ys h = each_right P xs ys h.1

pub each_append : {A : Type 0} (P : A → Type 0) (xs ys : List A) → Each P xs → Each P ys → Each P (xs ++ ys)
unfolding Each
each_append P [] ys h k = k
each_append P (x ∷ xs) ys h k = (h.0, each_append P xs ys h.1 k)

-- ---- a line in its text

-- it is the line at its offset
unfoldable pub Sits : List ℕ → Piece → Type 0
Sits t q = (q.at < length t) × (q ≡ first_at q.at t)

pub lines-sit : (t : List ℕ) (at : ℕ) → Each (Sits t) (lines_from at (drop at t))
unfolding Each Sits
lines-sit t at = by (length t) at (omega arith)
  where
    by : (f at : ℕ) → length t ≤ at + f → Each (Sits t) (lines_from at (drop at t))
    by zero at h = rw (ahead_none t at (omega (arith, h))) tt
    by (suc f) at h = go (ltb at (length t)) refl (λ l. by f (at + (first_line (drop at t)).next) (omega (arith, h, next_more t at l)))
      where
        go : (b : Bool) → ltb at (length t) ≡ b → (at < length t → Each (Sits t) (lines_from (at + (first_line (drop at t)).next) (drop (at + (first_line (drop at t)).next) t)))
            → Each (Sits t) (lines_from at (drop at t))
        go true e ih =
            let l : at < length t = ltb-true at (length t) e in
            rw (ahead-one t at l) ((l, refl), ih l)
        go false e ih = rw (ahead_none t at (ltb-false at (length t) e)) tt

module _ (strict : Bool) (t : List ℕ) (small : length t ≤ 16777216) (q : Piece) (s : Sits t q) (r : Record) (is : line strict q ≡ read r) where
  pub sits-stand : Each (Stands t 0) (pieces r)
  unfolding Sits
  sits-stand = stood strict t q (subst (Stands t 0) (sym s.1) (ahead-stands t q.at s.0)) r is

  pub sits-ended : Ended t r
  unfolding Sits
  sits-ended = line-ended strict t q.at r small (ap (line strict) (sym s.1) ∙ is) sits-stand

pub reads-ended : (strict : Bool) (t : List ℕ) → length t ≤ 16777216 → (qs : List Piece) → Each (Sits t) qs → Each (Ended t) (read_in strict qs)
unfolding Each read_in record_if_read
reads-ended strict t small [] s = tt
reads-ended strict t small (q ∷ qs) s = go (line strict q) refl (reads-ended strict t small qs s.1)
  where
    go : (l : Line) → line strict q ≡ l → Each (Ended t) (read_in strict qs) → Each (Ended t) (record_if_read l ++ read_in strict qs)
    go (refused_line n) e ih = ih
    go (read r) e ih = (sits-ended strict t small q s.0 r e, ih)

-- ---- lines before an offset

unfoldable pub Before : ℕ → Piece → Type 0
Before n q = (q.at < n) × (q.at + length q.bytes ≤ n)

-- a line that others come before
pub lines-before : (t : List ℕ) (from : ℕ) (qs : List Piece) (p : Piece) (ps : List Piece) → lines_from from (drop from t) ≡ qs ++ (p ∷ ps) → Each (Before p.at) qs
unfolding Each Before
lines-before t from [] p ps e = tt
lines-before t from (q ∷ qs) p ps e = go (ltb from (length t)) refl (lines-before t (from + (first_line (drop from t)).next) qs p ps)
  where
    go : (b : Bool) → ltb from (length t) ≡ b
        → (lines_from (from + (first_line (drop from t)).next) (drop (from + (first_line (drop from t)).next) t) ≡ qs ++ (p ∷ ps) → Each (Before p.at) qs) → Each (Before p.at) (q ∷ qs)
    go true h ih =
        let l : from < length t = ltb-true from (length t) h in
        let next : ℕ = from + (first_line (drop from t)).next in
        let o : first_at from t ∷ lines_from next (drop next t) ≡ q ∷ (qs ++ (p ∷ ps)) = sym (ahead-one t from l) ∙ e in
        let first : first_at from t ≡ q = ap (λ x. get_or x 0 q) o in
        let rest : lines_from next (drop next t) ≡ qs ++ (p ∷ ps) = ap (drop 1) o in
        let far : next ≤ p.at = (each_right (Stands (drop next t) next) qs (p ∷ ps) (subst (Each (Stands (drop next t) next)) rest (lines-stand next (drop next t)))).0.from in
        let more = next_more t from l in
        let len : length q.bytes ≤ (first_line (drop from t)).len = omega (arith, ap (λ x. length x.bytes) first, length-take (first_line (drop from t)).len (drop from t)) in
        let at : q.at ≡ from = sym (ap (λ x. x.at) first) in
        ((omega (arith, at, more, far), omega (arith, at, len, first-le (drop from t), far)), ih rest)
    go false h ih = absurd (let z : 0 ≡ suc (length (qs ++ (p ∷ ps))) = ap length (sym (ahead_none t from (ltb-false from (length t) h)) ∙ e) in omega (arith, z))

-- the lines before the one at `to` are those that start earlier
pub earlier-all : (to : ℕ) (qs : List Piece) (p : Piece) (ps : List Piece) → Each (Before to) qs → to ≤ p.at → earlier to (qs ++ (p ∷ ps)) ≡ qs
unfolding earlier Each Before
earlier-all to [] p ps b l = ap (λ b. cond b (p ∷ earlier to ps) []) (le-ltb p.at to l)
earlier-all to (q ∷ qs) p ps b l = ap (λ b. cond b (q ∷ earlier to (qs ++ (p ∷ ps))) []) (lt-ltb q.at to b.0.0) ∙ ap (λ r. q ∷ r) (earlier-all to qs p ps b.1 l)

-- ---- and their keys

-- a value whose offset is below `n`
unfoldable pub Low : ℕ → ℕ → Type 0
Low n v = v % 16777216 < n

value-long : (b : List ℕ) → is_value b ≡ true → 0 < length b
unfolding is_value none?
value-long [] e = absurd (false≢true e)
value-long (c ∷ b) e = omega arith

module _ (seed : Seed) where
  module _ (strict : Bool) (t : List ℕ) (small : length t ≤ 16777216) (n : ℕ) where
    one-low : (j : ℕ) (q p : Piece) → Before n q → Stands q.bytes q.at p → is_value p.bytes ≡ true → p.at < 16777216 → Each (Low n) (value (fingerprint seed j p.bytes) p.at ∷ [])
    unfolding Each Low Before
    one-low j q p b s v l =
        let h : p.at < n = omega (arith, b.1, s.from, s.within, value-long p.bytes v) in
        (omega (arith, value-place (fingerprint seed j p.bytes) p.at l, h), tt)

    line_low : (q : Piece) → Before n q → Sits t q → (r : Record) → line strict q ≡ read r → Each (Low n) (values_of seed r)
    unfolding Each values_of pieces KeyIsValue key Ended
    line_low q b s r is = go r (line-stand strict q r is) (line-sound strict q r is).named (sits-ended strict t small q s r is)
      where
        go : (r : Record) → Each (Stands q.bytes q.at) (pieces r) → KeyIsValue (key r) → Ended t r → Each (Low n) (values_of seed r)
        go (header v fs) a m e = tt
        go (reference p l fs) a m e = one-low 2 q p b a.0 m e.0
        go (group p fs) a m e = one-low 3 q p b a.0 m e.0
        go (program p fs) a m e = one-low 4 q p b a.0 m e.0
        go (comment p) a m e = tt

    pub lines-low : (qs : List Piece) → Each (Before n) qs → Each (Sits t) qs → Each (Low n) (key_values_of seed (read_in strict qs))
    unfolding Each key_values_of read_in record_if_read
    lines-low [] b s = tt
    lines-low (q ∷ qs) b s = go (line strict q) refl (lines-low qs b.1 s.1)
      where
        go : (l : Line) → line strict q ≡ l → Each (Low n) (key_values_of seed (read_in strict qs)) → Each (Low n) (key_values_of seed (record_if_read l ++ read_in strict qs))
        go (refused_line m) e ih = ih
        go (read r) e ih = each_append (Low n) (values_of seed r) (key_values_of seed (read_in strict qs)) (line_low q b.0 s.0 r e) ih
