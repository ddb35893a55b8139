-- Bytes that are taken apart are the binary header of the parts: each part, written again, is what was taken.
use Prim.Native.Nat.{ℕ, zero, suc, ◌+◌, ◌*◌, ◌/◌, ◌%◌, ◌^◌, ◌≤◌, ◌<◌}
use mathlib.Core.Path.{◌≡◌, refl, sym, ap, ◌∙◌}
use mathlib.Core.Bool.{Bool, true, false, ◌&&◌, cond}
use mathlib.Core.List.{List, [], ◌∷◌, ◌++◌, append_assoc, append-nil}
use mathlib.Core.Option.{Option, none, some}
use native.Mathlib.Omega.{arith}
use native.Mathlib.Nat.{pow-zero, pow-suc}
use lib.ListN.{length, take, drop, take-append-drop}
use lib.Seq.{length-take-le}
use lib.Dec.{eqb, leb}
use borrow.Author.Tests.{eqb-true, leb-true}
use Rattle.format.specs.Bytes.{none?, starts}
use Rattle.format.specs.Catalogue.{little}
use Rattle.format.specs.Programs.{last_or, but_last}
use Rattle.format.specs.References.{Reference}
use Rattle.byte_slices.specs.Stands.{Each}
use Rattle.format.specs.Little.{of_little}
use Rattle.lists.proofs.Bools.{never, and_left, and_right}
use Rattle.format.specs.Binary.{magic, sized, reference_bytes, list_bytes, binary, and_then, take_bytes, take_number, take_sized, closed_name, take_reference, take_list, take_both, binary_parts}
use Rattle.binary_bytes.proofs.Parts.{Small, AllSmall, parts-back}
use Rattle.binary_laws.specs.Exact.{AllBytes, IsBinary, PartsAreBinary, BinaryIsTakenApart}

-- ---- what one part and the next were

record Took {A B : Type 0} (o : Option A) (f : A → Option B) (b : B) : Type 0 where
  value : A
  first : o ≡ some value
  second : f value ≡ some b

took : {A B : Type 0} (o : Option A) (f : A → Option B) (b : B) → and_then o f ≡ some b → Took o f b
unfolding and_then
took none f b e = absurd (never (cc))
took (some a) f b e = record { value = a; first = refl; second = e }

both : {A B : Type 0} (a c : A) (b d : B) → ◌≡◌ {A = Option (A × B)} (some (a, b)) (some (c, d)) → (a ≡ c) × (b ≡ d)
both {A} {B} a c b d e =
    let p : ◌≡◌ {A = A × B} (a, b) (c, d) = cc in
    (ap (λ x. x.0) p, ap (λ x. x.1) p)

-- ---- bytes

bytes-append : (s t : List ℕ) → AllBytes (s ++ t) → AllBytes s × AllBytes t
unfolding AllBytes Each
bytes-append [] t h = (tt, h)
bytes-append (b ∷ s) t h = let k = bytes-append s t h.1 in ((h.0, k.0), k.1)

-- the number of some bytes, in bytes again
little-of : (s : List ℕ) → AllBytes s → little (length s) (of_little s) ≡ s
unfolding AllBytes Each little of_little
little-of [] h = refl
little-of (b ∷ s) h =
    let l : (b + 256 * of_little s) % 256 ≡ b = omega (arith, h.0) in
    let q : (b + 256 * of_little s) / 256 ≡ of_little s = omega (arith, h.0) in
    rw (l, q, little-of s h.1) refl

of-below : (s : List ℕ) → AllBytes s → of_little s < 256 ^ length s
unfolding AllBytes Each of_little
of-below [] h = omega (arith, pow-zero 256)
of-below (b ∷ s) h = omega (arith, h.0, pow-suc 256 (length s), of-below s h.1)

-- ---- the front of some bytes

-- `s` starts with `front`, and `rest` is after it
record Front (s front rest : List ℕ) : Type 0 where
  whole : s ≡ front ++ rest
  behind : AllBytes rest

take-front : (n : ℕ) (s front rest : List ℕ) → AllBytes s → take_bytes n s ≡ some (front, rest) → Front s front rest × (length front ≡ n) × AllBytes front
unfolding take_bytes
take-front n s front rest h e = go (leb n (length s)) refl e
  where
    go : (t : Bool) → leb n (length s) ≡ t → cond {A = Option (List ℕ × List ℕ)} t (some (take n s, drop n s)) none ≡ some (front, rest)
        → Front s front rest × (length front ≡ n) × AllBytes front
    go true q e =
        let p = both (take n s) front (drop n s) rest e in
        let w : s ≡ front ++ rest = sym (take-append-drop n s) ∙ ap (λ t. t ++ drop n s) p.0 ∙ ap (λ t. front ++ t) p.1 in
        let k : AllBytes front × AllBytes rest = bytes-append front rest (rw w at h) in
        (record { whole = w; behind = k.1 }, ap length (sym p.0) ∙ length-take-le n s (leb-true n (length s) q), k.0)
    go false q e = absurd (never (cc))

number-front : (s rest : List ℕ) (v : ℕ) → AllBytes s → take_number s ≡ some (v, rest) → Front s (little 4 v) rest × (v < 256 ^ 4)
unfolding take_number
number-front s rest v h e =
    let t = took (take_bytes 4 s) (λ p. some (of_little p.0, p.1)) (v, rest) e in
    go t.value.0 t.value.1 t.first t.second
  where
    go : (a b : List ℕ) → take_bytes 4 s ≡ some (a, b) → ◌≡◌ {A = Option (ℕ × List ℕ)} (some (of_little a, b)) (some (v, rest)) → Front s (little 4 v) rest × (v < 256 ^ 4)
    go a b p q =
        let k = take-front 4 s a b h p in
        let x = (both (of_little a) v b rest q).0 in
        let y = (both (of_little a) v b rest q).1 in
        let z : a ≡ little 4 v = sym (little-of a k.2) ∙ ap (λ n. little n (of_little a)) k.1 ∙ ap (little 4) x in (
          record { whole = k.0.whole ∙ ap (λ t. t ++ b) z ∙ ap (λ t. little 4 v ++ t) y; behind = rw y at k.0.behind },
          rw (x, k.1) at (of-below a k.2),
        )

sized-front : (s c rest : List ℕ) → AllBytes s → take_sized s ≡ some (c, rest) → Front s (sized c) rest × (length c < 256 ^ 4)
unfolding take_sized sized
sized-front s c rest h e =
    let t = took (take_number s) (λ n. take_bytes n.0 n.1) (c, rest) e in
    let a = number-front s t.value.1 t.value.0 h t.first in
    let b = take-front t.value.0 t.value.1 c rest a.0.behind t.second in
    let w : s ≡ little 4 (length c) ++ c ++ rest =
    a.0.whole ∙ ap (λ u. little 4 t.value.0 ++ u) b.0.whole ∙ ap (λ n. little 4 n ++ (c ++ rest)) (sym b.1)
    ∙ sym (append_assoc (little 4 (length c)) c rest) in
    (record { whole = w; behind = b.0.behind }, omega (arith, a.1, b.1))

-- ---- a reference

but_last_lem : (b : ℕ) (s : List ℕ) → last_or b s ≡ 0 → b ∷ s ≡ but_last (b ∷ s) ++ (0 ∷ [])
unfolding last_or but_last
but_last_lem b [] e = ap {B = List ℕ} (λ x. x ∷ []) e
but_last_lem b (c ∷ s) e = ap {B = List ℕ} (λ t. b ∷ t) (but_last_lem c s e)

name-closed : (c name : List ℕ) → closed_name c ≡ some name → c ≡ name ++ (0 ∷ [])
unfolding closed_name last_or
name-closed [] name e = absurd (never (cc))
name-closed (b ∷ s) name e = go (eqb (last_or b s) 0) refl e
  where
    go : (t : Bool) → eqb (last_or b s) 0 ≡ t → cond t (some (but_last (b ∷ s))) none ≡ some name → b ∷ s ≡ name ++ (0 ∷ [])
    go true q e =
        let z : but_last (b ∷ s) ≡ name = cc in
        but_last_lem b s (eqb-true (last_or b s) 0 q) ∙ ap (λ t. t ++ (0 ∷ [])) z
    go false q e = absurd (never (cc))

reference-front : (s rest : List ℕ) (r : Reference) → AllBytes s → take_reference s ≡ some (r, rest) → Front s (reference_bytes r) rest × Small r
unfolding take_reference reference_bytes Small
reference-front s rest r h e =
    let a = took (take_sized s) (λ c. and_then (closed_name c.0) (λ name. and_then (take_number c.1) (λ n. some (record { name = name; size = n.0 }, n.1)))) (r, rest) e in
    let b = took (closed_name a.value.0) (λ name. and_then (take_number a.value.1) (λ n. some (record { name = name; size = n.0 }, n.1))) (r, rest) a.second in
    let c = took (take_number a.value.1) (λ n. some (record { name = b.value; size = n.0 }, n.1)) (r, rest) b.second in
    go a.value.0 a.value.1 b.value c.value.0 c.value.1 a.first b.first c.first c.second
  where
    go : (run behind name : List ℕ) (n : ℕ) (end : List ℕ) → take_sized s ≡ some (run, behind) → closed_name run ≡ some name → take_number behind ≡ some (n, end)
        → ◌≡◌ {A = Option (Reference × List ℕ)} (some (record { name = name; size = n }, end)) (some (r, rest)) → Front s (reference_bytes r) rest × Small r
    go run behind name n end p q t u =
        let a = sized-front s run behind h p in
        let b = number-front behind end n a.0.behind t in
        let c : run ≡ name ++ (0 ∷ []) = name-closed run name q in
        let x : ◌≡◌ {A = Reference} (record { name = name; size = n }) r = (both _ r end rest u).0 in
        let y : end ≡ rest = (both _ r end rest u).1 in
        let w : s ≡ sized (name ++ (0 ∷ [])) ++ little 4 n ++ end =
        a.0.whole ∙ ap (λ v. sized v ++ behind) c ∙ ap (λ v. sized (name ++ (0 ∷ [])) ++ v) b.0.whole ∙ sym (append_assoc (sized (name ++ (0 ∷ []))) (little 4 n) end) in
        let k : length (name ++ (0 ∷ [])) < 256 ^ 4 = rw c at a.1 in
        rw (← x, ← y) (record { whole = w; behind = b.0.behind }, (k, b.1))

-- ---- the list

list-front : (n : ℕ) (s rest : List ℕ) (list : List Reference) → AllBytes s → take_list n s ≡ some (list, rest)
    → Front s (list_bytes list) rest × (length list ≡ n) × AllSmall list
unfolding take_list list_bytes AllSmall
list-front zero s rest list h e =
    let x : [] ≡ list = (both [] list s rest e).0 in
    let y : s ≡ rest = (both [] list s rest e).1 in
    rw (← x, ← y) (record { whole = refl; behind = h }, refl, tt)
list-front (suc n) s rest list h e =
    let a = took (take_reference s) (λ r. and_then (take_list n r.1) (λ rs. some (r.0 ∷ rs.0, rs.1))) (list, rest) e in
    let b = took (take_list n a.value.1) (λ rs. some (a.value.0 ∷ rs.0, rs.1)) (list, rest) a.second in
    let f = reference-front s a.value.1 a.value.0 h a.first in
    let g = list-front n a.value.1 b.value.1 b.value.0 f.0.behind b.first in
    go a.value.0 a.value.1 b.value.0 b.value.1 f g b.second
  where
    go : (r : Reference) (behind : List ℕ) (rs : List Reference) (end : List ℕ) → Front s (reference_bytes r) behind × Small r
        → Front behind (list_bytes rs) end × (length rs ≡ n) × AllSmall rs → ◌≡◌ {A = Option (List Reference × List ℕ)} (some (r ∷ rs, end)) (some (list, rest))
        → Front s (list_bytes list) rest × (length list ≡ suc n) × AllSmall list
    go r behind rs end f g u =
        let x : r ∷ rs ≡ list = (both (r ∷ rs) list end rest u).0 in
        let y : end ≡ rest = (both (r ∷ rs) list end rest u).1 in
        let w : s ≡ reference_bytes r ++ list_bytes rs ++ end =
        f.0.whole ∙ ap (λ v. reference_bytes r ++ v) g.0.whole ∙ sym (append_assoc (reference_bytes r) (list_bytes rs) end) in
        rw (← x, ← y) (record { whole = w; behind = g.0.behind }, ap suc g.1, (f.1, g.2))

-- ---- the whole

none_left : (s : List ℕ) → none? s ≡ true → s ≡ []
unfolding none?
none_left [] e = refl
none_left (b ∷ s) e = absurd (never (cc))

starts_with : (p s : List ℕ) → starts p s ≡ true → s ≡ p ++ drop (length p) s
unfolding starts
starts_with [] s e = refl
starts_with (a ∷ p) [] e = absurd (never (cc))
starts_with (a ∷ p) (b ∷ s) e =
    let x : a ≡ b = eqb-true a b (and_left (eqb a b) (starts p s) e) in
    ap {B = List ℕ} (λ c. c ∷ s) (sym x) ∙ ap {B = List ℕ} (λ t. a ∷ t) (starts_with p s (and_right (eqb a b) (starts p s) e))

both-front : (s t : List ℕ) (list : List Reference) → AllBytes s → take_both s ≡ some (t, list) → IsBinary (magic ++ s) t list
unfolding take_both binary
both-front s t list h e =
    let a = took (take_sized s) (λ c. and_then (take_number c.1) (λ n. and_then (take_list n.0 n.1) (λ l. cond (none? l.1) (some (c.0, l.0)) none))) (t, list) e in
    let b = took (take_number a.value.1) (λ n. and_then (take_list n.0 n.1) (λ l. cond (none? l.1) (some (a.value.0, l.0)) none)) (t, list) a.second in
    let c = took (take_list b.value.0 b.value.1) (λ l. cond (none? l.1) (some (a.value.0, l.0)) none) (t, list) b.second in
    let f = sized-front s a.value.0 a.value.1 h a.first in
    let g = number-front a.value.1 b.value.1 b.value.0 f.0.behind b.first in
    let k = list-front b.value.0 b.value.1 c.value.1 c.value.0 g.0.behind c.first in
    go a.value.0 a.value.1 b.value.0 b.value.1 c.value.0 c.value.1 f g k (none? c.value.1) refl c.second
  where
    go : (u after : List ℕ) (n : ℕ) (more : List ℕ) (l : List Reference) (end : List ℕ) → Front s (sized u) after × (length u < 256 ^ 4)
        → Front after (little 4 n) more × (n < 256 ^ 4) → Front more (list_bytes l) end × (length l ≡ n) × AllSmall l
        → (q : Bool) → none? end ≡ q → cond {A = Option (List ℕ × List Reference)} q (some (u, l)) none ≡ some (t, list) → IsBinary (magic ++ s) t list
    go u after n more l end f g k true q e =
        let x : u ≡ t = (both u t l list e).0 in
        let y : l ≡ list = (both u t l list e).1 in
        let z : end ≡ [] = none_left end q in
        let w : magic ++ s ≡ magic ++ sized u ++ little 4 (length l) ++ list_bytes l =
        ap (λ v. magic ++ v) (f.0.whole ∙ ap (λ v. sized u ++ v) (g.0.whole ∙ ap (λ v. little 4 n ++ v) (k.0.whole ∙ ap (λ v. list_bytes l ++ v) z ∙ append-nil (list_bytes l))
        ∙ ap (λ m. little 4 m ++ list_bytes l) (sym k.1))) ∙ simp append_assoc in
        rw (← x, ← y) (record { bytes = w; text = f.1; count = omega (arith, g.1, k.1); names = k.2 })
    go u after n more l end f g k false q e = absurd (never (cc))

pub parts-are-binary : PartsAreBinary
unfolding PartsAreBinary binary_parts magic
parts-are-binary s t list h e = go (starts magic s) refl e
  where
    go : (q : Bool) → starts magic s ≡ q → cond q (take_both (drop 4 s)) none ≡ some (t, list) → IsBinary s t list
    go true q e =
        let w : s ≡ magic ++ drop 4 s = starts_with magic s q in
        rw w (both-front (drop 4 s) t list (bytes-append magic (drop 4 s) (rw w at h)).1 e)
    go false q e = absurd (never (cc))

pub binary-is-taken-apart : BinaryIsTakenApart
unfolding BinaryIsTakenApart
binary-is-taken-apart s t list b = ap binary_parts b.bytes ∙ parts-back t list b.text b.count b.names
