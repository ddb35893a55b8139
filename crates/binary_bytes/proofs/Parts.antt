-- The parts of a binary header are what it was made of.
use Prim.Native.Nat.{ℕ, suc, ◌^◌, ◌<◌}
use mathlib.Core.Path.{◌≡◌, refl, sym, ap, ◌∙◌}
use mathlib.Core.List.{List, [], ◌∷◌, ◌++◌, append_assoc, append-nil}
use mathlib.Core.Option.{some}
use native.Mathlib.Omega.{arith}
use lib.ListN.{length, length-append}
use lib.Seq.{take-append_seam, drop-append_seam}
use borrow.Author.Tests.{le-leb}
use Rattle.format.specs.Bytes.{none?, starts}
use Rattle.format.specs.Catalogue.{little}
use Rattle.format.specs.Programs.{last_or, but_last}
use Rattle.little_endian.proofs.Little.{little-length, of-little}
use Rattle.format.specs.References.{Reference}
use Rattle.format.specs.Binary.{magic, sized, reference_bytes, list_bytes, binary, and_then, take_bytes, take_number, take_sized, closed_name, take_reference, take_list, take_both, binary_parts}

-- ---- a number, and a run of bytes after its length

take-seam : (s t : List ℕ) → take_bytes (length s) (s ++ t) ≡ some (s, t)
unfolding take_bytes
take-seam s t = rw (le-leb (length s) (length (s ++ t)) (omega (arith, length-append s t)), take-append_seam s t, drop-append_seam s t) refl

number-back : (v : ℕ) (t : List ℕ) → v < 256 ^ 4 → take_number (little 4 v ++ t) ≡ some (v, t)
unfolding take_number and_then
number-back v t h =
    let q : take_bytes 4 (little 4 v ++ t) ≡ some (little 4 v, t) = ap (λ n. take_bytes n (little 4 v ++ t)) (sym (little-length 4 v)) ∙ take-seam (little 4 v) t in
    rw (q, of-little 4 v h) refl

sized-is : (s t : List ℕ) → sized s ++ t ≡ little 4 (length s) ++ (s ++ t)
unfolding sized
sized-is s t = append_assoc (little 4 (length s)) s t

run-back : (n : ℕ) (s t r : List ℕ) → take_number r ≡ some (n, s ++ t) → n ≡ length s → take_sized r ≡ some (s, t)
unfolding take_sized and_then
run-back n s t r e l = rw (e, l) (take-seam s t)

sized-back : (s t : List ℕ) → length s < 256 ^ 4 → take_sized (sized s ++ t) ≡ some (s, t)
sized-back s t h = run-back (length s) s t (sized s ++ t) (ap take_number (sized-is s t) ∙ number-back (length s) (s ++ t) h) refl

-- ---- a reference

last-closed : (d : ℕ) (s : List ℕ) → last_or d (s ++ (0 ∷ [])) ≡ 0
unfolding last_or
last-closed d [] = refl
last-closed d (x ∷ s) = last-closed x s

but-closed : (s : List ℕ) → but_last (s ++ (0 ∷ [])) ≡ s
unfolding but_last
but-closed [] = refl
but-closed (x ∷ []) = refl
but-closed (x ∷ y ∷ s) = ap {B = List ℕ} (λ r. x ∷ r) (but-closed (y ∷ s))

closed-back : (s : List ℕ) → closed_name (s ++ (0 ∷ [])) ≡ some s
unfolding closed_name
closed-back s = rw (last-closed 1 s, but-closed s) refl

-- its lengths fit in four bytes
unfoldable pub Small : Reference → Type 0
Small r = (length (r.name ++ (0 ∷ [])) < 256 ^ 4) × (r.size < 256 ^ 4)

reference-is : (r : Reference) (t : List ℕ) → reference_bytes r ++ t ≡ sized (r.name ++ (0 ∷ [])) ++ (little 4 r.size ++ t)
unfolding reference_bytes
reference-is r t = append_assoc (sized (r.name ++ (0 ∷ []))) (little 4 r.size) t

from-binary_parts : (s c t name : List ℕ) (n : ℕ) (b : List ℕ) → take_sized s ≡ some (c, b) → closed_name c ≡ some name → take_number b ≡ some (n, t)
    → take_reference s ≡ some (record { name = name; size = n }, t)
unfolding take_reference and_then
from-binary_parts s c t name n b p q r = rw (p, q, r) refl

reference-back : (r : Reference) (t : List ℕ) → Small r → take_reference (reference_bytes r ++ t) ≡ some (r, t)
unfolding Small
reference-back r t h =
    from-binary_parts (reference_bytes r ++ t) (r.name ++ (0 ∷ [])) t r.name r.size (little 4 r.size ++ t)
    (ap take_sized (reference-is r t) ∙ sized-back (r.name ++ (0 ∷ [])) (little 4 r.size ++ t) h.0) (closed-back r.name) (number-back r.size t h.1)

-- ---- the list

unfoldable pub AllSmall : List Reference → Type 0
AllSmall [] = Unit
AllSmall (r ∷ rs) = Small r × AllSmall rs

list-is : (r : Reference) (rs : List Reference) (t : List ℕ) → list_bytes (r ∷ rs) ++ t ≡ reference_bytes r ++ (list_bytes rs ++ t)
unfolding list_bytes
list-is r rs t = append_assoc (reference_bytes r) (list_bytes rs) t

one_more : (n : ℕ) (s b t : List ℕ) (r : Reference) (rs : List Reference) → take_reference s ≡ some (r, b) → take_list n b ≡ some (rs, t)
    → take_list (suc n) s ≡ some (r ∷ rs, t)
unfolding take_list and_then
one_more n s b t r rs p q = rw (p, q) refl

list_back : (rs : List Reference) (t : List ℕ) → AllSmall rs → take_list (length rs) (list_bytes rs ++ t) ≡ some (rs, t)
unfolding take_list list_bytes AllSmall
list_back [] t h = refl
list_back (r ∷ rs) t h =
    one_more (length rs) (list_bytes (r ∷ rs) ++ t) (list_bytes rs ++ t) t r rs
    (ap take_reference (list-is r rs t) ∙ reference-back r (list_bytes rs ++ t) h.0) (list_back rs t h.1)

-- ---- the whole

whole : (s b d t : List ℕ) (n : ℕ) (rs : List Reference) → take_sized s ≡ some (t, b) → take_number b ≡ some (n, d) → take_list n d ≡ some (rs, [])
    → take_both s ≡ some (t, rs)
unfolding take_both and_then none?
whole s b d t n rs p q r = rw (p, q, r) refl

body : List ℕ → List Reference → List ℕ
body t rs = sized t ++ (little 4 (length rs) ++ list_bytes rs)

binary-is : (t : List ℕ) (rs : List Reference) → binary t rs ≡ 66 ∷ 65 ∷ 77 ∷ 1 ∷ body t rs
unfolding binary magic body
binary-is t rs = ap {B = List ℕ} (λ r. 66 ∷ 65 ∷ 77 ∷ 1 ∷ r) (append_assoc (sized t) (little 4 (length rs)) (list_bytes rs))

begun : (s : List ℕ) → binary_parts (66 ∷ 65 ∷ 77 ∷ 1 ∷ s) ≡ take_both s
unfolding binary_parts magic starts
begun s = refl

pub parts-back : (t : List ℕ) (rs : List Reference) → length t < 256 ^ 4 → length rs < 256 ^ 4 → AllSmall rs → binary_parts (binary t rs) ≡ some (t, rs)
unfolding body
parts-back t rs h k a =
    ap binary_parts (binary-is t rs) ∙ begun (body t rs)
    ∙ whole (body t rs) (little 4 (length rs) ++ list_bytes rs) (list_bytes rs) t (length rs) rs
    (sized-back t (little 4 (length rs) ++ list_bytes rs) h) (number-back (length rs) (list_bytes rs) k)
    (ap (take_list (length rs)) (sym (append-nil (list_bytes rs))) ∙ list_back rs [] a)
