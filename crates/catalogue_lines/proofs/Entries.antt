-- One entry, and what follows it: how long the two are, the entry written first, and the entry compared first.
use Prim.Native.Nat.{ℕ, ◌+◌, ◌≤◌}
use mathlib.Core.Path.{◌≡◌, sym, ap, ◌∙◌}
use mathlib.Core.Bool.{◌&&◌}
use mathlib.Core.List.{List, ◌++◌, append_assoc}
use native.Mathlib.Omega.{arith}
use lib.ListN.{length, take, drop, length-append}
use lib.Seq.{length-take-le, take-append-le, take-take, drop_at}
use Rattle.format.specs.Bytes.{starts}
use Rattle.byte_slices.specs.Over.{over}
use Rattle.byte_slices.proofs.Over.{over-over, over-length}
use Rattle.catalogue_entries.specs.declared.Entry.{Entry}
use Rattle.catalogue_entries.specs.declared.Entry.TheVariants.{End, Header, ReferenceSequence, ReadGroup, Program, Comment, Field}
use Rattle.catalogue_entries.specs.Entries.{kind_byte, kind_size, entry_size, entry_bytes}
use Rattle.catalogue_entries.proofs.Written.{entry_length_lem}
use Rattle.catalogue_same.proofs.Starts.{starts-then}

-- none is longer than that of an SQ
pub size-most : (e : Entry) → entry_size e ≤ 21
unfolding entry_size kind_byte kind_size
size-most End = omega arith
size-most (Header v l) = omega arith
size-most (ReferenceSequence p n l) = omega arith
size-most (ReadGroup p l) = omega arith
size-most (Program p l) = omega arith
size-most (Comment p l) = omega arith
size-most (Field a b p) = omega arith

-- a run that is written before another is written
over-before : (out : List ℕ) (o : ℕ) (xs ys : List ℕ) → o + length xs + length ys ≤ length out → over (over out (o + length xs) ys) o xs ≡ over out o (xs ++ ys)
unfolding over
over-before out o xs ys h =
    let n = o + length xs in
    let front = take n out in
    let rest = ys ++ drop (n + length ys) out in
    let l : length front ≡ n = length-take-le n out (omega arith) in
    let m : n + length ys ≡ o + length (xs ++ ys) = omega (arith, length-append xs ys) in
    rw (append_assoc front ys (drop (n + length ys) out), take-append-le o front rest (omega arith), take-take o n out (omega arith), drop_at front rest n l)
    (ap (λ m. (take o out ++ xs) ++ (ys ++ drop m out)) m
    ∙ sym (append_assoc (take o out ++ xs) ys (drop (o + length (xs ++ ys)) out))
    ∙ ap (λ l. l ++ drop (o + length (xs ++ ys)) out) (append_assoc (take o out) xs ys))

-- `xs` is the entry `e`, and then `ys`
module _ (e : Entry) (xs ys : List ℕ) (q : xs ≡ entry_bytes e ++ ys) where
  pub entry-then : length xs ≡ entry_size e + length ys
  entry-then = ap length q ∙ length-append (entry_bytes e) ys ∙ ap (λ n. n + length ys) (entry_length_lem e)

  -- the entry was written at `o`, and `n` is the place after it: what is left to write follows
  pub wrote : (out last : List ℕ) (o n : ℕ) → o + length xs ≤ length out → n ≡ o + entry_size e → last ≡ over out o (entry_bytes e)
      → (n + length ys ≡ o + length xs) × (over last n ys ≡ over out o xs) × (length last ≡ length out)
  wrote out last o n h p w = (
    omega (arith, entry-then),
    ap (λ l. over l n ys) w
        ∙ ap (λ m. over (over out o (entry_bytes e)) m ys) (p ∙ ap (λ k. o + k) (sym (entry_length_lem e)))
        ∙ over-over out o (entry_bytes e) ys (omega (arith, entry-then, entry_length_lem e))
        ∙ ap (over out o) (sym q),
    ap length w ∙ over-length out o (entry_bytes e) (omega (arith, entry-then, entry_length_lem e)),
  )

  -- what follows the entry was written before it
  pub wrote-before : (out mid last : List ℕ) (o n : ℕ) → n ≡ entry_size e → o + length xs ≤ length out → mid ≡ over out (o + n) ys → last ≡ over mid o (entry_bytes e) → last ≡ over out o xs
  wrote-before out mid last o n p h w v =
      let l : length (entry_bytes e) ≡ n = entry_length_lem e ∙ sym p in
      v
      ∙ ap (λ m. over m o (entry_bytes e)) (w ∙ ap (λ m. over out (o + m) ys) (sym l))
      ∙ over-before out o (entry_bytes e) ys (omega (arith, entry-then, entry_length_lem e))
      ∙ ap (over out o) (sym q)

  -- the entry is compared, and what follows it
  pub compared : (c : List ℕ) (o n : ℕ) → n ≡ entry_size e → starts xs (drop o c) ≡ (starts (entry_bytes e) (drop o c) && starts ys (drop (o + n) c))
  compared c o n p = ap (λ l. starts l (drop o c)) q ∙ starts-then c o (entry_bytes e) ys n (entry_length_lem e ∙ sym p)
