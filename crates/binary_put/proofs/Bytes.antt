-- The bytes of a reference, written part by part.
use Prim.Native.Nat.{ℕ, ◌+◌, ◌≤◌}
use mathlib.Core.Path.{◌≡◌, sym, ap, ◌∙◌}
use mathlib.Core.List.{List, [], ◌∷◌, ◌++◌, append_assoc}
use native.Mathlib.Omega.{arith}
use lib.ListN.{length, set, length-append}
use lib.Seq.{sets-eq}
use Rattle.format.specs.Catalogue.{little}
use Rattle.byte_slices.specs.Over.{over}
use Rattle.little_endian.proofs.Little.{little-length}
use Rattle.byte_slices.proofs.Over.{over-length, over-over}
use Rattle.format.specs.Binary.{sized, reference_bytes}

-- ---- a reference written part by part

store : (out : List ℕ) (at b : ℕ) → at + 1 ≤ length out → set out at b ≡ over out at (b ∷ [])
unfolding over
store out at b h = sets-eq (b ∷ []) out at h

-- what is written after `xs`
pub behind : (out : List ℕ) (at : ℕ) (xs ys : List ℕ) (place : ℕ) → place ≡ at + length xs → at + length xs + length ys ≤ length out → over (over out at xs) place ys ≡ over out at (xs ++ ys)
behind out at xs ys place e h = ap (λ p. over (over out at xs) p ys) e ∙ over-over out at xs ys h

module _ (out : List ℕ) (at : ℕ) (name : List ℕ) (size : ℕ) (h : at + length name + 9 ≤ length out) where
  with-name : over (over out at (little 4 (length name + 1))) (at + 4) name ≡ over out at (little 4 (length name + 1) ++ name)
  with-name = behind out at (little 4 (length name + 1)) name (at + 4) (omega (arith, little-length 4 (length name + 1))) (omega (arith, h, little-length 4 (length name + 1)))

  named-length : length (little 4 (length name + 1) ++ name) ≡ 4 + length name
  named-length = omega (arith, length-append (little 4 (length name + 1)) name, little-length 4 (length name + 1))

  with-zero : set (over out at (little 4 (length name + 1) ++ name)) (at + 4 + length name) 0 ≡ over out at ((little 4 (length name + 1) ++ name) ++ (0 ∷ []))
  with-zero =
      let k : List ℕ = little 4 (length name + 1) ++ name in
      store (over out at k) (at + 4 + length name) 0 (omega (arith, h, over-length out at k (omega (arith, h, named-length))))
      ∙ behind out at k (0 ∷ []) (at + 4 + length name) (omega (arith, named-length)) (omega (arith, h, named-length))

  with_size : over (over out at ((little 4 (length name + 1) ++ name) ++ (0 ∷ []))) (at + 5 + length name) (little 4 size)
      ≡ over out at (((little 4 (length name + 1) ++ name) ++ (0 ∷ [])) ++ little 4 size)
  with_size =
      let k : List ℕ = little 4 (length name + 1) ++ name in
      let l = length-append k (0 ∷ []) in
      behind out at (k ++ (0 ∷ [])) (little 4 size) (at + 5 + length name) (omega (arith, named-length, l)) (omega (arith, h, named-length, l, little-length 4 size))

  bytes-are : ((little 4 (length name + 1) ++ name) ++ (0 ∷ [])) ++ little 4 size ≡ reference_bytes (record { name = name; size = size })
  unfolding reference_bytes sized
  bytes-are =
      ap (λ s. s ++ little 4 size)
      (append_assoc (little 4 (length name + 1)) name (0 ∷ []) ∙ ap (λ n. little 4 n ++ (name ++ (0 ∷ []))) (sym (length-append name (0 ∷ []))))

  pub reference-over : over (set (over (over out at (little 4 (length name + 1))) (at + 4) name) (at + 4 + length name) 0) (at + 5 + length name) (little 4 size)
      ≡ over out at (reference_bytes (record { name = name; size = size }))
  reference-over =
      ap (λ o. over (set o (at + 4 + length name) 0) (at + 5 + length name) (little 4 size)) with-name
      ∙ ap (λ o. over o (at + 5 + length name) (little 4 size)) with-zero
      ∙ with_size
      ∙ ap (over out at) bytes-are
