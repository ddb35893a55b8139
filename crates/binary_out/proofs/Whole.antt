-- The binary header part by part, and what judging and measuring say of the call's answer.
use Prim.Native.Nat.{ℕ, ◌+◌, ◌-◌, ◌≤◌}
use mathlib.Core.Path.{◌≡◌, refl, sym, ap, ◌∙◌}
use mathlib.Core.Bool.{Bool, true, false, cond}
use mathlib.Core.List.{List, [], ◌++◌, append_assoc, append-nil}
use mathlib.Core.Option.{none, some}
use native.Mathlib.Omega.{arith}
use lib.ListN.{length, take, drop, length-append, length-take, drop_of_length-le}
use lib.Seq.{drop-drop}
use lib.Dec.{ltb}
use Rattle.format.specs.Catalogue.{little}
use Rattle.format.specs.Reading.{refused_text, read_text, longest}
use Rattle.format.specs.Tidy.{tidy, unwritable}
use Rattle.format.specs.Calls.{refused, yes, then, read_answer, records, fitting, writing}
use Rattle.byte_slices.specs.Over.{over}
use Rattle.little_endian.proofs.Little.{little-length}
use Rattle.accepted.specs.Read.{is_accepted, records_of}
use Rattle.accepted.proofs.Read.{accepted-reads}
use Rattle.format.specs.References.{Reference, sq_list}
use Rattle.format.specs.Binary.{magic, sized, list_bytes, binary, binary_out}
use Rattle.binary_put.proofs.Bytes.{behind}
use Rattle.tidy_sizes.specs.Plan.{unfit}
use Rattle.tidy_sizes.proofs.Plan.{fitted, fitted-unfit, fitted-fits, write-bad}
use Rattle.binary_out.specs.Written.{binary_of, writing_binary}

-- ---- the bytes

module _ (text : List ℕ) (list : List Reference) where
  -- magic and the text's length, the text, the count, the list: one after another
  parts : ((((magic ++ little 4 (length text)) ++ text) ++ little 4 (length list)) ++ list_bytes list) ≡ binary text list
  unfolding binary sized
  parts = ap (λ s. (s ++ little 4 (length list)) ++ list_bytes list) (append_assoc magic (little 4 (length text)) text)

  pub binary-length : length (binary text list) ≡ 12 + length text + length (list_bytes list)
  unfolding magic
  binary-length =
      let a : List ℕ = magic ++ little 4 (length text) in
      let b : List ℕ = a ++ text in
      let c : List ℕ = b ++ little 4 (length list) in
      omega (
        arith,
        ap length (sym parts),
        length-append c (list_bytes list),
        length-append b (little 4 (length list)),
        length-append a text,
        length-append magic (little 4 (length text)),
        little-length 4 (length text),
        little-length 4 (length list),
      )

-- a part lent and written over whole is that much written over the whole
pub part-over : (out ys xs : List ℕ) (at n : ℕ) → at + n ≤ length out → n ≡ length xs → ys ≡ over (take (at + n - at) (drop at out)) 0 xs
    → take at out ++ (ys ++ drop (at + n - at) (drop at out)) ≡ over out at xs
unfolding over
part-over out ys xs at n h e w =
    let m : at + n - at ≡ n = omega arith in
    let part : List ℕ = take n (drop at out) in
    let short : length part ≤ 0 + length xs = omega (arith, length-take n (drop at out), e) in
    let none : drop (0 + length xs) part ≡ [] = drop_of_length-le part short in
    let own : ys ≡ xs = w ∙ ap (λ k. over (take k (drop at out)) 0 xs) m ∙ ap (λ l. xs ++ l) none ∙ append-nil xs in
    ap (λ k. take at out ++ (ys ++ drop k (drop at out))) m
    ∙ ap (λ l. take at out ++ (l ++ drop n (drop at out))) own
    ∙ ap (λ l. take at out ++ (xs ++ l)) (drop-drop n at out)
    ∙ ap (λ k. take at out ++ (xs ++ drop (at + k) out)) e
    ∙ sym (append_assoc (take at out) xs (drop (at + length xs) out))

-- the parts written one after another
pub binary-over : (out text : List ℕ) (list : List Reference) (n count : ℕ) → n ≡ length text → count ≡ length list → length (binary text list) ≤ length out
    → over (over (over (over out 0 (magic ++ little 4 n)) 8 text) (8 + n) (little 4 count)) (12 + n) (list_bytes list) ≡ over out 0 (binary text list)
unfolding magic
binary-over out text list n count e f h =
    let a : List ℕ = magic ++ little 4 (length text) in
    let b : List ℕ = a ++ text in
    let c : List ℕ = b ++ little 4 (length list) in
    let size = binary-length text list in
    let la : length a ≡ 8 = omega (arith, length-append magic (little 4 (length text)), little-length 4 (length text)) in
    let lb : length b ≡ 8 + length text = omega (arith, la, length-append a text) in
    let lc : length c ≡ 12 + length text = omega (arith, lb, length-append b (little 4 (length list)), little-length 4 (length list)) in
    rw (e, f) (
    ap (λ o. over (over o (8 + length text) (little 4 (length list))) (12 + length text) (list_bytes list)) (behind out 0 a text 8 (omega (arith, la)) (omega (arith, la, h, size)))
    ∙ ap (λ o. over o (12 + length text) (list_bytes list)) (behind out 0 b (little 4 (length list)) (8 + length text) (omega (arith, lb)) (omega (arith, lb, h, size, little-length 4 (length list))))
    ∙ behind out 0 c (list_bytes list) (12 + length text) (omega (arith, lc)) (omega (arith, lc, h, size))
    ∙ ap (over out 0) (parts text list)
    )

-- ---- 24, then 1, then 20

module _ (t : List ℕ) (room : ℕ) where
  pub out-refused : (n l : ℕ) → read_text t ≡ refused_text n l → binary_out t room ≡ refused n l
  unfolding binary_out then records read_answer
  out-refused n l e = rw e refl

  pub out-accepted : is_accepted (read_text t) ≡ true → binary_out t room ≡ writing_binary t room
  unfolding binary_out then records read_answer
  out-accepted h = rw (accepted-reads t h) refl

  pub out-bad : (l : ℕ) → unwritable 0 (records_of t) ≡ some l → writing_binary t room ≡ refused 24 l
  unfolding then
  out-bad l e = ap (λ a. then a (λ x. fitting room (binary x (sq_list (records_of t))))) (write-bad longest (unwritable 0 (records_of t)) (tidy (records_of t)) l e)

  module _ (e : unwritable 0 (records_of t) ≡ none) where
    -- 1 is about the tidy text, 20 about the whole
    out-planned : writing_binary t room ≡ fitted (length (tidy (records_of t))) room (binary_of t)
    unfolding then writing fitting fitted longest
    out-planned = rw e (go (ltb 16777216 (length (tidy (records_of t)))))
      where
        go : (a : Bool)
            → then (cond a (refused 1 0) (cond a (refused 20 0) (yes (tidy (records_of t))))) (λ x. fitting room (binary x (sq_list (records_of t))))
            ≡ cond a (refused 1 0) (fitting room (binary_of t))
        go true = refl
        go false = refl

    module _ (n besides u : ℕ) (size : length (tidy (records_of t)) ≡ n) (whole : length (binary_of t) ≡ n + besides) (p : u ≡ unfit n besides room) where
      pub out-unfit : (u ≡ 0 → ⊥) → writing_binary t room ≡ refused u 0
      out-unfit h = out-planned ∙ ap (λ k. fitted k room (binary_of t)) size ∙ fitted-unfit n besides room u p (binary_of t) whole h

      pub out-fits : u ≡ 0 → writing_binary t room ≡ yes (binary_of t)
      out-fits z = out-planned ∙ ap (λ k. fitted k room (binary_of t)) size ∙ fitted-fits n besides room u p (binary_of t) whole z
