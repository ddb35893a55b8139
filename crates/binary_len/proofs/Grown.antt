-- More bytes after those that are there: a length and a refusal stay, and a part that was cut ends no earlier.
use Prim.Native.Nat.{ℕ, zero, suc, ◌+◌, ◌-◌, ◌≤◌, ◌<◌}
use mathlib.Core.Path.{◌≡◌, refl, sym, ap, ◌∙◌}
use mathlib.Core.Bool.{Bool, true, false, ◌&&◌, cond, false≢true}
use mathlib.Core.List.{List, [], ◌∷◌, ◌++◌}
use native.Mathlib.Omega.{arith}
use lib.ListN.{length, take, drop, get_or, length-append, length-drop, get_or-append}
use lib.Seq.{take-append-le, drop-append-le}
use lib.Dec.{eqb, leb}
use borrow.Author.Tests.{eqb-false, leb-true, leb-false}
use Rattle.format.specs.Bytes.{starts}
use Rattle.format.specs.Little.{of_little}
use Rattle.lists.proofs.Bools.{eqb-sym, and_left, and_right}
use Rattle.format.specs.Binary.{magic}
use Rattle.binary_parts.proofs.Both.{start-long}
use Rattle.binary_len.specs.BinaryLen.{BinaryLen}
use Rattle.binary_len.specs.declared.Len.TheVariants.{Whole, More}
use Rattle.std.specs.Prelude.{Ok, Err}
use Rattle.binary_len.specs.BinaryLen.{part, onward, number_at, closed, name_at, reference_at, references_at, start, binary_len}
use Rattle.binary_len.proofs.PartByPart.{part-there, part_cut, part-whole}

-- ---- the start

-- a front that does not hold all of `p` is shorter
starts-front : (p s : List ℕ) → starts p s ≡ false → starts s p ≡ true → length s < length p
unfolding starts
starts-front [] s h k = absurd (false≢true (sym h))
starts-front (a ∷ p) [] h k = omega arith
starts-front (a ∷ p) (b ∷ s) h k = go (eqb a b) (eqb b a) (eqb-sym a b) h k (starts-front p s)
  where
    go : (t u : Bool) → t ≡ u → (t && starts p s) ≡ false → (u && starts s p) ≡ true → (starts p s ≡ false → starts s p ≡ true → length s < length p)
        → suc (length s) < suc (length p)
    go true true e h k ih = omega (arith, ih h k)
    go true false e h k ih = absurd (false≢true k)
    go false u e h k ih = absurd (false≢true (e ∙ and_left u (starts s p) k))

-- more bytes change nothing
pub starts_more : (p s rest : List ℕ) → starts p s ≡ true → starts p (s ++ rest) ≡ true
unfolding starts
starts_more [] s rest h = refl
starts_more (a ∷ p) [] rest h = absurd (false≢true h)
starts_more (a ∷ p) (b ∷ s) rest h = rw (and_left (eqb a b) (starts p s) h, starts_more p s rest (and_right (eqb a b) (starts p s) h)) refl

starts_apart : (p s rest : List ℕ) → starts p s ≡ false → starts s p ≡ false → (starts p (s ++ rest) ≡ false) × (starts (s ++ rest) p ≡ false)
unfolding starts
starts_apart [] s rest h k = absurd (false≢true (sym h))
starts_apart (a ∷ p) [] rest h k = absurd (false≢true (sym k))
starts_apart (a ∷ p) (b ∷ s) rest h k = go (eqb a b) (eqb b a) (eqb-sym a b) h k (starts_apart p s rest)
  where
    go : (t u : Bool) → t ≡ u → (t && starts p s) ≡ false → (u && starts s p) ≡ false
        → (starts p s ≡ false → starts s p ≡ false → (starts p (s ++ rest) ≡ false) × (starts (s ++ rest) p ≡ false))
        → ((t && starts p (s ++ rest)) ≡ false) × ((u && starts (s ++ rest) p) ≡ false)
    go true true e h k ih = ih h k
    go true false e h k ih = absurd (false≢true (sym e))
    go false true e h k ih = absurd (false≢true e)
    go false false e h k ih = (refl, refl)

start_is : (s : List ℕ) → starts magic s ≡ true → start s ≡ Ok (Whole 4)
unfolding start
start_is s e = rw e refl

start-short : (s : List ℕ) → starts magic s ≡ false → starts s magic ≡ true → start s ≡ Ok (More 4)
unfolding start
start-short s e f = rw (e, f) refl

start_none : (s : List ℕ) → starts magic s ≡ false → starts s magic ≡ false → start s ≡ Err 28
unfolding start
start_none s e f = rw (e, f) refl

-- ---- the parts after the count, after the text's length and after the start

counted : List ℕ → ℕ → BinaryLen
counted s end = onward (part s (end + 4)) (λ list. references_at s list (number_at s end))

texted : List ℕ → ℕ → ℕ → BinaryLen
texted s at text = onward (part s (text + number_at s at)) (counted s)

begun : List ℕ → ℕ → BinaryLen
begun s at = onward (part s (at + 4)) (texted s at)

-- ---- of one answer: a length is within the bytes, more is beyond them, and a refusal is 28

unfoldable pub Says : List ℕ → BinaryLen → Type 0
Says s (Ok (Whole n)) = n ≤ length s
Says s (Ok (More n)) = length s < n
Says s (Err n) = n ≡ 28

says-onward : (s : List ℕ) (a : BinaryLen) (f : ℕ → BinaryLen) → Says s a → ((n : ℕ) → a ≡ Ok (Whole n) → n ≤ length s → Says s (f n)) → Says s (onward a f)
unfolding Says onward
says-onward s (Ok (Whole n)) f h k = k n refl h
says-onward s (Ok (More n)) f h k = h
says-onward s (Err n) f h k = h

module _ (s : List ℕ) where
  says-part : (end : ℕ) → Says s (part s end)
  unfolding Says part
  says-part end = go (leb end (length s)) refl
    where
      go : (t : Bool) → leb end (length s) ≡ t → Says s (cond t (Ok (Whole end)) (Ok (More end)))
      go true q = leb-true end (length s) q
      go false q = leb-false end (length s) q

  says-closed : (end : ℕ) → end ≤ length s → Says s (closed s end)
  unfolding Says closed
  says-closed end h = go (eqb (get_or s (end - 1) 0) 0)
    where
      go : (t : Bool) → Says s (cond t (Ok (Whole end)) (Err 28))
      go true = h
      go false = refl

  says-name : (at n : ℕ) → Says s (name_at s at n)
  unfolding Says name_at
  says-name at n = go (eqb n 0)
    where
      go : (t : Bool) → Says s (cond t (Err 28) (onward (part s (at + n)) (closed s)))
      go true = refl
      go false = says-onward s (part s (at + n)) (closed s) (says-part (at + n)) (λ end e h. says-closed end h)

  pub says-reference : (at : ℕ) → Says s (reference_at s at)
  unfolding reference_at
  says-reference at =
      says-onward s (part s (at + 4)) (λ name. onward (name_at s name (number_at s at)) (λ end. part s (end + 4))) (says-part (at + 4)) (λ name e h.
      says-onward s (name_at s name (number_at s at)) (λ end. part s (end + 4)) (says-name name (number_at s at)) (λ end f k. says-part (end + 4)))

  says-references : (at n : ℕ) → at ≤ length s → Says s (references_at s at n)
  unfolding Says references_at
  says-references at zero h = h
  says-references at (suc n) h =
      says-onward s (reference_at s at) (λ next. references_at s next n) (says-reference at) (λ next e k. says-references next n k)

  says-start : Says s (start s)
  unfolding Says start magic
  says-start = go (starts magic s) (starts s magic) refl refl
    where
      go : (t u : Bool) → starts magic s ≡ t → starts s magic ≡ u → Says s (cond t (Ok (Whole 4)) (cond u (Ok (More 4)) (Err 28)))
      go true u e f = start-long s e
      go false true e f = starts-front magic s e f
      go false false e f = refl

  says-counted : (end : ℕ) → Says s (counted s end)
  unfolding counted
  says-counted end =
      says-onward s (part s (end + 4)) (λ list. references_at s list (number_at s end)) (says-part (end + 4)) (λ list e h. says-references list (number_at s end) h)

  says-texted : (at text : ℕ) → Says s (texted s at text)
  unfolding texted
  says-texted at text = says-onward s (part s (text + number_at s at)) (counted s) (says-part (text + number_at s at)) (λ end e h. says-counted end)

  says-begun : (at : ℕ) → Says s (begun s at)
  unfolding begun
  says-begun at = says-onward s (part s (at + 4)) (texted s at) (says-part (at + 4)) (λ text e h. says-texted at text)

  pub says : Says s (binary_len s)
  unfolding binary_len begun texted counted
  says = says-onward s (start s) (begun s) says-start (λ at e h. says-begun at)

-- ---- an answer that a longer front may give: no end lies before `m`

unfoldable pub Later : ℕ → BinaryLen → Type 0
Later m (Ok (Whole n)) = m ≤ n
Later m (Ok (More n)) = m ≤ n
Later m (Err n) = Unit

later-later : (m n : ℕ) (a : BinaryLen) → m ≤ n → Later n a → Later m a
unfolding Later
later-later m n (Ok (Whole k)) h l = omega arith
later-later m n (Ok (More k)) h l = omega arith
later-later m n (Err k) h l = tt

later-onward : (m : ℕ) (a : BinaryLen) (f : ℕ → BinaryLen) → Later m a → ((n : ℕ) → Later n (f n)) → Later m (onward a f)
unfolding Later onward
later-onward m (Ok (Whole n)) f h k = later-later m n (f n) h (k n)
later-onward m (Ok (More n)) f h k = h
later-onward m (Err n) f h k = tt

module _ (s : List ℕ) where
  later-part : (m end : ℕ) → m ≤ end → Later m (part s end)
  unfolding Later part
  later-part m end h = go (leb end (length s))
    where
      go : (t : Bool) → Later m (cond t (Ok (Whole end)) (Ok (More end)))
      go true = h
      go false = h

  later-closed : (end : ℕ) → Later end (closed s end)
  unfolding Later closed
  later-closed end = go (eqb (get_or s (end - 1) 0) 0)
    where
      go : (t : Bool) → Later end (cond t (Ok (Whole end)) (Err 28))
      go true = omega arith
      go false = tt

  later-name : (at n : ℕ) → Later at (name_at s at n)
  unfolding Later name_at
  later-name at n = go (eqb n 0)
    where
      go : (t : Bool) → Later at (cond t (Err 28) (onward (part s (at + n)) (closed s)))
      go true = tt
      go false = later-onward at (part s (at + n)) (closed s) (later-part at (at + n) (omega arith)) later-closed

  later-named : (at n : ℕ) → Later at (onward (name_at s at n) (λ end. part s (end + 4)))
  later-named at n = later-onward at (name_at s at n) (λ end. part s (end + 4)) (later-name at n) (λ end. later-part end (end + 4) (omega arith))

  later-reference : (at : ℕ) → Later at (reference_at s at)
  unfolding reference_at
  later-reference at =
      later-onward at (part s (at + 4)) (λ name. onward (name_at s name (number_at s at)) (λ end. part s (end + 4))) (later-part at (at + 4) (omega arith))
      (λ name. later-named name (number_at s at))

  later-references : (at n : ℕ) → Later at (references_at s at n)
  unfolding Later references_at
  later-references at zero = omega arith
  later-references at (suc n) =
      later-onward at (reference_at s at) (λ next. references_at s next n) (later-reference at) (λ next. later-references next n)

  later-counted : (end : ℕ) → Later end (counted s end)
  unfolding counted
  later-counted end =
      later-onward end (part s (end + 4)) (λ list. references_at s list (number_at s end)) (later-part end (end + 4) (omega arith))
      (λ list. later-references list (number_at s end))

  later-texted : (at text : ℕ) → Later text (texted s at text)
  unfolding texted
  later-texted at text = later-onward text (part s (text + number_at s at)) (counted s) (later-part text (text + number_at s at) (omega arith)) later-counted

  later-begun : (at : ℕ) → Later at (begun s at)
  unfolding begun
  later-begun at = later-onward at (part s (at + 4)) (texted s at) (later-part at (at + 4) (omega arith)) (later-texted at)

  later-start : Later 4 (start s)
  unfolding Later start
  later-start = go (starts magic s) (starts s magic)
    where
      go : (t u : Bool) → Later 4 (cond t (Ok (Whole 4)) (cond u (Ok (More 4)) (Err 28)))
      go true u = omega arith
      go false true = omega arith
      go false false = tt

-- ---- of two answers, the second for a longer front

unfoldable pub Grown : BinaryLen → BinaryLen → Type 0
unfolding Later
Grown (Ok (Whole n)) b = b ≡ Ok (Whole n)
Grown (Ok (More n)) b = Later n b
Grown (Err n) b = b ≡ Err n

grown-onward : (a b : BinaryLen) (f g : ℕ → BinaryLen) → Grown a b → ((n : ℕ) → a ≡ Ok (Whole n) → Grown (f n) (g n)) → ((n : ℕ) → Later n (g n)) → Grown (onward a f) (onward b g)
unfolding Grown onward
grown-onward (Ok (Whole n)) b f g h k l = rw h (k n refl)
grown-onward (Ok (More n)) b f g h k l = later-onward n b g h l
grown-onward (Err n) b f g h k l = rw h refl

same-grown : (a b : BinaryLen) → a ≡ b → Grown a b
unfolding Grown Later
same-grown (Ok (Whole n)) b e = sym e
same-grown (Ok (More n)) b e = rw (← e) (omega arith)
same-grown (Err n) b e = sym e

module _ (s rest : List ℕ) where
  pub longer : length s ≤ length (s ++ rest)
  longer = omega (arith, length-append s rest)

  pub number_same : (at : ℕ) → at + 4 ≤ length s → number_at (s ++ rest) at ≡ number_at s at
  unfolding number_at
  number_same at h =
      ap (λ l. of_little (take 4 l)) (drop-append-le at s rest (omega arith))
      ∙ ap of_little (take-append-le 4 (drop at s) rest (omega (arith, length-drop at s)))

  closed_same : (end : ℕ) → 0 < end → end ≤ length s → closed (s ++ rest) end ≡ closed s end
  unfolding closed
  closed_same end h k = rw (get_or-append s rest 0 (end - 1) (omega arith)) refl

  grown-part : (end : ℕ) → Grown (part s end) (part (s ++ rest) end)
  unfolding Grown
  grown-part end = go (leb end (length s)) refl
    where
      go : (t : Bool) → leb end (length s) ≡ t → Grown (part s end) (part (s ++ rest) end)
      go true q = let h = leb-true end (length s) q in rw (part-there s end h) (part-there (s ++ rest) end (omega (arith, h, longer)))
      go false q = rw (part_cut s end (leb-false end (length s) q)) (later-part (s ++ rest) end end (omega arith))

  grown-name : (at n : ℕ) → Grown (name_at s at n) (name_at (s ++ rest) at n)
  unfolding Grown name_at
  grown-name at n = go (eqb n 0) refl
    where
      go : (t : Bool) → eqb n 0 ≡ t
          → Grown (cond t (Err 28) (onward (part s (at + n)) (closed s))) (cond t (Err 28) (onward (part (s ++ rest) (at + n)) (closed (s ++ rest))))
      go true q = refl
      go false q =
          grown-onward (part s (at + n)) (part (s ++ rest) (at + n)) (closed s) (closed (s ++ rest)) (grown-part (at + n))
          (λ end e. let p = part-whole s (at + n) end e in
          let z : n ≡ 0 → ⊥ = eqb-false n 0 q in
          same-grown (closed s end) (closed (s ++ rest) end) (sym (closed_same end (omega (arith, p.1)) (omega (arith, p.0, p.1)))))
          (later-closed (s ++ rest))

  grown-named : (at n : ℕ) → Grown (onward (name_at s at n) (λ end. part s (end + 4))) (onward (name_at (s ++ rest) at n) (λ end. part (s ++ rest) (end + 4)))
  grown-named at n =
      grown-onward (name_at s at n) (name_at (s ++ rest) at n) (λ end. part s (end + 4)) (λ end. part (s ++ rest) (end + 4)) (grown-name at n)
      (λ end e. grown-part (end + 4)) (λ end. later-part (s ++ rest) end (end + 4) (omega arith))

  pub grown-reference : (at : ℕ) → Grown (reference_at s at) (reference_at (s ++ rest) at)
  unfolding reference_at
  grown-reference at =
      grown-onward (part s (at + 4)) (part (s ++ rest) (at + 4))
      (λ name. onward (name_at s name (number_at s at)) (λ end. part s (end + 4)))
      (λ name. onward (name_at (s ++ rest) name (number_at (s ++ rest) at)) (λ end. part (s ++ rest) (end + 4)))
      (grown-part (at + 4))
      (λ name e. rw (number_same at (part-whole s (at + 4) name e).0) (grown-named name (number_at s at)))
      (λ name. later-named (s ++ rest) name (number_at (s ++ rest) at))

  grown-references : (at n : ℕ) → Grown (references_at s at n) (references_at (s ++ rest) at n)
  unfolding Grown references_at
  grown-references at zero = refl
  grown-references at (suc n) =
      grown-onward (reference_at s at) (reference_at (s ++ rest) at) (λ next. references_at s next n) (λ next. references_at (s ++ rest) next n) (grown-reference at)
      (λ next e. grown-references next n) (λ next. later-references (s ++ rest) next n)

  grown-counted : (end : ℕ) → Grown (counted s end) (counted (s ++ rest) end)
  unfolding counted
  grown-counted end =
      grown-onward (part s (end + 4)) (part (s ++ rest) (end + 4)) (λ list. references_at s list (number_at s end)) (λ list. references_at (s ++ rest) list (number_at (s ++ rest) end))
      (grown-part (end + 4))
      (λ list e. rw (number_same end (part-whole s (end + 4) list e).0) (grown-references list (number_at s end)))
      (λ list. later-references (s ++ rest) list (number_at (s ++ rest) end))

  grown-texted : (at text : ℕ) → at + 4 ≤ length s → Grown (texted s at text) (texted (s ++ rest) at text)
  unfolding texted
  grown-texted at text h =
      rw (number_same at h)
      (grown-onward (part s (text + number_at s at)) (part (s ++ rest) (text + number_at s at)) (counted s) (counted (s ++ rest)) (grown-part (text + number_at s at))
      (λ end e. grown-counted end) (later-counted (s ++ rest)))

  grown-begun : (at : ℕ) → Grown (begun s at) (begun (s ++ rest) at)
  unfolding begun
  grown-begun at =
      grown-onward (part s (at + 4)) (part (s ++ rest) (at + 4)) (texted s at) (texted (s ++ rest) at) (grown-part (at + 4))
      (λ text e. grown-texted at text (part-whole s (at + 4) text e).0) (later-texted (s ++ rest) at)

  grown-start : Grown (start s) (start (s ++ rest))
  unfolding Grown
  grown-start = go (starts magic s) (starts s magic) refl refl
    where
      go : (t u : Bool) → starts magic s ≡ t → starts s magic ≡ u → Grown (start s) (start (s ++ rest))
      go true u e f = same-grown (start s) (start (s ++ rest)) (start_is s e ∙ sym (start_is (s ++ rest) (starts_more magic s rest e)))
      go false true e f = rw (start-short s e f) (later-start (s ++ rest))
      go false false e f =
          let a = starts_apart magic s rest e f in
          same-grown (start s) (start (s ++ rest)) (start_none s e f ∙ sym (start_none (s ++ rest) a.0 a.1))

  pub grown : Grown (binary_len s) (binary_len (s ++ rest))
  unfolding binary_len begun texted counted
  grown = grown-onward (start s) (start (s ++ rest)) (begun s) (begun (s ++ rest)) grown-start (λ at e. grown-begun at) (later-begun (s ++ rest))
