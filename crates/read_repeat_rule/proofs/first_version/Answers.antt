-- `read_repeat_rule::first_version` meets its contract: what the pieces from `at` on say is what all of them say.
use Prim.Native.Nat.{ℕ, zero, suc, ◌+◌, ◌-◌, ◌≤◌, ◌<◌}
use mathlib.Core.Path.{◌≡◌, refl, sym, ap, ◌∙◌}
use mathlib.Core.Bool.{Bool, true, false}
use mathlib.Core.Logic.{◌⊎◌, inl, inr, ⊎_elim}
use mathlib.Core.List.{List, [], ◌∷◌}
use mathlib.Core.Option.{none}
use native.Mathlib.Omega.{arith}
use lib.ListN.{length, take, drop, length-drop}
use lib.Seq.{take-nil, drop-drop}
use Rattle.format.specs.Bytes.{starts}
use Rattle.format.specs.Lines.{cut}
use Rattle.format.specs.Reading.{first_version}
use Rattle.format.specs.Version.{version}
use Rattle.field.specs.Spelled.{parsed_version_of}
use Rattle.byte_slices.proofs.Before.{rest}
use Rattle.byte_slices.specs.Upto.{upto, before}
use Rattle.byte_slices.proofs.Lines.{upto_le}
use Rattle.byte_slices.proofs.Before.{before-length}
use Rattle.read_repeat_rule.proofs.First.{starts-long, first-here, first_next, first-none}
use Rattle.read_repeat_rule.proofs.first_version.Goals as goal
use Rattle.read_repeat_rule.proofs.first_version.Goals.{After-upto, Else-end-stop, Joined-is_version, Then-end-stop, Then-is_version, then-is_version, else-is_version}

-- the end of a front
drop-take : (k m n : ℕ) (l : List ℕ) → n ≡ k + m → drop k (take n l) ≡ take m (drop k l)
drop-take zero m n l e = ap (λ j. take j l) (let q : n ≡ m = omega arith in q)
drop-take (suc k) m zero l e = absurd (omega arith)
drop-take (suc k) m (suc n) [] e = sym (take-nil m)
drop-take (suc k) m (suc n) (b ∷ l) e = drop-take k m n l (omega arith)

-- the empty value is not a version
unspelled : version [] ≡ none
unfolding version
unspelled = refl

-- a step at `at`, where the next tab is `n` bytes away
module _ (s : List ℕ) (at n : ℕ) (h : at ≤ length s) (e : n ≡ upto 9 (take (length s - at) (drop at s))) where
  near : n ≡ upto 9 (drop at s)
  near = e ∙ ap (upto 9) (rest at s)

  within : at + n ≤ length s
  within = omega (arith, near, upto_le 9 (drop at s), length-drop at s)

  -- the piece, as a callee sees it
  piece : take (at + n - at) (drop at s) ≡ before 9 (drop at s)
  unfolding before
  piece = ap (λ k. take k (drop at s)) (let q : at + n - at ≡ upto 9 (drop at s) = omega (arith, near) in q)

  module _ (t : Bool) (q : t ≡ starts (86 ∷ 78 ∷ 58 ∷ []) (take (at + n - at) (drop at s))) where
    judged : starts (86 ∷ 78 ∷ 58 ∷ []) (before 9 (drop at s)) ≡ t
    judged = sym (rw piece at q)

    long : t ≡ true → 3 ≤ n
    long k = omega (arith, near, before-length 9 (drop at s), starts-long _ _ (judged ∙ k))

    here : t ≡ true → version (take (at + n - (at + 3)) (drop (at + 3) s)) ≡ first_version (cut 9 (drop at s))
    unfolding before
    here k =
        let m : upto 9 (drop at s) ≡ 3 + (at + n - (at + 3)) = omega (arith, near, long k) in
        sym (first-here (drop at s) (judged ∙ k) ∙ ap version (drop-take 3 _ _ (drop at s) m ∙ ap (take (at + n - (at + 3))) (drop-drop 3 at s)))

    next : t ≡ false → at + n < length s → first_version (cut 9 (drop at s)) ≡ first_version (cut 9 (drop (at + n + 1) s))
    next k l =
        let m : at + suc (upto 9 (drop at s)) ≡ at + n + 1 = omega (arith, near) in
        first_next (drop at s) (judged ∙ k) (omega (arith, near, length-drop at s))
        ∙ ap (λ r. first_version (cut 9 r)) (drop-drop (suc (upto 9 (drop at s))) at s ∙ ap (λ j. drop j s) m)

    -- the search ends here: at a piece that starts `VN:`, or at the last one, and then nothing is read
    module _ (from stop : ℕ)
        (came : ((t ≡ true) × (from ≡ at + 3) × (stop ≡ at + n)) ⊎ ((t ≡ false) × (from ≡ length s) × (stop ≡ length s))) where
      bounds : (from ≤ stop) × (stop ≤ length s)
      bounds = ⊎_elim (λ h. (omega (arith, long h.0), omega (arith, within))) (λ h. (omega arith, omega arith)) came

      ended : at + n ≡ stop → version (take (stop - from) (drop from s)) ≡ first_version (cut 9 (drop at s))
      ended k = ⊎_elim (λ h. rw (h.1, h.2) (here h.0)) (λ h. nothing h) came
        where
          nothing : (t ≡ false) × (from ≡ length s) × (stop ≡ length s) → version (take (stop - from) (drop from s)) ≡ first_version (cut 9 (drop at s))
          nothing h =
              let z : stop - from ≡ 0 = omega (arith, h.1, h.2) in
              ap (λ m. version (take m (drop from s))) z ∙ unspelled ∙ sym (first-none (drop at s) (judged ∙ h.0) (omega (arith, near, length-drop at s)))

      -- it goes on after a tab, and nothing has been found
      onward : (at + n ≡ stop → ⊥) → (at + n + 1 ≤ length s) × (from ≡ length s) × (stop ≡ length s) × (first_version (cut 9 (drop at s)) ≡ first_version (cut 9 (drop (at + n + 1) s)))
      onward k = ⊎_elim (λ h. absurd (k (sym h.2))) (λ h. let l : at + n < length s = omega (arith, k, h.2, within) in (omega (arith, l), h.1, h.2, next h.0 l)) came

in_reach : (c : After-upto)
    → c.loop-from.at + c.upto.result ≤ length c.args.src.now
in_reach c = within c.args.src.now _ _ c.loop-from.invariant.0 c.upto.ensures

three : (c : Then-is_version) → 3 ≤ c.upto.result
three c =
    long _ c.loop-from.at c.upto.result c.loop-from.invariant.0 c.upto.ensures _ c.is_version.ensures c.if-is_version.true

-- what was found in this step
came : (c : Joined-is_version)
    → let s = c.args.src.now in
    ((c.is_version.result ≡ true) × (c.if-is_version.from ≡ c.loop-from.at + 3) × (c.if-is_version.stop ≡ c.loop-from.at + c.upto.result))
    ⊎ ((c.is_version.result ≡ false) × (c.if-is_version.from ≡ length s) × (c.if-is_version.stop ≡ length s))
came c =
    elim c.if-is_version.branch [
      | then-is_version w ↦ inl (w.if-is_version.true, w.from-is, w.stop-is)
      | else-is_version w ↦ inr (w.if-is_version.false, w.from-is ∙ c.loop-from.invariant.1, w.stop-is ∙ c.loop-from.invariant.2)
    ]

further : (c : Else-end-stop)
    → let s = c.args.src.now in
    let next = c.loop-from.at + c.upto.result + 1 in
    (next ≤ length s) × (c.if-is_version.from ≡ length s) × (c.if-is_version.stop ≡ length s)
    × (first_version (cut 9 (drop c.loop-from.at s)) ≡ first_version (cut 9 (drop next s)))
further c =
    onward _ c.loop-from.at c.upto.result c.loop-from.invariant.0 c.upto.ensures _ c.is_version.ensures _ _ (came (goal.at.Else-end-stop c).Joined-is_version) c.if-end-stop.false

ends : (c : Then-end-stop)
    → let s = c.args.src.now in
    (c.if-is_version.from ≤ c.if-is_version.stop) × (c.if-is_version.stop ≤ length s)
    × (version (take (c.if-is_version.stop - c.if-is_version.from) (drop c.if-is_version.from s)) ≡ first_version (cut 9 s))
ends c =
    let b = bounds _ c.loop-from.at c.upto.result c.loop-from.invariant.0 c.upto.ensures _ c.is_version.ensures _ _ (came (goal.at.Then-end-stop c).Joined-is_version) in
    (b.0, b.1, ended _ c.loop-from.at c.upto.result c.loop-from.invariant.0 c.upto.ensures _ c.is_version.ensures _ _ (came (goal.at.Then-end-stop c).Joined-is_version) c.if-end-stop.true ∙ sym c.loop-from.invariant.3)

pub loop-from-init : goal.loop-from-init
loop-from-init c = (omega arith, refl, refl, refl)

pub slice_bounds-upto-count : goal.slice_bounds-upto-count
slice_bounds-upto-count c = omega arith

pub slice_bounds-upto-start : goal.slice_bounds-upto-start
slice_bounds-upto-start c = omega arith

pub slice_bounds-upto-end : goal.slice_bounds-upto-end
slice_bounds-upto-end c = omega arith

pub overflow_add-end : goal.overflow_add-end
overflow_add-end c = omega (arith, in_reach c)

pub slice_bounds-is_version-count : goal.slice_bounds-is_version-count
slice_bounds-is_version-count c = omega arith

pub slice_bounds-is_version-start : goal.slice_bounds-is_version-start
slice_bounds-is_version-start c = omega arith

pub slice_bounds-is_version-end : goal.slice_bounds-is_version-end
slice_bounds-is_version-end c = omega (arith, in_reach c)

pub overflow_add-from : goal.overflow_add-from
overflow_add-from c = omega (arith, in_reach (goal.at.overflow_add-from c).After-upto, three c)

pub overflow_add-at : goal.overflow_add-at
overflow_add-at c = omega (arith, (further c).0)

pub loop-from-smaller : goal.loop-from-smaller
loop-from-smaller c = omega (arith, (further c).0)

pub loop-from-preserved : goal.loop-from-preserved
loop-from-preserved c = let f = further c in (f.0, f.1, f.2, c.loop-from.invariant.3 ∙ f.3)

pub slice_bounds-parse_version-count : goal.slice_bounds-parse_version-count
slice_bounds-parse_version-count c = (ends (goal.at.slice_bounds-parse_version-count c).Then-end-stop).0

pub slice_bounds-parse_version-start : goal.slice_bounds-parse_version-start
slice_bounds-parse_version-start c = omega (arith, ends (goal.at.slice_bounds-parse_version-start c).Then-end-stop)

pub slice_bounds-parse_version-end : goal.slice_bounds-parse_version-end
slice_bounds-parse_version-end c = omega (arith, ends (goal.at.slice_bounds-parse_version-end c).Then-end-stop)

pub returns : goal.returns
returns c = c.parse_version.ensures.is ∙ ap parsed_version_of (ends (goal.at.returns c).Then-end-stop).2
