-- `key_look::hash::hash` meets its contract: the number so far and the bytes that are left lead to the key's number.
use Prim.Native.Nat.{ℕ, ◌+◌, ◌-◌, ◌%◌}
use mathlib.Core.Path.{◌≡◌, sym, ap, ◌∙◌}
use mathlib.Core.List.{List}
use native.Mathlib.Omega.{arith}
use lib.ListN.{length, drop, take, get_or, length-drop}
use lib.Seq.{take_all}
use Rattle.key_look.specs.Hash.{bytes_from, key_hash}
use Rattle.key_look.proofs.hash.Mixing.{mixed-lt, words-lt, bytes_on, bytes-end}
use Rattle.key_look.proofs.hash.hash.Goals as goal

-- the rest of a key from `k` on, as it is lent
rest_of : (k : ℕ) (s : List ℕ) → take (length s - k) (drop k s) ≡ drop k s
rest_of k s = take_all (length s - k) (drop k s) (omega (arith, length-drop k s))

pub loop-b-init : goal.loop-b-init
unfolding key_hash
loop-b-init c =
    let s = c.args.id.now in
    let h = c.hash_words-h in (
      omega (arith, h.ensures, words-lt c.args.kind s (omega arith)),
      ap (λ h. bytes_from h (drop (length s - length s % 4) s)) (sym h.ensures)
          ∙ ap (bytes_from h.result) (sym (rest_of (length s - length s % 4) s)),
    )

pub loop-b-preserved : goal.loop-b-preserved
loop-b-preserved c =
    let l = c.loop-b in
    let s = c.args.id.now in
    let k : ℕ = length s - length s % 4 in
    let rest : List ℕ = take (length s - k) (drop k s) in (
      omega (arith, c.mix-h.ensures, mixed-lt l.h (get_or rest l.b-index 0)),
      l.invariant.1 ∙ bytes_on l.h rest l.b-index c.loop-b-test.true ∙ ap (λ h. bytes_from h (drop (l.b-index + 1) rest)) (sym c.mix-h.ensures),
    )

pub returns : goal.returns
returns c = sym (c.loop-b.invariant.1 ∙ bytes-end c.loop-b.h _ c.loop-b.b-index c.loop-b-test.false)
