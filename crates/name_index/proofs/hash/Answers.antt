-- `name_index::hash` meets its contract: the number so far and the bytes that are left lead to the name's number.
use Rattle.std.proofs.Common.{◌≡◌, ℕ, ◌+◌, ◌*◌, ◌%◌, ◌^◌, ◌<◌, ◌≤◌, List, length, get_or, drop, sym, refl, ap, ◌∙◌, add-one, arith, drop_of_length-le, drop-cons}
use Rattle.format.specs.NameIndex.{hash_from}
use Rattle.name_index.proofs.hash.Goals as goal

module _ (h : ℕ) (s : List ℕ) (i : ℕ) where
  pass : i < length s → hash_from h (drop i s) ≡ hash_from ((33 * h + get_or s i 0) % 2 ^ 32) (drop (i + 1) s)
  unfolding hash_from
  pass k = rw (drop-cons s i 0 k, add-one i) refl

  spent : length s ≤ i → hash_from h (drop i s) ≡ h
  unfolding hash_from
  spent k = rw drop_of_length-le refl

pub loop-b-preserved : goal.loop-b-preserved
loop-b-preserved c =
    let l = c.loop-b in
    let s = c.args.name.now in
    l.invariant ∙ pass l.h s l.b-index (omega arith) ∙ ap (λ h. hash_from h (drop (l.b-index + 1) s)) (sym c.with_byte-h.ensures)

pub returns : goal.returns
returns c = sym (c.loop-b.invariant ∙ spent c.loop-b.h c.args.name.now c.loop-b.b-index (omega arith))
