-- `carry_keys::enter` meets its contract: what is left of the block's lines is to enter still.
use Prim.Native.Nat.{ℕ, ◌+◌, ◌-◌, ◌≤◌, ◌<◌}
use mathlib.Core.Path.{◌≡◌, refl, sym, ap, ap₂, subst, ◌∙◌}
use mathlib.Core.Bool.{true}
use Rattle.std.proofs.lemmas.Result.{err_from_is_err_and}
use native.Mathlib.Omega.{arith}
use lib.ListN.{length, drop}
use Rattle.format.specs.Lines.{lines_from}
use Rattle.format.specs.Records.{line}
use Rattle.byte_slices.specs.First.{first_line}
use Rattle.accepted.specs.First.{first_at}
use Rattle.accepted.proofs.Ahead.{next_more, next-within}
use Rattle.record.specs.Head.{head_of}
use Rattle.key_index.specs.KeySlots.{after_entering}
use Rattle.key_index.specs.Keyed.{KeyInText}
use Rattle.key_index.proofs.Looking.{head-looks-few}
use Rattle.key_index.proofs.HeldKeys.{entering-length}
use Rattle.carry_keys.specs.Blocks.{head_keys, keyed_front, after_keyed, entered}
use Rattle.carry_keys.proofs.Walk.{keys-most, after-end, after_none, after_on, entered-end, entered-none, entered_on, placed_at}
use Rattle.carry_keys.proofs.enter.Goals as goal
use Rattle.carry_keys.proofs.enter.Goals.{After-find_or_enter-found, After-keys_in-n, Else-end-text}

-- there is a line ahead
ahead : (c : Else-end-text) → c.loop-n.end < length c.args.text.now
ahead c = omega (arith, c.loop-n.invariant.1, c.if-end-text.false)

pub loop-n-init : goal.loop-n-init
loop-n-init c =
    let a = c.args in
    let z : a.many ≡ a.many - 0 = omega arith in
    (omega arith, c.requires.at_in_bounds, refl, ap (λ m. after_keyed a.strict m a.at a.text.now) z, ap (λ m. entered a.seed a.strict a.text.now a.area.now (keyed_front a.strict m (lines_from a.at (drop a.at a.text.now)))) z, omega arith, omega arith)

pub shape_of-area-then-end-text : goal.shape_of-area-then-end-text
shape_of-area-then-end-text c = c.loop-n.invariant.2

pub returns-then-end-text : goal.returns-then-end-text
returns-then-end-text c =
    let a = c.args in
    let v = c.loop-n.invariant in
    let left : ℕ = a.many - c.loop-n.n in
    let e : c.loop-n.end ≡ length a.text.now = omega (arith, c.if-end-text.true) in record {
      end = sym (v.3 ∙ after-end a.seed a.text.now c.loop-n.end a.strict left e);
      wrote = sym (v.4 ∙ entered-end a.seed a.text.now c.loop-n.end a.strict c.loop-n.area left (omega (arith, e)));
      busy = tt;
      looks = omega (arith, v.6);
    }

pub parse_at-parsed-requires : goal.parse_at-parsed-requires
parse_at-parsed-requires c = record {
  text_len_bound = c.requires.text_len_bound;
  at_in_bounds = ahead c;
}

pub find_or_enter-found-requires : goal.find_or_enter-found-requires
find_or_enter-found-requires c =
    let t = c.args.text.now in record {
      text_len_bound = c.requires.text_len_bound;
      area_nonzero = omega (arith, c.loop-n.invariant.2, c.requires.area_nonzero);
      key_in_text = subst (KeyInText (length t)) (sym c.parse_at-parsed.ensures.head) (placed_at c.args.strict t c.loop-n.end c.requires.text_len_bound (ahead (goal.at.find_or_enter-found-requires c).Else-end-text));
    }

pub with_line-requires : goal.with_line-requires
with_line-requires c = record {
  lines_bound = omega (arith, ahead (goal.at.with_line-requires c).Else-end-text, c.loop-n.invariant.5, c.requires.text_len_bound);
  slots_bound = c.loop-n.invariant.6;
}

-- the area is as long as before
long : (m : After-find_or_enter-found)
    → length m.find_or_enter-found.new.area ≡ length m.args.area.now
long m =
    let a = m.args in
    ap length m.find_or_enter-found.ensures.wrote ∙ entering-length a.seed true a.text.now m.loop-n.area m.parse_at-parsed.result.head ∙ m.loop-n.invariant.2

pub shape_of-area-in_err-looks : goal.shape_of-area-in_err-looks
shape_of-area-in_err-looks c = long (goal.at.shape_of-area-in_err-looks c).After-find_or_enter-found

-- given up: one key more was looked for
pub returns-in_err-looks-clause-looks : goal.returns-in_err-looks-clause-looks
returns-in_err-looks-clause-looks c =
    let a = c.args in
    let v = c.loop-n.invariant in
    let more = head-looks-few a.seed a.text.now c.loop-n.area c.parse_at-parsed.result.head (omega (arith, v.2, c.requires.area_nonzero)) in
    let p = err_from_is_err_and c.from_residual.result c.from_residual.ensures.1 in
    rw (p.1, p.2) (omega (arith, c.in_err-looks.ensures.err, c.find_or_enter-found.ensures.slots, more, v.2))

-- no more keys than may enter
within : (c : After-keys_in-n)
    → c.loop-n.n + c.keys_in-n.result ≤ c.args.many
within c =
    omega (arith, c.loop-n-test.true, c.keys_in-n.ensures, keys-most c.parse_at-parsed.result.head)

pub overflow_add-n : goal.overflow_add-n
overflow_add-n c = omega (arith, within c)

pub loop-n-smaller : goal.loop-n-smaller
loop-n-smaller c =
    let t = c.args.text.now in
    omega (arith, ahead (goal.at.loop-n-smaller c).Else-end-text, c.parse_at-parsed.ensures.next, next_more t c.loop-n.end (ahead (goal.at.loop-n-smaller c).Else-end-text))

pub loop-n-preserved : goal.loop-n-preserved
loop-n-preserved c =
    let a = c.args in
    let t = c.args.text.now in
    let v = c.loop-n.invariant in
    let at : ℕ = c.loop-n.end in
    let h : at < length t = ahead (goal.at.loop-n-preserved c).Else-end-text in
    let left : ℕ = a.many - c.loop-n.n in
    let k : ℕ = a.many - (c.loop-n.n + c.keys_in-n.result) in
    let some : 0 < left = omega (arith, c.loop-n-test.true) in
    let n : c.keys_in-n.result ≡ head_keys (head_of (line a.strict (first_at at t))) = c.keys_in-n.ensures ∙ ap head_keys c.parse_at-parsed.ensures.head in
    let less : left - head_keys (head_of (line a.strict (first_at at t))) ≡ k = omega (arith, n) in
    let next : at + (first_line (drop at t)).next ≡ c.parse_at-parsed.result.next = sym c.parse_at-parsed.ensures.next in
    let area : after_entering a.seed true t c.loop-n.area (head_of (line a.strict (first_at at t))) ≡ c.find_or_enter-found.new.area = ap (after_entering a.seed true t c.loop-n.area) (sym c.parse_at-parsed.ensures.head) ∙ sym c.find_or_enter-found.ensures.wrote in (
      within c,
      omega (arith, sym next, next-within t at h),
      long (goal.at.loop-n-preserved c).After-find_or_enter-found,
      v.3 ∙ after_on a.seed t at a.strict left k some less h ∙ ap (λ i. after_keyed a.strict k i t) next,
      v.4 ∙ entered_on a.seed t at a.strict c.loop-n.area left k some less h ∙ ap₂ (λ s i. entered a.seed a.strict t s (keyed_front a.strict k (lines_from i (drop i t)))) area next,
      omega (arith, sym next, next_more t at h, v.5, c.in_ok-looks.ensures.ok.0),
      c.in_ok-looks.ensures.ok.1,
    )

pub shape_of-area : goal.shape_of-area
shape_of-area c = c.loop-n.invariant.2

pub returns : goal.returns
returns c =
    let a = c.args in
    let v = c.loop-n.invariant in
    let z : a.many - c.loop-n.n ≡ 0 = omega (arith, c.loop-n-test.false) in record {
      end = sym (v.3 ∙ after_none a.seed a.text.now c.loop-n.end a.strict (a.many - c.loop-n.n) z v.1);
      wrote = sym (v.4 ∙ entered-none a.seed a.text.now c.loop-n.end a.strict c.loop-n.area (a.many - c.loop-n.n) z);
      busy = tt;
      looks = omega (arith, v.6);
    }
