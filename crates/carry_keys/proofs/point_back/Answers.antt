-- `carry_keys::point_back` meets its contract: what is left of the earlier lines is to be pointed to still.
use Prim.Native.Nat.{ℕ, ◌+◌, ◌<◌}
use mathlib.Core.Path.{◌≡◌, refl, sym, ap, ap₂, subst, ◌∙◌}
use Rattle.std.proofs.lemmas.Result.{err_from_is_err_and}
use native.Mathlib.Omega.{arith}
use lib.ListN.{length, drop}
use Rattle.format.specs.Lines.{lines_from}
use Rattle.format.specs.Records.{line}
use Rattle.byte_slices.specs.First.{first_line}
use Rattle.accepted.specs.First.{first_at}
use Rattle.accepted.proofs.Ahead.{next_more}
use Rattle.record.specs.Head.{head_of}
use Rattle.key_index.specs.KeySlots.{after_pointing}
use Rattle.key_index.specs.Keyed.{KeyInText}
use Rattle.key_index.proofs.Looking.{head-looks-few}
use Rattle.key_index.proofs.HeldKeys.{pointing-length}
use Rattle.carry_keys.specs.Blocks.{earlier, pointed_back}
use Rattle.carry_keys.proofs.Walk.{pointed-end, pointed-on, placed_at}
use Rattle.carry_keys.proofs.point_back.Goals as goal
use Rattle.carry_keys.proofs.point_back.Goals.{After-point_to_head-more, In-loop-at}

-- there is a line ahead
ahead : (c : In-loop-at) → c.loop-at.at < length c.args.text.now
ahead c = omega (arith, c.loop-at-test.true, c.requires.to_in_bounds)

pub loop-at-init : goal.loop-at-init
loop-at-init c = (refl, refl, omega arith, omega arith)

pub parse_at-parsed-requires : goal.parse_at-parsed-requires
parse_at-parsed-requires c = record {
  text_len_bound = c.requires.text_len_bound;
  at_in_bounds = ahead c;
}

pub point_to_head-more-requires : goal.point_to_head-more-requires
point_to_head-more-requires c =
    let t = c.args.text.now in record {
      text_len_bound = c.requires.text_len_bound;
      area_nonzero = omega (arith, c.loop-at.invariant.0, c.requires.area_nonzero);
      key_in_text = subst (KeyInText (length t)) (sym c.parse_at-parsed.ensures.head) (placed_at c.args.strict t c.loop-at.at c.requires.text_len_bound (ahead (goal.at.point_to_head-more-requires c).In-loop-at));
    }

pub with_line-requires : goal.with_line-requires
with_line-requires c = record {
  lines_bound = omega (arith, ahead (goal.at.with_line-requires c).In-loop-at, c.loop-at.invariant.2, c.requires.text_len_bound);
  slots_bound = c.loop-at.invariant.3;
}

-- the area is as long as before
long : (m : After-point_to_head-more)
    → length m.point_to_head-more.new.area ≡ length m.args.area.now
long m =
    let a = m.args in
    ap length m.point_to_head-more.ensures.wrote ∙ pointing-length a.seed a.text.now m.loop-at.area m.parse_at-parsed.result.head ∙ m.loop-at.invariant.0

pub shape_of-area-in_err-looks : goal.shape_of-area-in_err-looks
shape_of-area-in_err-looks c = long (goal.at.shape_of-area-in_err-looks c).After-point_to_head-more

-- given up: one key more was looked for
pub returns-in_err-looks-clause-looks : goal.returns-in_err-looks-clause-looks
returns-in_err-looks-clause-looks c =
    let a = c.args in
    let v = c.loop-at.invariant in
    let more = head-looks-few a.seed a.text.now c.loop-at.area c.parse_at-parsed.result.head (omega (arith, v.0, c.requires.area_nonzero)) in
    let p = err_from_is_err_and c.from_residual.result c.from_residual.ensures.1 in
    rw (p.1, p.2) (omega (arith, c.in_err-looks.ensures.err, c.point_to_head-more.ensures.slots, more, v.0))

pub loop-at-smaller : goal.loop-at-smaller
loop-at-smaller c =
    let t = c.args.text.now in
    omega (arith, ahead (goal.at.loop-at-smaller c).In-loop-at, c.parse_at-parsed.ensures.next, next_more t c.loop-at.at (ahead (goal.at.loop-at-smaller c).In-loop-at))

pub loop-at-preserved : goal.loop-at-preserved
loop-at-preserved c =
    let a = c.args in
    let t = c.args.text.now in
    let v = c.loop-at.invariant in
    let at : ℕ = c.loop-at.at in
    let next : at + (first_line (drop at t)).next ≡ c.parse_at-parsed.result.next = sym c.parse_at-parsed.ensures.next in
    let area : after_pointing a.seed t c.loop-at.area (head_of (line a.strict (first_at at t))) ≡ c.point_to_head-more.new.area = ap (after_pointing a.seed t c.loop-at.area) (sym c.parse_at-parsed.ensures.head) ∙ sym c.point_to_head-more.ensures.wrote in (
      long (goal.at.loop-at-preserved c).After-point_to_head-more,
      v.1 ∙ pointed-on a.seed a.to t at a.strict c.loop-at.area c.loop-at-test.true (ahead (goal.at.loop-at-preserved c).In-loop-at) ∙ ap₂ (λ s k. pointed_back a.seed a.strict t s (earlier a.to (lines_from k (drop k t)))) area next,
      omega (arith, sym next, next_more t at (ahead (goal.at.loop-at-preserved c).In-loop-at), v.2, c.in_ok-looks.ensures.ok.0),
      c.in_ok-looks.ensures.ok.1,
    )

pub shape_of-area : goal.shape_of-area
shape_of-area c = c.loop-at.invariant.0

pub returns : goal.returns
returns c =
    let a = c.args in
    let v = c.loop-at.invariant in record {
      wrote = sym (v.1 ∙ pointed-end a.seed a.to a.text.now c.loop-at.at a.strict c.loop-at.area c.loop-at-test.false);
      busy = tt;
      looks = omega (arith, v.3);
    }
