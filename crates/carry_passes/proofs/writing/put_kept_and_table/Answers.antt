-- `carry_passes::writing::put_kept_and_table` meets its contract: the rows before the first line that is kept, then all from there on.
use Prim.Native.Nat.{◌+◌, ◌*◌, ◌≤◌}
use mathlib.Core.Path.{◌≡◌, sym, ap, subst, ◌∙◌}
use native.Mathlib.Omega.{arith}
use lib.ListN.{length, replicate}
use Rattle.format.specs.Tidy.{tidy}
use Rattle.format.specs.Work.{all_zeros}
use Rattle.format.proofs.Slots.{held_none}
use Rattle.byte_slices.specs.Over.{over}
use Rattle.byte_slices.proofs.Over.{over-over}
use Rattle.key_look.specs.Seed.{plain_seed}
use Rattle.key_index.specs.KeySlots.{start}
use Rattle.tidy_text.specs.Placed.{with_parts, parts, Apart}
use Rattle.tidy_text.proofs.Parts.{starts_apart, starts-placed, around-none}
use Rattle.carry_early.specs.Early.{early_of, rows_from}
use Rattle.carry_passes.specs.From.{kept_from, rows_of}
use Rattle.carry_passes.proofs.Split.{first-kept, first_rows, early-rows}
use Rattle.carry_passes.proofs.writing.put_kept_and_table.Goals as goal

pub put_early-requires : goal.put_early-requires
put_early-requires c = record {
  text_len_bound = c.requires.text_len_bound;
  count_value = c.requires.first.line;
  count_in_bounds = omega (arith, c.requires.b_in_bounds_2);
}

pub put_lines-requires : goal.put_lines-requires
put_lines-requires c =
    let a = c.args in
    let rs = kept_from a.text.now a.b in
    let room : length (tidy rs) + 0 ≤ length a.out.now = omega (arith, c.requires.b_in_bounds) in record {
      text_len_bound = c.requires.text_len_bound;
      first = c.requires.first;
      fresh = record { some = c.requires.in_bounds; room = omega arith; held = held_none (start plain_seed a.text.now 2048) 2048 };
      apart = subst (λ q. Apart (parts q rs) (length a.out.now)) (sym c.requires.places_value) (starts_apart a.out.now 0 rs room);
      b_in_bounds = omega (arith, c.requires.b_in_bounds_2, c.put_early.auto);
    }

pub returns : goal.returns
unfolding all_zeros
returns c =
    let a = c.args in
    let t = c.args.text.now in
    let f = c.requires.first in
    let w = c.put_lines.ensures in
    let rs = kept_from t a.b in
    let early = rows_from 0 (early_of t).refusals in
    let put = c.put_lines in
    let long : length put.new.area ≡ length a.area.now = omega (arith, put.auto) in
    let room : length (tidy rs) + 0 ≤ length a.out.now = omega (arith, c.requires.b_in_bounds) in record {
      wrote = w.wrote
          ∙ ap (λ q. with_parts a.out.now (parts q rs)) c.requires.places_value
          ∙ starts-placed a.out.now 0 rs room
          ∙ around-none a.out.now rs c.requires.b_in_bounds
          ∙ ap (λ rs. over a.out.now 0 (tidy rs)) (sym (first-kept t a.b f));
      listed = w.listed
          ∙ ap (λ o. over o (a.b.line * 2) (rows_of t a.b)) c.put_early.ensures
          ∙ ap (λ k. over (over a.table.now 0 early) k (rows_of t a.b)) (let z : a.b.line * 2 ≡ 0 + length early = omega (arith, early-rows t a.b f) in z)
          ∙ over-over a.table.now 0 early (rows_of t a.b) (omega (arith, c.requires.b_in_bounds_2, early-rows t a.b f))
          ∙ ap (over a.table.now 0) (sym (first_rows t a.b f));
      zeros = c.clear.ensures ∙ ap (λ n. replicate n 0) long;
    }
