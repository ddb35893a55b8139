-- `tidy_text::put_around` meets its contract: one kind starts where the one before it ends, and the comments a gap further.
use Prim.Native.Nat.{◌+◌, ◌≤◌}
use mathlib.Core.Path.{◌≡◌, sym, ap, subst, ◌∙◌}
use native.Mathlib.Omega.{arith}
use lib.ListN.{length}
use Rattle.accepted.specs.Read.{records_of}
use Rattle.tidy_sizes.specs.Numbers.{front, kind_starts}
use Rattle.tidy_text.specs.Sizes.{sizes_of}
use Rattle.tidy_text.specs.Placed.{with_parts, parts, Apart}
use Rattle.tidy_text.proofs.Lines.{opened}
use Rattle.tidy_text.proofs.Total.{front-sizes, tidy-sizes, tidy-small}
use Rattle.tidy_text.proofs.Sizes.{front-size}
use Rattle.tidy_text.proofs.Parts.{starts_apart, starts-placed}
use Rattle.tidy_text.proofs.Sifting.{sifted-unmarked}
use Rattle.tidy_text.proofs.put_around.Goals as goal
use Rattle.tidy_text.proofs.put_around.Goals.{After-starts}

-- where each kind starts
places : (c : After-starts) → (let a = c.args in c.starts.result ≡ kind_starts a.gap (sizes_of (records_of a.text.now)))
places c = c.starts.ensures ∙ ap (kind_starts c.args.gap) c.requires.sizes_value

pub starts-requires : goal.starts-requires
starts-requires c =
    let a = c.args in
    let rs = records_of a.text.now in
    let small = (tidy-small a.strict a.text.now (opened a.strict a.text.now c.requires.text_value c.requires.reads_by)).1 in
    let room : front a.sizes + a.gap ≤ 18446744073709551615 =
    omega (arith, c.requires.gap_bound, small, ap front c.requires.sizes_value, front-size rs, front-sizes rs, tidy-sizes rs) in
    room

pub put_lines-requires : goal.put_lines-requires
put_lines-requires c =
    let a = c.args in
    let rs = records_of a.text.now in
    let apart = subst (λ p. Apart (parts p rs) (length a.out.now)) (sym (places (goal.at.put_lines-requires c).After-starts)) (starts_apart a.out.now a.gap rs c.requires.gap_in_bounds) in record {
      text_value = c.requires.text_value;
      reads_by = c.requires.reads_by;
      apart = subst (λ qs. Apart (parts c.starts.result qs) (length a.out.now)) (sym (sifted-unmarked rs)) apart;
    }

pub returns : goal.returns
returns c =
    let a = c.args in
    let rs = records_of a.text.now in
    c.put_lines.ensures
    ∙ ap (λ qs. with_parts a.out.now (parts c.starts.result qs)) (sifted-unmarked rs)
    ∙ ap (λ p. with_parts a.out.now (parts p rs)) (places (goal.at.returns c).After-starts)
    ∙ starts-placed a.out.now a.gap rs c.requires.gap_in_bounds
