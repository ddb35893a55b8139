-- `tidy_text::put_marked` meets its contract: one kind starts where the one before it ends.
use Prim.Native.Nat.{◌+◌, ◌≤◌}
use mathlib.Core.Path.{◌≡◌, sym, ap, subst, ◌∙◌}
use mathlib.Core.List.{List}
use native.Mathlib.Omega.{arith}
use lib.ListN.{length}
use Rattle.format.specs.Records.{Record}
use Rattle.format.specs.Tidy.{tidy}
use Rattle.accepted.specs.Read.{records_of}
use Rattle.tidy_sizes.specs.Numbers.{front, total, kind_starts}
use Rattle.tidy_text.specs.Sizes.{sizes_of}
use Rattle.tidy_text.specs.Placed.{with_parts, parts, Apart}
use Rattle.tidy_text.proofs.Lines.{opened}
use Rattle.tidy_text.proofs.Total.{tidy-small, tidy-sizes, front-sizes}
use Rattle.tidy_text.proofs.Sizes.{front-size, total_size}
use Rattle.tidy_text.proofs.Parts.{starts_apart, starts-placed, around-none}
use Rattle.tidy_text.specs.Sifted.{is_marked, sifted}
use Rattle.tidy_text.proofs.Sifting.{sifted-small}
use Rattle.tidy_text.proofs.put_marked.Goals as goal
use Rattle.tidy_text.proofs.put_marked.Goals.{After-starts, Start}

-- the records that stay
abbrev stay : Start → List Record
stay s = sifted (is_marked s.args.marks.now) 0 (records_of s.args.text.now)

small : (s : Start) → length (tidy (stay s)) ≤ 16777217
small s =
    let a = s.args in
    omega (arith, sifted-small (is_marked a.marks.now) 0 (records_of a.text.now), (tidy-small a.strict a.text.now (opened a.strict a.text.now s.requires.text_value s.requires.reads_by)).1)

-- where each kind starts
places : (c : After-starts) → (c.starts.result ≡ kind_starts 0 (sizes_of (stay (goal.at.After-starts c).Start)))
places c = c.starts.ensures ∙ ap (kind_starts 0) c.requires.sizes_value

pub starts-requires : goal.starts-requires
starts-requires c =
    let rs = stay (goal.at.starts-requires c).Start in
    let room : front c.args.sizes + 0 ≤ 18446744073709551615 = omega (arith, small (goal.at.starts-requires c).Start, ap front c.requires.sizes_value, front-size rs, front-sizes rs, tidy-sizes rs) in
    room

pub put_lines-requires : goal.put_lines-requires
put_lines-requires c =
    let rs = stay (goal.at.put_lines-requires c).Start in record {
      text_value = c.requires.text_value;
      reads_by = c.requires.reads_by;
      apart = subst (λ p. Apart (parts p rs) (length c.args.out.now)) (sym (places (goal.at.put_lines-requires c).After-starts)) (starts_apart c.args.out.now 0 rs (omega (arith, c.requires.text_in_bounds)));
    }

pub total-requires : goal.total-requires
total-requires c =
    let room : total c.args.sizes ≤ 18446744073709551615 = omega (arith, small (goal.at.total-requires c).Start, ap total c.requires.sizes_value, total_size (stay (goal.at.total-requires c).Start)) in
    room

pub returns : goal.returns
returns c =
    let rs = stay (goal.at.returns c).Start in
    let out = c.args.out.now in record {
      next = c.total.ensures ∙ ap total c.requires.sizes_value ∙ total_size rs;
      wrote = c.put_lines.ensures ∙ ap (λ p. with_parts out (parts p rs)) (places (goal.at.returns c).After-starts) ∙ starts-placed out 0 rs (omega (arith, c.requires.text_in_bounds)) ∙ around-none out rs c.requires.text_in_bounds;
    }
