-- `add::put_grown_text` meets its contract: the records, the new programs, the comments.
use Prim.Native.Nat.{ℕ, ◌+◌, ◌≤◌}
use mathlib.Core.Path.{◌≡◌, ap, ap₂, ◌∙◌}
use mathlib.Core.List.{List}
use native.Mathlib.Omega.{arith}
use lib.ListN.{length}
use Rattle.format.specs.Records.{Record}
use Rattle.format.specs.Tidy.{tidy}
use Rattle.format.specs.declared.Kind.TheVariants.{Comment}
use Rattle.accepted.specs.Read.{records_of}
use Rattle.program_ids.specs.Ids.{ids_at}
use Rattle.tidy_text.specs.Kinds.{text_of_kind, front_text}
use Rattle.tidy_sizes.specs.Numbers.{get, front}
use Rattle.byte_slices.specs.Over.{over}
use Rattle.tidy_text.proofs.Lines.{opened}
use Rattle.tidy_text.proofs.Total.{tidy-small}
use Rattle.tidy_text.proofs.Sizes.{front-size, get-sizes}
use Rattle.tidy_text.proofs.Parts.{around-filled}
use Rattle.add_lines.specs.Lines.{added_text}
use Rattle.add.specs.Added.{with_added}
use Rattle.add.proofs.Sizes.{with-parts, with_size}
use Rattle.add.proofs.put_grown_text.Goals as goal
use Rattle.add.proofs.put_grown_text.Goals.{Start}

-- the records of the text, and what is added
abbrev records : Start → List Record
records s = records_of s.args.text.now

abbrev new : Start → List ℕ
new s = let a = s.args in added_text (ids_at a.text.now a.ids.now) a.plan.ways.shape.empty a.plan.ways.shape.alone a.plan.ways.shape.linked a.prefix.now a.fields.now a.leaves.now

-- how long the parts are
front-is : (s : Start) → front s.args.plan.sizes ≡ length (front_text (records s))
front-is s = ap front s.requires.sizes_value ∙ front-size (records s)

comments-are : (s : Start) → s.args.plan.sizes.co ≡ length (text_of_kind Comment (records s))
unfolding get
comments-are s = ap (get Comment) s.requires.sizes_value ∙ get-sizes Comment (records s)

whole_is : (s : Start) → (length (tidy (records s)) + length (new s) ≤ length s.args.out.now) × (length (tidy (records s)) ≡ length (front_text (records s)) + length (text_of_kind Comment (records s)))
whole_is s = (
  omega (arith, s.requires.leaves_in_bounds, with_size (records s) (new s)),
  omega (arith, with_size (records s) (new s), with-parts (records s) (new s)),
)

small : (s : Start) → length (tidy (records s)) + length (new s) ≤ 33554433
small s =
    omega (
      arith,
      s.requires.more_value,
      (tidy-small s.args.plan.ways.strict s.args.text.now (opened s.args.plan.ways.strict s.args.text.now s.requires.text_value s.requires.reads_by)).1,
    )

pub put_around-requires : goal.put_around-requires
put_around-requires c = record {
  text_value = c.requires.text_value;
  reads_by = c.requires.reads_by;
  sizes_value = c.requires.sizes_value;
  gap_bound = c.requires.more_value.1;
  gap_in_bounds = omega (arith, c.requires.more_value.0, (whole_is (goal.at.put_around-requires c).Start).0);
}

pub front-requires : goal.front-requires
front-requires c =
    let room : front c.args.plan.sizes ≤ 18446744073709551615 = omega (arith, front-is (goal.at.front-requires c).Start, (whole_is (goal.at.front-requires c).Start).1, small (goal.at.front-requires c).Start) in
    room

pub put_added-n-requires : goal.put_added-n-requires
put_added-n-requires c = record {
  ids_in_text = c.requires.ids_in_text;
  leaves_in_bounds = omega (arith, c.front.ensures, front-is (goal.at.put_added-n-requires c).Start, whole_is (goal.at.put_added-n-requires c).Start, c.put_around.auto.out);
}

pub overflow_add-result : goal.overflow_add-result
overflow_add-result c =
    omega (arith, c.put_added-n.ensures.next, c.front.ensures, front-is (goal.at.overflow_add-result c).Start, comments-are (goal.at.overflow_add-result c).Start, (whole_is (goal.at.overflow_add-result c).Start).1, small (goal.at.overflow_add-result c).Start)

pub returns : goal.returns
unfolding with_added
returns c =
    let out = c.args.out.now in
    let rs = records (goal.at.returns c).Start in
    let a = front_text rs in
    let b = text_of_kind Comment rs in record {
      next = omega (arith, c.put_added-n.ensures.next, c.front.ensures, front-is (goal.at.returns c).Start, comments-are (goal.at.returns c).Start, with-parts rs (new (goal.at.returns c).Start));
      wrote = c.put_added-n.ensures.wrote
          ∙ ap₂ (λ o n. over o n (new (goal.at.returns c).Start)) (c.put_around.ensures ∙ ap (λ n. over (over out 0 a) (length a + n) b) c.requires.more_value.0) (c.front.ensures ∙ front-is (goal.at.returns c).Start)
          ∙ around-filled out (new (goal.at.returns c).Start) rs (whole_is (goal.at.returns c).Start).0;
    }
