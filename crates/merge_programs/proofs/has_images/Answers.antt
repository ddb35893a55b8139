-- `merge_programs::has_images` meets its contract: what is left from the ordinal on decides.
use Prim.Native.Nat.{ℕ, ◌+◌, ◌<◌}
use mathlib.Core.Path.{◌≡◌, sym, ap, ap₂, subst, ◌∙◌}
use mathlib.Core.Bool.{◌&&◌, ◌||◌}
use native.Mathlib.Omega.{arith}
use lib.ListN.{length, get_or}
use lib.Dec.{eqb, ltb}
use borrow.Author.Tests.{ltb-true}
use Rattle.format.specs.Merge.{shapes, is_image, images}
use Rattle.accepted.specs.Read.{records_of}
use Rattle.program_chains.specs.Parents.{nobody}
use Rattle.merge_programs.specs.Members.{shape_at, IsMember}
use Rattle.merge_programs.proofs.Texts.{all-at, count-shapes, count-few, is_member, member-shape, member-within}
use Rattle.merge_programs.proofs.All.{images_from, images-start, images-turn, images-end}
use Rattle.merge_programs.proofs.has_images.Goals as goal
use Rattle.merge_programs.proofs.has_images.Goals.{After-is_image, Start}

-- the list is as long as the list of programs
even : (s : Start) → length s.args.list.now ≡ length (shapes (records_of s.args.a.now))
even s = let a = s.args in s.requires.list_len ∙ count-shapes a.a.now a.of_a s.requires.untangled

-- each ordinal is one of a program of the merged text
high : (s : Start) (i : ℕ) → i < length s.args.list.now → get_or s.args.list.now i 0 < s.args.of_m.parents.count
high s i h = let a = s.args in let n = s.args.of_m.parents.count in ltb-true (get_or a.list.now i 0) n (all-at (λ k. ltb k n) a.list.now i s.requires.list_value h)

pub loop-i-init : goal.loop-i-init
loop-i-init c = let a = c.args in (omega arith, images-start a.list.now (shapes (records_of a.a.now)) (shapes (records_of a.m.now)))

pub member_at-p-requires : goal.member_at-p-requires
member_at-p-requires c = omega (arith, c.loop-i-test.true, c.requires.list_len, count-few c.args.a.now c.args.of_a c.requires.untangled)

pub member_at-image-requires : goal.member_at-image-requires
member_at-image-requires c =
    omega (arith, high (goal.at.member_at-image-requires c).Start c.loop-i.i c.loop-i-test.true, count-few c.args.m.now c.args.of_m c.requires.untangled_2)

pub is_image-requires : goal.is_image-requires
is_image-requires c =
    let a = c.args in
    let n : c.loop-i.i < a.of_a.parents.count = omega (arith, c.loop-i-test.true, c.requires.list_len) in
    let k = high (goal.at.is_image-requires c).Start c.loop-i.i c.loop-i-test.true in record {
      member = subst (IsMember a.a.now) (sym c.member_at-p.ensures) (is_member a.a.now a.of_a c.requires.untangled c.loop-i.i n);
      member_2 = subst (IsMember a.m.now) (sym c.member_at-image.ensures) (is_member a.m.now a.of_m c.requires.untangled_2 (get_or a.list.now c.loop-i.i 0) k);
      list_value = ap₂ (λ p e. eqb p.parent nobody || ltb p.parent e) c.member_at-p.ensures c.requires.list_len ∙ member-within a.a.now a.of_a c.requires.untangled c.loop-i.i n;
    }

-- a program of the merged text is an image, or not; and then those that are left
told : (c : After-is_image)
    → (let a = c.args in let ns = shapes (records_of a.a.now) in let ms = shapes (records_of a.m.now) in
    images a.list.now ns ms ≡ c.is_image.result && images_from a.list.now ns ms (c.loop-i.i + 1))
told c =
    let a = c.args in
    let ns = shapes (records_of a.a.now) in
    let ms = shapes (records_of a.m.now) in
    let i = c.loop-i.i in
    let k = get_or a.list.now i 0 in
    c.loop-i.invariant.1
    ∙ images-turn a.list.now ns ms i (even (goal.at.After-is_image c).Start) c.loop-i-test.true
    ∙ ap (λ b. b && images_from a.list.now ns ms (i + 1))
    (sym
    (c.is_image.ensures
    ∙ ap₂ (is_image a.list.now)
    (ap (shape_at a.a.now) c.member_at-p.ensures ∙ member-shape a.a.now a.of_a c.requires.untangled i (omega (arith, c.loop-i-test.true, c.requires.list_len)))
    (ap (shape_at a.m.now) c.member_at-image.ensures ∙ member-shape a.m.now a.of_m c.requires.untangled_2 k (high (goal.at.After-is_image c).Start i c.loop-i-test.true))))

pub returns-then-not-is_image : goal.returns-then-not-is_image
returns-then-not-is_image c =
    let a = c.args in
    sym (told (goal.at.returns-then-not-is_image c).After-is_image ∙ ap (λ b. b && images_from a.list.now (shapes (records_of a.a.now)) (shapes (records_of a.m.now)) (c.loop-i.i + 1)) c.if-not-is_image.true)

pub loop-i-preserved : goal.loop-i-preserved
loop-i-preserved c =
    let a = c.args in
    (omega (arith, c.loop-i-test.true), told (goal.at.loop-i-preserved c).After-is_image ∙ ap (λ b. b && images_from a.list.now (shapes (records_of a.a.now)) (shapes (records_of a.m.now)) (c.loop-i.i + 1)) c.if-not-is_image.false)

pub returns : goal.returns
returns c =
    let a = c.args in
    sym (c.loop-i.invariant.1 ∙ images-end a.list.now (shapes (records_of a.a.now)) (shapes (records_of a.m.now)) c.loop-i.i (even (goal.at.returns c).Start) c.loop-i-test.false)
