-- `program_parents::find_parents` meets its contract: the parents of the first `i` programs are listed.
use Prim.Native.Nat.{ℕ, ◌+◌, ◌≤◌, ◌<◌}
use mathlib.Core.Path.{◌≡◌, sym, subst, ◌∙◌}
use mathlib.Core.List.{List}
use native.Mathlib.Omega.{arith}
use lib.ListN.{length, get_or, set, replicate}
use Rattle.format.specs.Programs.{Program, root, links}
use Rattle.program_places.specs.declared.Programs.{Programs}
use Rattle.program_places.specs.Gathered.{programs_in}
use Rattle.program_parents.specs.Parents.{link_number}
use Rattle.program_parents.specs.Placed.{PlacesOf}
use Rattle.program_parents.proofs.Numbers.{Found, found_none, found_all, found-stray, found-known}
use Rattle.program_parents.proofs.Own.{own-count, own-few, own-ats, own-lens, from-whole, widths-whole, own-placed, own_room, listed-ids, listed-are, listed-inside, listed-length, own-somewhere, own-parent}
use Rattle.program_parents.proofs.find_parents.Goals as goal
use Rattle.program_parents.proofs.find_parents.Goals.{Start, then-parent, else-parent}

-- ---- what is lent

-- what the arrays hold
abbrev held : Start → Programs
held s = programs_in s.args.ats.now s.args.lens.now s.args.from.now s.args.widths.now s.args.count

-- there are at most 1,024
few : (s : Start) → s.args.count ≤ 1024
few s = own-few s.args.text.now s.requires.ps (held s) s.requires.are

pub slice_bounds-list_ids-end : goal.slice_bounds-list_ids-end
slice_bounds-list_ids-end c = sym (own-ats c.args.text.now c.requires.ps (held (goal.at.slice_bounds-list_ids-end c).Start) c.requires.are)

pub slice_bounds-list_ids-end-2 : goal.slice_bounds-list_ids-end-2
slice_bounds-list_ids-end-2 c = sym (own-lens c.args.text.now c.requires.ps (held (goal.at.slice_bounds-list_ids-end-2 c).Start) c.requires.are)

pub list_ids-requires : goal.list_ids-requires
list_ids-requires c =
    let p = (goal.at.list_ids-requires c).Start in
    record {
      places_in_text = own-placed c.args.text.now c.requires.ps (held p) c.requires.are;
      ats_in_bounds = own_room c.args.text.now c.requires.ps (held p) c.requires.are;
    }

pub overflow_mul-end : goal.overflow_mul-end
overflow_mul-end c = omega (arith, few (goal.at.overflow_mul-end c).Start)

pub loop-i-init : goal.loop-i-init
loop-i-init c = λ ps x. found_none ps

-- ---- in a step of the loop

-- what the list was before
abbrev zeros : List ℕ
zeros = replicate 3072 0

-- the arrays of the PPs are long enough
from-long : (s : Start) → s.args.count ≤ length s.args.from.now
from-long s = omega (arith, few s, from-whole s.args.text.now s.requires.ps (held s) s.requires.are)

widths-long : (s : Start) → s.args.count ≤ length s.args.widths.now
widths-long s = omega (arith, few s, widths-whole s.args.text.now s.requires.ps (held s) s.requires.are)

pub offset_bounds-from-i : goal.offset_bounds-from-i
offset_bounds-from-i c = omega (arith, few (goal.at.offset_bounds-from-i c).Start)

pub bounds-from-i : goal.bounds-from-i
bounds-from-i c = omega (arith, from-long (goal.at.bounds-from-i c).Start)

pub offset_bounds-widths-i : goal.offset_bounds-widths-i
offset_bounds-widths-i c = omega (arith, few (goal.at.offset_bounds-widths-i c).Start)

pub bounds-widths-i : goal.bounds-widths-i
bounds-widths-i c = omega (arith, widths-long (goal.at.bounds-widths-i c).Start)

pub slice_bounds-ids-end : goal.slice_bounds-ids-end
slice_bounds-ids-end c =
    let l = c.list_ids in
    listed-inside c.args.text.now c.requires.ps (held (goal.at.slice_bounds-ids-end c).Start) c.requires.are zeros l.new.list (omega arith) l.ensures

pub slice_bounds-find_parent-end : goal.slice_bounds-find_parent-end
slice_bounds-find_parent-end c =
    let l = c.list_ids in
    listed-length c.args.text.now c.requires.ps (held (goal.at.slice_bounds-find_parent-end c).Start) c.requires.are zeros l.new.list (omega arith) l.ensures

pub find_parent-parent-requires : goal.find_parent-parent-requires
find_parent-parent-requires c =
    let p = (goal.at.find_parent-parent-requires c).Start in
    let l = c.list_ids in record {
      ids_in_text = listed-ids c.args.text.now c.requires.ps (held p) c.requires.are zeros l.new.list (omega arith) l.ensures;
      somewhere = own-somewhere c.args.text.now c.requires.ps (held p) c.requires.are c.loop-i.i (omega arith);
    }

pub offset_bounds-list-i : goal.offset_bounds-list-i
offset_bounds-list-i c = omega (arith, few (goal.at.offset_bounds-list-i c).Start)

pub bounds-list-i : goal.bounds-list-i
bounds-list-i c = omega (arith, few (goal.at.bounds-list-i c).Start)

pub loop-i-preserved : goal.loop-i-preserved
loop-i-preserved c =
    let o = (goal.at.loop-i-preserved c).Start in
    let t = c.args.text.now in
    let l = c.loop-i in
    let b = c.list_ids in
    let p = c.find_parent-parent in
    let more : (ps : List Program) (x : PlacesOf t ps (held o)) → (l.i < length ps) × (p.result ≡ link_number (get_or (links ps) l.i root)) =
    λ ps x. (omega (arith, own-count t ps (held o) x), p.ensures ∙ own-parent t ps (held o) x l.i (omega arith) c.requires.fits _ (listed-are t ps (held o) x zeros b.new.list (omega arith) b.ensures)) in
    (λ ps x. elim c.if-parent.branch [
      | then-parent w ↦ subst (λ d. Found ps (set l.list l.i p.result) d (l.i + 1)) (sym w.dangling-is) (found-stray ps x.few l.list l.dangling l.i (l.invariant ps x) (more ps x).0 p.result (more ps x).1 w.if-parent.true)
      | else-parent w ↦ subst (λ d. Found ps (set l.list l.i p.result) d (l.i + 1)) (sym w.dangling-is) (found-known ps x.few l.list l.dangling l.i (l.invariant ps x) (more ps x).0 p.result (more ps x).1 w.if-parent.false)
    ])

pub returns : goal.returns
returns c = λ ps x.
    let l = c.loop-i in
    let m = own-count c.args.text.now ps (held (goal.at.returns c).Start) x in
    found_all ps l.list l.dangling l.i c.args.count (l.invariant ps x) (omega (arith, m, c.loop-i-test.false)) m
