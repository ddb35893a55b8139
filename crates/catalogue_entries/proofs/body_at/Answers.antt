-- `catalogue_entries::body_at` meets its contract: one arm for each kind, whose size says that its body is there.
use Prim.Native.Nat.{ℕ, ◌+◌}
use mathlib.Core.Path.{◌≡◌, refl, sym, ap, ◌∙◌}
use native.Mathlib.Omega.{arith}
use mathlib.Core.List.{List}
use lib.ListN.{take, drop, get_or}
use lib.Seq.{drop-drop, get_or-drop}
use Rattle.catalogue_entries.specs.declared.Entry.TheVariants.{Header, ReferenceSequence, ReadGroup, Program, Comment, Field}
use Rattle.catalogue_entries.specs.Entries.{kind_size, version_from, place_from, line_from, entry_with}
use Rattle.format.specs.Little.{of_little}
use Rattle.catalogue_entries.proofs.Walk.{no_kind, no_body}
use Rattle.catalogue_entries.proofs.body_at.Goals as goal

-- the body is after the byte of kind, and a line after what else the body says
module _ (at : ℕ) (s : List ℕ) where
  line_at : (n m : ℕ) → at + 1 + n ≡ at + m → line_from (drop n (drop (at + 1) s)) ≡ of_little (take 4 (drop (at + m) s))
  unfolding line_from
  line_at n m e = rw (drop-drop n (at + 1) s, e) refl

  header : entry_with 1 (drop (at + 1) s) ≡ Header (version_from (drop (at + 1) s)) (of_little (take 4 (drop (at + 9) s)))
  unfolding entry_with
  header = ap (Header (version_from (drop (at + 1) s))) (line_at 8 9 (omega arith))

  sequence : entry_with 2 (drop (at + 1) s) ≡ ReferenceSequence (place_from (drop (at + 1) s)) (of_little (take 8 (drop (at + 9) s))) (of_little (take 4 (drop (at + 17) s)))
  unfolding entry_with
  sequence =
      let e : at + 1 + 8 ≡ at + 9 = omega arith in
      ap (ReferenceSequence (place_from (drop (at + 1) s)) (of_little (take 8 (drop 8 (drop (at + 1) s))))) (line_at 16 17 (omega arith)) ∙ rw (drop-drop 8 (at + 1) s, e) refl

  group : entry_with 3 (drop (at + 1) s) ≡ ReadGroup (place_from (drop (at + 1) s)) (of_little (take 4 (drop (at + 9) s)))
  unfolding entry_with
  group = ap (ReadGroup (place_from (drop (at + 1) s))) (line_at 8 9 (omega arith))

  program : entry_with 4 (drop (at + 1) s) ≡ Program (place_from (drop (at + 1) s)) (of_little (take 4 (drop (at + 9) s)))
  unfolding entry_with
  program = ap (Program (place_from (drop (at + 1) s))) (line_at 8 9 (omega arith))

  comment : entry_with 5 (drop (at + 1) s) ≡ Comment (place_from (drop (at + 1) s)) (of_little (take 4 (drop (at + 9) s)))
  unfolding entry_with
  comment = ap (Comment (place_from (drop (at + 1) s))) (line_at 8 9 (omega arith))

  field : entry_with 6 (drop (at + 1) s) ≡ Field (get_or s (at + 1) 0) (get_or s (at + 2) 0) (place_from (drop (at + 3) s))
  unfolding entry_with
  field =
      let e : at + 1 + 0 ≡ at + 1 = omega arith in
      let f : at + 1 + 1 ≡ at + 2 = omega arith in
      let g : at + 1 + 2 ≡ at + 3 = omega arith in
      rw (get_or-drop (at + 1) s 0 0, get_or-drop (at + 1) s 1 0, drop-drop 2 (at + 1) s, e, f, g) refl

pub version_at-requires : goal.version_at-requires
unfolding kind_size
version_at-requires c = omega (arith, ap kind_size c.in-1.is)

pub get_u32-requires : goal.get_u32-requires
unfolding kind_size
get_u32-requires c = omega (arith, ap kind_size c.in-1.is)

pub place_at-requires : goal.place_at-requires
unfolding kind_size
place_at-requires c = omega (arith, ap kind_size c.in-2.is)

pub get_u64-requires : goal.get_u64-requires
unfolding kind_size
get_u64-requires c = omega (arith, ap kind_size c.in-2.is)

pub get_u32-requires-in-2 : goal.get_u32-requires-in-2
unfolding kind_size
get_u32-requires-in-2 c = omega (arith, ap kind_size c.in-2.is)

pub place_at-requires-in-3 : goal.place_at-requires-in-3
unfolding kind_size
place_at-requires-in-3 c = omega (arith, ap kind_size c.in-3.is)

pub get_u32-requires-in-3 : goal.get_u32-requires-in-3
unfolding kind_size
get_u32-requires-in-3 c = omega (arith, ap kind_size c.in-3.is)

pub place_at-requires-in-4 : goal.place_at-requires-in-4
unfolding kind_size
place_at-requires-in-4 c = omega (arith, ap kind_size c.in-4.is)

pub get_u32-requires-in-4 : goal.get_u32-requires-in-4
unfolding kind_size
get_u32-requires-in-4 c = omega (arith, ap kind_size c.in-4.is)

pub place_at-requires-in-5 : goal.place_at-requires-in-5
unfolding kind_size
place_at-requires-in-5 c = omega (arith, ap kind_size c.in-5.is)

pub get_u32-requires-in-5 : goal.get_u32-requires-in-5
unfolding kind_size
get_u32-requires-in-5 c = omega (arith, ap kind_size c.in-5.is)

pub bounds-s-at : goal.bounds-s-at
unfolding kind_size
bounds-s-at c = omega (arith, ap kind_size c.in-6.is)

pub bounds-s-at-in-6 : goal.bounds-s-at-in-6
unfolding kind_size
bounds-s-at-in-6 c = omega (arith, ap kind_size c.in-6.is)

pub place_at-requires-in-6 : goal.place_at-requires-in-6
unfolding kind_size
place_at-requires-in-6 c = omega (arith, ap kind_size c.in-6.is)

pub returns-in-1 : goal.returns-in-1
returns-in-1 c =
    let a = c.args in
    cc (header a.at a.s.now, c.version_at.ensures, c.get_u32.ensures, c.in-1.is)

pub returns-in-2 : goal.returns-in-2
returns-in-2 c =
    let a = c.args in
    cc (sequence a.at a.s.now, c.place_at.ensures, c.get_u64.ensures, c.get_u32-in-2.ensures, c.in-2.is)

pub returns-in-3 : goal.returns-in-3
returns-in-3 c =
    let a = c.args in
    cc (group a.at a.s.now, c.place_at-in-3.ensures, c.get_u32-in-3.ensures, c.in-3.is)

pub returns-in-4 : goal.returns-in-4
returns-in-4 c =
    let a = c.args in
    cc (program a.at a.s.now, c.place_at-in-4.ensures, c.get_u32-in-4.ensures, c.in-4.is)

pub returns-in-5 : goal.returns-in-5
returns-in-5 c =
    let a = c.args in
    cc (comment a.at a.s.now, c.place_at-in-5.ensures, c.get_u32-in-5.ensures, c.in-5.is)

pub returns-in-6 : goal.returns-in-6
returns-in-6 c =
    let a = c.args in
    cc (field a.at a.s.now, c.place_at-in-6.ensures, c.in-6.is)

pub returns-in_default : goal.returns-in_default
returns-in_default c = let r = c.in_default.in_default-own.rest in sym (no_body _ _ (no_kind _ r.0.0.0.0.0.1 r.0.0.0.0.1 r.0.0.0.1 r.0.0.1 r.0.1 r.1))
