-- Pruning compared with tidying: with all programs in use it is tidying, and it never needs more room.
use Prim.Native.Nat.{ℕ, zero, suc, ◌+◌, ◌≤◌, ◌<◌}
use mathlib.Core.Path.{◌≡◌, refl, sym, ap, subst, ◌∙◌}
use mathlib.Core.Bool.{Bool, true, false, cond}
use mathlib.Core.List.{List}
use mathlib.Core.Option.{Option, none, some}
use native.Mathlib.Omega.{arith}
use native.Mathlib.Nat.{zero-add}
use lib.ListN.{length, length-map}
use lib.Dec.{eqb, leb, ltb}
use borrow.Author.Tests.{le-ltb}
use Rattle.format.specs.Bytes.{any}
use Rattle.format.specs.Records.{Record}
use Rattle.format.specs.Reading.{of_kind, read_text, accept, longest}
use Rattle.format.specs.Programs.{Link, program_of, programs, links, tangled, is_dangling, loops_from}
use Rattle.format.specs.Tidy.{tidy, unwritable}
use Rattle.format.specs.Calls.{Answer, refused, yes, then, read_answer, records, fresh, untangled, fitting, writing, tidying}
use Rattle.format.specs.Prune.{is_needed, chosen, pruned, pruning}
use Rattle.accepted.specs.Read.{is_accepted, kept, records_of}
use Rattle.program_chains.specs.Listed.{named}
use Rattle.program_parents.proofs.Numbers.{links-count, links-named}
use Rattle.program_parents.proofs.Own.{few-programs}
use Rattle.program_parents.proofs.Road.{none-dangles, none-loops}
use Rattle.tidy_laws.proofs.Answered.{fresh-yes}
use Rattle.tidy_laws.proofs.Total.{tidy-length}
use Rattle.tidy_text.proofs.Sifting.{sifted-small, sifted-whole}
use Rattle.prune.proofs.Chosen.{chosen-same, sifted-tidy, pruned-tidy}
use Rattle.prune_laws.specs.Beside.{TidiesAll, NeverLonger, RoomForTidy}
use Rattle.prune_laws.proofs.Graph.{used-needed}

-- ---- all are needed

-- where each program is needed, the tidy text is written
pub all-tidy : (us : List ℕ) (rs : List Record) → ((d : ℕ) → d < length (of_kind 4 rs) → is_needed (links (programs rs)) us (0 + d) ≡ true) → tidy (pruned us rs) ≡ tidy rs
all-tidy us rs h =
    sym (sifted-tidy (λ k. true) rs us (chosen-same (λ k. true) (is_needed (links (programs rs)) us) 0 (of_kind 4 rs) (λ i a b. sym (ap (is_needed (links (programs rs)) us) (sym (zero-add i)) ∙ h i (omega arith)))))
    ∙ ap tidy (sifted-whole (λ k. true) (λ k. refl) 0 rs)

-- ---- the records of a text

-- their links
module _ (t : List ℕ) (rs : List Record) (e : read_text t ≡ accept rs) (whole : tangled (links (programs rs)) ≡ 0) where
  abbrev ls : List Link
  ls = links (programs rs)

  few : length (programs rs) ≤ 1024
  few = subst (λ xs. length (programs xs) ≤ 1024) own (few-programs t (unfold is_accepted in ap is_accepted e))
    where
      own : records_of t ≡ rs
      own = unfold records_of kept in ap kept e

  pub linked : any is_dangling ls ≡ false
  linked = none-dangles ls whole

  pub acyclic : loops_from ls 0 ls ≡ false
  acyclic = none-loops ls whole

  pub below : (k : ℕ) → named k ls ≡ true → k < length ls
  below k m = omega (arith, links-count (programs rs), links-named (programs rs) few linked k m)

-- ---- with all in use

-- what comes after the check
abbrev pub after : List ℕ → ℕ → List Record → Answer (List ℕ)
after us room rs = cond (any (leb (length (links (programs rs)))) us) (refused 25 0) (then (untangled rs (tangled (links (programs rs)))) (λ rs. writing room (unwritable 0 rs) (tidy (pruned us rs))))

prune-ends : (us : List ℕ) (room : ℕ) (rs : List Record) → any (leb (length (links (programs rs)))) us ≡ false → tangled (links (programs rs)) ≡ 0
    → after us room rs ≡ writing room (unwritable 0 rs) (tidy (pruned us rs))
unfolding then untangled
prune-ends us room rs low whole = rw (low, whole) refl

pub tidies-all : TidiesAll
unfolding TidiesAll pruning tidying then
tidies-all t c us room rs e low whole used =
    let is = fresh-yes t c rs e in
    let count : length (programs rs) ≡ length (of_kind 4 rs) = unfold programs in length-map (of_kind 4 rs) program_of in
    let each : (d : ℕ) → d < length (of_kind 4 rs) → is_needed (links (programs rs)) us (0 + d) ≡ true =
    λ d h. ap (is_needed (links (programs rs)) us) (zero-add d)
    ∙ used-needed (links (programs rs)) (acyclic t rs is whole) (below t rs is whole) us low d (used d (omega (arith, count))) (omega (arith, count, links-count (programs rs))) in
    ap (λ x. then x (after us room)) e ∙ prune-ends us room rs low whole ∙ ap (writing room (unwritable 0 rs)) (all-tidy us rs each)
    ∙ sym (ap (λ x. then x (λ rs. writing room (unwritable 0 rs) (tidy rs))) (unfold records read_answer in ap read_answer is))

-- ---- the room

shorter : (us : List ℕ) (rs : List Record) → length (tidy (pruned us rs)) ≤ length (tidy rs)
shorter us rs = omega (arith, ap length (pruned-tidy us rs), sifted-small (is_needed (links (programs rs)) us) 0 rs)

pub never-longer : NeverLonger
unfolding NeverLonger
never-longer t us rs e = (shorter us rs, omega (arith, shorter us rs, tidy-length t rs e))

room-enough : (o : Option ℕ) (x : List ℕ) (room more : ℕ) → length x ≤ room → writing (room + more) o x ≡ writing room o x
unfolding writing fitting
room-enough (some l) x room more h = refl
room-enough none x room more h = rw (le-ltb room (length x) h, le-ltb (room + more) (length x) (omega arith)) refl

after_same : (us : List ℕ) (room more : ℕ) (rs : List Record) → length (tidy rs) ≤ room → after us (room + more) rs ≡ after us room rs
after_same us room more rs h = ap (cond (any (leb (length (links (programs rs)))) us) (refused 25 0)) (go (tangled (links (programs rs))))
  where
    go : (n : ℕ) → then (untangled rs n) (λ rs. writing (room + more) (unwritable 0 rs) (tidy (pruned us rs))) ≡ then (untangled rs n) (λ rs. writing room (unwritable 0 rs) (tidy (pruned us rs)))
    go zero = unfold then untangled in room-enough (unwritable 0 rs) (tidy (pruned us rs)) room more (omega (arith, h, shorter us rs))
    go (suc n) = unfold then untangled in refl

pub room-for-tidy : RoomForTidy
unfolding RoomForTidy pruning
room-for-tidy t c us room more h = go (fresh t c) refl
  where
    own : (rs : List Record) → fresh t c ≡ yes rs → records_of t ≡ rs
    own rs e = unfold records_of kept in ap kept (fresh-yes t c rs e)

    go : (a : Answer (List Record)) → fresh t c ≡ a → then a (after us (room + more)) ≡ then a (after us room)
    go (refused n l) e = unfold then in refl
    go (yes rs) e = unfold then in after_same us room more rs (omega (arith, h, ap (λ x. length (tidy x)) (own rs e)))
