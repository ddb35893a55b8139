-- The second engine answers as the first one does.
use Prim.Native.Nat.{ℕ, ◌≤◌, ◌<◌}
use mathlib.Core.Path.{◌≡◌, refl, sym, ap, subst, ◌∙◌}
use mathlib.Core.Bool.{Bool, true, false, cond}
use mathlib.Core.List.{List}
use native.Mathlib.Omega.{arith}
use lib.ListN.{length}
use lib.Dec.{ltb}
use borrow.Author.Tests.{lt-ltb, le-ltb, ltb-true, ltb-false}
use Rattle.format.specs.Records.{Record}
use Rattle.format.specs.Programs.{programs, links}
use Rattle.format.specs.Calls.{Answer, refused, yes, then, fresh, leafing}
use Rattle.format.specs.Table.{nodes, leafing_table}
use Rattle.format.specs.declared.Node.{Node}
use Rattle.accepted.specs.Read.{records_of}
use Rattle.read.specs.Answers.{checked_of}
use Rattle.read.proofs.Fresh.{Current, check-fresh, refused-is-no-answer}
use Rattle.program_parents.proofs.Numbers.{links-count}
use Rattle.program_parents.proofs.Opened.{opened}
use Rattle.programs.proofs.Bound.{current}
use Rattle.programs.proofs.Chained.{leaves-refused}
use Rattle.programs_by_table.specs.Answers.{without_table, nodes_in}
use Rattle.programs_by_table.specs.declared.TablePlan.{TablePlan}
use Rattle.programs_by_table.specs.Plans.{plan_for}
use Rattle.programs_by_table.specs.Same.{SameAsFirst, AllSameAsFirst, AllSeated}
use Rattle.programs_by_table.proofs.Finding.{nodes-length}
use Rattle.programs_by_table.proofs.Tabled.{Told, seated, table-refused, over, plan-count}

module _ (t c : List ℕ) (room seats : ℕ) where
  -- the catalogue is the text's own, or there is a refusal
  by-fresh : {A : Type 0} → ((n l : ℕ) → fresh t c ≡ refused n l → A) → (Current t c → A) → A
  by-fresh {A} f g = go (fresh t c) refl
    where
      go : (x : Answer (List Record)) → fresh t c ≡ x → A
      go (refused n l) e = f n l e
      go (yes rs) e = g (check-fresh t c (unfold checked_of in ap checked_of e))

  abbrev ns : List Node
  ns = nodes (links (programs (records_of t)))

  count : length ns ≡ length (programs (records_of t))
  count = nodes-length (links (programs (records_of t))) ∙ links-count (programs (records_of t))

  -- what the table makes of an answer of the first engine
  refuses : (a : Answer (List ℕ × ℕ)) (n l : ℕ) → a ≡ refused n l → then a (seated seats ns) ≡ refused n l
  unfolding then
  refuses a n l q = ap (λ x. then x (seated seats ns)) q

  fits : length (programs (records_of t)) ≤ seats → (a : Answer (List ℕ × ℕ)) → without_table (then a (seated seats ns)) ≡ a
  unfolding then seated without_table
  fits h (refused n l) = refl
  fits h (yes a) = ap (λ b. without_table (cond b (refused 20 0) (yes (a.0, a.1, ns)))) (le-ltb seats (length ns) (omega (arith, count)))

  shorter : seats < length (programs (records_of t)) → (a : Answer (List ℕ × ℕ)) (b : List ℕ × ℕ) → a ≡ yes b → then a (seated seats ns) ≡ refused 20 0
  unfolding then seated
  shorter h a b q =
      ap (λ x. then x (seated seats ns)) q
      ∙ ap (λ x. cond x (refused 20 0) (yes (b.0, b.1, ns))) (lt-ltb seats (length ns) (omega (arith, count)))

  gives : (a : Answer (List ℕ × ℕ)) (xs : List ℕ) (h : ℕ) (ms : List Node) → then a (seated seats ns) ≡ yes (xs, h, ms) → (a ≡ yes (xs, h)) × (ms ≡ ns)
  unfolding then seated
  gives (refused n l) xs h ms q = absurd (refused-is-no-answer n l (xs, h, ms) q)
  gives (yes a) xs h ms q = go (ltb seats (length ns)) q
    where
      go : (b : Bool) → cond {A = Answer Told} b (refused 20 0) (yes (a.0, a.1, ns)) ≡ yes (xs, h, ms) → (◌≡◌ {A = Answer (List ℕ × ℕ)} (yes a) (yes (xs, h))) × (ms ≡ ns)
      go true r = absurd (refused-is-no-answer 20 0 (xs, h, ms) r)
      go false r =
          let told : ◌≡◌ {A = Told} (a.0, a.1, ns) (xs, h, ms) = cc in
          (ap (λ x. yes (x.0, x.1)) told, sym (ap (λ x. x.2) told))

  without : (m k : ℕ) → without_table (refused m k) ≡ refused m k
  unfolding without_table
  without m k = refl

  stays-refused : (m k : ℕ) → fresh t c ≡ refused m k → without_table (leafing_table t c room seats) ≡ leafing t c room
  stays-refused m k e = ap without_table (table-refused t c room seats m k e) ∙ without m k ∙ sym (leaves-refused t c m k e room)

  pub same-as-first : SameAsFirst t c room seats
  same-as-first = record {
    refusals = λ n l q. by-fresh
        (λ m k e. table-refused t c room seats m k e ∙ moved m k n l (sym (leaves-refused t c m k e room) ∙ q))
        (λ own. over t c room seats own ∙ refuses (leafing t c room) n l q);
    same = λ h. by-fresh
        stays-refused
        (λ own. ap without_table (over t c room seats own) ∙ fits h (leafing t c room));
    short = λ h a q. over t c room seats (current t c room a q) ∙ shorter h (leafing t c room) a q;
    answers = λ xs h ms q. by-fresh
        (λ m k e. absurd (refused-is-no-answer m k (xs, h, ms) (sym (table-refused t c room seats m k e) ∙ q)))
        (λ own. gives (leafing t c room) xs h ms (sym (over t c room seats own) ∙ q));
  }
    where
      moved : (m k n l : ℕ) → ◌≡◌ {A = Answer (List ℕ × ℕ)} (refused m k) (refused n l) → ◌≡◌ {A = Answer Told} (refused m k) (refused n l)
      moved m k n l q =
          let a : m ≡ n = cc in
          let b : k ≡ l = cc in
          rw (a, b) refl

  seats-all : 1024 ≤ seats → without_table (leafing_table t c room seats) ≡ leafing t c room
  seats-all h = by-fresh
      stays-refused
      (λ own. same-as-first.same (omega (arith, (opened t c own.reads own.own).few)))

  -- the records of an answer are no more than the table has, and at most 1,024
  nodes-fit : (length (nodes_in (leafing_table t c room seats)) ≤ seats) × (length (nodes_in (leafing_table t c room seats)) ≤ 1024)
  nodes-fit = go (leafing_table t c room seats) refl
    where
      go : (a : Answer Told) → leafing_table t c room seats ≡ a → (length (nodes_in a) ≤ seats) × (length (nodes_in a) ≤ 1024)
      go (refused n l) e = unfold nodes_in in (omega arith, omega arith)
      go (yes (xs, h, ms)) e = unfold nodes_in in fit (ltb seats (length (programs (records_of t)))) refl
        where
          told : (leafing t c room ≡ yes (xs, h)) × (ms ≡ ns)
          told = same-as-first.answers xs h ms e

          many : length ms ≡ length (programs (records_of t))
          many = ap length told.1 ∙ count

          few : length (programs (records_of t)) ≤ 1024
          few = let own = current t c room (xs, h) told.0 in (opened t c own.reads own.own).few

          fit : (b : Bool) → ltb seats (length (programs (records_of t))) ≡ b → (length ms ≤ seats) × (length ms ≤ 1024)
          fit true q = absurd (refused-is-no-answer 20 0 (xs, h, ms) (sym (same-as-first.short (ltb-true seats (length (programs (records_of t))) q) (xs, h) told.0) ∙ e))
          fit false q = (omega (arith, many, ltb-false seats (length (programs (records_of t))) q), omega (arith, many, few))

  pub plan-fits : (p : TablePlan) → p ≡ plan_for (leafing_table t c room seats) → (p.count ≤ seats) × (p.count ≤ 1024)
  plan-fits p e = subst (λ n. (n ≤ seats) × (n ≤ 1024)) (sym (plan-count (leafing_table t c room seats) p e)) nodes-fit

pub all-same-as-first : AllSameAsFirst
unfolding AllSameAsFirst
all-same-as-first t c room seats = same-as-first t c room seats

pub all-seated : AllSeated
unfolding AllSeated
all-seated t c room seats h = seats-all t c room seats h
