-- What the second engine answers over a catalogue that is the text's own, by the links of its programs.
use Prim.Native.Nat.{ℕ, ◌≤◌, ◌<◌}
use mathlib.Core.Path.{◌≡◌, refl, sym, ap, ap₂, subst, ◌∙◌}
use mathlib.Core.Bool.{Bool, true, false, cond}
use mathlib.Core.List.{List, [], ◌∷◌, map}
use native.Mathlib.Omega.{arith}
use lib.ListN.{length, length-map, take}
use lib.Dec.{ltb}
use borrow.Author.Tests.{lt-ltb, le-ltb}
use Rattle.std.specs.Prelude.{Ok}
use Rattle.format.specs.Programs.{Link, programs, links, leaves, hops, tangled}
use Rattle.format.specs.Calls.{Answer, refused, yes, then, fitting, fresh, leafing}
use Rattle.format.specs.declared.Refusal.{Refusal}
use Rattle.accepted.specs.Read.{records_of}
use Rattle.format.specs.declared.Node.{Node}
use Rattle.program_chains.specs.Parents.{in_array}
use Rattle.program_chains.proofs.Arrays.{front}
use Rattle.program_table.specs.Nodes.{nodes_of}
use Rattle.read.specs.Answers.{answer_of, output_of}
use Rattle.read.proofs.Fresh.{Current, goes_on, stops}
use Rattle.programs.specs.Answers.{leaves_answer_of, list_of}
use Rattle.programs.proofs.Chained.{leaves-tangled, leaves-own}
use Rattle.programs_by_table.specs.declared.DeepGraph.{DeepGraph}
use Rattle.programs_by_table.specs.declared.TablePlan.{TablePlan}
use Rattle.format.specs.Table.{nodes, leafing_table}
use Rattle.programs_by_table.specs.Answers.{without_table, nodes_in}
use Rattle.programs_by_table.specs.Plans.{parents_in, depths_in, plan_for, DeepGraphOf, stopped_plan_of, table_plan_of}
use Rattle.programs_by_table.proofs.Finding.{nodes-length}

abbrev pub Told : Type 0
Told = List ℕ × ℕ × List Node

-- with a table of a size
unfoldable pub seated : ℕ → List Node → List ℕ × ℕ → Answer Told
seated seats ns a = cond (ltb seats (length ns)) (refused 20 0) (yes (a.0, a.1, ns))

-- ---- the definition

module _ (t c : List ℕ) (room seats : ℕ) where
  pub table-refused : (n l : ℕ) → fresh t c ≡ refused n l → leafing_table t c room seats ≡ refused n l
  unfolding leafing_table seated
  table-refused n l e = stops t c (λ rs. then (leafing t c room) (seated seats (nodes (links (programs rs))))) n l e

  module _ (own : Current t c) where
    abbrev ls : List Link
    ls = links (programs (records_of t))

    pub over : leafing_table t c room seats ≡ then (leafing t c room) (seated seats (nodes ls))
    unfolding leafing_table seated
    over = goes_on t c (λ rs. then (leafing t c room) (seated seats (nodes (links (programs rs))))) own

    pub table-tangled : (n : ℕ) → n ≡ tangled ls → (n ≡ 0 → ⊥) → leafing_table t c room seats ≡ refused n 0
    unfolding then
    table-tangled n e z = over ∙ ap (λ a. then a (seated seats (nodes ls))) (leaves-tangled t c own room n e z)

    module _ (z : tangled ls ≡ 0) where
      abbrev hopped : List ℕ → Answer (List ℕ × ℕ)
      hopped xs = yes (xs, hops ls)

      fitted : leafing_table t c room seats ≡ then (then (fitting room (leaves ls)) hopped) (seated seats (nodes ls))
      fitted = over ∙ ap (λ a. then a (seated seats (nodes ls))) (leaves-own t c own room z)

      -- a short table: 20, whatever the output takes
      pub table-short : seats < length ls → leafing_table t c room seats ≡ refused 20 0
      unfolding fitting
      table-short h = fitted ∙ go (ltb room (length (leaves ls)))
        where
          short : ltb seats (length (nodes ls)) ≡ true
          short = lt-ltb seats (length (nodes ls)) (omega (arith, nodes-length ls))

          go : (b : Bool) → then (then (cond b (refused 20 0) (yes (leaves ls))) hopped) (seated seats (nodes ls)) ≡ refused 20 0
          go true = unfold then in refl
          go false = unfold then seated in ap (λ b. cond b (refused 20 0) (yes (leaves ls, hops ls, nodes ls))) short

      pub table_fits : length ls ≤ seats → leafing_table t c room seats ≡ then (fitting room (leaves ls)) (λ xs. yes (xs, hops ls, nodes ls))
      table_fits h = fitted ∙ go (fitting room (leaves ls))
        where
          wide : ltb seats (length (nodes ls)) ≡ false
          wide = le-ltb seats (length (nodes ls)) (omega (arith, nodes-length ls))

          go : (b : Answer (List ℕ)) → then (then b hopped) (seated seats (nodes ls)) ≡ then b (λ xs. yes (xs, hops ls, nodes ls))
          go (refused n l) = unfold then in refl
          go (yes xs) = unfold then seated in ap (λ b. cond b (refused 20 0) (yes (xs, hops ls, nodes ls))) wide

-- ---- what a plan says of an answer

-- the plan for an answer, and the output at exit
pub record Says (a : Answer Told) (out out' : List ℕ) (p : TablePlan) : Type 0 where
  pub plan : p ≡ plan_for a
  pub wrote : out' ≡ output_of (list_of (without_table a)) out

stop-says : (r : Refusal) (out : List ℕ) → Says (refused r.number r.line.0) out out (stopped_plan_of r)
unfolding leaves_answer_of without_table list_of output_of nodes_in plan_for parents_in depths_in in_array stopped_plan_of
stop-says r out = record { plan = refl; wrote = refl }

pub stopped-says : (a : Answer Told) (r : Refusal) (out : List ℕ) → a ≡ refused r.number r.line.0 → (p : TablePlan) → p ≡ stopped_plan_of r → Says a out out p
stopped-says a r out e p is = subst (λ b. Says b out out p) (sym e) (subst (Says (refused r.number r.line.0) out out) (sym is) (stop-says r out))

module _ (ls : List Link) (f : DeepGraph) (found : DeepGraphOf ls f) (z : f.refusal ≡ 0) where
  plan-says : (b : Answer (List ℕ)) (out : List ℕ) → Says (then b (λ xs. yes (xs, hops ls, nodes ls))) out (output_of b out) (table_plan_of (answer_of b) f)
  unfolding then leaves_answer_of without_table list_of output_of nodes_in answer_of table_plan_of plan_for
  plan-says (refused n l) out = stop-says (record { number = n; line = record { 0 = l } }) out
  plan-says (yes xs) out =
      record {
        plan =
            ap (λ h. record { answer = Ok (record { leaves = length xs; hops = h }); parents = f.parents; depths = f.depths; count = f.count }) (found.hops z)
            ∙ ap₂ (λ qs ds. record { answer = Ok (record { leaves = length xs; hops = hops ls }); parents = qs; depths = ds; count = f.count }) (found.parents z) (found.depths z)
            ∙ ap (λ n. record { answer = Ok (record { leaves = length xs; hops = hops ls }); parents = parents_in (nodes ls); depths = depths_in (nodes ls); count = n }) (found.count z ∙ sym (nodes-length ls));
        wrote = refl;
      }

  pub planned-says : (a : Answer Told) (b : Answer (List ℕ)) (out out' : List ℕ) (p : TablePlan) → a ≡ then b (λ xs. yes (xs, hops ls, nodes ls)) → out' ≡ output_of b out → p ≡ table_plan_of (answer_of b) f
      → Says a out out' p
  planned-says a b out out' p e o is =
      subst (λ x. Says x out out' p) (sym e)
      (subst (λ x. Says (then b (λ xs. yes (xs, hops ls, nodes ls))) out x p) (sym o)
      (subst (Says (then b (λ xs. yes (xs, hops ls, nodes ls))) out (output_of b out)) (sym is) (plan-says b out)))

-- ---- what a plan says of the table

-- records from the parents and the depths that they say
records-back : (ns : List Node) → nodes_of (map (λ n. n.parent) ns) (map (λ n. n.depth) ns) ≡ ns
unfolding nodes_of
records-back [] = refl
records-back (n ∷ ns) = ap (λ r. n ∷ r) (records-back ns)

module _ (a : Answer Told) (p : TablePlan) (is : p ≡ plan_for a) where
  pub plan-answer : p.answer ≡ leaves_answer_of (without_table a)
  unfolding plan_for
  plan-answer = ap (λ x. x.answer) is

  pub plan-count : p.count ≡ length (nodes_in a)
  unfolding plan_for
  plan-count = ap (λ x. x.count) is

  pub plan-nodes : nodes_of (take p.count p.parents) (take p.count p.depths) ≡ nodes_in a
  unfolding plan_for parents_in depths_in
  plan-nodes =
      ap₂ nodes_of
      (front (map (λ n. n.parent) (nodes_in a)) p.parents p.count (ap (λ x. x.parents) is) (plan-count ∙ sym (length-map (nodes_in a) (λ n. n.parent))))
      (front (map (λ n. n.depth) (nodes_in a)) p.depths p.count (ap (λ x. x.depths) is) (plan-count ∙ sym (length-map (nodes_in a) (λ n. n.depth))))
      ∙ records-back (nodes_in a)
