-- `program_walks::has_cycle` meets its contract: what is asked of all programs is asked of those from `i` on. Assumes nothing.
use Prim.Native.Nat.{ℕ, ◌+◌, ◌≤◌, ◌<◌}
use mathlib.Core.Path.{◌≡◌, refl, sym, ap, ◌∙◌}
use mathlib.Core.Bool.{true, false, ◌||◌}
use mathlib.Core.List.{List}
use native.Mathlib.Omega.{arith}
use native.Mathlib.Numerals.{add-one}
use lib.ListN.{length, get_or, drop, drop_of_length-le, length-map}
use lib.Seq.{drop-cons}
use Rattle.format.specs.Programs.{reaches, loops_from}
use Rattle.program_chains.specs.Parents.{link_of, links_of}
use Rattle.program_walks.proofs.has_cycle.Goals as goal

module _ (ps : List ℕ) (i : ℕ) where
  turn : i < length ps → loops_from (links_of ps) i (links_of (drop i ps)) ≡ (reaches (links_of ps) i (length ps) (link_of (get_or ps i 0)) || loops_from (links_of ps) (i + 1) (links_of (drop (i + 1) ps)))
  unfolding loops_from links_of
  turn h = rw (drop-cons ps i 0 h, length-map ps link_of) (ap (λ n. reaches (links_of ps) i (length ps) (link_of (get_or ps i 0)) || loops_from (links_of ps) (i + 1) (links_of (drop n ps))) (sym (add-one i)))

  found : i < length ps → reaches (links_of ps) i (length ps) (link_of (get_or ps i 0)) ≡ true → loops_from (links_of ps) i (links_of (drop i ps)) ≡ true
  found h e = turn h ∙ ap (λ t. t || loops_from (links_of ps) (i + 1) (links_of (drop (i + 1) ps))) e

  passed : i < length ps → reaches (links_of ps) i (length ps) (link_of (get_or ps i 0)) ≡ false → loops_from (links_of ps) i (links_of (drop i ps)) ≡ loops_from (links_of ps) (i + 1) (links_of (drop (i + 1) ps))
  passed h e = turn h ∙ ap (λ t. t || loops_from (links_of ps) (i + 1) (links_of (drop (i + 1) ps))) e

  spent : length ps ≤ i → loops_from (links_of ps) i (links_of (drop i ps)) ≡ false
  unfolding loops_from links_of
  spent h = rw drop_of_length-le refl

pub loop-i-init : goal.loop-i-init
loop-i-init c = refl

pub comes_back-requires : goal.comes_back-requires
comes_back-requires c = record {
  parents_value = c.requires;
  i_in_bounds = omega arith;
}

pub returns-then-comes_back : goal.returns-then-comes_back
returns-then-comes_back c =
    let l = c.loop-i in
    sym (l.invariant ∙ found _ l.i (omega arith) (sym c.comes_back.ensures ∙ c.if-comes_back.true))

pub loop-i-preserved : goal.loop-i-preserved
loop-i-preserved c =
    let l = c.loop-i in
    l.invariant ∙ passed _ l.i (omega arith) (sym c.comes_back.ensures ∙ c.if-comes_back.false)

pub returns : goal.returns
returns c = sym (c.loop-i.invariant ∙ spent _ c.loop-i.i (omega arith))
