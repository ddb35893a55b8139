-- The laws of the road to the leaves: the parents that are lent say the links, and 22 and 23 come before the leaves.
use Prim.Native.Nat.{ℕ, ◌≤◌, ◌<◌}
use mathlib.Core.Path.{◌≡◌, refl, sym, ap, ap₂, subst, ◌∙◌}
use mathlib.Core.Bool.{Bool, true, false, cond}
use mathlib.Core.List.{List}
use native.Mathlib.Omega.{arith}
use lib.ListN.{length, take}
use lib.Dec.{eqb}
use borrow.Author.Tests.{ne_eqb, eqb-true, eqb-false}
use Rattle.std.specs.Prelude.{Result, Ok, Err}
use Rattle.format.specs.Bytes.{any}
use Rattle.format.specs.Programs.{Program, Link, links, is_dangling, loops_from, tangled, roots, leaves}
use Rattle.program_chains.specs.declared.Ordinals.{Ordinals}
use Rattle.program_chains.proofs.Arrays.{front, front-count, front-inside}
use Rattle.program_chains.proofs.Some.{leaves-some}
use Rattle.program_chains.specs.Parents.{links_of, are_parents, in_array}
use Rattle.program_parents.specs.declared.Parents.{Parents}
use Rattle.program_parents.specs.Parents.{parents_of, ordinals_of, unless_tangled, graph_of}
use Rattle.program_parents.proofs.Numbers.{numbers, links-count, numbers-count, numbers-roots, numbers-links, numbers-within, links-named}

ok-is-no-err : {A : Type 0} (x : A) (n : ℕ) → ◌≡◌ {A = Result A ℕ} (Ok x) (Err n) → ⊥
ok-is-no-err x n e = cc

or_ok : {A : Type 0} → A → Result A ℕ → A
or_ok x (Ok y) = y
or_ok x (Err n) = x

same_Ok : {A : Type 0} (x y : A) → ◌≡◌ {A = Result A ℕ} (Ok x) (Ok y) → x ≡ y
unfolding or_ok
same_Ok x y e = ap (or_ok x) e

or_err : {A : Type 0} → ℕ → Result A ℕ → ℕ
or_err m (Ok y) = m
or_err m (Err n) = n

same_Err : {A : Type 0} (m n : ℕ) → ◌≡◌ {A = Result A ℕ} (Err m) (Err n) → m ≡ n
unfolding or_err
same_Err m n e = ap (or_err m) e

-- ---- what links say

module _ (ls : List Link) where
  pub tangled-dangling : any is_dangling ls ≡ true → tangled ls ≡ 22
  unfolding tangled
  tangled-dangling d = rw d refl

  pub tangled-loops : (b : Bool) → any is_dangling ls ≡ false → loops_from ls 0 ls ≡ b → tangled ls ≡ cond b 23 0
  unfolding tangled
  tangled-loops b d e = rw (d, e) refl

  -- where nothing is tangled, nothing dangles, and no program comes back to itself
  module _ (z : tangled ls ≡ 0) where
    pub none-dangles : any is_dangling ls ≡ false
    none-dangles = go (any is_dangling ls) refl
      where
        go : (b : Bool) → any is_dangling ls ≡ b → b ≡ false
        go true q = absurd (omega (arith, z, tangled-dangling q))
        go false q = refl

    pub none-loops : loops_from ls 0 ls ≡ false
    none-loops = go (loops_from ls 0 ls) refl
      where
        go : (b : Bool) → loops_from ls 0 ls ≡ b → b ≡ false
        go true q = absurd (omega (arith, z, tangled-loops true none-dangles q))
        go false q = refl

  -- a value, or a refusal
  module _ {A : Type 0} (x : A) where
    pub unless-ok : tangled ls ≡ 0 → Ok x ≡ unless_tangled ls x
    unfolding unless_tangled
    unless-ok e = rw e refl

    pub unless-err : (n : ℕ) → n ≡ tangled ls → (n ≡ 0 → ⊥) → Err n ≡ unless_tangled ls x
    unfolding unless_tangled
    unless-err n e d = rw (← e, ne_eqb n 0 d) refl

    pub ok-untangled : (r : Result A ℕ) → r ≡ unless_tangled ls x → (y : A) → r ≡ Ok y → (tangled ls ≡ 0) × (y ≡ x)
    unfolding unless_tangled
    ok-untangled r e y q = go (eqb (tangled ls) 0) refl
      where
        go : (b : Bool) → eqb (tangled ls) 0 ≡ b → (tangled ls ≡ 0) × (y ≡ x)
        go true k = (eqb-true (tangled ls) 0 k, same_Ok y x (sym q ∙ e ∙ ap (λ b. cond b (Ok x) (Err (tangled ls))) k))
        go false k = absurd (ok-is-no-err y (tangled ls) (sym q ∙ e ∙ ap (λ b. cond b (Ok x) (Err (tangled ls))) k))

    -- what is no refusal is the value
    pub no-err-untangled : (r : Result A ℕ) → r ≡ unless_tangled ls x → ((n : ℕ) → r ≡ Err n → ⊥) → tangled ls ≡ 0
    no-err-untangled (Ok y) e d = (ok-untangled (Ok y) e y refl).0
    no-err-untangled (Err n) e d = absurd (d n refl)

    pub err-tangled : (r : Result A ℕ) → r ≡ unless_tangled ls x → (n : ℕ) → r ≡ Err n → (n ≡ tangled ls) × (n ≡ 0 → ⊥)
    unfolding unless_tangled
    err-tangled r e n q = go (eqb (tangled ls) 0) refl
      where
        go : (b : Bool) → eqb (tangled ls) 0 ≡ b → (n ≡ tangled ls) × (n ≡ 0 → ⊥)
        go true k = absurd (ok-is-no-err x n (sym (sym q ∙ e ∙ ap (λ b. cond b (Ok x) (Err (tangled ls))) k)))
        go false k =
            let is : n ≡ tangled ls = same_Err n (tangled ls) (sym q ∙ e ∙ ap (λ b. cond b (Ok x) (Err (tangled ls))) k) in
            (is, λ z. eqb-false (tangled ls) 0 k (sym is ∙ z))

-- ---- the parents of at most 1,024 programs

module _ (ps : List Program) (few : length ps ≤ 1024) (q : Parents) (is : q ≡ parents_of (links ps)) where
  -- as they are lent
  abbrev lent : List ℕ
  lent = take q.count q.list

  parents-count : q.count ≡ length (numbers ps)
  unfolding parents_of
  parents-count = ap (λ x. x.count) is ∙ links-count ps ∙ sym (numbers-count ps)

  parents-list : q.list ≡ in_array (numbers ps)
  unfolding parents_of
  parents-list = ap (λ x. x.list) is

  lent_is : lent ≡ numbers ps
  lent_is = front (numbers ps) q.list q.count parents-list parents-count

  pub lent-array : q.list ≡ in_array lent
  lent-array = parents-list ∙ ap in_array (sym lent_is)

  pub lent-count : q.count ≡ length lent
  lent-count = front-count (numbers ps) q.list q.count parents-list parents-count

  pub lent-inside : q.count ≤ length q.list
  lent-inside = front-inside (numbers ps) q.list q.count parents-list parents-count

  pub lent-few : length lent ≤ 1024
  lent-few = omega (arith, ap length lent_is, numbers-count ps)

  pub lent-most : q.count ≤ 1024
  lent-most = omega (arith, lent-count, lent-few)

  -- the programs without PP
  pub lent-roots : roots (links_of lent) ≡ roots (links ps)
  lent-roots = ap (λ xs. roots (links_of xs)) lent_is ∙ numbers-roots ps few

  dangling-is : q.dangling ≡ any is_dangling (links ps)
  unfolding parents_of
  dangling-is = ap (λ x. x.dangling) is

  pub refusal-dangling : q.dangling ≡ true → 22 ≡ tangled (links ps)
  refusal-dangling d = sym (tangled-dangling (links ps) (sym dangling-is ∙ d))

  pub road-untangled : tangled (links ps) ≡ 0 → q.dangling ≡ false
  road-untangled z = dangling-is ∙ none-dangles (links ps) z

  -- where nothing dangles
  module _ (d : q.dangling ≡ false) where
    pub lent-within : are_parents (length lent) lent ≡ true
    lent-within = subst (λ xs. are_parents (length xs) xs ≡ true) (sym lent_is) (numbers-within ps few (sym dangling-is ∙ d))

    pub lent-links : links_of lent ≡ links ps
    lent-links = ap links_of lent_is ∙ numbers-links ps few (sym dangling-is ∙ d)

    loops : (b : Bool) → loops_from (links_of lent) 0 (links_of lent) ≡ b → tangled (links ps) ≡ cond b 23 0
    loops b e = tangled-loops (links ps) b (sym dangling-is ∙ d) (sym (ap (λ ls. loops_from ls 0 ls) lent-links) ∙ e)

    pub refusal-loops : (b : Bool) → loops_from (links_of lent) 0 (links_of lent) ≡ b → cond b 23 0 ≡ tangled (links ps)
    refusal-loops b e = sym (loops b e)

    pub lent-untangled : tangled (links ps) ≡ 0 → loops_from (links_of lent) 0 (links_of lent) ≡ false
    lent-untangled z = ap (λ ls. loops_from ls 0 ls) lent-links ∙ none-loops (links ps) z

    -- the leaves that are found
    pub road-leaves : (xs : Ordinals) → (xs.list ≡ in_array (leaves (links_of lent))) × (xs.count ≡ length (leaves (links_of lent)))
        → xs ≡ ordinals_of (leaves (links ps))
    unfolding ordinals_of
    road-leaves xs found = ap₂ (λ l n. record { list = l; count = n }) found.0 found.1 ∙ ap (λ ls. ordinals_of (leaves ls)) lent-links

-- ---- what the road comes to

module _ (ls : List Link) (r : Result Ordinals ℕ) (is : r ≡ graph_of ls) where
  pub graph-refusal : (n : ℕ) → r ≡ Err n → (n ≡ tangled ls) × (n ≡ 0 → ⊥)
  unfolding graph_of
  graph-refusal = err-tangled ls (ordinals_of (leaves ls)) r is

  -- nothing is tangled
  module _ (xs : Ordinals) (found : r ≡ Ok xs) where
    pub graph-untangled : tangled ls ≡ 0
    unfolding graph_of
    graph-untangled = (ok-untangled ls (ordinals_of (leaves ls)) r is xs found).0

    leaves-are : xs ≡ ordinals_of (leaves ls)
    unfolding graph_of
    leaves-are = (ok-untangled ls (ordinals_of (leaves ls)) r is xs found).1

    pub graph-list : xs.list ≡ in_array (leaves ls)
    unfolding ordinals_of
    graph-list = ap (λ x. x.list) leaves-are

    pub graph-count : xs.count ≡ length (leaves ls)
    unfolding ordinals_of
    graph-count = ap (λ x. x.count) leaves-are

-- where there are programs there is a leaf
pub some-leaf : (ps : List Program) → length ps ≤ 1024 → tangled (links ps) ≡ 0 → 0 < length ps → 0 < length (leaves (links ps))
some-leaf ps few z h =
    leaves-some (links ps) (none-loops (links ps) z) (λ k m. omega (arith, links-count ps, links-named ps few (none-dangles (links ps) z) k m)) (omega (arith, links-count ps))
