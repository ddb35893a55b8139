-- What is promised of pruning, over texts.
use Prim.Native.Nat.{ℕ, ◌+◌, ◌≤◌, ◌<◌}
use mathlib.Core.Path.{◌≡◌, refl, sym, ap, ap₂, subst, ◌∙◌}
use mathlib.Core.Bool.{Bool, true, false, cond, false≢true}
use mathlib.Core.List.{List, [], ◌∷◌, map}
use native.Mathlib.Omega.{arith}
use native.Mathlib.Nat.{zero-add}
use lib.ListN.{length, get_or, length-map, get_or-eq_default}
use lib.Dec.{eqb, leb, ltb}
use borrow.Author.Tests.{eq-eqb, eqb-true, eqb-false, ltb-true, ltb-false, leb-false, le-ltb, lt-leb}
use Rattle.format.specs.Bytes.{any, same, none?}
use Rattle.format.specs.Fields.{is_value}
use Rattle.format.specs.Records.{Record, header, reference, group, program, comment, code, key}
use Rattle.format.specs.Reading.{of_kind}
use Rattle.format.specs.Catalogue.{catalogue}
use Rattle.format.specs.Programs.{Program, Link, bytes_of, program_of, programs, links, leaves, tangled, is_dangling, loops_from}
use Rattle.format.specs.Tidy.{tidy, unwritable}
use Rattle.format.specs.Adding.{no_program}
use Rattle.format.specs.Calls.{refused, yes, then, records, current, fresh, untangled, fitting, writing, reading, tidying}
use Rattle.byte_slices.specs.Stands.{Each}
use Rattle.byte_slices.proofs.Equal.{same_self}
use Rattle.accepted.specs.Sound.{KeyIsValue, Sound}
use Rattle.accepted.specs.Read.{is_accepted, kept, records_of}
use Rattle.lists.proofs.Bools.{never, split, or_split, or-true, or_left, or_right}
use Rattle.lists.proofs.Pairs.{each_at}
use Rattle.accepted.proofs.Text.{text-sound}
use Rattle.program_chains.specs.Listed.{named}
use Rattle.program_parents.proofs.Numbers.{links-count, links-named}
use Rattle.program_parents.proofs.Own.{few-programs}
use Rattle.program_parents.proofs.Road.{none-dangles, none-loops}
use Rattle.add_ids.proofs.Apart.{ids-apart}
use Rattle.tidy_laws.specs.Bare.{bare, bares}
use Rattle.tidy_laws.specs.Faithful.{Holds}
use Rattle.tidy_laws.proofs.Faithful.{holds}
use Rattle.tidy_laws.proofs.Gathered.{gathered-writable}
use Rattle.tidy_laws.proofs.Programs.{links-equal, ids-equal, count-equal}
use Rattle.tidy_laws.proofs.Answered.{read_of, reading-yes}
use Rattle.format.specs.Prune.{is_needed, chosen, pruned, pruning}
use Rattle.tidy_text.specs.Sifted.{sifted}
use Rattle.prune.proofs.Chosen.{sift-other, sift-programs, pruned-tidy}
use Rattle.prune_laws.specs.Pruned.{programs_in, id_at, Prunes}
use Rattle.prune_laws.specs.Left.{AllLeft}
use Rattle.prune_laws.proofs.Ranks.{rank, chosen_at, Was, chosen-was, chosen-map, chosen_none}
use Rattle.prune_laws.proofs.Graph.{prune_links, used-needed, needed-up, new-whole, leaf-used, all-needed}
use Rattle.prune_laws.proofs.Links.{links-pruned}
use Rattle.prune_laws.proofs.Gathered.{sifted-gathered, sifted-names}
use Rattle.prune_laws.proofs.Beside.{all-tidy, linked, acyclic, below}
use Rattle.prune_laws.proofs.Answered.{Answered, answered}

-- ---- small laws

-- IDs are values
values : (rs : List Record) → Each Sound rs → Each (λ p. is_value p.id ≡ true) (programs rs)
unfolding Each programs of_kind code program_of bytes_of key KeyIsValue
values [] h = tt
values (header v fs ∷ rs) h = values rs h.1
values (reference p n fs ∷ rs) h = values rs h.1
values (group p fs ∷ rs) h = values rs h.1
values (program p fs ∷ rs) h = (h.0.named, values rs h.1)
values (comment p ∷ rs) h = values rs h.1

-- and no value is empty
no_value_lem : is_value [] ≡ false
unfolding is_value none?
no_value_lem = refl

listed_same : (g : ℕ → List ℕ) (x : List ℕ) (us : List ℕ) (u : ℕ) → any (eqb u) us ≡ true → x ≡ g u → any (same x) (map g us) ≡ true
unfolding any
listed_same g x [] u l e = absurd (false≢true l)
listed_same g x (v ∷ us) u l e = or_split (eqb u v) (any (eqb u) us) l
    (λ q. rw (ap (same x) (ap g (sym (eqb-true u v q)) ∙ sym e) ∙ same_self x) refl)
    (λ q. rw (listed_same g x us u q e) (or-true (same x (g v))))

map-none : (xs : List Record) → map bare xs ≡ [] → xs ≡ []
map-none [] e = refl
map-none (x ∷ xs) e = absurd (never (cc))

-- ---- over the records `rs` of the text `t`

module _ (t us out : List ℕ) (rs : List Record) (a : Answered t us out rs) where
  abbrev ps : List Program
  ps = programs rs

  abbrev ls : List Link
  ls = links ps

  abbrev p : ℕ → Bool
  p = is_needed ls us

  -- the records that are kept, in text order
  abbrev qs : List Record
  qs = sifted p 0 rs

  none-dangle : any is_dangling ls ≡ false
  none-dangle = linked t rs a.accepted a.whole

  none-loop : loops_from ls 0 ls ≡ false
  none-loop = acyclic t rs a.accepted a.whole

  parents-in : (k : ℕ) → named k ls ≡ true → k < length ls
  parents-in = below t rs a.accepted a.whole

  pruned-text : tidy (pruned us rs) ≡ tidy qs
  pruned-text = pruned-tidy us rs

  h : Holds qs
  h = holds qs (gathered-writable t qs (sifted-gathered t rs a.accepted p)) (omega (arith, a.fits, ap length pruned-text)) (sifted-names p 0 0 0 rs a.names)

  abbrev found : List Record
  found = h.found

  reads : records out ≡ yes found
  reads = ap records (a.written ∙ pruned-text) ∙ h.accepted

  out-is : out ≡ tidy qs
  out-is = a.written ∙ pruned-text

  -- the records of another kind, and the programs
  other-kind : (k : ℕ) → (k ≡ 4 → ⊥) → bares k qs ≡ bares k rs
  unfolding bares
  other-kind k n = ap (map bare) (sift-other p k n 0 rs)

  needed-kind : bares 4 qs ≡ chosen p 0 (bares 4 rs)
  unfolding bares
  needed-kind = ap (map bare) (sift-programs p 0 rs) ∙ chosen-map p bare 0 (of_kind 4 rs)

  tidied-out : (room : ℕ) → tidying out room ≡ fitting room out
  tidied-out room = ap (λ x. tidying x room) out-is ∙ h.again room ∙ ap (fitting room) (sym out-is)

  there : programs_in out ≡ programs found
  unfolding programs_in records_of kept
  there = ap (λ g. programs (kept g)) (read_of out found reads)

  -- ---- the programs that are kept

  kept-programs : programs qs ≡ chosen p 0 ps
  unfolding programs
  kept-programs = ap (map program_of) (sift-programs p 0 rs) ∙ chosen-map p program_of 0 (of_kind 4 rs)

  kept-links : links (programs found) ≡ prune_links p ls
  kept-links = links-equal found qs h.equal.pg ∙ ap links kept-programs ∙ links-pruned ps none-dangle p (needed-up ls none-loop parents-in us a.low)

  id-found : (k : ℕ) → id_at out k ≡ (get_or (chosen p 0 ps) k no_program).id
  unfolding id_at
  id-found k = ap (λ xs. (get_or xs k no_program).id) there ∙ ids-equal found qs h.equal.pg k ∙ ap (λ xs. (get_or xs k no_program).id) kept-programs

  id-text : (k : ℕ) → id_at t k ≡ (get_or ps k no_program).id
  unfolding id_at programs_in records_of kept
  id-text k = ap (λ g. (get_or (programs (kept g)) k no_program).id) a.accepted

  id-rank : (k : ℕ) → k < length ps → p k ≡ true → id_at out (rank p 0 k) ≡ id_at t k
  id-rank k l e = id-found (rank p 0 k) ∙ ap (λ x. x.id) (chosen_at p 0 ps k no_program l (ap p (zero-add k) ∙ e)) ∙ sym (id-text k)

  -- ---- the laws

  whole_out : tangled (links (programs_in out)) ≡ 0
  whole_out = ap (λ xs. tangled (links xs)) there ∙ ap tangled kept-links ∙ new-whole ls none-loop parents-in us a.low none-dangle

  in_use_lem : (k : ℕ) → any (eqb k) (leaves (links (programs_in out))) ≡ true → any (same (id_at out k)) (map (id_at t) us) ≡ true
  in_use_lem k e =
      let u = leaf-used ls none-loop parents-in us a.low k (ap (λ xs. any (eqb k) (leaves xs)) (sym (ap links there ∙ kept-links)) ∙ e) in
      listed_same (id_at t) (id_at out k) us u.0 u.1
      (ap (id_at out) (sym u.3) ∙ id-rank u.0 (omega (arith, u.2, links-count ps)) (used-needed ls none-loop parents-in us a.low u.0 u.1 u.2))

  empty-out : us ≡ [] → programs_in out ≡ []
  empty-out e = there ∙ go
    where
      no-need : (k : ℕ) → p k ≡ false
      no-need k = ap (λ vs. is_needed ls vs k) e ∙ unfold is_needed any in refl

      none_left : of_kind 4 found ≡ []
      none_left = map-none (of_kind 4 found) (unfold bares in h.equal.pg ∙ ap (map bare) (sift-programs p 0 rs ∙ chosen_none p 0 (of_kind 4 rs) no-need))

      go : programs found ≡ []
      go = unfold programs in ap (map program_of) none_left

  -- ---- again

  each-used : (vs : List ℕ) → any (leb (length ls)) vs ≡ false → ((u : ℕ) → any (eqb u) vs ≡ true → any (eqb u) us ≡ true) → Each (λ u. (u < length ps) × (p u ≡ true)) vs
  unfolding Each any
  each-used [] l m = tt
  each-used (u ∷ vs) l m =
      let inside : u < length ls = leb-false (length ls) u (or_left (leb (length ls) u) (any (leb (length ls)) vs) l) in (
        (omega (arith, inside, links-count ps), used-needed ls none-loop parents-in us a.low u (m u (rw (eq-eqb u u refl) refl)) inside),
        each-used vs (or_right (leb (length ls) u) (any (leb (length ls)) vs) l) (λ w e. m w (rw e (or-true (eqb w u)))),
      )

  id-value : (u : ℕ) → u < length ps → is_value (id_at t u) ≡ true
  id-value u l = ap is_value (id-text u) ∙ each_at (λ x. is_value x.id ≡ true) ps u no_program (values rs (text-sound t rs a.accepted)) l

  out_of : (v : ℕ) → length (chosen p 0 ps) ≤ v → id_at out v ≡ []
  unfolding no_program
  out_of v l = id-found v ∙ ap (λ x. x.id) (get_or-eq_default (chosen p 0 ps) no_program l)

  -- a program of the new text that has the ID of one in use is that program
  one-id : (v u : ℕ) → u < length ps → p u ≡ true → id_at out v ≡ id_at t u → (v ≡ rank p 0 u) × (v < length (chosen p 0 ps))
  one-id v u l e q = split (ltb v (length (chosen p 0 ps)))
      (λ m. let inside = ltb-true v (length (chosen p 0 ps)) m in (go (chosen-was p 0 ps v inside), inside))
      (λ m. absurd (false≢true (sym no_value_lem ∙ ap is_value (sym (out_of v (ltb-false v (length (chosen p 0 ps)) m)) ∙ q) ∙ id-value u l)))
    where
      go : Was p 0 ps v → v ≡ rank p 0 u
      go w =
          let k = w.place in
          let pk : p k ≡ true = ap p (sym (zero-add k)) ∙ w.passes in
          let ids : id_at t k ≡ id_at t u = sym (id-rank k w.inside pk) ∙ ap (id_at out) w.is ∙ q in
          split (eqb k u)
          (λ s. sym w.is ∙ ap (rank p 0) (eqb-true k u s))
          (λ s. absurd (false≢true (sym (ids-apart t rs a.accepted k u w.inside l (eqb-false k u s)) ∙ ap (λ x. same x (get_or ps u no_program).id) (sym (id-text k) ∙ ids ∙ id-text u) ∙ same_self (get_or ps u no_program).id)))

  same-ordinals : (vs xs : List ℕ) → map (id_at out) vs ≡ map (id_at t) xs → Each (λ u. (u < length ps) × (p u ≡ true)) xs → (vs ≡ map (rank p 0) xs) × (any (leb (length (chosen p 0 ps))) vs ≡ false)
  unfolding Each any
  same-ordinals [] [] e k = (refl, refl)
  same-ordinals [] (x ∷ xs) e k = absurd (never (cc))
  same-ordinals (v ∷ vs) [] e k = absurd (never (cc))
  same-ordinals (v ∷ vs) (x ∷ xs) e k =
      let q : id_at out v ≡ id_at t x = cc in
      let r : map (id_at out) vs ≡ map (id_at t) xs = cc in
      let o = one-id v x k.0.0 k.0.1 q in
      let s = same-ordinals vs xs r k.1 in
      (ap₂ (λ y ys. y ∷ ys) o.0 s.0, rw (lt-leb (length (chosen p 0 ps)) v o.1) s.1)

  module _ (c vs : List ℕ) (room : ℕ) (r : reading out room ≡ yes c) (e : map (id_at out) vs ≡ map (id_at t) us) where
    ordinals : (vs ≡ map (rank p 0) us) × (any (leb (length (chosen p 0 ps))) vs ≡ false)
    ordinals = same-ordinals vs us e (each-used us a.low (λ u q. q))

    fresh-out : fresh out c ≡ yes found
    unfolding fresh then current
    fresh-out = ap (λ x. then x (current c)) reads ∙ ap (λ b. cond b (yes found) (refused 21 0)) (ap (λ x. same x (catalogue found)) (reading-yes out room c found reads r) ∙ same_self (catalogue found))

    many : length (links (programs found)) ≡ length (chosen p 0 ps)
    many = links-count (programs found) ∙ counted
      where
        counted : length (programs found) ≡ length (chosen p 0 ps)
        counted = unfold programs in length-map (of_kind 4 found) program_of ∙ count-equal found qs h.equal.pg ∙ sym (length-map (of_kind 4 qs) program_of) ∙ ap length kept-programs

    low-out : any (leb (length (links (programs found)))) vs ≡ false
    low-out = ap (λ n. any (leb n) vs) many ∙ ordinals.1

    needed-all : (d : ℕ) → d < length (of_kind 4 found) → is_needed (links (programs found)) vs (0 + d) ≡ true
    needed-all d l =
        ap (is_needed (links (programs found)) vs) (zero-add d)
        ∙ ap₂ (λ x y. is_needed x y d) kept-links ordinals.0
        ∙ all-needed ls none-loop parents-in us a.low d (omega (arith, ap length kept-links, links-count (programs found), counted))
      where
        counted : length (programs found) ≡ length (of_kind 4 found)
        counted = unfold programs in length-map (of_kind 4 found) program_of

    text-again : tidy (pruned vs found) ≡ tidy found
    text-again = all-tidy vs found needed-all

    write_again : writing (length out) (unwritable 0 found) (tidy found) ≡ yes out
    write_again = sym go ∙ tidied-out (length out) ∙ fits
      where
        go : tidying out (length out) ≡ writing (length out) (unwritable 0 found) (tidy found)
        go = unfold tidying then in ap (λ x. then x (λ rs. writing (length out) (unwritable 0 rs) (tidy rs))) reads

        fits : fitting (length out) out ≡ yes out
        fits = unfold fitting in rw (le-ltb (length out) (length out) (omega arith)) refl

    pub again-out : pruning out c vs (length out) ≡ yes out
    unfolding pruning then untangled
    again-out =
        ap (λ x. then x (λ rs. cond (any (leb (length (links (programs rs)))) vs) (refused 25 0) (then (untangled rs (tangled (links (programs rs)))) (λ rs. writing (length out) (unwritable 0 rs) (tidy (pruned vs rs)))))) fresh-out
        ∙ ap (λ b. cond b (refused 25 0) (then (untangled found (tangled (links (programs found)))) (λ rs. writing (length out) (unwritable 0 rs) (tidy (pruned vs rs))))) low-out
        ∙ ap (λ n. then (untangled found n) (λ rs. writing (length out) (unwritable 0 rs) (tidy (pruned vs rs)))) (ap (λ xs. tangled (links xs)) (sym there) ∙ whole_out)
        ∙ ap (writing (length out) (unwritable 0 found)) text-again
        ∙ write_again

-- ---- every pruning that is answered

pub prunes : Prunes
unfolding Prunes
prunes t c us room out e =
    let a = answered t c us room out e in
    let rs : List Record = records_of t in
    record {
      whole = whole_out t us out rs a;
      in_use = in_use_lem t us out rs a;
      again = again-out t us out rs a;
      empty = empty-out t us out rs a;
    }

pub all_left : AllLeft
unfolding AllLeft
all_left t c us room out e =
    let a = answered t c us room out e in
    let rs : List Record = records_of t in
    let own = h t us out rs a in
    let other = other-kind t us out rs a in
    record {
      found = own.found;
      accepted = reads t us out rs a;
      hd = own.equal.hd ∙ other 1 (λ q. omega arith);
      sq = own.equal.sq ∙ other 2 (λ q. omega arith);
      rg = own.equal.rg ∙ other 3 (λ q. omega arith);
      co = own.equal.co ∙ other 5 (λ q. omega arith);
      pg = own.equal.pg ∙ needed-kind t us out rs a;
      tidied = tidied-out t us out rs a;
    }
