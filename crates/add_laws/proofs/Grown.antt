-- What an accepted add does to the chains: over records, then over texts.
use Prim.Native.Nat.{ℕ, ◌≤◌, ◌<◌}
use mathlib.Core.Path.{◌≡◌, refl, ap, ◌∙◌}
use mathlib.Core.Bool.{true, not}
use mathlib.Core.List.{List, [], ◌∷◌, ◌++◌}
use mathlib.Core.Option.{none, some}
use native.Mathlib.Omega.{arith}
use lib.ListN.{length}
use Rattle.format.specs.Lines.{Piece}
use Rattle.format.specs.Fields.{Scan, last_of}
use Rattle.format.specs.Records.{Record}
use Rattle.format.specs.Reading.{read_text, accept}
use Rattle.format.specs.Programs.{Program, child, programs, ordinal_from, link, links, leaves}
use Rattle.format.specs.Adding.{given, is_known, after_leaves, added}
use Rattle.format.specs.Calls.{yes, records, adding}
use Rattle.accepted.specs.Read.{kept, records_of}
use Rattle.tidy_laws.proofs.Answered.{read_of}
use Rattle.tidy_laws.proofs.Programs.{links-equal}
use Rattle.program_chains.specs.Listed.{named}
use Rattle.program_parents.proofs.Numbers.{links-count, links-named}
use Rattle.add_ids.proofs.Apart.{ids-apart}
use Rattle.add_laws.specs.Extended.{extended, AllExtended}
use Rattle.add_laws.specs.Grown.{links_in, Grown, GrownUnder, AllGrown, AllGrownUnder}
use Rattle.add_laws.proofs.Chains.{links-grow, links-grow-under}
use Rattle.add_laws.proofs.Links.{programs-append, links-more, links-under, leaves-below, link-low}
use Rattle.add_laws.proofs.Passed.{Passed, answered}
use Rattle.add_laws.proofs.Extended.{all-extended}

module _ (t : List ℕ) (rs : List Record) (h : read_text t ≡ accept rs) (prefix : List ℕ) (s : Scan) (p : Passed rs prefix s) (some-program : 0 < length (programs rs)) where
  abbrev ps : List Program
  ps = programs rs

  abbrev new : List Record
  new = added prefix s.fields ps

  added_is : (qs : List Program) → 0 < length qs → added prefix s.fields qs ≡ after_leaves (not (is_known (ordinal_from 0 prefix qs))) prefix s.fields qs (leaves (links qs))
  unfolding added
  added_is [] n = absurd (omega arith)
  added_is (q ∷ qs) n = refl

  below : (k : ℕ) → named k (links ps) ≡ true → k < length (links ps)
  below k m = omega (arith, links-count ps, links-named ps (omega (arith, p.few)) p.linked k m)

  links-after : links (programs (rs ++ new)) ≡ links (ps ++ programs (after_leaves (not (is_known (ordinal_from 0 prefix ps))) prefix s.fields ps (leaves (links ps))))
  links-after = ap links (programs-append rs new ∙ ap (λ qs. ps ++ programs qs) (added_is ps some-program))

  records-grow : last_of 80 80 s.fields ≡ none → Grown (links ps) (links (programs (rs ++ new)))
  records-grow plain =
      rw (links-after ∙ links-more ps (ids-apart t rs h) p.linked (not (is_known (ordinal_from 0 prefix ps))) prefix s.fields (leaves (links ps)) (leaves-below ps) plain)
      (links-grow (links ps) p.acyclic below)

  records-grow-under : (q : Piece) (j : ℕ) → last_of 80 80 s.fields ≡ some q → link ps (some q) ≡ child j → GrownUnder j (links ps) (links (programs (rs ++ new)))
  records-grow-under q j e named =
      rw (links-after ∙ links-under ps (ids-apart t rs h) p.linked (not (is_known (ordinal_from 0 prefix ps))) prefix s.fields (leaves (links ps)) (leaves-below ps) q j e named)
      (links-grow-under (links ps) p.acyclic below j (omega (arith, links-count ps, link-low ps q j named)))

-- ---- over texts

module _ (text c prefix fields : List ℕ) (room : ℕ) (out : List ℕ) (e : adding text c prefix fields room ≡ yes out) where
  -- what reading finds in the text that is written
  links-out : links_in out ≡ links (programs (extended text prefix fields))
  unfolding AllExtended links_in extended records_of
  links-out =
      let x = all-extended text c prefix fields room out e in
      let found : List Record = x.holds.found in
      let back : records_of out ≡ found = ap kept (read_of out found (ap records x.written ∙ x.holds.accepted)) in
      ap (λ rs. links (programs rs)) back ∙ links-equal found (extended text prefix fields) x.holds.equal.pg

pub all_grown : AllGrown
unfolding AllGrown links_in extended
all_grown text c prefix fields room out e some-program plain =
    let a = answered text c prefix fields room out e in
    rw (links-out text c prefix fields room out e)
    (records-grow text (records_of text) a.accepted prefix (given fields) a.passes (omega (arith, links-count (programs (records_of text)))) plain)

pub all-grown-under : AllGrownUnder
unfolding AllGrownUnder links_in extended
all-grown-under text c prefix fields room out e q is-given j named =
    let a = answered text c prefix fields room out e in
    rw (links-out text c prefix fields room out e)
    (records-grow-under text (records_of text) a.accepted prefix (given fields) a.passes (omega (arith, link-low (programs (records_of text)) q j named)) q j is-given named)
