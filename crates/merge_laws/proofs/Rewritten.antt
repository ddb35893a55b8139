-- Headers that were written anew from one another, judged.
use Prim.Native.Nat.{ℕ, ◌≤◌, ◌<◌}
use mathlib.Core.Path.{◌≡◌, refl, sym, ap, subst, ◌∙◌}
use mathlib.Core.Logic.{inl, inr, ⊎_elim}
use mathlib.Core.Bool.{Bool}
use mathlib.Core.List.{List, [], map}
use native.Mathlib.Omega.{arith}
use lib.ListN.{length, get_or, length-append, length-map, get_or-append, get_or-map}
use Rattle.format.specs.Records.{Record, comment}
use Rattle.format.specs.Programs.{Link, root, programs, links, numbers_from}
use Rattle.format.specs.Prune.{chosen}
use Rattle.format.specs.Calls.{yes, records}
use Rattle.format.specs.References.{sq_list}
use Rattle.format.specs.Merge.{merged, unmerged, judging_merge}
use Rattle.accepted.specs.Read.{records_of}
use Rattle.program_chains.proofs.Leaf.{counting-length}
use Rattle.tidy_laws.specs.Bare.{bare_bytes, bares}
use Rattle.tidy_laws.proofs.Programs.{links-equal}
use Rattle.merge_laws.specs.Fit.{parent_links, Fit, Fits}
use Rattle.merge_laws.specs.IsMerge.{Joins, image_in, Hits, image_link, Assigns, parent_at, other_fields, fields_at, Images, IsMerge}
use Rattle.merge_laws.specs.Exactly.{JoinsTexts, ListsTexts, AllExactly}
use Rattle.merge_laws.specs.Rewritten.{program_count, itself, SameSq, Longer, stayed, Shorter, Rewritten}
use Rattle.merge_laws.proofs.Fields.{fields-bare, bares-length, fields-front, fields-one}
use Rattle.merge_laws.proofs.Links.{links-length, below, named-below}
use Rattle.merge_laws.proofs.Exactly.{all-exactly}
use Rattle.merge_laws.proofs.Own.{own-joins, own-assigns, own-hits, own-images}
use Rattle.merge_laws.proofs.Short.{unhit-lists, unhit-alone}
use Rattle.merge_laws.proofs.Nothing.{nothing-fit, nothing-images, nothing-assigns, joins-nothing, nothing-joins}
use Rattle.merge_laws.proofs.Stayed.{chosen-length, stays_at, stayed-assigns, link_image}
use Rattle.merge_laws.proofs.Grown.{grown-linked, grown-acyclic}

-- ---- accepted

accepted : (a b m list_a list_b : List ℕ) → Fits a b m → IsMerge (records_of a) (records_of b) (records_of m) list_a list_b → judging_merge a b m list_a list_b ≡ merged
unfolding AllExactly
accepted a b m list_a list_b f i = (all-exactly a b m list_a list_b).accepted.1 (f, i)

-- the references of three texts are those of one
joined : (t a b m : List ℕ) → records t ≡ yes (records_of t) → SameSq t a → SameSq t b → SameSq t m → Joins (sq_list (records_of a)) (sq_list (records_of b)) (sq_list (records_of m))
unfolding SameSq
joined t a b m e x y z = rw (x, y, z) (own-joins t e)

absorbed : (t u list : List ℕ) → Fit t → Fit u → SameSq t u → Assigns (program_count u) (program_count t) list
    → Images (records_of u) (records_of t) list → judging_merge t u t (itself t) list ≡ merged
unfolding program_count itself SameSq
absorbed t u list f g s x i =
    accepted t u t (itself t) list (record { fit_a = f; fit_b = g; fit_merged = f }) (record {
      references = joined t t u t f.accepted refl s refl;
      lists = record { of_a = own-assigns (program_count t) (program_count t) (omega arith); of_b = x; every = λ i h. inl (own-hits (program_count t) i h) };
      images_a = own-images (records_of t) (records_of t) (λ k h. refl) (λ k h. refl);
      images_b = i;
    })

-- with nothing
module _ (t : List ℕ) (f : Fit t) where
  abbrev n : ℕ
  n = program_count t

  own-places : Images (records_of t) (records_of t) (itself t)
  unfolding itself program_count
  own-places = own-images (records_of t) (records_of t) (λ k h. refl) (λ k h. refl)

  with_nothing_lem : judging_merge t [] t (itself t) [] ≡ merged
  unfolding itself program_count
  with_nothing_lem =
      accepted t [] t (itself t) [] (record { fit_a = f; fit_b = nothing-fit; fit_merged = f }) (record {
        references = joins-nothing (sq_list (records_of t));
        lists = record { of_a = own-assigns n n (omega arith); of_b = nothing-assigns n; every = λ i h. inl (own-hits n i h) };
        images_a = own-places;
        images_b = nothing-images (records_of t);
      })

  nothing-with : judging_merge [] t t [] (itself t) ≡ merged
  unfolding itself program_count
  nothing-with =
      accepted [] t t [] (itself t) (record { fit_a = nothing-fit; fit_b = f; fit_merged = f }) (record {
        references = nothing-joins (sq_list (records_of t));
        lists = record { of_a = nothing-assigns n; of_b = own-assigns n n (omega arith); every = λ i h. inr (own-hits n i h) };
        images_a = nothing-images (records_of t);
        images_b = own-places;
      })

module _ (t u : List ℕ) (f : Fit t) (e : records u ≡ yes (records_of u)) (s : SameSq t u) (b : bares 4 (records_of u) ≡ bares 4 (records_of t)) where
  same-links : links (programs (records_of u)) ≡ links (programs (records_of t))
  same-links = links-equal (records_of u) (records_of t) b

  fit-too : Fit u
  unfolding parent_links
  fit-too = record { accepted = e; linked = rw same-links f.linked; acyclic = rw same-links f.acyclic }

  same-images : Images (records_of t) (records_of u) (itself t)
  unfolding itself program_count parent_at
  same-images =
      own-images (records_of t) (records_of u)
      (λ k h. fields-bare (records_of u) k ∙ ap (λ bs. get_or (map other_fields bs) k []) b ∙ sym (fields-bare (records_of t) k))
      (λ k h. ap (λ ls. get_or ls k root) same-links)

  same_count : program_count u ≡ program_count t
  unfolding program_count
  same_count = omega (arith, links-length (programs (records_of u)), links-length (programs (records_of t)), ap length same-links)

  equal : judging_merge t t u (itself t) (itself t) ≡ merged
  unfolding itself program_count SameSq
  equal =
      let n : ℕ = program_count t in
      let one : Assigns n (program_count u) (itself t) = own-assigns n (program_count u) (omega (arith, same_count)) in
      accepted t t u (itself t) (itself t) (record { fit_a = f; fit_b = f; fit_merged = fit-too }) (record {
        references = joined t t t u f.accepted refl refl s;
        lists = record { of_a = one; of_b = one; every = λ i h. inl (own-hits n i (omega (arith, same_count))) };
        images_a = same-images;
        images_b = same-images;
      })

-- ---- refused

unlisted : (a b m list_a list_b : List ℕ) (i : ℕ) → Fits a b m → JoinsTexts a b m → i < program_count m
    → (Hits list_a i → ⊥) → (Hits list_b i → ⊥) → judging_merge a b m list_a list_b ≡ unmerged 31
unfolding AllExactly ListsTexts program_count
unlisted a b m list_a list_b i f j h x y = (all-exactly a b m list_a list_b).number31.1 (f, j, λ l. ⊎_elim x y (l.every i h))

unhit : (t u list : List ℕ) → Fit t → Fit u → SameSq t u → program_count t < program_count u → judging_merge t t u list list ≡ unmerged 31
unfolding AllExactly JoinsTexts ListsTexts program_count SameSq
unhit t u list f g s h =
    (all-exactly t t u list list).number31.1 (record { fit_a = f; fit_b = f; fit_merged = g }, joined t t t u f.accepted refl refl s, unhit-lists (program_count t) (program_count u) list h)

unhit-nothing : (t u list : List ℕ) → Fit t → Fit u → SameSq t u → program_count t < program_count u → judging_merge t [] u list [] ≡ unmerged 31
unfolding AllExactly JoinsTexts ListsTexts program_count SameSq
unhit-nothing t u list f g s h =
    (all-exactly t [] u list []).number31.1 (record { fit_a = f; fit_b = nothing-fit; fit_merged = g }, rw s (joins-nothing (sq_list (records_of t))), unhit-alone (program_count t) (program_count u) list h)

-- ---- programs added

module _ (t u : List ℕ) (f : Fit t) (l : Longer t u) where
  grown-fit : Fit u
  unfolding parent_links
  grown-fit =
      let ps = programs (records_of t) in
      record {
        accepted = l.accepted;
        linked = rw l.behind_links (grown-linked (links ps) l.more_links f.linked l.follows);
        acyclic = rw l.behind_links (grown-acyclic (links ps) l.more_links (below ps) f.acyclic (named-below ps) l.follows);
      }

  counts : program_count t ≤ program_count u
  unfolding program_count parent_links
  counts =
      omega (arith, links-length (programs (records_of t)), links-length (programs (records_of u)), ap length l.behind_links, length-append (links (programs (records_of t))) l.more_links)

  old-images : Images (records_of t) (records_of u) (itself t)
  unfolding itself program_count parent_at parent_links
  old-images =
      own-images (records_of t) (records_of u) (fields-front (records_of t) (records_of u) l.more l.behind)
      (λ k h. ap (λ ls. get_or ls k root) l.behind_links ∙ get_or-append (links (programs (records_of t))) l.more_links root k (omega (arith, links-length (programs (records_of t)))))

  grown : Fit u × (judging_merge u t u (itself u) (itself t) ≡ merged)
  unfolding SameSq itself
  grown = (grown-fit, absorbed u t (itself t) grown-fit f (sym l.references) (own-assigns (program_count t) (program_count u) counts) old-images)

-- ---- programs dropped

module _ (t u : List ℕ) (stays : ℕ → Bool) (f : Fit t) (g : Fit u) (s : Shorter t u stays) where
  abbrev old : List Record
  old = records_of t

  abbrev new : List Record
  new = records_of u

  stay-count : length (stayed t stays) ≡ program_count u
  unfolding stayed itself program_count
  stay-count =
      chosen-length stays 0 (numbers_from 0 (program_count t)) (bares 4 old) (counting-length 0 (program_count t) ∙ sym (bares-length old))
      ∙ ap length (sym s.fewer) ∙ bares-length new

  stay-assigns : Assigns (program_count u) (program_count t) (stayed t stays)
  unfolding stayed itself
  stay-assigns = subst (λ n. Assigns n (program_count t) (stayed t stays)) stay-count (stayed-assigns stays (program_count t))

  stay-fields : (k : ℕ) → k < program_count u → fields_at old (image_in (stayed t stays) k) ≡ fields_at new k
  unfolding stayed itself program_count image_in
  stay-fields k h =
      let none : Record = comment (bare_bytes []) in
      let bs : List Record = bares 4 old in
      let at = stays_at stays none bs k (omega (arith, ap length s.fewer, bares-length new)) in
      fields-one old (image_in (stayed t stays) k) (stay-assigns.valid k h)
      ∙ ap other_fields (ap (λ n. get_or bs (get_or (chosen stays 0 (numbers_from 0 n)) k 0) none) (sym (bares-length old)) ∙ sym at ∙ ap (λ l. get_or l k none) (sym s.fewer))
      ∙ sym (fields-one new k h)

  stay-parent : (k : ℕ) → k < program_count u → parent_at old (image_in (stayed t stays) k) ≡ image_link (stayed t stays) (parent_at new k)
  unfolding stayed itself program_count image_in parent_at parent_links image_link
  stay-parent k h =
      let ls : List Link = links (programs old) in
      let at = stays_at stays root ls k (omega (arith, ap length s.fewer_links, length-map (parent_links u) (image_link (stayed t stays)), links-length (programs new))) in
      ap (λ n. get_or ls (get_or (chosen stays 0 (numbers_from 0 n)) k 0) root) (sym (links-length (programs old))) ∙ sym at
      ∙ ap (λ l. get_or l k root) (sym s.fewer_links) ∙ get_or-map (image_link (stayed t stays)) (parent_links u) k root

  pruned : judging_merge t u t (itself t) (stayed t stays) ≡ merged
  unfolding Images program_count
  pruned =
      absorbed t u (stayed t stays) f g s.references stay-assigns
      (λ k h. link_image new old (stayed t stays) k (stay-fields k h) (stay-parent k h))

pub rewritten : Rewritten
unfolding SameSq
rewritten =
    record {
      own = λ t f. equal t t f f.accepted refl refl;
      with_nothing = λ t f. (with_nothing_lem t f, nothing-with t f);
      equal = equal;
      absorbed = absorbed;
      unlisted = unlisted;
      unhit = unhit;
      unhit_alone = unhit-nothing;
      grown = grown;
      grown_unhit = λ t u list f l h. unhit t u list f (grown-fit t u f l) l.references h;
      pruned = pruned;
    }
