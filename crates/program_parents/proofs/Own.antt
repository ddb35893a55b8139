-- Places of a text that say programs: what they are as they are lent, and the parent of each program.
use Prim.Native.Nat.{ℕ, ◌*◌, ◌≤◌, ◌<◌}
use mathlib.Core.Path.{◌≡◌, refl, sym, ap, ap₂, subst, ◌∙◌}
use mathlib.Core.Bool.{true}
use mathlib.Core.List.{List, [], ◌∷◌, map}
use mathlib.Core.Option.{none}
use native.Mathlib.Omega.{arith}
use lib.ListN.{length, take, get_or, length-map, length-take}
use lib.Seq.{length-take-le}
use Rattle.format.specs.Reading.{read_text, of_kind}
use Rattle.format.specs.Catalogue.{catalogue}
use Rattle.format.specs.Programs.{Program, root, programs, program_of, link, links}
use Rattle.byte_slices.specs.Stands.{Each}
use Rattle.byte_slices.specs.Over.{over}
use Rattle.accepted.specs.Read.{is_accepted, records_of}
use Rattle.lists.proofs.Pairs.{pairs-length, pairs-at}
use Rattle.accepted.proofs.Read.{accepted-reads}
use Rattle.accepted.proofs.Text.{text-fits, text-programs}
use Rattle.program_chains.specs.Parents.{in_array}
use Rattle.program_chains.proofs.Arrays.{array-length, front, front_at}
use Rattle.program_chains.proofs.Walks.{map_at}
use Rattle.catalogue_entries.specs.declared.Place.{Place}
use Rattle.catalogue_entries.specs.Entries.{entries_in}
use Rattle.program_places.specs.declared.Programs.{Programs}
use Rattle.program_ids.specs.Places.{InsideText, bytes_at, nowhere, places_of, PlacesInText}
use Rattle.program_places.specs.Gathered.{ProgramPlaces, noted_in, arrays_of, gathered_of}
use Rattle.program_parents.specs.Parents.{Somewhere, link_number, parent_of}
use Rattle.program_parents.specs.Placed.{Says, PlacesOf, ArePlaces, ListsIds}
use Rattle.program_ids.specs.Ids.{id_list, ids_at, IdsInText}
use Rattle.program_ids.specs.Search.{ids_of}
use Rattle.program_ids.proofs.Ids.{lent-ids, lent-are, lent-inside}
use Rattle.program_parents.proofs.Says.{says-ids, says-inside, before-inside, before_parent, text_says}

-- ---- numbers in arrays

-- the places whose numbers are in arrays
places-back : (f : ProgramPlaces → Place) (ns : List ProgramPlaces) → places_of (map (λ n. (f n).at) ns) (map (λ n. (f n).len) ns) ≡ map f ns
unfolding places_of
places-back f [] = refl
places-back f (n ∷ ns) = ap (λ ps. f n ∷ ps) (places-back f ns)

-- one number of each program, as it is lent and read
module _ (f : ProgramPlaces → ℕ) (ns : List ProgramPlaces) (xs : List ℕ) (count : ℕ) (e : xs ≡ in_array (map f ns)) (m : count ≡ length ns) where
  same_count : count ≡ length (map f ns)
  same_count = m ∙ sym (length-map ns f)

  kept-front : take count xs ≡ map f ns
  kept-front = front (map f ns) xs count e same_count

  kept_at : (i : ℕ) (d : ProgramPlaces) → i < count → get_or xs i 0 ≡ f (get_or ns i d)
  kept_at i d h = front_at (map f ns) xs count e same_count i h ∙ map_at f ns i d 0 (omega arith)

-- ---- of some programs

module _ (t : List ℕ) (ps : List Program) (p : Programs) (x : PlacesOf t ps p) where
  abbrev ns : List ProgramPlaces
  ns = x.ns

  noted-count : p.count ≡ length ns
  unfolding gathered_of
  noted-count = ap (λ q. q.count) x.is

  -- as many as there are programs
  pub own-count : p.count ≡ length ps
  own-count = noted-count ∙ pairs-length (Says t) ns ps x.says

  pub own-few : p.count ≤ 1024
  own-few = omega (arith, own-count, x.few)

  -- ---- the IDs, as they are lent

  id-at : p.id.at ≡ in_array (map (λ n. n.id.at) ns)
  unfolding gathered_of arrays_of
  id-at = ap (λ q. q.id.at) x.is

  id-len : p.id.len ≡ in_array (map (λ n. n.id.len) ns)
  unfolding gathered_of arrays_of
  id-len = ap (λ q. q.id.len) x.is

  abbrev ats : List ℕ
  ats = take p.count p.id.at

  abbrev lens : List ℕ
  lens = take p.count p.id.len

  ats-are : ats ≡ map (λ n. n.id.at) ns
  ats-are = kept-front (λ n. n.id.at) ns p.id.at p.count id-at noted-count

  lens-are : lens ≡ map (λ n. n.id.len) ns
  lens-are = kept-front (λ n. n.id.len) ns p.id.len p.count id-len noted-count

  places-are : places_of ats lens ≡ map (λ n. n.id) ns
  places-are = ap₂ places_of ats-are lens-are ∙ places-back (λ n. n.id) ns

  pub own-ats : length ats ≡ p.count
  own-ats = ap length ats-are ∙ length-map ns (λ n. n.id.at) ∙ sym noted-count

  pub own-lens : length lens ≡ p.count
  own-lens = ap length lens-are ∙ length-map ns (λ n. n.id.len) ∙ sym noted-count

  pub ats-inside : p.count ≤ length p.id.at
  ats-inside = omega (arith, own-ats, length-take p.count p.id.at)

  pub lens-inside : p.count ≤ length p.id.len
  lens-inside = omega (arith, own-lens, length-take p.count p.id.len)

  -- the arrays are whole
  whole : (f : ProgramPlaces → ℕ) (xs : List ℕ) → xs ≡ in_array (map f ns) → length xs ≡ 1024
  whole f xs q = ap length q ∙ array-length (map f ns) (omega (arith, length-map ns f, noted-count, own-few))

  pub ats-whole : length p.id.at ≡ 1024
  ats-whole = whole (λ n. n.id.at) p.id.at id-at

  pub lens-whole : length p.id.len ≡ 1024
  lens-whole = whole (λ n. n.id.len) p.id.len id-len

  pub from-whole : length p.previous.at ≡ 1024
  unfolding gathered_of arrays_of
  from-whole = whole (λ n. n.previous.at) p.previous.at (ap (λ q. q.previous.at) x.is)

  pub widths-whole : length p.previous.len ≡ 1024
  unfolding gathered_of arrays_of
  widths-whole = whole (λ n. n.previous.len) p.previous.len (ap (λ q. q.previous.len) x.is)

  pub own-placed : PlacesInText t ats lens
  own-placed = record {
    even = own-ats ∙ sym own-lens;
    few = omega (arith, own-ats, own-few);
    inside = subst (Each (InsideText (length t))) (sym places-are) (says-inside t ns ps x.says);
  }

  own-ids : map (bytes_at t) (places_of ats lens) ≡ ids_of ps
  own-ids = ap (map (bytes_at t)) places-are ∙ says-ids t ns ps x.says

  -- ---- the list of the IDs, as it is lent

  pub own_room : length ats * 3 ≤ 3072
  own_room = omega (arith, own-ats, own-few)

  module _ (list₀ list : List ℕ) (wide : 3072 ≤ length list₀) (e : list ≡ over list₀ 0 (id_list t (places_of ats lens))) where
    room : length ats * 3 ≤ length list₀
    room = omega (arith, own_room)

    pub listed-ids : IdsInText t (take (p.count * 3) list)
    listed-ids = subst (λ n. IdsInText t (take (n * 3) list)) own-ats (lent-ids t ats lens own-placed list₀ list room e)

    pub listed-are : ids_at t (take (p.count * 3) list) ≡ ids_of ps
    listed-are = ap (λ n. ids_at t (take (n * 3) list)) (sym own-ats) ∙ lent-are t ats lens own-placed list₀ list room e ∙ own-ids

    pub listed-inside : p.count * 3 ≤ length list
    listed-inside = omega (arith, own-ats, lent-inside t ats lens own-placed list₀ list room e)

    pub listed-length : p.count * 3 ≡ length (take (p.count * 3) list)
    listed-length = sym (length-take-le (p.count * 3) list listed-inside)

  -- ---- the parent of each

  abbrev place : ℕ → Place
  place i = record { at = get_or p.previous.at i 0; len = get_or p.previous.len i 0 }

  module _ (i : ℕ) (h : i < p.count) where
    none-noted : ProgramPlaces
    none-noted = record { id = nowhere; previous = nowhere }

    place_is : place i ≡ (get_or ns i none-noted).previous
    unfolding gathered_of arrays_of
    place_is =
        ap₂ (λ a l. record { at = a; len = l })
        (kept_at (λ n. n.previous.at) ns p.previous.at p.count (ap (λ q. q.previous.at) x.is) noted-count i none-noted h)
        (kept_at (λ n. n.previous.len) ns p.previous.len p.count (ap (λ q. q.previous.len) x.is) noted-count i none-noted h)

    none-there : Program
    none-there = record { id = []; previous = none }

    said : Says t (get_or ns i none-noted) (get_or ps i none-there)
    said = pairs-at (Says t) ns ps i none-noted none-there (omega (arith, noted-count)) x.says

    pub own-somewhere : Somewhere (length t) (place i)
    own-somewhere = subst (Somewhere (length t)) (sym place_is) (before-inside t _ _ said.previous)

    pub own-parent : length t ≤ 16777216 → (ids : List (List ℕ)) → ids ≡ ids_of ps → parent_of t ids (place i) ≡ link_number (get_or (links ps) i root)
    unfolding links
    own-parent fits ids is =
        ap₂ (parent_of t) is place_is
        ∙ before_parent t fits ps _ _ said.previous
        ∙ ap link_number (sym (map_at (λ q. link ps q.previous) ps i none-there root (omega (arith, own-count))))

-- ---- of an accepted text

module _ (t : List ℕ) (accepted : is_accepted (read_text t) ≡ true) where
  pub few-programs : length (programs (records_of t)) ≤ 1024
  unfolding programs
  few-programs = rw (length-map (of_kind 4 (records_of t)) program_of) (text-programs t (records_of t) (accepted-reads t accepted))

  -- what is gathered from its own catalogue says its programs
  module _ (p : Programs) (e : p ≡ gathered_of (noted_in (entries_in (catalogue (records_of t))))) where
    pub text-placed : PlacesOf t (programs (records_of t)) p
    text-placed = record {
      ns = noted_in (entries_in (catalogue (records_of t)));
      is = e;
      says = text_says t (records_of t) (accepted-reads t accepted);
      few = few-programs;
    }

    pub text-places : ArePlaces t p
    text-places = record { ps = programs (records_of t); are = text-placed; fits = text-fits t (records_of t) (accepted-reads t accepted) }

    -- the list of their IDs
    pub text-listed : (list₀ list : List ℕ) → 3072 ≤ length list₀ → list ≡ over list₀ 0 (id_list t (places_of (take p.count p.id.at) (take p.count p.id.len))) → ListsIds t list p.count
    text-listed list₀ list wide q = record {
      counts = own-count t (programs (records_of t)) p text-placed;
      long = listed-inside t (programs (records_of t)) p text-placed list₀ list wide q;
      listed = listed-ids t (programs (records_of t)) p text-placed list₀ list wide q;
      are = listed-are t (programs (records_of t)) p text-placed list₀ list wide q;
    }
