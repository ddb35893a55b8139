-- What the new programs are: records that reading could have given, but for their places.
use Prim.Native.Nat.{ℕ, ◌<◌}
use mathlib.Core.Path.{◌≡◌, refl, ◌∙◌}
use mathlib.Core.Bool.{Bool, true, false, not, ◌||◌, cond}
use mathlib.Core.List.{List, [], ◌∷◌, ◌++◌}
use mathlib.Core.Option.{Option, none, some}
use lib.ListN.{length, get_or}
use lib.Dec.{eqb}
use Rattle.format.specs.Bytes.{all, any, none?, letter, printable}
use Rattle.format.specs.Lines.{Piece, cut, placed}
use Rattle.format.specs.Fields.{Field, tagged, is_value, is_wide, allows, is_tag, scan, repeats, later, last_of}
use Rattle.format.specs.Records.{Record, header, reference, group, program, comment, code, key, others}
use Rattle.format.specs.Reading.{read_text, accept, of_kind}
use Rattle.format.specs.Programs.{Program, bytes_of, program_of, programs, ordinal_from, links, leaves}
use Rattle.format.specs.Tidy.{is_writable}
use Rattle.format.specs.Adding.{given, unplaced, or_else, chained, no_program, is_known, after_leaves, added}
use Rattle.format.specs.declared.Kind.TheVariants as kinds
use Rattle.byte_slices.specs.Stands.{Each}
use Rattle.lists.specs.Pairs.{Pairs}
use Rattle.accepted.specs.Sound.{kind, FitsRecord, KeyIsValue, Other, Sound}
use Rattle.format.specs.Keys.{is_key}
use Rattle.accepted.specs.Spelled.{Good}
use Rattle.lists.proofs.Bools.{never, or_left, or_right, and_left, and_right}
use Rattle.lists.proofs.Pairs.{each_at}
use Rattle.accepted.proofs.Tags.{repeats-snoc}
use Rattle.accepted.proofs.Spelled.{scan_good}
use Rattle.accepted.proofs.Text.{text-sound}
use Rattle.tidy_laws.specs.Line.{Unbroken}
use Rattle.add_input.proofs.InForm.{InForm}
use Rattle.add_laws.proofs.Links.{leaves-below}

-- what the tidy text needs of a record, and that it is a program
pub record New (r : Record) : Type 0 where
  pub sound : Sound r
  pub unbroken : Unbroken r
  pub writable : is_writable r ≡ true
  pub kind : code r ≡ 4

-- ---- the given fields

good_others : (ps : List Piece) (fs : List Field) → Pairs (λ p f. Good kinds.Program p.at p.bytes f) ps fs → any (tagged 73 68) fs ≡ false → Each (Other kinds.Program) fs
unfolding Pairs Each any tagged is_key
good_others [] [] g n = tt
good_others [] (f ∷ fs) g n = absurd g
good_others (p ∷ ps) [] g n = tt
good_others (p ∷ ps) (f ∷ fs) g n = (
  record { tag = g.0.tag; no_key = or_left (tagged 73 68 f) (any (tagged 73 68) fs) n; value = g.0.value },
  good_others ps fs g.1 (or_right (tagged 73 68 f) (any (tagged 73 68) fs) n),
)

given-others : (s : List ℕ) → (given s).stop ≡ 0 → any (tagged 73 68) (given s).fields ≡ false → Each (Other kinds.Program) (given s).fields
unfolding given Each
given-others [] e n = tt
given-others (b ∷ s) e n = go (eqb b 9) e n
  where
    ps : List Piece
    ps = placed 1 (cut 9 s)

    go : (t : Bool) → (cond t (scan kinds.Program ps) (record { fields = []; stop = 6 })).stop ≡ 0 → any (tagged 73 68) (cond t (scan kinds.Program ps) (record { fields = []; stop = 6 })).fields ≡ false
        → Each (Other kinds.Program) (cond t (scan kinds.Program ps) (record { fields = []; stop = 6 })).fields
    go true e n = good_others ps (scan kinds.Program ps).fields (scan_good kinds.Program ps e) n
    go false e n = tt

-- ---- one program

each_snoc : (P : Field → Type 0) (fs : List Field) (f : Field) → Each P fs → P f → Each P (fs ++ (f ∷ []))
unfolding Each
each_snoc P [] f h p = (p, tt)
each_snoc P (g ∷ fs) f h p = (h.0, each_snoc P fs f h.1 p)

absent-last : (a b : ℕ) (fs : List Field) → last_of a b fs ≡ none → any (tagged a b) fs ≡ false
unfolding any last_of later
absent-last a b [] h = refl
absent-last a b (f ∷ fs) h = go (tagged a b f) (last_of a b fs) h (absent-last a b fs)
  where
    go : (t : Bool) (o : Option Piece) → later (cond t (some f.value) none) o ≡ none → (o ≡ none → any (tagged a b) fs ≡ false) → t || any (tagged a b) fs ≡ false
    go t (some q) e ih = absurd (never (cc))
    go true none e ih = absurd (never (cc))
    go false none e ih = ih refl

record-new : (name : List ℕ) → is_value name ≡ true → (fs : List Field) → Each (Other kinds.Program) fs → repeats fs ≡ false → New (program (unplaced name) fs)
unfolding FitsRecord KeyIsValue key others kind unplaced Unbroken is_writable code
record-new name v fs o r = record { sound = record { fits = tt; named = v; other = o; once = r }; unbroken = tt; writable = refl; kind = refl }

-- after the leaf `id`
chained-new : (name : List ℕ) → is_value name ≡ true → (fs : List Field) → Each (Other kinds.Program) fs → repeats fs ≡ false → (id : List ℕ) → is_value id ≡ true
    → New (program (unplaced name) (chained id fs))
unfolding chained or_else unplaced is_tag letter is_key allows is_wide
chained-new name v fs o r id w = go (last_of 80 80 fs) refl
  where
    pp : Field
    pp = record { tag₀ = 80; tag₁ = 80; value = unplaced id }

    go : (p : Option Piece) → last_of 80 80 fs ≡ p → New (program (unplaced name) (or_else p fs (fs ++ (pp ∷ []))))
    go (some p) e = record-new name v fs o r
    go none e =
        record-new name v (fs ++ (pp ∷ [])) (each_snoc (Other kinds.Program) fs pp o (record { tag = refl; no_key = refl; value = w }))
        (repeats-snoc fs pp ∙ rw (absent-last 80 80 fs e, r) refl)

-- ---- all of them

all_append : (s t : List ℕ) → all printable s ≡ true → all printable t ≡ true → all printable (s ++ t) ≡ true
unfolding all
all_append [] t h g = g
all_append (b ∷ s) t h g = rw (and_left (printable b) (all printable s) h) (all_append s t (and_right (printable b) (all printable s) h) g)

-- prefix, `-`, ID
value-joined : (s t : List ℕ) → is_value s ≡ true → is_value t ≡ true → is_value (s ++ (45 ∷ t)) ≡ true
unfolding is_value none? all
value-joined [] t h g = absurd (never (cc))
value-joined (b ∷ s) t h g = all_append (b ∷ s) (45 ∷ t) h (and_right (not (none? t)) (all printable t) g)

-- IDs are values
values : (rs : List Record) → Each Sound rs → Each (λ p. is_value p.id ≡ true) (programs rs)
unfolding Each programs of_kind code program_of bytes_of key KeyIsValue
values [] h = tt
values (header v fs ∷ rs) h = values rs h.1
values (reference p n fs ∷ rs) h = values rs h.1
values (group p fs ∷ rs) h = values rs h.1
values (program p fs ∷ rs) h = (h.0.named, values rs h.1)
values (comment p ∷ rs) h = values rs h.1

module _ (prefix fields : List ℕ) (f : InForm prefix (given fields)) where
  abbrev fs : List Field
  fs = (given fields).fields

  other : Each (Other kinds.Program) fs
  other = given-others fields f.stop f.no-id

  after-new : (ps : List Program) → Each (λ p. is_value p.id ≡ true) ps → (free : Bool) (ks : List ℕ) → Each (λ k. k < length ps) ks → Each New (after_leaves free prefix fs ps ks)
  unfolding Each after_leaves
  after-new ps v free [] b = tt
  after-new ps v free (k ∷ ks) b = (chained-new _ (name free) fs other f.once id own, after-new ps v false ks b.1)
    where
      id : List ℕ
      id = (get_or ps k no_program).id

      own : is_value id ≡ true
      own = each_at (λ p. is_value p.id ≡ true) ps k no_program v b.0

      name : (t : Bool) → is_value (cond t prefix (prefix ++ (45 ∷ id))) ≡ true
      name true = f.value
      name false = value-joined prefix id f.value own

  added_new : (ps : List Program) → Each (λ p. is_value p.id ≡ true) ps → Each New (added prefix fs ps)
  unfolding Each added
  added_new [] v = (record-new prefix f.value fs other f.once, tt)
  added_new (p ∷ ps) v = after-new (p ∷ ps) v (not (is_known (ordinal_from 0 prefix (p ∷ ps)))) (leaves (links (p ∷ ps))) (leaves-below (p ∷ ps))

  pub all_new : (t : List ℕ) (rs : List Record) → read_text t ≡ accept rs → Each New (added prefix fs (programs rs))
  all_new t rs h = added_new (programs rs) (values rs (text-sound t rs h))
