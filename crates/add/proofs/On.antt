-- Adding once the leaves are known: 18, 19, and then what is written.
use Prim.Native.Nat.{ℕ, ◌+◌, ◌≤◌, ◌<◌, min}
use mathlib.Core.Path.{◌≡◌, refl, sym, ap, ◌∙◌}
use mathlib.Core.Bool.{Bool, true, false, not, cond}
use mathlib.Core.List.{List, [], ◌∷◌, ◌++◌}
use native.Mathlib.Omega.{arith}
use lib.ListN.{length, drop}
use lib.Dec.{eqb}
use borrow.Author.Tests.{lt-ltb, le-ltb, ne_eqb}
use Rattle.format.specs.Bytes.{none?}
use Rattle.format.specs.Fields.{Field, last_of}
use Rattle.format.specs.Records.{Record}
use Rattle.format.specs.Reading.{accept, read_text}
use Rattle.format.specs.Programs.{Program, programs, links, leaves, ordinal_from}
use Rattle.format.specs.Tidy.{tidy, unwritable, fields_text}
use Rattle.format.specs.Adding.{is_known, added, used}
use Rattle.format.specs.Calls.{refused, then, untangled, writing}
use Rattle.program_ids.specs.Search.{ids_of}
use Rattle.program_ids.proofs.Search.{ordinal-ids}
use Rattle.add_ids.specs.Taken.{is_among, taken}
use Rattle.add_ids.proofs.Used.{used-added, added-count}
use Rattle.add_lines.specs.Lines.{added_text}
use Rattle.add.specs.Added.{with_added, is_none, crowded, adding_on}
use Rattle.add.proofs.Texts.{added-text, tidy-added}

-- what `first_joined` leaves
pub joined-on : (ks : List ℕ) (alone : Bool) → drop (cond alone (min 1 (length ks)) 0) ks ≡ cond alone (drop 1 ks) ks
joined-on [] true = refl
joined-on (k ∷ ks) true = let e : min 1 (length (k ∷ ks)) ≡ 1 = omega arith in ap (λ n. drop n (k ∷ ks)) e
joined-on ks false = refl

pub joined-within : (n : ℕ) (alone : Bool) → cond alone (min 1 n) 0 ≤ n
joined-within n true = omega arith
joined-within n false = omega arith

-- no programs
pub none-count : (ps : List Program) → none? ps ≡ eqb (length ps) 0
unfolding none?
none-count [] = refl
none-count (p ∷ ps) = sym (ne_eqb (length (p ∷ ps)) 0 (omega arith))

module _ (t : List ℕ) (rs : List Record) (reads : read_text t ≡ accept rs) (prefix : List ℕ) (fs : List Field) where
  abbrev ps : List Program
  ps = programs rs

  -- is the prefix free?
  pub free-is : not (is_among prefix (ids_of ps)) ≡ not (is_known (ordinal_from 0 prefix ps))
  unfolding is_among
  free-is = ap (λ o. not (is_known o)) (ordinal-ids prefix 0 ps)

  -- is an ID used already?
  pub taken_is : (alone : Bool) → alone ≡ not (is_known (ordinal_from 0 prefix ps))
      → taken (ids_of ps) prefix (cond alone (drop 1 (leaves (links ps))) (leaves (links ps))) ≡ used ps (programs (added prefix fs ps))
  taken_is alone e = ap (λ a. taken (ids_of ps) prefix (cond a (drop 1 (leaves (links ps))) (leaves (links ps)))) e ∙ sym (used-added t rs reads prefix fs)

  -- how many are added
  pub count-is : cond (eqb (length ps) 0) 1 (length (leaves (links ps))) ≡ length (added prefix fs ps)
  count-is = ap (λ b. cond b 1 (length (leaves (links ps)))) (sym (none-count ps)) ∙ sym (added-count prefix fs ps)

module _ (rs : List Record) (prefix : List ℕ) (fs : List Field) (room : ℕ) where
  pub on-used : used (programs rs) (programs (added prefix fs (programs rs))) ≡ true → adding_on rs prefix fs room ≡ refused 18 0
  unfolding adding_on crowded then untangled
  on-used e = rw e refl

  module _ (e : used (programs rs) (programs (added prefix fs (programs rs))) ≡ false) where
    pub on-many : 1024 < length (programs rs) + length (added prefix fs (programs rs)) → adding_on rs prefix fs room ≡ refused 19 0
    unfolding adding_on crowded then untangled
    on-many h = rw (e, lt-ltb 1024 (length (programs rs) + length (added prefix fs (programs rs))) h) refl

    pub on-few : length (programs rs) + length (added prefix fs (programs rs)) ≤ 1024
        → adding_on rs prefix fs room ≡ writing room (unwritable 0 rs) (tidy (rs ++ added prefix fs (programs rs)))
    unfolding adding_on crowded then untangled
    on-few h = rw (e, le-ltb 1024 (length (programs rs) + length (added prefix fs (programs rs))) h) refl

-- what is written is the tidy text with the new programs
module _ (rs : List Record) (prefix fields : List ℕ) (fs : List Field) (e : fields_text fs ≡ fields) where
  pub written_is : (empty alone linked : Bool) → empty ≡ eqb (length (programs rs)) 0 → alone ≡ not (is_known (ordinal_from 0 prefix (programs rs))) → linked ≡ is_none (last_of 80 80 fs)
      → with_added rs (added_text (ids_of (programs rs)) empty alone linked prefix fields (leaves (links (programs rs)))) ≡ tidy (rs ++ added prefix fs (programs rs))
  written_is empty alone linked p q r =
      ap (with_added rs) (rw (p ∙ sym (none-count (programs rs)), q, r) (sym (added-text (programs rs) prefix fields fs e))) ∙ sym (tidy-added rs prefix fs (programs rs))
