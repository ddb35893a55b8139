-- A header and itself: its references agree, and by the list of all ordinals each program is its own image.
use Prim.Native.Nat.{ℕ, ◌+◌, ◌≤◌, ◌<◌}
use mathlib.Core.Path.{◌≡◌, sym, ap, ◌∙◌}
use mathlib.Core.Logic.{◌⊎◌, inl, inr}
use mathlib.Core.Bool.{true, false, false≢true}
use mathlib.Core.List.Memᴰ
use mathlib.Core.List.{List, [], ◌∷◌, ◌++◌, append-nil, Memᴰ}
use native.Mathlib.Omega.{arith}
use lib.ListN.{length}
use Rattle.format.specs.Bytes.{any, same}
use Rattle.format.specs.Lines.{Piece}
use Rattle.format.specs.Fields.{Field}
use Rattle.format.specs.Records.{Record, header, reference, group, program, comment, code, key}
use Rattle.format.specs.Reading.{same_keys, clash}
use Rattle.format.specs.Programs.{Link, root, dangling, child, programs, links, numbers_from}
use Rattle.format.specs.References.{Reference, sq_list}
use Rattle.format.specs.Calls.{yes, records}
use Rattle.byte_slices.proofs.Equal.{same_self}
use Rattle.accepted.specs.Admits.{KeysDiffer}
use Rattle.accepted.specs.Read.{records_of}
use Rattle.lists.proofs.Bools.{or_left, or_right, never}
use Rattle.accepted.proofs.Text.{text-apart}
use Rattle.program_chains.proofs.Leaf.{counting-length}
use Rattle.program_chains.proofs.Paths.{Below}
use Rattle.tidy_laws.proofs.Answered.{read_of}
use Rattle.merge_laws.specs.IsMerge.{Joins, image_in, Hits, Assigns, parent_at, fields_at, Images}
use Rattle.merge_laws.proofs.Joins.{lacking-own}
use Rattle.merge_laws.proofs.Lists.{number-at}
use Rattle.merge_laws.proofs.Links.{links-length, below}

-- ---- references

-- no later record has this name
name-apart : (p : Piece) (n : ℕ) (fs : List Field) (rs : List Record) (q : Reference) → any (clash (reference p n fs)) rs ≡ false → Memᴰ q (sq_list rs) → p.bytes ≡ q.name → ⊥
unfolding any clash code key same_keys sq_list
name-apart p n fs [] q c h e = Memᴰ.not-nil h
name-apart p n fs (header v gs ∷ rs) q c h e = name-apart p n fs rs q c h e
name-apart p n fs (reference o k gs ∷ rs) q c h e = go (Memᴰ.cases_cons h) (name-apart p n fs rs q (or_right (same p.bytes o.bytes) (any (clash (reference p n fs)) rs) c))
  where
    go : (q ≡ record { name = o.bytes; size = k }) ⊎ Memᴰ q (sq_list rs) → (Memᴰ q (sq_list rs) → p.bytes ≡ q.name → ⊥) → ⊥
    go (inl i) ih =
        let s : p.bytes ≡ o.bytes = e ∙ ap (λ r. r.name) i in
        false≢true (sym (or_left (same p.bytes o.bytes) (any (clash (reference p n fs)) rs) c) ∙ ap (λ b. same b o.bytes) s ∙ same_self o.bytes)
    go (inr i) ih = ih i e
name-apart p n fs (group o gs ∷ rs) q c h e = name-apart p n fs rs q c h e
name-apart p n fs (program o gs ∷ rs) q c h e = name-apart p n fs rs q c h e
name-apart p n fs (comment o ∷ rs) q c h e = name-apart p n fs rs q c h e

-- one name, one length
one-length : (rs : List Record) → KeysDiffer rs → (r q : Reference) → Memᴰ r (sq_list rs) → Memᴰ q (sq_list rs) → r.name ≡ q.name → r.size ≡ q.size
unfolding KeysDiffer sq_list
one-length [] d r q g h e = absurd (Memᴰ.not-nil g)
one-length (header v fs ∷ rs) d r q g h e = one-length rs d.1 r q g h e
one-length (reference p n fs ∷ rs) d r q g h e = go (Memᴰ.cases_cons g) (Memᴰ.cases_cons h) (one-length rs d.1 r q)
  where
    go : (r ≡ record { name = p.bytes; size = n }) ⊎ Memᴰ r (sq_list rs) → (q ≡ record { name = p.bytes; size = n }) ⊎ Memᴰ q (sq_list rs)
        → (Memᴰ r (sq_list rs) → Memᴰ q (sq_list rs) → r.name ≡ q.name → r.size ≡ q.size) → r.size ≡ q.size
    go (inl i) (inl j) ih = ap (λ r. r.size) (i ∙ sym j)
    go (inl i) (inr j) ih = absurd (name-apart p n fs rs q d.0 j (sym (ap (λ r. r.name) i) ∙ e))
    go (inr i) (inl j) ih = absurd (name-apart p n fs rs r d.0 i (sym (ap (λ r. r.name) j) ∙ sym e))
    go (inr i) (inr j) ih = ih i j e
one-length (group p fs ∷ rs) d r q g h e = one-length rs d.1 r q g h e
one-length (program p fs ∷ rs) d r q g h e = one-length rs d.1 r q g h e
one-length (comment p ∷ rs) d r q g h e = one-length rs d.1 r q g h e

pub own-joins : (t : List ℕ) → records t ≡ yes (records_of t) → Joins (sq_list (records_of t)) (sq_list (records_of t)) (sq_list (records_of t))
own-joins t e =
    let a : List Reference = sq_list (records_of t) in
    record { agree = one-length (records_of t) (text-apart t (records_of t) (read_of t (records_of t) e)); list = sym (append-nil a) ∙ ap (λ l. a ++ l) (sym (lacking-own a)) }

-- ---- the list of all ordinals

module _ (n : ℕ) where
  own-image : (k : ℕ) → k < n → image_in (numbers_from 0 n) k ≡ k
  unfolding image_in
  own-image k h = number-at n k h

  pub own-assigns : (m : ℕ) → n ≤ m → Assigns n m (numbers_from 0 n)
  own-assigns m g =
      record {
        count = counting-length 0 n;
        valid = λ k h. omega (arith, own-image k h);
        once = λ j k f h e. omega (arith, own-image j f, own-image k h);
      }

  pub own-hits : (i : ℕ) → i < n → Hits (numbers_from 0 n) i
  unfolding Hits
  own-hits i h = (i, omega (arith, counting-length 0 n), own-image i h)

-- the programs of `a` are at the same places in `m`
module _ (a m : List Record) (fields : (k : ℕ) → k < length (programs a) → fields_at m k ≡ fields_at a k)
    (parents : (k : ℕ) → k < length (programs a) → parent_at m k ≡ parent_at a k) where
  abbrev n : ℕ
  n = length (programs a)

  own-parent : (k p : ℕ) → parent_at a k ≡ child p → p < n
  unfolding parent_at
  own-parent k p e = go (parent_at a k) e (below (programs a) k)
    where
      go : (l : Link) → l ≡ child p → Below (length (links (programs a))) l → p < n
      go root e b = absurd (never (cc))
      go dangling e b = absurd (never (cc))
      go (child j) e b = let q : j ≡ p = cc in omega (arith, links-length (programs a))

  pub own-images : Images a m (numbers_from 0 n)
  unfolding Images
  own-images k h =
      let i : image_in (numbers_from 0 n) k ≡ k = own-image n k h in
      let same-parent : parent_at m (image_in (numbers_from 0 n) k) ≡ parent_at a k = ap (parent_at m) i ∙ parents k h in
      record {
        same_fields = ap (fields_at m) i ∙ fields k h;
        same_root = (λ e. same-parent ∙ e, λ e. sym same-parent ∙ e);
        parent = λ p e. same-parent ∙ e ∙ ap child (sym (own-image n p (own-parent k p e)));
      }
