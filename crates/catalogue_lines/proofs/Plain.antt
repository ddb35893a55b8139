-- An accepted SQ with SN and LN alone: its kind is told by its second byte, and its own entry is all that it has.
use Prim.Native.Nat.{ℕ, ◌+◌}
use mathlib.Core.Path.{◌≡◌, refl, sym, ap, ◌∙◌}
use mathlib.Core.Bool.{Bool, true, false, cond}
use mathlib.Core.List.{List, [], ◌∷◌, ◌++◌, append-nil}
use mathlib.Core.Option.{none, some}
use native.Mathlib.Omega.{arith}
use lib.ListN.{length, drop, get_or}
use lib.Dec.{eqb}
use Rattle.format.specs.Bytes.{any}
use Rattle.format.specs.Fields.{Field}
use Rattle.format.specs.Records.{others, Line, refused_line, read, fielded, body, bodied, kind_of, kinded, prefixed, breaks, line}
use Rattle.format.specs.Catalogue.{tails}
use Rattle.format.specs.declared.Kind.TheVariants.{ReferenceSequence}
use Rattle.accepted.specs.Read.{is_read}
use Rattle.lists.proofs.Bools.{never}
use Rattle.accepted_line.proofs.Lax.{line-lax, read-lax}
use Rattle.record.specs.Head.{record_head, head_of}
use Rattle.catalogue_entries.specs.Entries.{entry_bytes}
use Rattle.catalogue_entries.specs.declared.Entry.TheVariants as entry
use Rattle.catalogue_lines.specs.Line.{record_bytes, line_bytes}
use Rattle.catalogue_lines.specs.Parts.{own_entry, plain_head, others_of}
use Rattle.catalogue_lines.specs.declared.PlainLine.{PlainLine}
use Rattle.std.specs.Prelude.{Option, Some}
use Rattle.catalogue_lines.proofs.Records.{own-bytes, own-others}

-- ---- the kind

-- a test on the way to an accepted line was passed
passed : (t : Bool) (x : Line) (n : ℕ) → is_read (cond t x (refused_line n)) ≡ true → cond t x (refused_line n) ≡ x
unfolding is_read
passed true x n h = refl
passed false x n h = absurd (never (cc))

sequence-kind : (a b : ℕ) → a ≡ 83 → kind_of a b ≡ cond (eqb b 81) (some ReferenceSequence) none
unfolding kind_of
sequence-kind a b e = rw e refl

module _ (strict : Bool) where
  sequence-kinded : (at : ℕ) (s : List ℕ) → get_or s 0 0 ≡ 83 → is_read (kinded strict at s) ≡ true → kinded strict at s ≡ fielded strict ReferenceSequence (at + 2) (drop 2 s)
  unfolding is_read kinded bodied body
  sequence-kinded at [] e h = absurd (never (cc))
  sequence-kinded at (a ∷ []) e h = absurd (never (cc))
  sequence-kinded at (a ∷ b ∷ s) e h =
      let q = sequence-kind a b e in
      ap (bodied strict (at + 2) s) q ∙ go (eqb b 81) (sym (ap (λ k. is_read (bodied strict (at + 2) s k)) q) ∙ h)
    where
      go : (t : Bool) → is_read (bodied strict (at + 2) s (cond t (some ReferenceSequence) none)) ≡ true → bodied strict (at + 2) s (cond t (some ReferenceSequence) none) ≡ fielded strict ReferenceSequence (at + 2) s
      go true h = refl
      go false h = absurd (never (cc))

  sequence-prefixed : (at : ℕ) (s : List ℕ) → get_or s 1 0 ≡ 83 → is_read (prefixed strict at s) ≡ true → prefixed strict at s ≡ fielded strict ReferenceSequence (at + 3) (drop 3 s)
  unfolding is_read prefixed
  sequence-prefixed at [] e h = absurd (never (cc))
  sequence-prefixed at (b ∷ s) e h =
      let q = passed (eqb b 64) (kinded strict (at + 1) s) 3 h in
      let n : at + 1 + 2 ≡ at + 3 = omega arith in
      q ∙ sequence-kinded (at + 1) s e (sym (ap is_read q) ∙ h) ∙ ap (λ n. fielded strict ReferenceSequence n (drop 2 s)) n

  pub sequence-line : (at : ℕ) (s : List ℕ) → get_or s 1 0 ≡ 83 → is_read (line strict (record { at = at; bytes = s })) ≡ true
      → line strict (record { at = at; bytes = s }) ≡ fielded strict ReferenceSequence (at + 3) (drop 3 s)
  unfolding is_read line
  sequence-line at s e h = go (any breaks s) h
    where
      go : (t : Bool) → is_read (cond t (refused_line 2) (prefixed strict at s)) ≡ true → cond t (refused_line 2) (prefixed strict at s) ≡ fielded strict ReferenceSequence (at + 3) (drop 3 s)
      go true h = absurd (never (cc))
      go false h = sequence-prefixed at s e h

-- ---- the entry

no-tails : (fs : List Field) → length fs ≡ 0 → tails fs ≡ []
unfolding tails
no-tails [] e = refl
no-tails (f ∷ fs) e = absurd (omega arith)

-- a record with no other fields has its own entry alone
pub alone : (n : ℕ) (x : Line) → is_read x ≡ true → others_of (head_of x) ≡ 0 → record_bytes n x ≡ entry_bytes (own_entry n (head_of x))
unfolding is_read record_bytes head_of
alone n (refused_line k) h e = absurd (never (cc))
alone n (read r) h e = ap (λ l. l ++ tails (others r)) (sym (own-bytes n r)) ∙ ap (λ l. entry_bytes (own_entry n (record_head r)) ++ l) (no-tails (others r) (sym (own-others r) ∙ e)) ∙ append-nil _

-- so has a line that is recognised
pub plain-bytes : (strict : Bool) (n at : ℕ) (s : List ℕ) → is_read (line strict (record { at = at; bytes = s })) ≡ true → (x : Option PlainLine) (p : PlainLine) → x ≡ Some p
    → plain_head (head_of (line false (record { at = at; bytes = s }))) x ≡ head_of (line false (record { at = at; bytes = s })) → line_bytes strict n at s ≡ entry_bytes (entry.ReferenceSequence p.name p.length n)
unfolding plain_head own_entry others_of
plain-bytes strict n at s h x p d e =
    let y = line false (record { at = at; bytes = s }) in
    let q = sym e ∙ ap (plain_head (head_of y)) d in
    ap (record_bytes n) (line-lax strict (record { at = at; bytes = s }) h) ∙ alone n y (read-lax strict (record { at = at; bytes = s }) h) (ap others_of q) ∙ ap (λ h. entry_bytes (own_entry n h)) q
