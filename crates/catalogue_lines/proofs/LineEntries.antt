-- The entries of an accepted line: its own, and then those of its other fields.
use Prim.Native.Nat.{ℕ, ◌+◌, ◌^◌, ◌≤◌, ◌<◌}
use mathlib.Core.Path.{◌≡◌, refl, sym, ap, ◌∙◌}
use mathlib.Core.Bool.{Bool, true, false}
use mathlib.Core.List.{List, [], ◌++◌}
use native.Mathlib.Omega.{arith}
use lib.ListN.{length, get_or}
use Rattle.format.specs.Records.{Record, header, reference, group, program, comment, others, read, line}
use Rattle.format.specs.Catalogue.{tails}
use Rattle.format.specs.declared.Kind.{Kind}
use Rattle.format.specs.declared.Kind.TheVariants as kinds
use Rattle.accepted.specs.Sound.{kind}
use Rattle.accepted.specs.Spelled as sp
use Rattle.accepted.specs.Spelled.{AcceptedLine}
use Rattle.accepted.specs.Read.{is_read}
use Rattle.lists.proofs.Bools.{never}
use Rattle.accepted.proofs.Spelled.{line-accepted}
use Rattle.record.specs.Head.{record_head, head_of}
use Rattle.record.specs.declared.Head.{Head}
use Rattle.record.specs.declared.Head.TheVariants as heads
use Rattle.accepted_line.specs.Run.{fields_of}
use Rattle.accepted_line.proofs.fields.Start.{accepted-others}
use Rattle.accepted_line.specs.Found.{kind_by, is_comment, uncounted}
use Rattle.accepted_line.proofs.Finds.{accepted-byte, by-record}
use Rattle.catalogue_entries.specs.declared.Entry.{Entry}
use Rattle.catalogue_entries.specs.Entries.{kind_byte, kind_size, entry_size, entry_bytes, FitsEntry}
use Rattle.catalogue_lines.specs.Line.{record_bytes, line_bytes}
use Rattle.catalogue_lines.specs.Parts.{own_entry, own_size, field_bytes}
use Rattle.catalogue_lines.proofs.Records.{own-entry, own-bytes}
use Rattle.catalogue_lines.proofs.Fitting.{head-fits}
use Rattle.catalogue_lines.proofs.Entries.{entry-then}

-- the number of other fields says nothing of the own entry
pub own-uncounted : (l : ℕ) (h : Head) → own_entry l (uncounted h) ≡ own_entry l h
unfolding own_entry uncounted
own-uncounted k (heads.Refused n) = refl
own-uncounted k (heads.Header v n) = refl
own-uncounted k (heads.ReferenceSequence p l n) = refl
own-uncounted k (heads.ReadGroup p n) = refl
own-uncounted k (heads.Program p n) = refl
own-uncounted k (heads.Comment p) = refl

-- its size goes by the kind
own-long : (l : ℕ) (r : Record) → entry_size (own_entry l (record_head r)) ≡ own_size (kind r)
unfolding own_entry record_head kind entry_size kind_byte kind_size
own-long l (header v fs) = refl
own-long l (reference p n fs) = refl
own-long l (group p fs) = refl
own-long l (program p fs) = refl
own-long l (comment p) = refl

-- what follows it
accepted-rest : (strict : Bool) (at : ℕ) (s : List ℕ) (r : Record) → AcceptedLine strict at s r → is_comment (kind r) ≡ false → tails (others r) ≡ field_bytes (kind r) at s 3
unfolding kind field_bytes fields_of
accepted-rest strict at s r (sp.of-remark t) n = absurd (never (cc))
accepted-rest strict at s r (sp.of_fields a) n = sym (ap tails (accepted-others strict at s r a))

no-rest : (r : Record) → kind r ≡ kinds.Comment → tails (others r) ≡ []
unfolding kind others tails
no-rest (header v fs) e = absurd (never (cc))
no-rest (reference p n fs) e = absurd (never (cc))
no-rest (group p fs) e = absurd (never (cc))
no-rest (program p fs) e = absurd (never (cc))
no-rest (comment p) e = refl

module _ (n at : ℕ) (s : List ℕ) (h : is_read (line false (record { at = at; bytes = s })) ≡ true) where
  abbrev pub own : Entry
  own = own_entry n (head_of (line false (record { at = at; bytes = s })))

  pub own-fits : n < 2 ^ 32 → at + length s ≤ 16777216 → FitsEntry own
  unfolding head_of
  own-fits b fit = by-record false at s h (λ l. FitsEntry (own_entry n (head_of l))) (λ r e. rw (own-entry n r) (head-fits false (record { at = at; bytes = s }) r e fit n b))

  pub own-size : (k : Kind) → kind_by (get_or s 1 0) ≡ k → entry_size own ≡ own_size k
  unfolding head_of
  own-size k e = by-record false at s h (λ l. entry_size (own_entry n (head_of l)) ≡ own_size k) (λ r d. own-long n r ∙ ap own_size (sym (byte r d) ∙ e))
    where
      byte : (r : Record) → line false (record { at = at; bytes = s }) ≡ read r → kind_by (get_or s 1 0) ≡ kind r
      byte r d = (accepted-byte false at s r (line-accepted false (record { at = at; bytes = s }) r d)).1

  parts : (rest : List ℕ) → ((r : Record) → line false (record { at = at; bytes = s }) ≡ read r → tails (others r) ≡ rest) → line_bytes false n at s ≡ entry_bytes own ++ rest
  unfolding record_bytes head_of
  parts rest f = by-record false at s h (λ l. record_bytes n l ≡ entry_bytes (own_entry n (head_of l)) ++ rest) (λ r d. ap (λ l. l ++ tails (others r)) (sym (own-bytes n r)) ∙ ap (λ l. entry_bytes (own_entry n (record_head r)) ++ l) (f r d))

  -- a line of fields
  pub line-bytes : (k : Kind) → kind_by (get_or s 1 0) ≡ k → is_comment k ≡ false → line_bytes false n at s ≡ entry_bytes own ++ field_bytes k at s 3
  line-bytes k e c =
      parts (field_bytes k at s 3)
      (λ r d.
      let a = line-accepted false (record { at = at; bytes = s }) r d in
      let b : kind r ≡ k = sym (accepted-byte false at s r a).1 ∙ e in
      accepted-rest false at s r a (ap is_comment b ∙ c) ∙ ap (λ k. field_bytes k at s 3) b)

  -- a comment
  pub comment-bytes : kind_by (get_or s 1 0) ≡ kinds.Comment → line_bytes false n at s ≡ entry_bytes own ++ []
  comment-bytes e = parts [] (λ r d. no-rest r (sym (accepted-byte false at s r (line-accepted false (record { at = at; bytes = s }) r d)).1 ∙ e))

  pub comment-long : kind_by (get_or s 1 0) ≡ kinds.Comment → length (line_bytes false n at s) ≡ 13
  comment-long e = omega (arith, entry-then own _ _ (comment-bytes e), own-size kinds.Comment e)
