-- An accepted line that is its record's text.
use Prim.Native.Nat.{ℕ}
use mathlib.Core.Path.{◌≡◌, refl, sym, ap, ◌∙◌}
use mathlib.Core.Bool.{true, false}
use mathlib.Core.List.{List, [], ◌∷◌, ◌++◌}
use lib.ListN.{get_or}
use Rattle.format.specs.Fields.{Field, repeats}
use Rattle.format.specs.Records.{Record, line}
use Rattle.format.specs.Tidy.{record_text, is_writable}
use Rattle.format.specs.declared.Kind.{Kind}
use Rattle.format.specs.declared.Kind.TheVariants.{Comment}
use Rattle.accepted.specs.Read.{is_read}
use Rattle.accepted.specs.Spelled as sp
use Rattle.accepted.specs.Spelled.{Made, Spelled, AcceptedLine}
use Rattle.accepted.specs.Sound.{kind}
use Rattle.lists.proofs.Bools.{never}
use Rattle.accepted.proofs.Spelled.{line-accepted}
use Rattle.accepted_line.specs.Run.{fields_of, AtField}
use Rattle.accepted_line.proofs.fields.Start.{accepted-fields}
use Rattle.accepted_line.specs.Found.{kind_by}
use Rattle.accepted_line.proofs.Finds.{accepted-byte, by-record}
use Rattle.tidy_neat.specs.Neat.{neat, ready}
use Rattle.tidy_line.proofs.Neat.{neat-text}
use Rattle.tidy_line.proofs.Ready.{ready-neat}
use Rattle.tidy_line.specs.Line.{line_text, line_writable}

-- where no tag is repeated, the line is accepted where that is forbidden
pub once-spelled : (at : ℕ) (s : List ℕ) (r : Record) → Spelled false at s r → AtField true at s 3 → Spelled true at s r
unfolding fields_of
once-spelled at s r a h = record {
  kind = a.kind;
  rest = a.rest;
  fields = a.fields;
  spells = a.spells;
  each = a.each;
  once = sym (ap repeats (accepted-fields false at s r a)) ∙ h.once;
  made = a.made;
}

once-accepted : (at : ℕ) (s : List ℕ) (r : Record) → AcceptedLine false at s r → AtField true at s 3 → AcceptedLine true at s r
once-accepted at s r (sp.of-remark t) h = sp.of-remark t
once-accepted at s r (sp.of_fields a) h = sp.of_fields (once-spelled at s r a h)

-- a comment is no line of fields
no-comment : (fs : List Field) (k : Kind) (r : Record) → Made fs k r → kind r ≡ Comment → ⊥
unfolding kind
no-comment fs k r (sp.of-header p v e g) q = never (cc)
no-comment fs k r (sp.of-reference p n e g) q = never (cc)
no-comment fs k r (sp.of-group p e) q = never (cc)
no-comment fs k r (sp.of-program p e) q = never (cc)

remark-text : (at : ℕ) (s : List ℕ) (r : Record) → AcceptedLine false at s r → kind r ≡ Comment → (record_text r ≡ s ++ (10 ∷ [])) × (is_writable r ≡ true)
unfolding record_text is_writable
remark-text at s r (sp.of-remark t) q = (refl, refl)
remark-text at s r (sp.of_fields a) q = absurd (no-comment a.fields a.kind r a.made q)

module _ (at : ℕ) (s : List ℕ) (h : is_read (line false (record { at = at; bytes = s })) ≡ true) where
  pub whole-text : AtField true at s 3 → (k : Kind) → kind_by (get_or s 1 0) ≡ k → neat k s ≡ true → line_text (line false (record { at = at; bytes = s })) ≡ s ++ (10 ∷ [])
  unfolding line_text
  whole-text o k e n =
      by-record false at s h (λ l. line_text l ≡ s ++ (10 ∷ []))
      (λ r d. neat-text at s r (once-accepted at s r (line-accepted false (record { at = at; bytes = s }) r d) o) (ap (λ k. neat k s) e ∙ n))

  -- a line that is ready is, and can be written
  pub ready-text : AtField true at s 3 → (k : Kind) → kind_by (get_or s 1 0) ≡ k → ready k s ≡ true
      → (line_text (line false (record { at = at; bytes = s })) ≡ s ++ (10 ∷ [])) × (line_writable (line false (record { at = at; bytes = s })) ≡ true)
  unfolding line_text line_writable
  ready-text o k e n =
      by-record false at s h (λ l. (line_text l ≡ s ++ (10 ∷ [])) × (line_writable l ≡ true))
      (λ r d.
      let a = once-accepted at s r (line-accepted false (record { at = at; bytes = s }) r d) o in
      let f = ready-neat at s r a (ap (λ k. ready k s) e ∙ n) in
      (neat-text at s r a f.0, f.1))

  -- a comment is, and can be written
  pub comment-text : kind_by (get_or s 1 0) ≡ Comment → (line_text (line false (record { at = at; bytes = s })) ≡ s ++ (10 ∷ [])) × (line_writable (line false (record { at = at; bytes = s })) ≡ true)
  unfolding line_text line_writable
  comment-text e =
      by-record false at s h (λ l. (line_text l ≡ s ++ (10 ∷ [])) × (line_writable l ≡ true))
      (λ r d.
      let a = line-accepted false (record { at = at; bytes = s }) r d in
      remark-text at s r a (sym (accepted-byte false at s r a).1 ∙ e))
