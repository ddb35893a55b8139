-- An accepted text, line by line: each line is read, and a step takes the first line of what is left.
use Prim.Native.Nat.{ℕ, ◌+◌, ◌-◌, ◌≤◌, ◌<◌}
use mathlib.Core.Path.{◌≡◌, refl, sym, ap, ◌∙◌}
use mathlib.Core.Bool.{Bool, true}
use mathlib.Core.List.{List, [], ◌∷◌}
use lib.ListN.{length, take, drop}
use Rattle.format.specs.Lines.{Piece, lines}
use Rattle.format.specs.Records.{Record, read, line}
use Rattle.format.specs.Reading.{accept, read_text}
use Rattle.byte_slices.specs.First.{first_line}
use Rattle.byte_slices.specs.declared.Cut.{Cut}
use Rattle.lists.specs.Pairs.{Pairs}
use Rattle.accepted.specs.Read.{is_accepted, is_read, records_of}
use Rattle.lists.proofs.Bools.{and_left, and_right}
use Rattle.accepted.proofs.Text.{text-fits}
use Rattle.accepted_rule.specs.Rule.{ReadsBy}
use Rattle.accepted_rule.proofs.Rule.{lines-by}
use Rattle.accepted.proofs.Read.{accepted-reads}
use Rattle.accepted.proofs.Ahead.{lent, ahead, ahead-turn, ahead_none}
use Rattle.tidy_text.specs.Accepted.{with_record, line_records, all_read, records_from}

-- ---- all lines

pairs-records : (strict : Bool) (ps : List Piece) (rs : List Record) → Pairs (λ p r. line strict p ≡ read r) ps rs → (line_records strict ps ≡ rs) × (all_read strict ps ≡ true)
unfolding Pairs line_records all_read with_record is_read
pairs-records strict [] [] h = (refl, refl)
pairs-records strict [] (r ∷ rs) h = absurd h
pairs-records strict (p ∷ ps) [] h = absurd h
pairs-records strict (p ∷ ps) (r ∷ rs) h =
    let i = pairs-records strict ps rs h.1 in
    (rw h.0 (ap (λ l. r ∷ l) i.0), rw h.0 i.1)

-- before the first step
pub record Opened (strict : Bool) (t : List ℕ) : Type 0 where
  pub fits : length t ≤ 16777216
  pub reads : read_text t ≡ accept (records_of t)
  pub records : records_from strict t 0 ≡ records_of t
  pub lines : all_read strict (ahead t 0) ≡ true

pub opened : (strict : Bool) (t : List ℕ) → is_accepted (read_text t) ≡ true → ReadsBy strict t → Opened strict t
unfolding lines
opened strict t h s =
    let e = accepted-reads t h in
    let p = pairs-records strict (lines t) (records_of t) (lines-by strict t (records_of t) e s) in
    record { fits = text-fits t (records_of t) e; reads = e; records = p.0; lines = p.1 }

-- ---- one step

-- the first line of what is left, at `at`, was cut to `c`
pub record Turn (strict : Bool) (t : List ℕ) (at : ℕ) (c : Cut) : Type 0 where
  pub inside : at + c.len ≤ length t
  pub onward : 0 < c.next
  pub within : at + c.next ≤ length t
  pub size : length (lent t at c.len) ≡ c.len
  pub read : is_read (line strict (record { at = at; bytes = lent t at c.len })) ≡ true
  pub records : records_from strict t at ≡ with_record (line strict (record { at = at; bytes = lent t at c.len })) (records_from strict t (at + c.next))
  pub rest : all_read strict (ahead t (at + c.next)) ≡ true

pub turn : (strict : Bool) (t : List ℕ) (at : ℕ) → at < length t → all_read strict (ahead t at) ≡ true
    → (c : Cut) → c ≡ first_line (take (length t - at) (drop at t)) → Turn strict t at c
unfolding all_read line_records
turn strict t at h ok c e =
    let a = ahead-turn t at h c e in
    let all = sym (ap (all_read strict) a.split) ∙ ok in
    record {
      inside = a.inside;
      onward = a.onward;
      within = a.within;
      size = a.size;
      read = and_left (is_read (line strict (record { at = at; bytes = lent t at c.len }))) (all_read strict (ahead t (at + c.next))) all;
      records = ap (line_records strict) a.split;
      rest = and_right (is_read (line strict (record { at = at; bytes = lent t at c.len }))) (all_read strict (ahead t (at + c.next))) all;
    }

-- after the last
pub ended : (strict : Bool) (t : List ℕ) (at : ℕ) → length t ≤ at → records_from strict t at ≡ []
unfolding line_records
ended strict t at h = ap (line_records strict) (ahead_none t at h)
