-- What holds of the loop over a text's lines at a line, and one step of it.
use Prim.Native.Nat.{ℕ, ◌+◌, ◌-◌, ◌*◌, ◌≤◌, ◌<◌}
use mathlib.Core.Path.{◌≡◌, refl, sym, ap, ap₂, ◌∙◌}
use mathlib.Core.Bool.{Bool}
use mathlib.Core.List.{List, [], ◌∷◌, ◌++◌, append_assoc}
use native.Mathlib.Omega.{arith}
use lib.ListN.{length, take, drop, length-append, length-drop, drop_of_length-le}
use lib.Seq.{drop-drop, length-take-le, take_at}
use Rattle.format.specs.Lines.{Piece, lines, lines_from}
use Rattle.format.specs.Records as records
use Rattle.format.specs.Records.{Record, header, reference, group, program, comment, code, Line, refused_line, read, others}
use Rattle.format.specs.Reading.{of_kind, admitted, read_on, read_from}
use Rattle.format.specs.Catalogue.{catalogue}
use Rattle.byte_slices.specs.First.{first_line}
use Rattle.byte_slices.specs.Stands.{Stands}
use Rattle.byte_slices.proofs.First.{lines-first, first-le, first-within, first_some}
use Rattle.lists.specs.Pairs.{Pairs}
use Rattle.accepted_rule.specs.Rule.{is_once}
use Rattle.accepted.proofs.Onward.{read_first, read_none}
use Rattle.lists.proofs.Pairs.{pairs-length}
use Rattle.accepted.proofs.OfKind.{of_kind-append}
use Rattle.record.specs.Head.{record_head}
use Rattle.read_admission.specs.Admission.{programs_of}
use Rattle.read_admission.proofs.Programs.{programs-one}
use Rattle.std.specs.Prelude.{Result, Ok, Err}
use Rattle.format.specs.declared.Refusal.{Refusal}
use Rattle.read_judge.specs.declared.Accepted.{Accepted}
use Rattle.read_judge.specs.Judged.{judged_of, judged_by}

-- at the line that starts at `at`, the line number `n`: the lines before it are records
pub record Judging (strict : Bool) (t : List ℕ) (at n programs size : ℕ) : Type 0 where
  pub passed : List Piece
  pub before : List Record
  pub split : lines t ≡ passed ++ lines_from at (drop at t)
  pub pairs : Pairs (λ p r. records.line strict p ≡ read r) passed before
  pub left : read_from strict 0 [] (lines t) ≡ read_from strict n before (lines_from at (drop at t))
  pub counted : length before ≡ n
  pub told : programs ≡ length (of_kind 4 before)
  pub sized : size ≡ length (catalogue before)
  pub inside : at ≤ length t
  pub slow : n ≤ at
  pub small : size ≤ 32 * at

unfoldable pub judging-start : (strict : Bool) (t : List ℕ) → Judging strict t 0 0 0 0
unfolding lines Pairs of_kind catalogue
judging-start strict t =
    record {
      passed = [];
      before = [];
      split = refl;
      pairs = tt;
      left = refl;
      counted = refl;
      told = refl;
      sized = refl;
      inside = omega arith;
      slow = omega arith;
      small = omega arith;
    }

pub pairs-snoc : {A B : Type 0} (R : A → B → Type 0) (xs : List A) (ys : List B) (x : A) (y : B) → Pairs R xs ys → R x y → Pairs R (xs ++ (x ∷ [])) (ys ++ (y ∷ []))
unfolding Pairs
pairs-snoc R [] [] x y p r = (r, tt)
pairs-snoc R [] (b ∷ ys) x y p r = absurd p
pairs-snoc R (a ∷ xs) [] x y p r = absurd p
pairs-snoc R (a ∷ xs) (b ∷ ys) x y p r = (p.0, pairs-snoc R xs ys x y p.1 r)

module _ (strict : Bool) (t : List ℕ) (at n programs size : ℕ) (j : Judging strict t at n programs size) where
  -- no line is left
  pub judging-end : (once : Bool) → is_once t ≡ once → length t ≤ at → ◌≡◌ {A = Result Accepted Refusal} (Ok (record { size = size; once = once })) (judged_by strict t)
  unfolding judged_by judged_of
  judging-end once o h =
      ap₂ answer j.sized (sym o)
      ∙ sym (ap (judged_of (is_once t)) (j.left ∙ ap (λ l. read_from strict n j.before (lines_from at l)) (drop_of_length-le t h) ∙ read_none strict n j.before at))
    where
      answer : ℕ → Bool → Result Accepted Refusal
      answer size once = Ok (record { size = size; once = once })

  pub few-lines : n ≤ length (lines t)
  few-lines = omega (arith, j.counted, pairs-length (λ p r. records.line strict p ≡ read r) j.passed j.before j.pairs, ap length j.split, length-append j.passed (lines_from at (drop at t)))

  pub passed-are : take (length j.before) (lines t) ≡ j.passed
  passed-are =
      ap (take (length j.before)) j.split
      ∙ take_at j.passed (lines_from at (drop at t)) (length j.before) (pairs-length (λ p r. records.line strict p ≡ read r) j.passed j.before j.pairs)

  module _ (h : at < length t) where
    pub some_left : 0 < length (drop at t)
    some_left = omega (arith, length-drop at t)

    pub next-within : at + (first_line (drop at t)).next ≤ length t
    next-within = omega (arith, first-within (drop at t), length-drop at t)

    pub len-within : at + (first_line (drop at t)).len ≤ length t
    len-within = omega (arith, next-within, first-le (drop at t))

    pub next-some : 0 < (first_line (drop at t)).next
    next-some = first_some (drop at t) some_left

    pub len_is : length (take (first_line (drop at t)).len (drop at t)) ≡ (first_line (drop at t)).len
    len_is = length-take-le (first_line (drop at t)).len (drop at t) (omega (arith, len-within, length-drop at t))

    pub line-stands : Stands t 0 (record { at = at; bytes = take (first_line (drop at t)).len (drop at t) })
    line-stands =
        record {
          from = omega arith;
          within = omega (arith, len_is, len-within);
          bytes = ap (λ k. take k (drop at t)) (sym len_is) ∙ ap (λ k. take (length (take (first_line (drop at t)).len (drop at t))) (drop k t)) (let z : at ≡ at - 0 = omega arith in z);
        }

    pub onward : read_from strict 0 [] (lines t)
        ≡ read_on n (λ r. read_from strict (n + 1) (j.before ++ (r ∷ [])) (lines_from (at + (first_line (drop at t)).next) (drop (at + (first_line (drop at t)).next) t)))
        (admitted strict j.before (record { at = at; bytes = take (first_line (drop at t)).len (drop at t) }))
    onward =
        j.left
        ∙ read_first strict n j.before at (drop at t) some_left
        ∙ ap (λ l. read_on n (λ r. read_from strict (n + 1) (j.before ++ (r ∷ [])) (lines_from (at + (first_line (drop at t)).next) l)) (admitted strict j.before (record { at = at; bytes = take (first_line (drop at t)).len (drop at t) })))
        (drop-drop (first_line (drop at t)).next at t)

    -- the line is refused
    pub judging-refused : (m : ℕ) → admitted strict j.before (record { at = at; bytes = take (first_line (drop at t)).len (drop at t) }) ≡ refused_line m
        → ◌≡◌ {A = Result Accepted Refusal} (Err (record { number = m; line = record { 0 = n } })) (judged_by strict t)
    unfolding judged_by judged_of read_on
    judging-refused m e = sym (ap (judged_of (is_once t)) (onward ∙ ap (read_on n (λ r. read_from strict (n + 1) (j.before ++ (r ∷ [])) (lines_from (at + (first_line (drop at t)).next) (drop (at + (first_line (drop at t)).next) t)))) e))

    -- the line is one more record
    module _ (r : Record) (is : records.line strict (record { at = at; bytes = take (first_line (drop at t)).len (drop at t) }) ≡ read r)
        (ok : admitted strict j.before (record { at = at; bytes = take (first_line (drop at t)).len (drop at t) }) ≡ read r)
        (entry : ℕ) (long : length (catalogue (j.before ++ (r ∷ []))) ≡ length (catalogue j.before) + entry) (bound : entry ≤ 32 * (first_line (drop at t)).next) where
      unfoldable pub judging-on : Judging strict t (at + (first_line (drop at t)).next) (n + 1) (programs + programs_of (record_head r)) (size + entry)
      unfolding read_on
      judging-on =
          record {
            passed = j.passed ++ (record { at = at; bytes = take (first_line (drop at t)).len (drop at t) } ∷ []);
            before = j.before ++ (r ∷ []);
            split =
                j.split
                ∙ ap (λ l. j.passed ++ l) (lines-first at (drop at t) some_left ∙ ap (λ l. record { at = at; bytes = take (first_line (drop at t)).len (drop at t) } ∷ lines_from (at + (first_line (drop at t)).next) l) (drop-drop (first_line (drop at t)).next at t))
                ∙ sym (append_assoc j.passed (record { at = at; bytes = take (first_line (drop at t)).len (drop at t) } ∷ []) (lines_from (at + (first_line (drop at t)).next) (drop (at + (first_line (drop at t)).next) t)));
            pairs = pairs-snoc (λ p r. records.line strict p ≡ read r) j.passed j.before (record { at = at; bytes = take (first_line (drop at t)).len (drop at t) }) r j.pairs is;
            left = onward ∙ ap (read_on n (λ r. read_from strict (n + 1) (j.before ++ (r ∷ [])) (lines_from (at + (first_line (drop at t)).next) (drop (at + (first_line (drop at t)).next) t)))) ok;
            counted = omega (arith, length-append j.before (r ∷ []), j.counted);
            told = omega (arith, j.told, programs-one r, ap length (of_kind-append 4 j.before (r ∷ [])), length-append (of_kind 4 j.before) (of_kind 4 (r ∷ [])));
            sized = omega (arith, j.sized, long);
            inside = next-within;
            slow = omega (arith, j.slow, next-some);
            small = omega (arith, j.small, bound);
          }
