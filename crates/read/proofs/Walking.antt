-- The lines of an accepted text, one after another: the records before a line, and those from it on.
use Prim.Native.Nat.{ℕ, ◌+◌, ◌-◌, ◌≤◌, ◌<◌}
use mathlib.Core.Path.{◌≡◌, refl, sym, ap, subst, ◌∙◌}
use mathlib.Core.Bool.{Bool, true}
use mathlib.Core.List.{List, [], ◌∷◌, ◌++◌, append_assoc, append-nil}
use native.Mathlib.Omega.{arith}
use lib.ListN.{length, take, drop, length-append, length-take, length-drop, drop_of_length-le}
use lib.Seq.{drop-drop}
use Rattle.format.specs.Lines.{lines, lines_from}
use Rattle.format.specs.Records as records
use Rattle.format.specs.Records.{Record, Line, refused_line, read}
use Rattle.byte_slices.specs.First.{first_line}
use Rattle.byte_slices.specs.declared.Cut.{Cut}
use Rattle.byte_slices.proofs.Lines.{lines_none}
use Rattle.byte_slices.proofs.First.{lines-first, first-le, first-within, first_some}
use Rattle.byte_slices.proofs.Before.{rest}
use Rattle.lists.specs.Pairs.{Pairs}
use Rattle.accepted.proofs.Text.{text-fits}
use Rattle.accepted_rule.proofs.Rule.{lines-by}
use Rattle.accepted.specs.Read.{is_read, records_of}
use Rattle.read.specs.Accepted.{AcceptedText}

-- at the line that starts at `at`; each line before it has a byte at least
pub record Walking (strict : Bool) (t : List ℕ) (at : ℕ) : Type 0 where
  pub done : List Record
  pub rest : List Record
  pub whole : records_of t ≡ done ++ rest
  pub ahead : Pairs (λ p r. records.line strict p ≡ read r) (lines_from at (drop at t)) rest
  pub inside : at ≤ length t
  pub few : length done ≤ at

pub text-size : (strict : Bool) (t : List ℕ) → AcceptedText strict t → length t ≤ 16777216
text-size strict t a = text-fits t (records_of t) a.reads

unfoldable pub walking_start : (strict : Bool) (t : List ℕ) → AcceptedText strict t → Walking strict t 0
unfolding lines
walking_start strict t a =
    record {
      done = [];
      rest = records_of t;
      whole = refl;
      ahead = lines-by strict t (records_of t) a.reads a.rule;
      inside = omega arith;
      few = omega arith;
    }

module _ (strict : Bool) (t : List ℕ) (at : ℕ) (w : Walking strict t at) where
  -- no line is left
  pub walking-end : length t ≤ at → records_of t ≡ w.done
  unfolding Pairs
  walking-end h = w.whole ∙ none w.rest (subst (λ l. Pairs (λ p r. records.line strict p ≡ read r) l w.rest) (ap (lines_from at) (drop_of_length-le t h) ∙ lines_none at) w.ahead)
    where
      none : (rs : List Record) → Pairs (λ p r. records.line strict p ≡ read r) [] rs → w.done ++ rs ≡ w.done
      none [] p = append-nil w.done
      none (r ∷ rs) p = absurd p

  module _ (h : at < length t) where
    some_left : 0 < length (drop at t)
    some_left = omega (arith, length-drop at t)

    next-in : at + (first_line (drop at t)).next ≤ length t
    next-in = omega (arith, first-within (drop at t), length-drop at t)

    len-in : at + (first_line (drop at t)).len ≤ length t
    len-in = omega (arith, next-in, first-le (drop at t))

    next_more : 0 < (first_line (drop at t)).next
    next_more = first_some (drop at t) some_left

    -- the next line is the next record
    pub record Turn : Type 0 where
      pub here : Record
      pub others : List Record
      pub rest-is : w.rest ≡ here ∷ others
      pub line-is : records.line strict (record { at = at; bytes = take (first_line (drop at t)).len (drop at t) }) ≡ read here
      pub next : Walking strict t (at + (first_line (drop at t)).next)
      pub done-is : next.done ≡ w.done ++ (here ∷ [])
      pub count-is : length next.done ≡ length w.done + 1
      pub whole_is : records_of t ≡ (w.done ++ (here ∷ [])) ++ others

    walking-turn : Turn
    unfolding Pairs
    walking-turn = go w.rest refl (subst (λ l. Pairs (λ p r. records.line strict p ≡ read r) l w.rest) opened w.ahead)
      where
        opened : lines_from at (drop at t) ≡ record { at = at; bytes = take (first_line (drop at t)).len (drop at t) } ∷ lines_from (at + (first_line (drop at t)).next) (drop (at + (first_line (drop at t)).next) t)
        opened =
            lines-first at (drop at t) some_left
            ∙ ap (λ l. record { at = at; bytes = take (first_line (drop at t)).len (drop at t) } ∷ lines_from (at + (first_line (drop at t)).next) l) (drop-drop (first_line (drop at t)).next at t)

        go : (rs : List Record) → w.rest ≡ rs
            → Pairs (λ p r. records.line strict p ≡ read r) (record { at = at; bytes = take (first_line (drop at t)).len (drop at t) } ∷ lines_from (at + (first_line (drop at t)).next) (drop (at + (first_line (drop at t)).next) t)) rs → Turn
        go [] e p = absurd p
        go (r ∷ rs) e p =
            let all : records_of t ≡ (w.done ++ (r ∷ [])) ++ rs = w.whole ∙ ap (λ l. w.done ++ l) e ∙ sym (append_assoc w.done (r ∷ []) rs) in
            record {
              here = r;
              others = rs;
              rest-is = e;
              line-is = p.0;
              next = record {
                done = w.done ++ (r ∷ []);
                rest = rs;
                whole = all;
                ahead = p.1;
                inside = next-in;
                few = omega (arith, w.few, next_more, length-append w.done (r ∷ []));
              };
              done-is = refl;
              count-is = length-append w.done (r ∷ []);
              whole_is = all;
            }

-- the next line as it is cut off and lent
pub record Lent (strict : Bool) (t : List ℕ) (at : ℕ) (w : Walking strict t at) (h : at < length t) (cut : Cut) : Type 0 where
  pub cut-is : cut ≡ first_line (drop at t)
  pub turn : Turn strict t at w h
  pub inside : (at + cut.len ≤ length t) × (at + cut.next ≤ length t) × (0 < cut.next)
  pub line-is : records.line strict (record { at = at; bytes = take (at + cut.len - at) (drop at t) }) ≡ read turn.here
  pub accepted : is_read (records.line strict (record { at = at; bytes = take (at + cut.len - at) (drop at t) })) ≡ true
  pub fits : at + length (take (at + cut.len - at) (drop at t)) ≤ 16777216

pub lent : (strict : Bool) (t : List ℕ) (at : ℕ) (w : Walking strict t at) (h : at < length t) (cut : Cut) → AcceptedText strict t → cut ≡ first_line (take (length t - at) (drop at t)) → Lent strict t at w h cut
unfolding is_read
lent strict t at w h cut a e =
    let told : cut ≡ first_line (drop at t) = e ∙ ap first_line (rest at t) in
    let turn : Turn strict t at w h = walking-turn strict t at w h in
    let n : at + cut.len - at ≡ cut.len = omega arith in
    let is : records.line strict (record { at = at; bytes = take (at + cut.len - at) (drop at t) }) ≡ read turn.here =
    ap (λ m. records.line strict (record { at = at; bytes = take m (drop at t) })) (n ∙ ap (λ c. c.len) told) ∙ turn.line-is in
    let len : at + cut.len ≤ length t = rw told (len-in strict t at w h) in
    record {
      cut-is = told;
      turn = turn;
      inside = (len, rw told (next-in strict t at w h), rw told (next_more strict t at w h));
      line-is = is;
      accepted = ap is_read is;
      fits = omega (arith, length-take (at + cut.len - at) (drop at t), len, text-size strict t a);
    }
