-- The next line, judged after the lines that were kept before it, and the lines after it.
use Prim.Native.Nat.{ℕ, ◌+◌, ◌-◌, ◌≤◌, ◌<◌}
use mathlib.Core.Path.{◌≡◌, sym, ap, ◌∙◌}
use mathlib.Core.Bool.{Bool}
use mathlib.Core.List.{List, [], ◌∷◌, ◌++◌, append-nil}
use native.Mathlib.Omega.{arith}
use lib.ListN.{length, take, drop, length-append}
use lib.Seq.{take_at, drop_at, drop-drop, take-add}
use Rattle.format.specs.Lines.{Piece}
use Rattle.format.specs.Records.{Line, line}
use Rattle.format.specs.Reading.{admitted}
use Rattle.byte_slices.specs.First.{first_line}
use Rattle.byte_slices.proofs.First.{first-le}
use Rattle.accepted.specs.First.{first_at}
use Rattle.accepted.specs.Read.{is_read}
use Rattle.accepted.proofs.Ahead.{ahead, ahead_none, ahead-one, first-length, next-within, next_more}
use Rattle.read_admission.specs.Admission.{line_refusal}
use Rattle.read_admission.proofs.Admission.{refusal-none, refusal-some}
use Rattle.format.specs.Carrying.{kept_of, skips}
use Rattle.carry_laws.specs.Judged.{judged_from}
use Rattle.carry_laws.proofs.Judged.{kept_append, judged-append}
use Rattle.carry_laws.proofs.Count.{judged-length, skips-kept}
use Rattle.carry_lines.specs.Going.{Going, judged_lines, refusal_at, refusal_first}
use Rattle.carry_lines.specs.declared.Cursor.{Cursor}
use Rattle.carry_passes.specs.NextLine.{lent_to, Turn}

-- what comes after the first of some lines
next_of : (ls : List Line) (k : ℕ) (l : Line) (ms : List Line) → drop k ls ≡ l ∷ ms → drop k ls ≡ l ∷ drop (k + 1) ls
next_of ls k l ms e = e ∙ ap (λ ms. l ∷ ms) (sym (ap (drop 1) e) ∙ drop-drop 1 k ls)

module _ (strict : Bool) (t : List ℕ) (from : ℕ) (area ids : List ℕ) (c : Cursor) (g : Going strict t from area ids c) where
  abbrev all : List Line
  all = judged_lines strict t from

  abbrev pub done : List Line
  done = judged_from strict [] g.passed

  all_split : all ≡ done ++ judged_from strict (kept_of done) (ahead t c.at)
  unfolding judged_lines
  all_split = ap (judged_from strict []) g.split ∙ judged-append strict [] g.passed (ahead t c.at)

  done-length : length done ≡ c.line
  done-length = judged-length strict [] g.passed ∙ sym g.number

  after : drop c.line all ≡ judged_from strict (kept_of done) (ahead t c.at)
  after = ap (drop c.line) all_split ∙ drop_at done (judged_from strict (kept_of done) (ahead t c.at)) c.line done-length

  pub before : take c.line all ≡ done
  before = ap (take c.line) all_split ∙ take_at done (judged_from strict (kept_of done) (ahead t c.at)) c.line done-length

  pub kept-count : c.kept ≡ length (kept_of (take c.line all))
  kept-count = g.counted ∙ ap (λ ls. length (kept_of ls)) (sym before)

  pub kept-le : c.kept ≤ c.line
  kept-le = omega (arith, g.counted, skips-kept 0 done, done-length)

  -- after the last line
  pub none_left : length t ≤ c.at → drop c.line all ≡ []
  unfolding judged_from
  none_left h = after ∙ ap (judged_from strict (kept_of done)) (ahead_none t c.at h)

  pub all-count : length t ≤ c.at → (l : ℕ) → c.line - c.kept ≡ length (skips l all)
  unfolding judged_from
  all-count h l =
      let e : all ≡ done = all_split ∙ ap (λ ps. done ++ judged_from strict (kept_of done) ps) (ahead_none t c.at h) ∙ append-nil done in
      omega (arith, g.counted, skips-kept l all, ap length e, ap (λ ls. length (kept_of ls)) e, done-length)

  module _ (h : c.at < length t) where
    abbrev piece : Piece
    piece = first_at c.at t

    judged-next : drop c.line all ≡ admitted strict (kept_of done) piece ∷ drop (c.line + 1) all
    unfolding judged_from
    judged-next = next_of all c.line _ _ (after ∙ ap (judged_from strict (kept_of done)) (ahead-one t c.at h))

    pub turn : (end n : ℕ) → end ≡ c.at + (first_line (drop c.at t)).len → n ≡ refusal_at c.line all → Turn strict t from c end n
    unfolding refusal_at refusal_first is_read
    turn end n e r =
        let told : n ≡ line_refusal (admitted strict (kept_of done) piece) = r ∙ ap refusal_first judged-next in
        let bytes : lent_to t c.at end ≡ piece.bytes = ap (λ k. take k (drop c.at t)) (let z : end - c.at ≡ (first_line (drop c.at t)).len = omega (arith, e) in z) in
        record {
          onward = omega (arith, next_more t c.at h);
          start = omega (arith, e);
          inside = omega (arith, e, first-le (drop c.at t), next-within t c.at h);
          size = omega (arith, e, ap length bytes, first-length t c.at h);
          slow = g.slow;
          few = kept-le;
          judged = admitted strict (kept_of done) piece;
          more = judged-next;
          kept = λ z. let f = refusal-none strict (kept_of done) piece (sym told ∙ z) in (rw bytes (f.2 ∙ sym f.1), ap is_read f.2);
          skipped = λ z. refusal-some strict (kept_of done) piece n (sym told) (λ o. omega (arith, o, z));
        }

module _ (strict : Bool) (t : List ℕ) (from : ℕ) (area ids : List ℕ) (c : Cursor) (g : Going strict t from area ids c) where
  -- one more line is kept, or not
  pub kept_next : (l : Line) → drop c.line (judged_lines strict t from) ≡ l ∷ drop (c.line + 1) (judged_lines strict t from) → (a i : List ℕ) (d : Cursor) → Going strict t from a i d → d.line ≡ c.line + 1
      → d.kept ≡ c.kept + length (kept_of (l ∷ []))
  kept_next l more a i d g' e =
      let all : List Line = judged_lines strict t from in
      let one : take d.line all ≡ take c.line all ++ (l ∷ []) =
      ap (λ k. take k all) e ∙ take-add c.line 1 all ∙ ap (λ ls. take c.line all ++ take 1 ls) more in
      kept-count strict t from a i d g'
      ∙ ap (λ ls. length (kept_of ls)) one
      ∙ ap length (kept_append (take c.line all) (l ∷ []))
      ∙ length-append (kept_of (take c.line all)) (kept_of (l ∷ []))
      ∙ ap (λ k. k + length (kept_of (l ∷ []))) (sym (kept-count strict t from area ids c g))
