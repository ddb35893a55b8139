-- What judging says of the calls' answers.
use Prim.Native.Nat.{ℕ, ◌+◌, ◌≤◌, ◌<◌}
use mathlib.Core.Path.{◌≡◌, refl, sym, ap, ◌∙◌}
use mathlib.Core.Bool.{cond}
use mathlib.Core.List.{List, ◌++◌}
use native.Mathlib.Omega.{arith}
use lib.ListN.{length, drop}
use borrow.Author.Tests.{lt-ltb, le-ltb}
use Rattle.format.specs.Bytes.{same}
use Rattle.format.specs.Records.{Record}
use Rattle.format.specs.Reading.{refused_text, accept, read_text}
use Rattle.format.specs.Catalogue.{catalogue}
use Rattle.format.specs.Calls.{Answer, refused, yes, then, read_answer, records, fitting, reading, current, fresh}
use Rattle.byte_slices.specs.Over.{over}
use Rattle.std.specs.Prelude.{Ok, Err}
use Rattle.format.specs.declared.Refusal.{Refusal}
use Rattle.read.specs.Answers.{answer_of, output_of}

-- ---- what the calls then answer

module _ (t : List ℕ) where
  pub read-refused : (room n l : ℕ) → read_text t ≡ refused_text n l → reading t room ≡ refused n l
  unfolding reading then records read_answer
  read-refused room n l e = rw e refl

  reads : (room : ℕ) (rs : List Record) → read_text t ≡ accept rs → reading t room ≡ fitting room (catalogue rs)
  unfolding reading then records read_answer
  reads room rs e = rw e refl

  pub read_short : (room : ℕ) (rs : List Record) → read_text t ≡ accept rs → room < length (catalogue rs) → reading t room ≡ refused 20 0
  unfolding fitting
  read_short room rs e h = reads room rs e ∙ rw (lt-ltb _ _ h) refl

  pub read_fits : (room : ℕ) (rs : List Record) → read_text t ≡ accept rs → length (catalogue rs) ≤ room → reading t room ≡ yes (catalogue rs)
  unfolding fitting
  read_fits room rs e h = reads room rs e ∙ rw (le-ltb _ _ h) refl

  pub fresh-refused : (c : List ℕ) (n l : ℕ) → read_text t ≡ refused_text n l → fresh t c ≡ refused n l
  unfolding fresh then records read_answer
  fresh-refused c n l e = rw e refl

  pub fresh-reads : (c : List ℕ) (rs : List Record) → read_text t ≡ accept rs → fresh t c ≡ cond (same c (catalogue rs)) (yes rs) (refused 21 0)
  unfolding fresh then records read_answer current
  fresh-reads c rs e = rw e refl

-- ---- 20 comes last

pub too_short : (room : ℕ) (xs : List ℕ) → room < length xs → fitting room xs ≡ refused 20 0
unfolding fitting
too_short room xs h = rw (lt-ltb _ _ h) refl

pub fits : (room : ℕ) (xs : List ℕ) → length xs ≤ room → fitting room xs ≡ yes xs
unfolding fitting
fits room xs h = rw (le-ltb _ _ h) refl

-- ---- the answers in the code's numbers

module _ (a : Answer (List ℕ)) (out : List ℕ) where
  pub refused-answer : (r : Refusal) → a ≡ refused r.number r.line.0 → (Err r ≡ answer_of a) × (out ≡ output_of a out)
  unfolding answer_of output_of
  refused-answer r e = (sym (ap answer_of e), sym (ap (λ x. output_of x out) e))

  pub written-answer : (xs last : List ℕ) (n : ℕ) → a ≡ yes xs → n ≡ length xs → last ≡ over out 0 xs → (Ok n ≡ answer_of a) × (last ≡ output_of a out)
  unfolding answer_of output_of over
  written-answer xs last n e m w =
      let z : 0 + length xs ≡ length xs = omega arith in
      (ap Ok m ∙ sym (ap answer_of e), w ∙ ap (λ k. xs ++ drop k out) z ∙ sym (ap (λ x. output_of x out) e))
