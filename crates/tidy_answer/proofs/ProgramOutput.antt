-- What the tidying call's answer says of what the program writes: for an input that is taken, 65,536 bytes are room enough.
use Prim.Native.Nat.{ℕ, ◌+◌, ◌≤◌, ◌<◌}
use mathlib.Core.Path.{◌≡◌, refl, sym, ap, subst, ◌∙◌}
use mathlib.Core.Bool.{Bool, true, false, cond}
use mathlib.Core.List.{List, ◌++◌}
use mathlib.Core.Option.{Option, none, some}
use native.Mathlib.Omega.{arith}
use lib.ListN.{length, drop}
use lib.Dec.{ltb}
use borrow.Author.Tests.{lt-ltb, le-ltb, ltb-false}
use Rattle.format.specs.Reading.{Reading, refused_text, accept, read_text, longest}
use Rattle.format.specs.Tidy.{tidy, unwritable}
use Rattle.format.specs.Calls.{Answer, refused, yes, then, read_answer, records, fitting, writing, tidying}
use Rattle.std.specs.Prelude.{Ok, Err}
use Rattle.format.specs.declared.Refusal.{Refusal}
use Rattle.read.specs.Answers.{answer_of, output_of}
use Rattle.byte_slices.specs.Over.{over}
use Rattle.byte_slices.proofs.Over.{over-length}
use Rattle.lists.proofs.Bools.{never}
use Rattle.tidy_laws.proofs.Total.{tidy-length}
use Rattle.format.specs.Program.{refusal, said, program}
use Rattle.tidy_answer.proofs.Refusal.{refusal-fits}

-- ---- the limit

pub program-long : (t : List ℕ) → 65535 < length t → program t ≡ refusal 1 0
unfolding program
program-long t h = rw (lt-ltb _ _ h) refl

taken : (t : List ℕ) → length t ≤ 65535 → program t ≡ said (tidying t longest)
unfolding program
taken t h = rw (le-ltb _ _ h) refl

-- ---- the room

fits : (room : ℕ) (o : Option ℕ) (t : List ℕ) → length t ≤ 65536 → 65536 ≤ room → writing room o t ≡ writing 65536 o t
unfolding writing fitting longest
fits room none t h r = rw (le-ltb 16777216 (length t) (omega arith), le-ltb room (length t) (omega arith), le-ltb 65536 (length t) h) refl
fits room (some l) t h r = refl

room-enough : (t : List ℕ) → length t ≤ 65535 → tidying t longest ≡ tidying t 65536
unfolding tidying then records read_answer longest
room-enough t h = go (read_text t) refl
  where
    go : (r : Reading) → read_text t ≡ r → then (read_answer r) (λ rs. writing 16777216 (unwritable 0 rs) (tidy rs)) ≡ then (read_answer r) (λ rs. writing 65536 (unwritable 0 rs) (tidy rs))
    go (refused_text n l) e = refl
    go (accept rs) e = fits 16777216 (unwritable 0 rs) (tidy rs) (omega (arith, tidy-length t rs e)) (omega arith)

pub program-taken : (t : List ℕ) → length t ≤ 65535 → program t ≡ said (tidying t 65536)
program-taken t h = taken t h ∙ ap said (room-enough t h)

-- so the room is never short of what is written
within : (room : ℕ) (o : Option ℕ) (t : List ℕ) → 55 ≤ room → length (said (writing room o t)) ≤ room
unfolding writing fitting said
within room (some l) t h = refusal-fits 24 l room h
within room none t h = go (ltb longest (length t)) (ltb room (length t)) refl
  where
    go : (a b : Bool) → ltb room (length t) ≡ b → length (said (cond a (refused 1 0) (cond b (refused 20 0) (yes t)))) ≤ room
    go true b e = refusal-fits 1 0 room h
    go false true e = refusal-fits 20 0 room h
    go false false e = ltb-false room (length t) e

tidied : (t : List ℕ) → length (said (tidying t 65536)) ≤ 65536
unfolding tidying then records read_answer said
tidied t = go (read_text t)
  where
    go : (r : Reading) → length (said (then (read_answer r) (λ rs. writing 65536 (unwritable 0 rs) (tidy rs)))) ≤ 65536
    go (refused_text n l) = refusal-fits n l 65536 (omega arith)
    go (accept rs) = within 65536 (unwritable 0 rs) (tidy rs) (omega arith)

program-fits : (t : List ℕ) → length (program t) ≤ 65536
unfolding program
program-fits t = go (ltb 65535 (length t)) refl
  where
    go : (b : Bool) → ltb 65535 (length t) ≡ b → length (cond b (refusal 1 0) (said (tidying t longest))) ≤ 65536
    go true e = refusal-fits 1 0 65536 (omega arith)
    go false e = subst (λ x. length (said x) ≤ 65536) (sym (room-enough t (ltb-false 65535 (length t) e))) (tidied t)

-- so that the output keeps its length
pub program-length : (t out last : List ℕ) → last ≡ over out 0 (program t) → 65536 ≤ length out → length last ≡ length out
program-length t out last w h =
    let short : 0 + length (program t) ≤ length out = omega (arith, program-fits t) in
    omega (arith, ap length w, over-length out 0 (program t) short)

-- the program writes 65,536 bytes at most: they are within the output
pub program-within : (t out last : List ℕ) (n : ℕ) → n ≡ length (program t) → last ≡ over out 0 (program t) → 65536 ≤ length out → n ≤ length last
program-within t out last n e w h = omega (arith, program-fits t, program-length t out last w h)

-- ---- by what the call answered

pub told-refused : (x : Answer (List ℕ)) (r : Refusal) → answer_of x ≡ Err r → (said x ≡ refusal r.number r.line.0) × ((out : List ℕ) → output_of x out ≡ out)
unfolding answer_of output_of said
told-refused (refused m k) r e =
    let p : ◌≡◌ {A = Refusal} (record { number = m; line = record { 0 = k } }) r = cc in
    (ap (λ q. refusal q.number q.line.0) p, λ out. refl)
told-refused (yes xs) r e = absurd (never cc)

pub told-count : (x : Answer (List ℕ)) (n : ℕ) → answer_of x ≡ Ok n → (n ≡ length (said x)) × ((out : List ℕ) → output_of x out ≡ over out 0 (said x))
unfolding answer_of output_of said over
told-count (refused m k) n e = absurd (never cc)
told-count (yes xs) n e =
    let p : length xs ≡ n = cc in
    let z : length xs ≡ 0 + length xs = omega arith in
    (sym p, λ out. ap (λ k. xs ++ drop k out) z)
