-- No line is faulty exactly if none is skipped, every name can be written, and no program dangles or comes back to itself.
use Prim.Native.Nat.{ℕ, zero, suc, ◌+◌, ◌≤◌, ◌<◌}
use mathlib.Core.Path.{◌≡◌, refl, sym, ap, ◌∙◌}
use mathlib.Core.Bool.{Bool, true, false, ◌||◌, cond}
use mathlib.Core.List.{List, [], ◌∷◌}
use mathlib.Core.Option.{none, some}
use native.Mathlib.Omega.{arith}
use lib.ListN.{length, get_or}
use lib.Dec.{eqb}
use Rattle.format.specs.Bytes.{any}
use Rattle.format.specs.Records.{Record, header, reference, group, program, comment, code, Line, refused_line, read}
use Rattle.format.specs.Reading.{of_kind}
use Rattle.format.specs.Programs.{Link, root, is_dangling, reaches, loops_from, tangled, links, programs}
use Rattle.format.specs.Tidy.{is_writable, unwritable}
use Rattle.lists.proofs.Bools.{never}
use Rattle.program_chains.proofs.Paths.{loops-at}
use Rattle.merge_laws.proofs.Links.{linked-at, untangled-is}
use Rattle.format.specs.Carrying.{kept_of, Skip, skips}
use Rattle.format.specs.Faults.{link_fault, record_fault, next_program, if_faulty, faults_from}

-- ---- links

-- no fault: neither dangling nor in a cycle
fault-none : (ks : List Link) (j : ℕ) → link_fault ks j ≡ 0 → (is_dangling (get_or ks j root) ≡ false) × (reaches ks j (length ks) (get_or ks j root) ≡ false)
unfolding link_fault
fault-none ks j e = go (is_dangling (get_or ks j root)) (reaches ks j (length ks) (get_or ks j root)) e
  where
    go : (a b : Bool) → cond {A = ℕ} a 22 (cond b 23 0) ≡ 0 → (a ≡ false) × (b ≡ false)
    go true b e = absurd (omega arith)
    go false true e = absurd (omega arith)
    go false false e = (refl, refl)

any_none : (ls : List Link) → ((j : ℕ) → j < length ls → is_dangling (get_or ls j root) ≡ false) → any is_dangling ls ≡ false
unfolding any
any_none [] h = refl
any_none (l ∷ ls) h = let z : is_dangling l ≡ false = h 0 (omega arith) in rw z (any_none ls (λ j k. h (suc j) (omega arith)))

loops-none : (all : List Link) (i : ℕ) (ls : List Link) → ((j : ℕ) → j < length ls → reaches all (i + j) (length all) (get_or ls j root) ≡ false) → loops_from all i ls ≡ false
unfolding loops_from
loops-none all i [] h = refl
loops-none all i (l ∷ ls) h =
    let z : reaches all i (length all) l ≡ false = ap (λ n. reaches all n (length all) l) (let q : i ≡ i + 0 = omega arith in q) ∙ h 0 (omega arith) in
    rw z (loops-none all (i + 1) ls (λ j k. ap (λ n. reaches all n (length all) (get_or ls j root)) (let q : i + 1 + j ≡ i + suc j = omega arith in q) ∙ h (suc j) (omega arith)))

-- all programs are without fault exactly if they are not tangled
pub faults-untangled : (ks : List Link) → ((j : ℕ) → j < length ks → link_fault ks j ≡ 0) → tangled ks ≡ 0
faults-untangled ks h =
    (untangled-is ks).1
    (any_none ks (λ j k. (fault-none ks j (h j k)).0), loops-none ks 0 ks (λ j k. ap (λ n. reaches ks n (length ks) (get_or ks j root)) (let q : 0 + j ≡ j = omega arith in q) ∙ (fault-none ks j (h j k)).1))

pub untangled-faults : (ks : List Link) → tangled ks ≡ 0 → (j : ℕ) → link_fault ks j ≡ 0
unfolding link_fault
untangled-faults ks e j =
    let b = (untangled-is ks).0 e in
    rw (linked-at ks j b.0, ap (λ n. reaches ks n (length ks) (get_or ks j root)) (let q : j ≡ 0 + j = omega arith in q) ∙ loops-at ks 0 ks j b.1) refl

-- ---- lines

pub record Clear (ks : List Link) (l i : ℕ) (ls : List Line) : Type 0 where
  pub unskipped : skips l ls ≡ []
  pub names : unwritable l (kept_of ls) ≡ none
  pub linked : (j : ℕ) → j < length (programs (kept_of ls)) → link_fault ks (i + j) ≡ 0

-- a line without fault
if_none : (l n : ℕ) (ss : List Skip) → if_faulty l n ss ≡ [] → (n ≡ 0) × (ss ≡ [])
unfolding if_faulty
if_none l zero ss e = (refl, e)
if_none l (suc n) ss e = absurd (never cc)

pub clear : (ks : List Link) (l i : ℕ) (ls : List Line) → faults_from ks l i ls ≡ [] → Clear ks l i ls
unfolding faults_from record_fault next_program skips kept_of unwritable is_writable code programs of_kind
clear ks l i [] e = record { unskipped = refl; names = refl; linked = λ j h. absurd (omega arith) }
clear ks l i (refused_line n ∷ ls) e = absurd (never cc)
clear ks l i (read (header v fs) ∷ ls) e =
    let h = clear ks (l + 1) i ls (if_none l 0 _ e).1 in record { unskipped = h.unskipped; names = h.names; linked = h.linked }
clear ks l i (read (reference p n fs) ∷ ls) e = go (is_writable (reference p n fs)) refl e (λ e. clear ks (l + 1) i ls e)
  where
    go : (b : Bool) → is_writable (reference p n fs) ≡ b → if_faulty l (cond b 0 24) (faults_from ks (l + 1) i ls) ≡ [] → (faults_from ks (l + 1) i ls ≡ [] → Clear ks (l + 1) i ls) → Clear ks l i (read (reference p n fs) ∷ ls)
    go true w e f = let h = f (if_none l 0 _ e).1 in record { unskipped = h.unskipped; names = ap (λ b. cond b (unwritable (l + 1) (kept_of ls)) (some l)) w ∙ h.names; linked = h.linked }
    go false w e f = absurd (omega (arith, (if_none l 24 _ e).0))
clear ks l i (read (group p fs) ∷ ls) e =
    let h = clear ks (l + 1) i ls (if_none l 0 _ e).1 in record { unskipped = h.unskipped; names = h.names; linked = h.linked }
clear ks l i (read (program p fs) ∷ ls) e =
    let q = if_none l (link_fault ks i) _ e in
    let h = clear ks (l + 1) (i + 1) ls q.1 in
    record { unskipped = h.unskipped; names = h.names; linked = step q.0 h.linked }
  where
    step : link_fault ks i ≡ 0 → ((j : ℕ) → j < length (programs (kept_of ls)) → link_fault ks (i + 1 + j) ≡ 0) → (j : ℕ) → j < suc (length (programs (kept_of ls))) → link_fault ks (i + j) ≡ 0
    step a f zero h = ap (link_fault ks) (let q : i + 0 ≡ i = omega arith in q) ∙ a
    step a f (suc j) h = ap (link_fault ks) (let q : i + suc j ≡ i + 1 + j = omega arith in q) ∙ f j (omega arith)
clear ks l i (read (comment p) ∷ ls) e =
    let h = clear ks (l + 1) i ls (if_none l 0 _ e).1 in record { unskipped = h.unskipped; names = h.names; linked = h.linked }

pub cleared : (ks : List Link) (l i : ℕ) (ls : List Line) → skips l ls ≡ [] → unwritable l (kept_of ls) ≡ none → ((j : ℕ) → link_fault ks j ≡ 0) → faults_from ks l i ls ≡ []
unfolding faults_from record_fault next_program if_faulty skips kept_of unwritable is_writable code programs of_kind
cleared ks l i [] s w f = refl
cleared ks l i (refused_line n ∷ ls) s w f = absurd (never cc)
cleared ks l i (read (header v fs) ∷ ls) s w f = cleared ks (l + 1) i ls s w f
cleared ks l i (read (reference p n fs) ∷ ls) s w f = go (is_writable (reference p n fs)) w (λ w. cleared ks (l + 1) i ls s w f)
  where
    go : (b : Bool) → cond b (unwritable (l + 1) (kept_of ls)) (some l) ≡ none → (unwritable (l + 1) (kept_of ls) ≡ none → faults_from ks (l + 1) i ls ≡ []) → if_faulty l (cond b 0 24) (faults_from ks (l + 1) i ls) ≡ []
    go true w k = k w
    go false w k = absurd (never cc)
cleared ks l i (read (group p fs) ∷ ls) s w f = cleared ks (l + 1) i ls s w f
cleared ks l i (read (program p fs) ∷ ls) s w f = ap (λ n. if_faulty l n (faults_from ks (l + 1) (i + 1) ls)) (f i) ∙ cleared ks (l + 1) (i + 1) ls s w f
cleared ks l i (read (comment p) ∷ ls) s w f = cleared ks (l + 1) i ls s w f
