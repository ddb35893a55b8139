-- Reading that accepts gives the record of each line, in order: each admitted after those before it.
use Prim.Native.Nat.{ℕ, zero, suc, ◌+◌, ◌<◌}
use mathlib.Core.Path.{◌≡◌, refl, sym, ap, ◌∙◌}
use mathlib.Core.Bool.{Bool, true, false, not, ◌&&◌, cond}
use mathlib.Core.List.{List, [], ◌∷◌, ◌++◌, append-nil, append_assoc}
use native.Mathlib.Omega.{arith}
use lib.ListN.{length, take, get_or}
use lib.Dec.{eqb, leb}
use Rattle.format.specs.Bytes.{any, none?}
use Rattle.format.specs.Lines.{Piece}
use Rattle.format.specs.Records.{Record, code, Line, refused_line, read, line}
use Rattle.format.specs.Reading.{accept, clash, of_kind, barred, unless, following, admitted, read_on, read_from}
use Rattle.lists.specs.Pairs.{Pairs}
use Rattle.accepted.specs.Admits.{Admits, Unbarred, MayFollow}
use Rattle.lists.proofs.Bools.{never}

-- ---- one line

-- a line that is admitted is read, and its record may follow
pub admitted-read : (strict : Bool) (before : List Record) (p : Piece) (r : Record) → admitted strict before p ≡ read r → (line strict p ≡ read r) × (barred before r ≡ 0)
unfolding admitted following unless
admitted-read strict before p r e = go (line strict p) refl e
  where
    inner : (q : Record) (n : ℕ) → line strict p ≡ read q → barred before q ≡ n → unless n q ≡ read r → (line strict p ≡ read r) × (barred before r ≡ 0)
    inner q zero h g e = let j : q ≡ r = cc in (h ∙ e, ap (barred before) (sym j) ∙ g)
    inner q (suc n) h g e = absurd (never (cc))

    go : (l : Line) → line strict p ≡ l → following before l ≡ read r → (line strict p ≡ read r) × (barred before r ≡ 0)
    go (refused_line n) h e = absurd (never (cc))
    go (read q) h e = inner q (barred before q) h refl e

pub barred-clear : (before : List Record) (r : Record) → barred before r ≡ 0 → MayFollow before r
unfolding barred
barred-clear before r e =
    go (eqb (code r) 1 && not (none? before)) (any (clash r) before) (eqb (code r) 4 && leb 1024 (length (of_kind 4 before))) refl refl refl e
  where
    go : (t u v : Bool) → eqb (code r) 1 && not (none? before) ≡ t → any (clash r) before ≡ u → eqb (code r) 4 && leb 1024 (length (of_kind 4 before)) ≡ v
        → cond {A = ℕ} t 17 (cond u 18 (cond v 19 0)) ≡ 0 → MayFollow before r
    go true u v a b c e = absurd (omega arith)
    go false true v a b c e = absurd (omega arith)
    go false false true a b c e = absurd (omega arith)
    go false false false a b c e = record { leading = a; apart = b; room = c }

-- ---- all lines

-- what is accepted after `before`
pub record Rest (strict : Bool) (before : List Record) (ps : List Piece) (all : List Record) : Type 0 where
  pub rest : List Record
  pub joined : all ≡ before ++ rest
  pub admits : Admits strict before ps rest

pub read-rest : (strict : Bool) (l : ℕ) (before : List Record) (ps : List Piece) (all : List Record)
    → read_from strict l before ps ≡ accept all → Rest strict before ps all
unfolding read_from read_on Admits
read-rest strict l before [] all e = record { rest = []; joined = (let q : before ≡ all = cc in sym q ∙ sym (append-nil before)); admits = tt }
read-rest strict l before (p ∷ ps) all e = go (admitted strict before p) refl (λ r. read-rest strict (l + 1) (before ++ (r ∷ [])) ps all) e
  where
    go : (i : Line) → admitted strict before p ≡ i
        → ((r : Record) → read_from strict (l + 1) (before ++ (r ∷ [])) ps ≡ accept all → Rest strict (before ++ (r ∷ [])) ps all)
        → read_on l (λ r. read_from strict (l + 1) (before ++ (r ∷ [])) ps) i ≡ accept all → Rest strict before (p ∷ ps) all
    go (refused_line n) h ih e = absurd (never (cc))
    go (read r) h ih e =
        let x : Rest strict (before ++ (r ∷ [])) ps all = ih r e in
        record { rest = r ∷ x.rest; joined = x.joined ∙ append_assoc before (r ∷ []) x.rest; admits = (h, x.admits) }

-- and the other way round
pub admits-read : (strict : Bool) (l : ℕ) (before : List Record) (ps : List Piece) (rs : List Record)
    → Admits strict before ps rs → read_from strict l before ps ≡ accept (before ++ rs)
unfolding read_from read_on Admits
admits-read strict l before [] [] h = ap accept (sym (append-nil before))
admits-read strict l before [] (r ∷ rs) h = absurd h
admits-read strict l before (p ∷ ps) [] h = absurd h
admits-read strict l before (p ∷ ps) (r ∷ rs) h =
    ap (read_on l (λ r. read_from strict (l + 1) (before ++ (r ∷ [])) ps)) h.0
    ∙ admits-read strict (l + 1) (before ++ (r ∷ [])) ps rs h.1
    ∙ ap accept (append_assoc before (r ∷ []) rs)

pub admits-lines : (strict : Bool) (before : List Record) (ps : List Piece) (rs : List Record) → Admits strict before ps rs → Pairs (λ p r. line strict p ≡ read r) ps rs
unfolding Admits Pairs
admits-lines strict before [] [] h = tt
admits-lines strict before [] (r ∷ rs) h = h
admits-lines strict before (p ∷ ps) [] h = h
admits-lines strict before (p ∷ ps) (r ∷ rs) h = ((admitted-read strict before p r h.0).0, admits-lines strict (before ++ (r ∷ [])) ps rs h.1)

pub admits-unbarred : (strict : Bool) (before : List Record) (ps : List Piece) (rs : List Record) → Admits strict before ps rs → Unbarred before rs
unfolding Admits Unbarred
admits-unbarred strict before [] [] h = tt
admits-unbarred strict before [] (r ∷ rs) h = absurd h
admits-unbarred strict before (p ∷ ps) [] h = absurd h
admits-unbarred strict before (p ∷ ps) (r ∷ rs) h = ((admitted-read strict before p r h.0).1, admits-unbarred strict (before ++ (r ∷ [])) ps rs h.1)

-- the record of one line, after all before it
pub admits-at : (strict : Bool) (before : List Record) (ps : List Piece) (rs : List Record) (i : ℕ) (p : Piece) (r : Record)
    → Admits strict before ps rs → i < length ps → admitted strict (before ++ take i rs) (get_or ps i p) ≡ read (get_or rs i r)
unfolding Admits
admits-at strict before [] rs i p r h l = absurd (omega arith)
admits-at strict before (q ∷ ps) [] i p r h l = absurd h
admits-at strict before (q ∷ ps) (s ∷ rs) zero p r h l = rw append-nil h.0
admits-at strict before (q ∷ ps) (s ∷ rs) (suc i) p r h l =
    rw (← append_assoc before (s ∷ []) (take i rs)) (admits-at strict (before ++ (s ∷ [])) ps rs i p r h.1 (omega arith))
