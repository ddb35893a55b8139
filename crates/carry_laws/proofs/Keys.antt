-- Keys among the records kept. A line that is read and not kept is HD, a program too many, or has a key that was kept before it. So of SQ
-- and RG it is the same whether a key is looked for among the lines kept or among all that are read.
use Prim.Native.Nat.{ℕ, zero, suc}
use mathlib.Core.Path.{◌≡◌, refl, sym, ap, ◌∙◌}
use mathlib.Core.Bool.{Bool, true, false, ◌||◌, cond}
use mathlib.Core.List.{List, [], ◌∷◌, ◌++◌, map, append-nil}
use mathlib.Core.Option.{Option, none, some}
use native.Mathlib.Omega.{arith}
use lib.Dec.{eqb}
use borrow.Author.Tests.{eqb-true}
use Rattle.format.specs.Bytes.{same, any}
use Rattle.format.specs.Lines.{Piece}
use Rattle.format.specs.Records.{Record, code, key, Line, refused_line, read, line}
use Rattle.format.specs.Reading.{same_keys, clash, barred, unless, following, admitted}
use Rattle.byte_slices.proofs.Equal.{same-equal}
use Rattle.lists.proofs.Bools.{never, or_assoc, or-false, and_left, and_right, any_append}
use Rattle.format.specs.Carrying.{kept_of}
use Rattle.carry_laws.specs.Judged.{judged_from}
use Rattle.carry_laws.proofs.Judged.{kept_append, kept_more}

-- ---- records of one key

keys-one : (p q k : Option Piece) → same_keys p q ≡ true → same_keys p k ≡ same_keys q k
unfolding same_keys
keys-one none q k e = absurd (never (cc))
keys-one (some p) none k e = absurd (never (cc))
keys-one (some p) (some q) none e = refl
keys-one (some p) (some q) (some k) e = ap (λ s. same s k.bytes) (same-equal p.bytes q.bytes e)

clash-code : (r q : Record) → clash r q ≡ true → code r ≡ code q
unfolding clash
clash-code r q e = eqb-true (code r) (code q) (and_left (eqb (code r) (code q)) (same_keys (key r) (key q)) e)

clash-one : (r q s : Record) → clash r q ≡ true → clash r s ≡ clash q s
unfolding clash
clash-one r q s e =
    rw (clash-code r q e, keys-one (key r) (key q) (key s) (and_right (eqb (code r) (code q)) (same_keys (key r) (key q)) e)) refl

any-one : (r q : Record) (rs : List Record) → clash r q ≡ true → any (clash r) rs ≡ any (clash q) rs
unfolding any
any-one r q [] e = refl
any-one r q (s ∷ rs) e = rw (clash-one r q s e, any-one r q rs e) refl

-- ---- a line that is read and not kept

-- an SQ or an RG that may not follow has its key before it
barred-key : (before : List Record) (r : Record) (n : ℕ) → eqb (code r) 1 ≡ false → eqb (code r) 4 ≡ false → barred before r ≡ suc n → any (clash r) before ≡ true
unfolding barred
barred-key before r n h g e = go (any (clash r) before) (rw (h, g) at e)
  where
    go : (b : Bool) → cond {A = ℕ} b 18 0 ≡ suc n → b ≡ true
    go true e = refl
    go false e = absurd (omega arith)

module _ (strict : Bool) (r : Record) (not-header : eqb (code r) 1 ≡ false) (not-program : eqb (code r) 4 ≡ false) where
  -- its key was kept before it, so it counts as kept
  key-barred : (before : List Record) (q : Record) (n : ℕ) (t : Bool) → barred before q ≡ suc n → clash r q ≡ t → any (clash r) before || false ≡ any (clash r) before || t
  key-barred before q n false b e = refl
  key-barred before q n true b e =
      let c : code r ≡ code q = clash-code r q e in
      let k : any (clash r) before ≡ true = any-one r q before e ∙ barred-key before q n (rw c at not-header) (rw c at not-program) b in
      rw k refl

  key-line : (before : List Record) (l : Line) → any (clash r) before || any (clash r) (kept_of (following before l ∷ [])) ≡ any (clash r) before || any (clash r) (kept_of (l ∷ []))
  unfolding following unless kept_of any
  key-line before (refused_line n) = refl
  key-line before (read q) = go (barred before q) refl
    where
      go : (n : ℕ) → barred before q ≡ n → any (clash r) before || any (clash r) (kept_of (unless n q ∷ [])) ≡ any (clash r) before || (clash r q || false)
      go zero e = refl
      go (suc n) e = key-barred before q n (clash r q) e refl ∙ ap (λ t. any (clash r) before || t) (sym (or-false (clash r q)))

  pub key-lines : (before : List Record) (ps : List Piece)
      → any (clash r) (before ++ kept_of (judged_from strict before ps)) ≡ any (clash r) before || any (clash r) (kept_of (map (line strict) ps))
  unfolding judged_from kept_of any
  key-lines before [] = ap (any (clash r)) (append-nil before) ∙ sym (or-false (any (clash r) before))
  key-lines before (p ∷ ps) =
      let l : Line = admitted strict before p in
      let on : List Record = before ++ kept_of (l ∷ []) in
      let had : Bool = any (clash r) before in
      let rest : Bool = any (clash r) (kept_of (map (line strict) ps)) in
      ap (any (clash r)) (sym (kept_more before l (judged_from strict on ps)))
      ∙ key-lines on ps
      ∙ ap (λ b. b || rest) (any_append (clash r) before (kept_of (l ∷ [])) ∙ key-line before (line strict p))
      ∙ or_assoc had (any (clash r) (kept_of (line strict p ∷ []))) rest
      ∙ ap (λ b. had || b) (sym (any_append (clash r) (kept_of (line strict p ∷ [])) (kept_of (map (line strict) ps))) ∙ ap (any (clash r)) (sym (kept_append (line strict p ∷ []) (map (line strict) ps))))

  -- from the first line kept on: `p`, the record `q`, and then the lines `ps`
  pub first-kept : (p : Piece) (q : Record) (ps : List Piece) → line strict p ≡ read q
      → any (clash r) (q ∷ kept_of (judged_from strict (q ∷ []) ps)) ≡ any (clash r) (kept_of (map (line strict) (p ∷ ps)))
  unfolding kept_of any
  first-kept p q ps e = key-lines (q ∷ []) ps ∙ rw (e, or-false (clash r q)) refl
