-- `accepted_line::fields::note_tag` meets its contract: the first place is set where there was none, and the last one always.
use Prim.Native.Nat.{◌+◌}
use mathlib.Core.Path.{◌≡◌, sym, ap, ◌∙◌}
use mathlib.Core.Bool.{cond}
use native.Mathlib.Omega.{arith}
use lib.ListN.{length, get_or, set, length-set}
use borrow.Author.Tests.{eq-eqb, ne_eqb}
use Rattle.accepted_line.specs.Tables.{marked}
use Rattle.accepted_line.proofs.fields.Noted.{inner, inner-length}
use Rattle.accepted_line.proofs.fields.note_tag.Goals as goal
use Rattle.accepted_line.proofs.fields.note_tag.Goals.{Joined-tables-n-eq0, then-tables-n-eq0, else-tables-n-eq0}

-- the tables after the first store
stored : (c : Joined-tables-n-eq0) → (let a = c.args in c.if-tables-n-eq0.tables ≡ inner a.tables.now a.n a.place)
unfolding inner
stored c =
    let a = c.args in
    let t = c.args.tables.now in
    elim c.if-tables-n-eq0.branch [
      | then-tables-n-eq0 w ↦ w.tables-is ∙ sym (ap (λ b. cond b (set t a.n a.place) t) (eq-eqb (get_or t a.n 0) 0 w.if-tables-n-eq0.true))
      | else-tables-n-eq0 w ↦ w.tables-is ∙ sym (ap (λ b. cond b (set t a.n a.place) t) (ne_eqb (get_or t a.n 0) 0 w.if-tables-n-eq0.false))
    ]

long : (c : Joined-tables-n-eq0) → length c.if-tables-n-eq0.tables ≡ length c.args.tables.now
long c = let a = c.args in ap length (stored c) ∙ inner-length a.tables.now a.n a.place

pub bounds-tables-n-2 : goal.bounds-tables-n-2
bounds-tables-n-2 c = omega (arith, long c)

pub shape_of-tables : goal.shape_of-tables
shape_of-tables c = length-set c.if-tables-n-eq0.tables (3224 + c.args.n) c.args.place ∙ long c

pub returns : goal.returns
unfolding marked inner
returns c = let a = c.args in ap (λ l. set l (3224 + a.n) a.place) (stored c)
