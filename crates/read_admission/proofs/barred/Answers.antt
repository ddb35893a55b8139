-- `read_admission::barred` meets its contract, head by head. Assumes nothing.
use mathlib.Core.Path.{sym, ap, ◌∙◌}
use mathlib.Core.Bool.{cond}
use lib.Dec.{leb}
use borrow.Author.Tests.{eq-eqb, ne_eqb, le-leb, lt-leb}
use Rattle.read_admission.specs.Admission.{barring}
use Rattle.read_admission.proofs.barred.Goals as goal

pub returns-then-count-eq0 : goal.returns-then-count-eq0
unfolding barring
returns-then-count-eq0 c =
    let a = c.args in
    sym (ap (barring a.taken a.count a.programs) c.in-Header.is ∙ ap (λ t. cond t 0 17) (eq-eqb a.count 0 c.if-count-eq0.true))

pub returns-then-taken : goal.returns-then-taken
unfolding barring
returns-then-taken c =
    let a = c.args in
    sym (ap (barring a.taken a.count a.programs) c.in-ReferenceSequence.is ∙ ap (λ t. cond t 18 0) c.if-taken.true)

pub returns-then-taken-2 : goal.returns-then-taken-2
unfolding barring
returns-then-taken-2 c =
    let a = c.args in
    sym (ap (barring a.taken a.count a.programs) c.in-ReadGroup.is ∙ ap (λ t. cond t 18 0) c.if-taken-2.true)

pub returns-then-taken-3 : goal.returns-then-taken-3
unfolding barring
returns-then-taken-3 c =
    let a = c.args in
    sym (ap (barring a.taken a.count a.programs) c.in-Program.is ∙ ap (λ t. cond t 18 (cond (leb 1024 a.programs) 19 0)) c.if-taken-3.true)

pub returns-then-programs-ge1024 : goal.returns-then-programs-ge1024
unfolding barring
returns-then-programs-ge1024 c =
    let a = c.args in
    sym (ap (barring a.taken a.count a.programs) c.in-Program.is ∙ ap (λ t. cond t 18 (cond (leb 1024 a.programs) 19 0)) c.if-taken-3.false ∙ ap (λ t. cond t 19 0) (le-leb 1024 a.programs c.if-programs-ge1024.true))

pub returns-in-Refused : goal.returns-in-Refused
unfolding barring
returns-in-Refused c =
    let a = c.args in
    sym (ap (barring a.taken a.count a.programs) c.in-Refused.is)

pub returns-else-count-eq0 : goal.returns-else-count-eq0
unfolding barring
returns-else-count-eq0 c =
    let a = c.args in
    sym (ap (barring a.taken a.count a.programs) c.in-Header.is ∙ ap (λ t. cond t 0 17) (ne_eqb a.count 0 c.if-count-eq0.false))

pub returns-else-taken : goal.returns-else-taken
unfolding barring
returns-else-taken c =
    let a = c.args in
    sym (ap (barring a.taken a.count a.programs) c.in-ReferenceSequence.is ∙ ap (λ t. cond t 18 0) c.if-taken.false)

pub returns-else-taken-2 : goal.returns-else-taken-2
unfolding barring
returns-else-taken-2 c =
    let a = c.args in
    sym (ap (barring a.taken a.count a.programs) c.in-ReadGroup.is ∙ ap (λ t. cond t 18 0) c.if-taken-2.false)

pub returns-else-programs-ge1024 : goal.returns-else-programs-ge1024
unfolding barring
returns-else-programs-ge1024 c =
    let a = c.args in
    sym (ap (barring a.taken a.count a.programs) c.in-Program.is ∙ ap (λ t. cond t 18 (cond (leb 1024 a.programs) 19 0)) c.if-taken-3.false ∙ ap (λ t. cond t 19 0) (lt-leb 1024 a.programs c.if-programs-ge1024.false))

pub returns-in-Comment : goal.returns-in-Comment
unfolding barring
returns-in-Comment c =
    let a = c.args in
    sym (ap (barring a.taken a.count a.programs) c.in-Comment.is)
