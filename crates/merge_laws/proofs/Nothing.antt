-- The text of no bytes: it is fit, and has no references and no programs.
use Prim.Native.Nat.{ℕ}
use mathlib.Core.Path.{◌≡◌, refl, sym, ap}
use mathlib.Core.List.Memᴰ
use mathlib.Core.List.{List, [], ◌∷◌, append-nil}
use native.Mathlib.Omega.{arith}
use lib.ListN.{length}
use Rattle.format.specs.Bytes.{any}
use Rattle.format.specs.Records.{Record}
use Rattle.format.specs.Programs.{programs, is_dangling, loops_from}
use Rattle.format.specs.References.{Reference, sq_list}
use Rattle.format.specs.Calls.{records}
use Rattle.format.specs.Merge.{lacking}
use Rattle.accepted.specs.Read.{records_of}
use Rattle.merge_laws.specs.Fit.{parent_links, Fit}
use Rattle.merge_laws.specs.IsMerge.{Joins, Assigns, Images}

pub nothing-fit : Fit []
unfolding records records_of parent_links any is_dangling loops_from
nothing-fit = record { accepted = refl; linked = refl; acyclic = refl }

pub nothing-images : (m : List Record) → Images (records_of []) m []
unfolding Images records_of programs
nothing-images m k h = absurd (omega arith)

pub nothing-assigns : (m : ℕ) → Assigns (length (programs (records_of []))) m []
unfolding records_of programs
nothing-assigns m = record { count = refl; valid = λ k h. absurd (omega arith); once = λ j k g h e. absurd (omega arith) }

pub joins-nothing : (a : List Reference) → Joins a (sq_list (records_of [])) a
unfolding sq_list records_of lacking
joins-nothing a = record { agree = λ r q g h e. absurd (Memᴰ.not-nil h); list = sym (append-nil a) }

nothing-lacks : (b : List Reference) → lacking [] b ≡ b
unfolding lacking any
nothing-lacks [] = refl
nothing-lacks (q ∷ b) = ap (λ l. q ∷ l) (nothing-lacks b)

pub nothing-joins : (b : List Reference) → Joins (sq_list (records_of [])) b b
unfolding sq_list records_of
nothing-joins b = record { agree = λ r q g h e. absurd (Memᴰ.not-nil g); list = sym (nothing-lacks b) }
