-- The SQ list of an accepted text in which nothing is tangled.
use Prim.Native.Nat.{ℕ}
use mathlib.Core.Path.{◌≡◌, sym, subst}
use mathlib.Core.List.{List}
use Rattle.format.specs.References.{sq_list}
use Rattle.accepted.specs.Read.{records_of}
use Rattle.accepted.proofs.Text.{text-apart}
use Rattle.binary_references.specs.Next.{sq_from}
use Rattle.binary_references.proofs.Next.{sq-all}
use Rattle.merge_references.specs.Joining.{Apart}
use Rattle.merge_references.proofs.Names.{apart-list}
use Rattle.merge_programs.specs.declared.Opened.{Opened}
use Rattle.merge_programs.specs.Opened.{Untangled}
use Rattle.merge_programs.proofs.Texts.{reads}

module _ (t : List ℕ) (o : Opened) (h : Untangled t o) where
  pub list-is : sq_from o.strict t 0 ≡ sq_list (records_of t)
  list-is = sq-all o.strict t (records_of t) (reads t o h) h.is.rule

  pub list-apart : Apart (sq_from o.strict t 0)
  list-apart = subst Apart (sym list-is) (apart-list (records_of t) (text-apart t (records_of t) (reads t o h)))
