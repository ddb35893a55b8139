-- Entries written one after another are one run.
use Prim.Native.Nat.{ℕ, ◌+◌, ◌≤◌}
use mathlib.Core.Path.{◌≡◌, sym, ap, ◌∙◌}
use mathlib.Core.List.{List, [], ◌∷◌, ◌++◌, append-nil}
use native.Mathlib.Omega.{arith}
use lib.ListN.{length}
use Rattle.byte_slices.specs.Over.{over}
use Rattle.byte_slices.proofs.Over.{over-over}
use Rattle.catalogue_entries.specs.declared.Entry.{Entry}
use Rattle.catalogue_entries.specs.Entries.{entry_size, entry_bytes, entries_bytes, sizes}
use Rattle.catalogue_entries.proofs.Written.{entry_length_lem, bytes-sizes}
use Rattle.catalogue_entries.proofs.Records.{bytes-append}

single : (e : Entry) → entries_bytes (e ∷ []) ≡ entry_bytes e
unfolding entries_bytes
single e = append-nil (entry_bytes e)

-- one more entry after those that were written
pub over-next : (out : List ℕ) (at : ℕ) (es : List Entry) (e : Entry) → at + sizes es + entry_size e ≤ length out
    → over (over out at (entries_bytes es)) (at + sizes es) (entry_bytes e) ≡ over out at (entries_bytes (es ++ e ∷ []))
over-next out at es e h =
    ap (λ n. over (over out at (entries_bytes es)) (at + n) (entry_bytes e)) (sym (bytes-sizes es))
    ∙ over-over out at (entries_bytes es) (entry_bytes e) (omega (arith, bytes-sizes es, entry_length_lem e))
    ∙ ap (over out at) (ap (λ x. entries_bytes es ++ x) (sym (single e)) ∙ sym (bytes-append es (e ∷ [])))
