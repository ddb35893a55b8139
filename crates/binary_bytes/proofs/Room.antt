-- How many bytes a reference list and a binary header have.
use Prim.Native.Nat.{ℕ, ◌+◌, ◌*◌, ◌≤◌}
use mathlib.Core.Path.{◌≡◌, sym, ap, ◌∙◌}
use mathlib.Core.List.{List, [], ◌∷◌, ◌++◌}
use native.Mathlib.Omega.{arith}
use lib.ListN.{length, length-append}
use Rattle.format.specs.Catalogue.{little}
use Rattle.format.specs.Records.{Record, header, reference, group, program, comment}
use Rattle.format.specs.Reading.{read_text, accept}
use Rattle.format.specs.Tidy.{tidy, text}
use Rattle.format.specs.Calls.{yes}
use Rattle.little_endian.proofs.Little.{little-length}
use Rattle.tidy_laws.proofs.Total.{order-length, tidy-length}
use Rattle.format.specs.References.{Reference, sq_list}
use Rattle.format.specs.Binary.{magic, sized, reference_bytes, list_bytes, binary, binary_out}
use Rattle.binary_bytes.proofs.Law.{more, name-length, Wrote, wrote}

pub reference-length : (r : Reference) → length (reference_bytes r) ≡ length r.name + 9
unfolding reference_bytes sized
reference-length r =
    let name : List ℕ = r.name ++ (0 ∷ []) in
    omega (
      arith,
      length-append (little 4 (length name) ++ name) (little 4 r.size),
      length-append (little 4 (length name)) name,
      length-append r.name (0 ∷ []),
      little-length 4 (length name),
      little-length 4 r.size,
    )

pub list_length : (r : Reference) (list : List Reference) → length (list_bytes (r ∷ list)) ≡ length r.name + 9 + length (list_bytes list)
unfolding list_bytes
list_length r list = length-append (reference_bytes r) (list_bytes list) ∙ ap (λ n. n + length (list_bytes list)) (reference-length r)

-- an SQ's line is longer than its reference
listed-length : (rs : List Record) → length (list_bytes (sq_list rs)) ≤ length (text rs)
unfolding sq_list list_bytes
listed-length [] = omega arith
listed-length (header v fs ∷ rs) = omega (arith, more (header v fs) rs, listed-length rs)
listed-length (reference p n fs ∷ rs) =
    omega (
      arith,
      more (reference p n fs) rs,
      name-length p n fs,
      list_length (record { name = p.bytes; size = n }) (sq_list rs),
      listed-length rs,
    )
listed-length (group p fs ∷ rs) = omega (arith, more (group p fs) rs, listed-length rs)
listed-length (program p fs ∷ rs) = omega (arith, more (program p fs) rs, listed-length rs)
listed-length (comment p ∷ rs) = omega (arith, more (comment p) rs, listed-length rs)

binary-length : (t : List ℕ) (list : List Reference) → length (binary t list) ≡ 12 + length t + length (list_bytes list)
unfolding binary magic sized
binary-length t list =
    let a : List ℕ = (66 ∷ 65 ∷ 77 ∷ 1 ∷ []) ++ (little 4 (length t) ++ t) in
    let b : List ℕ = a ++ little 4 (length list) in
    omega (
      arith,
      length-append b (list_bytes list),
      length-append a (little 4 (length list)),
      length-append (66 ∷ 65 ∷ 77 ∷ 1 ∷ []) (little 4 (length t) ++ t),
      length-append (little 4 (length t)) t,
      little-length 4 (length t),
      little-length 4 (length list),
    )

-- the binary header of a text has at most twice as many bytes as the text, and 14
pub binary-room : (t bytes : List ℕ) (room : ℕ) → binary_out t room ≡ yes bytes → length bytes ≤ 2 * length t + 14
unfolding tidy
binary-room t bytes room e =
    let w : Wrote t bytes = wrote t bytes room e in
    let rs : List Record = w.records in
    omega (
      arith,
      ap length w.bytes-are,
      binary-length (tidy rs) (sq_list rs),
      listed-length rs,
      order-length rs,
      tidy-length t rs w.reads,
    )
