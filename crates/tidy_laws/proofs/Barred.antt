-- Why a record may not follow others doesn't depend on offsets.
use mathlib.Core.Path.{◌≡◌, refl}
use mathlib.Core.List.{List, [], ◌∷◌, map}
use mathlib.Core.Option.{Option, none, some}
use lib.ListN.{length-map}
use Rattle.format.specs.Bytes.{any, none?}
use Rattle.format.specs.Lines.{Piece}
use Rattle.format.specs.Records.{Record, header, reference, group, program, comment, key}
use Rattle.format.specs.Reading.{same_keys, clash, of_kind, barred}
use Rattle.tidy_laws.specs.Bare.{bare_bytes, bare}
use Rattle.tidy_laws.proofs.Bare.{code-bare, kind-bare}

-- a piece without its offset
unfoldable pub bare_key : Option Piece → Option Piece
bare_key none = none
bare_key (some p) = some (bare_bytes p.bytes)

key-bare : (r : Record) → key (bare r) ≡ bare_key (key r)
unfolding key bare bare_key
key-bare (header v fs) = refl
key-bare (reference p n fs) = refl
key-bare (group p fs) = refl
key-bare (program p fs) = refl
key-bare (comment p) = refl

same-bare : (p q : Option Piece) → same_keys (bare_key p) (bare_key q) ≡ same_keys p q
unfolding same_keys bare_key bare_bytes
same-bare none q = refl
same-bare (some p) none = refl
same-bare (some p) (some q) = refl

clash-bare : (r q : Record) → clash (bare r) (bare q) ≡ clash r q
unfolding clash
clash-bare r q = rw (code-bare r, code-bare q, key-bare r, key-bare q, same-bare (key r) (key q)) refl

any-bare : (r : Record) (rs : List Record) → any (clash (bare r)) (map bare rs) ≡ any (clash r) rs
unfolding any
any-bare r [] = refl
any-bare r (q ∷ rs) = rw (clash-bare r q, any-bare r rs) refl

none_bare : (rs : List Record) → none? (map bare rs) ≡ none? rs
unfolding none?
none_bare [] = refl
none_bare (r ∷ rs) = refl

pub barred-bare : (before : List Record) (r : Record) → barred (map bare before) (bare r) ≡ barred before r
unfolding barred
barred-bare before r = rw (code-bare r, none_bare before, any-bare r before, kind-bare 4 before, length-map (of_kind 4 before) bare) refl
