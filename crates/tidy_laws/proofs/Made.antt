-- The record that a tidy line's fields make: keys first, then fields that are no keys, no tag twice.
use Prim.Native.Nat.{ℕ}
use mathlib.Core.Path.{◌≡◌, refl}
use mathlib.Core.Bool.{false}
use mathlib.Core.List.{List, ◌∷◌}
use mathlib.Core.Option.{some}
use Rattle.format.specs.Bytes.{any}
use Rattle.format.specs.Decimal.{worth}
use Rattle.format.specs.Lines.{Piece}
use Rattle.format.specs.Fields.{Field, tagged, repeats, later, last_of, without}
use Rattle.format.specs.Records.{header, reference, group, program, read, announcing, versioned, measured, keyed, made}
use Rattle.format.specs.Version.{version}
use Rattle.format.specs.declared.Version.{Version}
use Rattle.format.specs.declared.Kind.TheVariants.{Header, ReferenceSequence, ReadGroup, Program}
use Rattle.tidy_laws.proofs.Once.{without-absent, last-absent, settled-once}

-- a key and its value
abbrev of : ℕ → ℕ → Piece → Field
of a b p = record { tag₀ = a; tag₁ = b; value = p }

module _ (fs : List Field) (once : repeats fs ≡ false) where
  pub made-header : (p : Piece) (v : Version) → any (tagged 86 78) fs ≡ false → version p.bytes ≡ some v → made Header (of 86 78 p ∷ fs) ≡ read (header v fs)
  unfolding made versioned announcing without last_of later tagged
  made-header p v h e = rw (without-absent 86 78 fs h, last-absent 86 78 fs h, settled-once fs once, e) refl

  pub made-reference : (p n : Piece) → any (tagged 83 78) fs ≡ false → any (tagged 76 78) fs ≡ false
      → made ReferenceSequence (of 83 78 p ∷ of 76 78 n ∷ fs) ≡ read (reference p (worth n.bytes) fs)
  unfolding made measured without last_of later tagged
  made-reference p n h g =
      rw (without-absent 76 78 fs g, without-absent 83 78 fs h, last-absent 83 78 fs h, last-absent 76 78 fs g, settled-once fs once) refl

  pub made-group : (p : Piece) → any (tagged 73 68) fs ≡ false → made ReadGroup (of 73 68 p ∷ fs) ≡ read (group p fs)
  unfolding made keyed without last_of later tagged
  made-group p h = rw (without-absent 73 68 fs h, last-absent 73 68 fs h, settled-once fs once) refl

  pub made-program : (p : Piece) → any (tagged 73 68) fs ≡ false → made Program (of 73 68 p ∷ fs) ≡ read (program p fs)
  unfolding made keyed without last_of later tagged
  made-program p h = rw (without-absent 73 68 fs h, last-absent 73 68 fs h, settled-once fs once) refl
