-- The keys of a line, as a walk meets them.
use Prim.Native.Nat.{ℕ, ◌+◌, ◌<◌}
use mathlib.Core.Path.{◌≡◌, refl, sym, ap, ap₂, ◌∙◌}
use mathlib.Core.Bool.{Bool, true, false, ◌&&◌}
use mathlib.Core.List.{List, []}
use native.Mathlib.Omega.{arith}
use lib.ListN.{length, drop, get_or}
use lib.Dec.{eqb}
use borrow.Author.Tests.{eqb-true, ne_eqb}
use Rattle.format.specs.Fields.{Field, last_of}
use Rattle.format.specs.declared.Kind.{Kind}
use Rattle.format.specs.declared.Kind.TheVariants.{Header, ReferenceSequence, ReadGroup, Program, Comment}
use Rattle.byte_slices.specs.Upto.{upto}
use Rattle.format.specs.Keys.{is_key}
use Rattle.lists.proofs.Bools.{never, and_left, or_left, or_right, or_split}
use Rattle.accepted_line.specs.Run.{fields_from, AtField}
use Rattle.accepted_line.specs.Next.{or_value, value_at}
use Rattle.record.specs.declared.Stretch.{Stretch}
use Rattle.accepted_line.proofs.fields.Place.{same_at, other_at}
use Rattle.accepted_line.specs.Keys.{last_key, last_number, keys_from, with_key}
use Rattle.accepted_line.specs.declared.KeyValues.{KeyValues}

pub keys_none : (k : Kind) (ks : KeyValues) (fs : List Field) → fs ≡ [] → keys_from k ks fs ≡ ks
unfolding keys_from or_value last_key last_number last_of
keys_none k ks fs e = rw e (go k)
  where
    go : (k : Kind) → ◌≡◌ {A = KeyValues} (record { key = or_value ks.key (last_key k []); number = or_value ks.number (last_number k []) }) ks
    go Header = refl
    go ReferenceSequence = refl
    go ReadGroup = refl
    go Program = refl
    go Comment = refl

module _ (once : Bool) (at : ℕ) (line : List ℕ) (i : ℕ) (h : AtField once at line i) (l : i < length line) (end : ℕ) (q : end ≡ i + 1 + upto 9 (drop (i + 1) line)) where
  a : ℕ
  a = get_or line (i + 1) 0

  b : ℕ
  b = get_or line (i + 2) 0

  v : Stretch
  v = value_at at i end

  rest : List Field
  rest = fields_from at line end

  same : (x y : ℕ) (w : Stretch) → eqb a x && eqb b y ≡ true → or_value w (last_of x y (fields_from at line i)) ≡ or_value v (last_of x y rest)
  unfolding a b v rest
  same x y w t = same_at once at line i h l end q x y w t

  other : (x y : ℕ) (w : Stretch) → eqb a x && eqb b y ≡ false → or_value w (last_of x y (fields_from at line i)) ≡ or_value w (last_of x y rest)
  unfolding a b rest
  other x y w t = other_at once at line i h l end q x y w t

  -- no key is met
  pub keys-past : (k : Kind) (ks : KeyValues) → is_key k (get_or line (i + 1) 0) (get_or line (i + 2) 0) ≡ false → keys_from k ks (fields_from at line i) ≡ keys_from k ks (fields_from at line end)
  unfolding keys_from last_key last_number is_key a b rest
  keys-past Header ks n = ap (λ v. record { key = v; number = ks.number }) (other 86 78 ks.key n)
  keys-past ReferenceSequence ks n =
      let x : Bool = eqb a 83 && eqb b 78 in
      let y : Bool = eqb a 76 && eqb b 78 in
      ap₂ (λ v w. record { key = v; number = w }) (other 83 78 ks.key (or_left x y n)) (other 76 78 ks.number (or_right x y n))
  keys-past ReadGroup ks n = ap (λ v. record { key = v; number = ks.number }) (other 73 68 ks.key n)
  keys-past Program ks n = ap (λ v. record { key = v; number = ks.number }) (other 73 68 ks.key n)
  keys-past Comment ks n = refl

  -- the tag's first byte is `x`, which is no L
  no_length : (x y : ℕ) → eqb a x && eqb b y ≡ true → (x ≡ 76 → ⊥) → eqb a 76 ≡ false
  no_length x y t n = ne_eqb a 76 (λ e. n (sym (eqb-true a x (and_left (eqb a x) (eqb b y) t)) ∙ e))

  half : (t u : Bool) → t ≡ false → t && u ≡ false
  half t u e = rw e refl

  -- a key is met
  pub keys-met : (k : Kind) (ks : KeyValues) → is_key k (get_or line (i + 1) 0) (get_or line (i + 2) 0) ≡ true
      → keys_from k ks (fields_from at line i) ≡ keys_from k (with_key ks (get_or line (i + 1) 0) (value_at at i end)) (fields_from at line end)
  unfolding keys_from last_key last_number is_key with_key a b v rest
  keys-met Header ks n = rw (no_length 86 78 n (λ e. absurd (omega arith))) (ap (λ v. record { key = v; number = ks.number }) (same 86 78 ks.key n))
  keys-met ReferenceSequence ks n =
      or_split (eqb a 83 && eqb b 78) (eqb a 76 && eqb b 78) n
      (λ t.
      let o = no_length 83 78 t (λ e. absurd (omega arith)) in
      rw o (ap₂ (λ v w. record { key = v; number = w }) (same 83 78 ks.key t) (other 76 78 ks.number (half (eqb a 76) (eqb b 78) o))))
      (λ t.
      let o : eqb a 76 ≡ true = and_left (eqb a 76) (eqb b 78) t in
      let m : eqb a 83 ≡ false = ne_eqb a 83 (λ e. absurd (omega (arith, eqb-true a 76 o))) in
      rw o (ap₂ (λ v w. record { key = v; number = w }) (other 83 78 ks.key (half (eqb a 83) (eqb b 78) m)) (same 76 78 ks.number t)))
  keys-met ReadGroup ks n = rw (no_length 73 68 n (λ e. absurd (omega arith))) (ap (λ v. record { key = v; number = ks.number }) (same 73 68 ks.key n))
  keys-met Program ks n = rw (no_length 73 68 n (λ e. absurd (omega arith))) (ap (λ v. record { key = v; number = ks.number }) (same 73 68 ks.key n))
  keys-met Comment ks n = absurd (never (cc))
