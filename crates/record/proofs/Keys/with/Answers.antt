-- `record::Keys::with` meets its contract: which key it is, or none.
use Prim.Native.Nat.{ℕ, ◌+◌}
use mathlib.Core.Path.{◌≡◌, refl, sym, ap, ◌∙◌}
use mathlib.Core.Bool.{Bool, true, false}
use native.Mathlib.Numerals.{add-one}
use borrow.Author.Tests.{not-true, not-false}
use Rattle.std.specs.Prelude.{Some}
use Rattle.format.specs.declared.Version.{Version}
use Rattle.format.specs.declared.Kind.{Kind}
use Rattle.field.specs.declared.ParsedField.{ParsedField}
use Rattle.field_tag.specs.Numbers.{is_version, is_length}
use Rattle.format.specs.Keys.{is_key}
use Rattle.record.specs.declared.Keys.{Keys}
use Rattle.record.specs.Keys.{with_field, with_place, with_version, with_length}
use Rattle.record.proofs.Keys.with.Goals as goal

module _ (k : Kind) (f : ParsedField) (at : ℕ) (again : Bool) (keys : Keys) where
  module _ (n : is_key k f.tag_0 f.tag_1 ≡ false) where
    came-again : again ≡ true → keys ≡ with_field k f at again keys
    unfolding with_field
    came-again t = rw (n, t) refl

    other : again ≡ false
        → ◌≡◌ {A = Keys}
        (record {
          key_at = keys.key_at;
          key_len = keys.key_len;
          length = keys.length;
          version = keys.version;
          others = keys.others + 1;
        })
        (with_field k f at again keys)
    unfolding with_field
    other t = rw (n, t, add-one keys.others) refl

  module _ (y : is_key k f.tag_0 f.tag_1 ≡ true) where
    version : is_version k f.tag_0 f.tag_1 ≡ true → with_version f.major f.minor keys ≡ with_field k f at again keys
    unfolding with_field
    version v = rw (y, v) refl

    module _ (n : is_version k f.tag_0 f.tag_1 ≡ false) where
      length : is_length k f.tag_0 f.tag_1 ≡ true → with_length f.length keys ≡ with_field k f at again keys
      unfolding with_field
      length l = rw (y, n, l) refl

      place : is_length k f.tag_0 f.tag_1 ≡ false → with_place at f.len keys ≡ with_field k f at again keys
      unfolding with_field
      place l = rw (y, n, l) refl

pub returns-then-again : goal.returns-then-again
returns-then-again c =
    came-again _ _ _ _ _ (sym c.is_key.ensures ∙ not-true _ c.if-not-is_key.true-raw) c.if-again.true

pub returns-then-not-is_key : goal.returns-then-not-is_key
returns-then-not-is_key c =
    other _ _ _ _ _ (sym c.is_key.ensures ∙ not-true _ c.if-not-is_key.true-raw) c.if-again.false

pub returns-then-is_version : goal.returns-then-is_version
unfolding with_version
returns-then-is_version c =
    ap (λ (v : Version). record c.args.self { version = Some v }) c.new.ensures
    ∙ version _ _ _ _ _ (sym c.is_key.ensures ∙ not-false _ c.if-not-is_key.false-raw) (sym c.is_version.ensures ∙ c.if-is_version.true)

pub returns-then-is_length : goal.returns-then-is_length
unfolding with_length
returns-then-is_length c =
    length _ _ _ _ _ (sym c.is_key.ensures ∙ not-false _ c.if-not-is_key.false-raw) (sym c.is_version.ensures ∙ c.if-is_version.false) (sym c.is_length.ensures ∙ c.if-is_length.true)

pub returns : goal.returns
unfolding with_place
returns c =
    place _ _ _ _ _ (sym c.is_key.ensures ∙ not-false _ c.if-not-is_key.false-raw) (sym c.is_version.ensures ∙ c.if-is_version.false) (sym c.is_length.ensures ∙ c.if-is_length.false)
