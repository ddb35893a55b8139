-- `record::Keys::head` meets its contract: the kind says what is needed.
use mathlib.Core.Path.{◌≡◌, refl, sym}
use borrow.Author.Tests.{eq-eqb, ne_eqb}
use Rattle.std.specs.Prelude.{Option}
use Rattle.format.specs.declared.Version.{Version}
use Rattle.format.specs.declared.Kind.{Kind}
use Rattle.format.specs.declared.Kind.TheVariants as kind
use Rattle.record.specs.declared.Keys.{Keys}
use Rattle.record.specs.declared.Stretch.{Stretch}
use Rattle.record.specs.declared.Head.{Head}
use Rattle.record.specs.declared.Head.TheVariants.{Refused, ReferenceSequence, ReadGroup, Program}
use Rattle.record.specs.Keys.{versioned_head, head_from}
use Rattle.record.proofs.Keys.head.Goals as goal

-- by kind, and by what is there
module _ (k : Kind) (keys : Keys) where
  place : Stretch
  place = record { at = keys.key_at; len = keys.key_len }

  by-version : (o : Option Version) (h : Head) → k ≡ kind.Header → keys.version ≡ o → versioned_head o keys.others ≡ h → h ≡ head_from k keys
  unfolding head_from
  by-version o h e t q = rw (e, t) (sym q)

  module _ (e : k ≡ kind.ReferenceSequence) where
    no_name : keys.key_len ≡ 0 → Refused 15 ≡ head_from k keys
    unfolding head_from
    no_name z = rw (e, eq-eqb _ _ z) refl

    module _ (n : keys.key_len ≡ 0 → ⊥) where
      no_length : keys.length ≡ 0 → Refused 16 ≡ head_from k keys
      unfolding head_from
      no_length z = rw (e, ne_eqb _ _ n, eq-eqb _ _ z) refl

      measured : (keys.length ≡ 0 → ⊥) → ReferenceSequence place keys.length keys.others ≡ head_from k keys
      unfolding head_from place
      measured m = rw (e, ne_eqb _ _ n, ne_eqb _ _ m) refl

  module _ (e : k ≡ kind.ReadGroup) where
    no-group : keys.key_len ≡ 0 → Refused 15 ≡ head_from k keys
    unfolding head_from
    no-group z = rw (e, eq-eqb _ _ z) refl

    group : (keys.key_len ≡ 0 → ⊥) → ReadGroup place keys.others ≡ head_from k keys
    unfolding head_from place
    group n = rw (e, ne_eqb _ _ n) refl

  module _ (e : k ≡ kind.Program) where
    no_program_lem : keys.key_len ≡ 0 → Refused 15 ≡ head_from k keys
    unfolding head_from
    no_program_lem z = rw (e, eq-eqb _ _ z) refl

    program : (keys.key_len ≡ 0 → ⊥) → Program place keys.others ≡ head_from k keys
    unfolding head_from place
    program n = rw (e, ne_eqb _ _ n) refl

  no_fields : k ≡ kind.Comment → Refused 15 ≡ head_from k keys
  unfolding head_from
  no_fields e = rw e refl

pub returns-in-None : goal.returns-in-None
unfolding versioned_head
returns-in-None c = by-version _ _ _ _ c.in-Header.is c.in-None.is refl

pub returns-in-Some : goal.returns-in-Some
unfolding versioned_head
returns-in-Some c = by-version _ _ _ _ c.in-Header.is c.in-Some.is refl

pub returns-then-self-eq0 : goal.returns-then-self-eq0
returns-then-self-eq0 c = no_name _ _ c.in-ReferenceSequence.is c.if-self-eq0.true

pub returns-then-self-eq0-2 : goal.returns-then-self-eq0-2
returns-then-self-eq0-2 c = no_length _ _ c.in-ReferenceSequence.is c.if-self-eq0.false c.if-self-eq0-2.true

pub returns-then-self-eq0-3 : goal.returns-then-self-eq0-3
returns-then-self-eq0-3 c = no-group _ _ c.in-ReadGroup.is c.if-self-eq0-3.true

pub returns-then-self-eq0-4 : goal.returns-then-self-eq0-4
returns-then-self-eq0-4 c = no_program_lem _ _ c.in-Program.is c.if-self-eq0-4.true

pub returns-else-self-eq0-2 : goal.returns-else-self-eq0-2
unfolding place
returns-else-self-eq0-2 c = measured _ _ c.in-ReferenceSequence.is c.if-self-eq0.false c.if-self-eq0-2.false

pub returns-else-self-eq0-3 : goal.returns-else-self-eq0-3
unfolding place
returns-else-self-eq0-3 c = group _ _ c.in-ReadGroup.is c.if-self-eq0-3.false

pub returns-else-self-eq0-4 : goal.returns-else-self-eq0-4
unfolding place
returns-else-self-eq0-4 c = program _ _ c.in-Program.is c.if-self-eq0-4.false

pub returns-in-Comment : goal.returns-in-Comment
returns-in-Comment c = no_fields _ _ c.in-Comment.is
