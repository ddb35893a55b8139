-- The line that is parsed while it is not known that a tag is repeated: by the strict rule first.
use Prim.Native.Nat.{ℕ}
use mathlib.Core.Path.{◌≡◌, refl, ap, ◌∙◌}
use mathlib.Core.Bool.{Bool, true, false, ◌&&◌}
use Rattle.format.specs.Lines.{Piece}
use Rattle.format.specs.Records.{header, reference, group, program, comment, Line, refused_line, read, line}
use Rattle.accepted.specs.Read.{is_read}
use Rattle.lists.proofs.Bools.{never}
use Rattle.accepted_line.proofs.Lax.{line-lax}
use Rattle.record.specs.declared.Head.{Head}
use Rattle.record.specs.declared.Head.TheVariants as head
use Rattle.record.specs.Head.{head_of, record_head}
use Rattle.read_judge.specs.declared.Parsed.{Parsed}
use Rattle.read_judge.specs.Parsed.{parsed_by}

-- a head that is not a refusal is a record's
pub head_read : (l : Line) → ((n : ℕ) → head_of l ≡ head.Refused n → ⊥) → is_read l ≡ true
unfolding head_of is_read
head_read (refused_line n) k = absurd (k n refl)
head_read (read r) k = refl

pub head-refused : (l : Line) (n : ℕ) → head_of l ≡ head.Refused n → is_read l ≡ false
unfolding head_of record_head is_read
head-refused (refused_line m) n e = refl
head-refused (read (header v fs)) n e = absurd (never (cc))
head-refused (read (reference p m fs)) n e = absurd (never (cc))
head-refused (read (group p fs)) n e = absurd (never (cc))
head-refused (read (program p fs)) n e = absurd (never (cc))
head-refused (read (comment p)) n e = absurd (never (cc))

module _ (once : Bool) (p : Piece) (h : Head) where
  -- the text forbids repeated tags
  pub parsed-strict : (strict : Bool) → strict ≡ true → h ≡ head_of (line true p) → ◌≡◌ {A = Parsed} (record { head = h; once = once }) (parsed_by strict once p)
  unfolding parsed_by
  parsed-strict true s e = rw e (go once)
    where
      go : (b : Bool) → ◌≡◌ {A = Parsed} (record { head = head_of (line true p); once = b }) (parsed_by true b p)
      go true = refl
      go false = refl
  parsed-strict false s e = absurd (never (cc))

  -- a tag was repeated before
  pub parsed-known : once ≡ false → h ≡ head_of (line once p) → ◌≡◌ {A = Parsed} (record { head = h; once = once }) (parsed_by false once p)
  unfolding parsed_by
  parsed-known o e = rw (e, o) refl

  -- none is repeated
  pub parsed-read : once ≡ true → h ≡ head_of (line once p) → is_read (line true p) ≡ true → ◌≡◌ {A = Parsed} (record { head = h; once = once }) (parsed_by false once p)
  unfolding parsed_by
  parsed-read o e a =
      let f : h ≡ head_of (line false p) = e ∙ ap (λ s. head_of (line s p)) o ∙ ap head_of (line-lax true p a) in
      rw (f, o, a) refl

  -- one is repeated here, or the line is refused by either rule
  pub parsed-again : h ≡ head_of (line false p) → is_read (line true p) ≡ false → ◌≡◌ {A = Parsed} (record { head = h; once = false }) (parsed_by false once p)
  unfolding parsed_by
  parsed-again e a = rw (e, a) (go once)
    where
      go : (b : Bool) → ◌≡◌ {A = Parsed} (record { head = head_of (line false p); once = false }) (record { head = head_of (line false p); once = b && false })
      go true = refl
      go false = refl
