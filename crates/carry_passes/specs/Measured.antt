-- The answer of measuring the lines from the first kept line on.
use Rattle.std.specs.Prelude.{ℕ, zero, suc, ◌≡◌, List, Result, Some, Ok, Err, length}
use Rattle.std.specs.Prelude as std
use Rattle.std.proofs.Math.Option.{Option, none, some}
use Rattle.format.specs.Records.{Line}
use Rattle.format.specs.Calls.{Answer, refused, yes, writing}
use Rattle.format.specs.declared.Kind.{Kind}
use Rattle.format.specs.declared.LineNo.{LineNo}
use Rattle.tidy_sizes.specs.declared.PerKind.{PerKind}
use Rattle.tidy_text.specs.Sizes.{grown_by, sizes_of}
use Rattle.carry_early.specs.declared.Begin.{Begin}
use Rattle.carry_passes.specs.From.{kept_from, skipped_from, unwritable_from}
use Rattle.carry_passes.specs.declared.KeptSizes.{KeptSizes}

-- what a line of a kind adds to the sizes, if its record can be written: `n` is 0 if the line is kept, and otherwise it adds nothing
unfoldable pub grown_at : ℕ → Kind → Line → PerKind → std.Option PerKind
unfolding grown_by
grown_at zero j l s = grown_by j l s
grown_at (suc n) j l s = Some s

-- the sizes of the tidy text and the number of skipped lines, or the line of the first kept SQ whose name can't be written
unfoldable pub kept_measured : Option ℕ → PerKind → ℕ → Result KeptSizes LineNo
kept_measured none s n = Ok (record { sizes = s; skipped = n })
kept_measured (some l) s n = Err (record { 0 = l })

-- the same for a text whose first kept line starts at `b`
abbrev pub measured_from : List ℕ → Begin → Result KeptSizes LineNo
measured_from t b = kept_measured (unwritable_from t b) (sizes_of (kept_from t b)) (length (skipped_from t b))

-- what each answer says: 24 on the line of that SQ, or the sizes and the count
unfoldable pub kept_answer : Result KeptSizes LineNo → Answer (PerKind × ℕ)
kept_answer (Err l) = refused 24 l.0
kept_answer (Ok s) = yes (s.sizes, s.skipped)

-- if `r` is a refusal for a text, then writing what is kept of the text is refused with the same number and line
abbrev pub KeptTold : List ℕ → Begin → Result KeptSizes LineNo → Type 0
KeptTold t b r = (room n l : ℕ) (text : List ℕ) → kept_answer r ≡ refused n l → writing room (unwritable_from t b) text ≡ refused n l
