-- The texts of the kinds at their places: a line's record is written at its kind's place, and the others wait.
use Prim.Native.Nat.{ℕ, ◌+◌, ◌≤◌}
use mathlib.Core.Path.{◌≡◌, refl, sym, ap, subst, ◌∙◌}
use mathlib.Core.List.{List, [], ◌∷◌, ◌++◌}
use native.Mathlib.Omega.{arith}
use lib.ListN.{length, length-append}
use Rattle.format.specs.Records.{Record, Line}
use Rattle.format.specs.Tidy.{tidy}
use Rattle.format.specs.declared.Kind.{Kind}
use Rattle.format.specs.declared.Kind.TheVariants.{Header, ReferenceSequence, ReadGroup, Program, Comment}
use Rattle.byte_slices.specs.Over.{over}
use Rattle.byte_slices.proofs.Over.{over_none, over-length, over-over}
use Rattle.tidy_line.specs.Line.{line_text}
use Rattle.tidy_parts.proofs.Wrote.{Wrote, wrote_then}
use Rattle.tidy_text.specs.Accepted.{with_record}
use Rattle.tidy_sizes.specs.Numbers.{kind_number, get, plus, front, kind_starts}
use Rattle.tidy_text.specs.Kinds.{kind_text, text_of_kind, front_text}
use Rattle.tidy_text.specs.Sizes.{sizes_of}
use Rattle.tidy_text.specs.Placed.{Part, with_parts, begins, Apart, parts}
use Rattle.tidy_sizes.specs.declared.PerKind.{PerKind}
use Rattle.tidy_text.proofs.OfKind.{only, kind-turn}
use Rattle.tidy_text.proofs.Sizes.{size_none, front-size}
use Rattle.tidy_text.proofs.Total.{front-sizes, tidy-sizes, tidy-kinds}
use Rattle.tidy_text.proofs.Placed.{over-apart, Split, split}

-- ---- a step

-- a text for each kind at the kind's place
abbrev spread : PerKind → (Kind → List ℕ) → List Part
spread c f =
    let part : Kind → Part = λ k. record { at = get k c; bytes = f k } in
    part Header ∷ part ReferenceSequence ∷ part ReadGroup ∷ part Program ∷ part Comment ∷ []

abbrev part : Kind → PerKind → List Record → Part
part k c rs = record { at = get k c; bytes = text_of_kind k rs }

spread_same : (c : PerKind) (f g : Kind → List ℕ) → ((k : Kind) → f k ≡ g k) → spread c f ≡ spread c g
spread_same c f g h = rw (h Header, h ReferenceSequence, h ReadGroup, h Program, h Comment) refl

-- `xs` of the kind `j` comes first: it is written, and what is left comes after it
split-kind : (j : Kind) (out xs : List ℕ) (n : ℕ) (c : PerKind) (rs : List Record) → n ≤ length out
    → Apart (spread c (λ k. only j xs k ++ text_of_kind k rs)) n
    → Split out n (get j c) xs (spread c (λ k. only j xs k ++ text_of_kind k rs)) (parts (plus j (length xs) c) rs)
unfolding get plus parts kind_number
split-kind Header out xs n c rs m h =
    split [] out n c.hd xs (text_of_kind Header rs) (part ReferenceSequence c rs ∷ part ReadGroup c rs ∷ part Program c rs ∷ part Comment c rs ∷ []) m h
split-kind ReferenceSequence out xs n c rs m h =
    split (part Header c rs ∷ []) out n c.sq xs (text_of_kind ReferenceSequence rs) (part ReadGroup c rs ∷ part Program c rs ∷ part Comment c rs ∷ []) m h
split-kind ReadGroup out xs n c rs m h =
    split (part Header c rs ∷ part ReferenceSequence c rs ∷ []) out n c.rg xs (text_of_kind ReadGroup rs) (part Program c rs ∷ part Comment c rs ∷ []) m h
split-kind Program out xs n c rs m h =
    split (part Header c rs ∷ part ReferenceSequence c rs ∷ part ReadGroup c rs ∷ []) out n c.pg xs (text_of_kind Program rs) (part Comment c rs ∷ []) m h
split-kind Comment out xs n c rs m h =
    split (part Header c rs ∷ part ReferenceSequence c rs ∷ part ReadGroup c rs ∷ part Program c rs ∷ []) out n c.co xs (text_of_kind Comment rs) [] m h

-- a line's record is written at the place of its kind
pub split-turn : (j : Kind) (out : List ℕ) (n : ℕ) (c : PerKind) (l : Line) (rs : List Record) → ((k : Kind) → kind_text k l ≡ only j (line_text l) k) → n ≤ length out
    → Apart (parts c (with_record l rs)) n → Split out n (get j c) (line_text l) (parts c (with_record l rs)) (parts (plus j (length (line_text l)) c) rs)
unfolding parts
split-turn j out n c l rs e m h =
    let xs : List ℕ = line_text l in
    let q : parts c (with_record l rs) ≡ spread c (λ k. only j xs k ++ text_of_kind k rs) =
    spread_same c (λ k. text_of_kind k (with_record l rs)) (λ k. only j xs k ++ text_of_kind k rs) (λ k. kind-turn j k l rs (e k)) in
    subst (λ ps. Split out n (get j c) xs ps (parts (plus j (length xs) c) rs)) (sym q) (split-kind j out xs n c rs m (subst (λ ps. Apart ps n) q h))

-- after the last line
pub placed-none : (out : List ℕ) (c : PerKind) → with_parts out (parts c []) ≡ out
unfolding with_parts parts
placed-none out c =
    rw (size_none Header, size_none ReferenceSequence, size_none ReadGroup, size_none Program, size_none Comment)
    (rw (over_none out (get Header c), over_none out (get ReferenceSequence c), over_none out (get ReadGroup c), over_none out (get Program c), over_none out (get Comment c)) refl)

-- ---- the whole

module _ (out : List ℕ) (gap : ℕ) (rs : List Record) (h : length (tidy rs) + gap ≤ length out) where
  pub starts_apart : Apart (parts (kind_starts gap (sizes_of rs)) rs) (length out)
  unfolding Apart begins parts kind_starts front sizes_of get
  starts_apart =
      let f = front-sizes rs in
      let t = tidy-sizes rs in
      (omega arith, (omega arith, (omega arith, (omega arith, (omega (arith, h, t), tt)))))

  pub starts-placed : with_parts out (parts (kind_starts gap (sizes_of rs)) rs) ≡ over (over out 0 (front_text rs)) (length (front_text rs) + gap) (text_of_kind Comment rs)
  unfolding with_parts parts kind_starts front sizes_of get front_text
  starts-placed =
      let a = text_of_kind Header rs in
      let b = text_of_kind ReferenceSequence rs in
      let g = text_of_kind ReadGroup rs in
      let p = text_of_kind Program rs in
      let room = tidy-sizes rs in
      let one : Wrote out 0 (over out 0 a) (length a) a = (omega arith, refl) in
      let two = wrote_then out 0 _ _ _ (length a + length b) a b one (refl, refl) (omega (arith, h, room, length-append a b)) in
      let three = wrote_then out 0 _ _ _ (length a + length b + length g) (a ++ b) g two (refl, refl) (omega (arith, h, room, length-append a b, length-append (a ++ b) g)) in
      let four = wrote_then out 0 _ _ _ (length a + length b + length g + length p) (a ++ b ++ g) p three (refl, refl) (omega (arith, h, room, length-append a b, length-append (a ++ b) g, length-append (a ++ b ++ g) p)) in
      ap (λ o. over o (front (sizes_of rs) + gap) (text_of_kind Comment rs)) four.1
      ∙ ap (λ n. over (over out 0 (front_text rs)) (n + gap) (text_of_kind Comment rs)) (front-size rs)

-- with no gap it is the tidy text
pub around-none : (out : List ℕ) (rs : List Record) → length (tidy rs) ≤ length out
    → over (over out 0 (front_text rs)) (length (front_text rs) + 0) (text_of_kind Comment rs) ≡ over out 0 (tidy rs)
around-none out rs h =
    let a = front_text rs in
    let b = text_of_kind Comment rs in
    ap (λ n. over (over out 0 a) n b) (omega arith)
    ∙ over-over out 0 a b (omega (arith, h, ap length (tidy-kinds rs), length-append a b))
    ∙ ap (over out 0) (sym (tidy-kinds rs))

-- with a gap that is filled, what fills it comes before the comments
pub around-filled : (out new : List ℕ) (rs : List Record) → length (tidy rs) + length new ≤ length out
    → over (over (over out 0 (front_text rs)) (length (front_text rs) + length new) (text_of_kind Comment rs)) (length (front_text rs)) new
    ≡ over out 0 (front_text rs ++ new ++ text_of_kind Comment rs)
around-filled out new rs h =
    let a = front_text rs in
    let b = text_of_kind Comment rs in
    let size : length (front_text rs) + length new + length (text_of_kind Comment rs) ≤ length out = omega (arith, h, ap length (tidy-kinds rs), length-append a b) in
    let one : Wrote out 0 (over out 0 a) (length a) a = (omega arith, refl) in
    let two = wrote_then out 0 _ _ _ (length a + length new) a new one (refl, refl) (omega (arith, size, length-append a new)) in
    let three = wrote_then out 0 _ _ _ (length a + length new + length b) (a ++ new) b two (refl, refl) (omega (arith, size, length-append a new, length-append (a ++ new) b)) in
    sym (over-apart (over out 0 a) (length a) new (length a + length new) b (omega arith) (omega (arith, size, over-length out 0 a (omega (arith, size))))) ∙ three.1
