-- The sizes of the kinds, one line further.
use Prim.Native.Nat.{ℕ, ◌+◌, ◌≤◌}
use mathlib.Core.Path.{◌≡◌, refl, sym, ap, ◌∙◌}
use mathlib.Core.Bool.{Bool, true, false, cond}
use mathlib.Core.List.{List, [], ◌++◌}
use native.Mathlib.Omega.{arith}
use lib.ListN.{length, length-append}
use lib.Dec.{eqb}
use Rattle.format.specs.Records.{Record, Line}
use Rattle.format.specs.Tidy.{text, tidy}
use Rattle.format.specs.Reading.{of_kind}
use Rattle.format.specs.declared.Kind.{Kind}
use Rattle.format.specs.declared.Kind.TheVariants.{Header, ReferenceSequence, ReadGroup, Program, Comment}
use Rattle.tidy_line.specs.Line.{line_text}
use Rattle.tidy_text.specs.Accepted.{with_record}
use Rattle.tidy_sizes.specs.Numbers.{kind_number, each, get, no_bytes, plus, front, total}
use Rattle.tidy_text.specs.Kinds.{kind_text, text_of_kind, front_text}
use Rattle.tidy_text.specs.Sizes.{sizes_of}
use Rattle.tidy_sizes.specs.declared.PerKind.{PerKind}
use Rattle.tidy_text.proofs.OfKind.{only, kind-turn}
use Rattle.tidy_text.proofs.Total.{size, front-sizes, tidy-sizes}

pub get-plus : (k j : Kind) (n : ℕ) (s : PerKind) → get k (plus j n s) ≡ cond (eqb (kind_number j) (kind_number k)) (get k s + n) (get k s)
unfolding get plus
get-plus Header j n s = refl
get-plus ReferenceSequence j n s = refl
get-plus ReadGroup j n s = refl
get-plus Program j n s = refl
get-plus Comment j n s = refl

-- the number of a kind and what is still to come, before a line and after it
pub size-turn : (j k : Kind) (l : Line) (rs : List Record) (s : PerKind) → kind_text k l ≡ only j (line_text l) k
    → get k s + size k (with_record l rs) ≡ get k (plus j (length (line_text l)) s) + size k rs
size-turn j k l rs s e =
    ap (λ xs. get k s + length xs) (kind-turn j k l rs e)
    ∙ go (eqb (kind_number j) (kind_number k))
    ∙ ap (λ n. n + size k rs) (sym (get-plus k j (length (line_text l)) s))
  where
    go : (t : Bool) → get k s + length (cond t (line_text l) [] ++ text_of_kind k rs) ≡ cond t (get k s + length (line_text l)) (get k s) + size k rs
    go true = omega (arith, length-append (line_text l) (text_of_kind k rs))
    go false = refl

-- of a line's own kind
pub own-size : (j : Kind) (l : Line) (rs : List Record) → kind_text j l ≡ only j (line_text l) j → size j (with_record l rs) ≡ length (line_text l) + size j rs
unfolding kind_number
own-size j l rs e = ap length (kind-turn j j l rs e) ∙ go j
  where
    go : (j : Kind) → length (only j (line_text l) j ++ text_of_kind j rs) ≡ length (line_text l) + size j rs
    go Header = length-append (line_text l) (text_of_kind Header rs)
    go ReferenceSequence = length-append (line_text l) (text_of_kind ReferenceSequence rs)
    go ReadGroup = length-append (line_text l) (text_of_kind ReadGroup rs)
    go Program = length-append (line_text l) (text_of_kind Program rs)
    go Comment = length-append (line_text l) (text_of_kind Comment rs)

pub get_none : (k : Kind) → get k no_bytes ≡ 0
unfolding get no_bytes
get_none Header = refl
get_none ReferenceSequence = refl
get_none ReadGroup = refl
get_none Program = refl
get_none Comment = refl

pub size_none : (k : Kind) → text_of_kind k [] ≡ []
unfolding text_of_kind of_kind text
size_none k = refl

-- ---- all kinds

pub get-sizes : (k : Kind) (rs : List Record) → get k (sizes_of rs) ≡ size k rs
unfolding get sizes_of
get-sizes Header rs = refl
get-sizes ReferenceSequence rs = refl
get-sizes ReadGroup rs = refl
get-sizes Program rs = refl
get-sizes Comment rs = refl

pub each-get : (s : PerKind) (f : Kind → ℕ) → ((k : Kind) → get k s ≡ f k) → s ≡ each f
unfolding get
each-get s f h = rw (← h Header, ← h ReferenceSequence, ← h ReadGroup, ← h Program, ← h Comment) refl

pub front-size : (rs : List Record) → front (sizes_of rs) ≡ length (front_text rs)
unfolding front sizes_of
front-size rs = sym (front-sizes rs)

pub total_size : (rs : List Record) → total (sizes_of rs) ≡ length (tidy rs)
unfolding front total sizes_of
total_size rs = sym (tidy-sizes rs)

-- no kind has more than the whole
pub size-le : (k : Kind) (rs : List Record) → size k rs ≤ length (tidy rs)
size-le Header rs = omega (arith, tidy-sizes rs)
size-le ReferenceSequence rs = omega (arith, tidy-sizes rs)
size-le ReadGroup rs = omega (arith, tidy-sizes rs)
size-le Program rs = omega (arith, tidy-sizes rs)
size-le Comment rs = omega (arith, tidy-sizes rs)
