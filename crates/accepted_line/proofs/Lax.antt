-- A line that is accepted where repeated tags are forbidden is accepted where they are allowed, as the same record.
use Prim.Native.Nat.{ℕ, ◌+◌}
use mathlib.Core.Path.{◌≡◌, refl, sym, ap, ◌∙◌}
use mathlib.Core.Bool.{Bool, true, false, cond}
use mathlib.Core.List.{List, [], ◌∷◌}
use mathlib.Core.Option.{Option, none, some}
use lib.Dec.{eqb}
use Rattle.format.specs.Lines.{Piece, cut, placed}
use Rattle.format.specs.Fields.{Scan, scan, repeats}
use Rattle.format.specs.Records.{Line, refused_line, stopped, judged, fielded, body, kind_of, bodied, kinded, prefixed, breaks, line}
use Rattle.format.specs.declared.Kind.{Kind}
use Rattle.format.specs.declared.Kind.TheVariants.{Header, ReferenceSequence, ReadGroup, Program, Comment}
use Rattle.format.specs.Bytes.{any}
use Rattle.accepted.specs.Read.{is_read}
use Rattle.lists.proofs.Bools.{never}

-- a test on the way that both take
both : (t : Bool) (x y : Line) (n : ℕ) → (is_read x ≡ true → x ≡ y) → is_read (cond t x (refused_line n)) ≡ true → cond t x (refused_line n) ≡ cond t y (refused_line n)
unfolding is_read
both true x y n f h = f h
both false x y n f h = refl

judged-lax : (k : Kind) (s : Scan) → is_read (judged true k s) ≡ true → judged true k s ≡ judged false k s
unfolding is_read judged
judged-lax k s h = go (repeats s.fields) h
  where
    go : (t : Bool) → is_read (cond t (refused_line 14) (stopped k s.fields s.stop)) ≡ true → cond t (refused_line 14) (stopped k s.fields s.stop) ≡ stopped k s.fields s.stop
    go true h = absurd (never (cc))
    go false h = refl

fielded-lax : (k : Kind) (at : ℕ) (s : List ℕ) → is_read (fielded true k at s) ≡ true → fielded true k at s ≡ fielded false k at s
unfolding is_read fielded
fielded-lax k at [] h = refl
fielded-lax k at (b ∷ s) h =
    let c = scan k (placed (at + 1) (cut 9 s)) in
    both (eqb b 9) (judged true k c) (judged false k c) 6 (judged-lax k c) h

body-lax : (k : Kind) (at : ℕ) (s : List ℕ) → is_read (body true k at s) ≡ true → body true k at s ≡ body false k at s
unfolding body
body-lax Header at s h = fielded-lax Header at s h
body-lax ReferenceSequence at s h = fielded-lax ReferenceSequence at s h
body-lax ReadGroup at s h = fielded-lax ReadGroup at s h
body-lax Program at s h = fielded-lax Program at s h
body-lax Comment at s h = refl

kinded-lax : (at : ℕ) (s : List ℕ) → is_read (kinded true at s) ≡ true → kinded true at s ≡ kinded false at s
unfolding kinded bodied
kinded-lax at [] h = refl
kinded-lax at (a ∷ []) h = refl
kinded-lax at (a ∷ b ∷ s) h = go (kind_of a b) h
  where
    go : (k : Option Kind) → is_read (bodied true (at + 2) s k) ≡ true → bodied true (at + 2) s k ≡ bodied false (at + 2) s k
    go none h = refl
    go (some k) h = body-lax k (at + 2) s h

prefixed-lax : (at : ℕ) (s : List ℕ) → is_read (prefixed true at s) ≡ true → prefixed true at s ≡ prefixed false at s
unfolding prefixed
prefixed-lax at [] h = refl
prefixed-lax at (b ∷ s) h = both (eqb b 64) (kinded true (at + 1) s) (kinded false (at + 1) s) 3 (kinded-lax (at + 1) s) h

pub line-lax : (strict : Bool) (p : Piece) → is_read (line strict p) ≡ true → line strict p ≡ line false p
unfolding is_read line
line-lax false p h = refl
line-lax true p h = go (any breaks p.bytes) h
  where
    go : (t : Bool) → is_read (cond t (refused_line 2) (prefixed true p.at p.bytes)) ≡ true → cond t (refused_line 2) (prefixed true p.at p.bytes) ≡ cond t (refused_line 2) (prefixed false p.at p.bytes)
    go true h = refl
    go false h = prefixed-lax p.at p.bytes h

pub read-lax : (strict : Bool) (p : Piece) → is_read (line strict p) ≡ true → is_read (line false p) ≡ true
read-lax strict p h = sym (ap is_read (line-lax strict p h)) ∙ h
