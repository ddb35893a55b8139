-- An accepted text is read as its records.
use Prim.Native.Nat.{ℕ}
use mathlib.Core.Path.{◌≡◌, refl}
use mathlib.Core.Bool.{true, false≢true}
use mathlib.Core.List.{List}
use Rattle.format.specs.Reading.{Reading, refused_text, accept, read_text}
use Rattle.accepted.specs.Read.{is_accepted, kept, records_of}

accepted-kept : (r : Reading) → is_accepted r ≡ true → r ≡ accept (kept r)
unfolding is_accepted kept
accepted-kept (refused_text n l) e = absurd (false≢true e)
accepted-kept (accept rs) e = refl

pub accepted-reads : (t : List ℕ) → is_accepted (read_text t) ≡ true → read_text t ≡ accept (records_of t)
unfolding records_of
accepted-reads t e = accepted-kept (read_text t) e
