-- A walk that compares a catalogue record by record: how far it has come, and what it has found out at its end.
use Prim.Native.Nat.{ℕ, ◌≤◌}
use mathlib.Core.Path.{◌≡◌, refl, sym, ap, ◌∙◌}
use mathlib.Core.Bool.{false, ◌&&◌}
use mathlib.Core.List.{List, [], ◌∷◌, ◌++◌, append-nil}
use native.Mathlib.Omega.{arith}
use lib.ListN.{length, drop}
use lib.Dec.{eqb}
use Rattle.format.specs.Bytes.{same, starts}
use Rattle.format.specs.Records.{Record, read}
use Rattle.format.specs.Catalogue.{catalogue_from, catalogue}
use Rattle.catalogue_lines.specs.Line.{record_bytes}
use Rattle.catalogue_lines.specs.Matched.{matched, Reached}
use Rattle.std.specs.Prelude.{Some, None}
use Rattle.catalogue_lines.proofs.Records.{catalogue-append, catalogue-more, catalogue-length}
use Rattle.catalogue_same.proofs.Starts.{starts-append}
use Rattle.catalogue_lines.proofs.Starts.{same-append, same_none, match-within, upto-says, differs-says}

pub reached-start : (c : List ℕ) → Reached c [] 0
unfolding catalogue starts
reached-start c = record { place = refl; front = refl }

module _ (c : List ℕ) (rs : List Record) (o : ℕ) (h : Reached c rs o) where
  pub reached-within : o ≤ length c
  reached-within = omega (arith, match-within c 0 (catalogue rs) (omega arith) h.front, h.place)

  -- what follows the records is compared from `o` on
  onward : (xs : List ℕ) → starts (catalogue rs ++ xs) c ≡ starts xs (drop o c)
  onward xs = starts-append (catalogue rs) xs c ∙ ap (λ t. t && starts xs (drop (length (catalogue rs)) c)) h.front ∙ ap (λ n. starts xs (drop n c)) (sym h.place)

  -- the next record is there
  pub reached-on : (r : Record) (n : ℕ) → matched o (drop o c) (record_bytes (length rs) (read r)) ≡ Some n → Reached c (rs ++ (r ∷ [])) n
  reached-on r n e =
      let s = upto-says c o (record_bytes (length rs) (read r)) n e in
      record {
        place = omega (arith, s.1, h.place, catalogue-length rs r);
        front = ap (λ l. starts l c) (catalogue-more rs r) ∙ onward (record_bytes (length rs) (read r)) ∙ s.0;
      }

  -- it is not: this is the catalogue of no records that go on so
  pub reached-off : (r : Record) → matched o (drop o c) (record_bytes (length rs) (read r)) ≡ None → (qs : List Record) → same c (catalogue ((rs ++ (r ∷ [])) ++ qs)) ≡ false
  reached-off r e qs =
      let f : starts (catalogue (rs ++ (r ∷ []))) c ≡ false = ap (λ l. starts l c) (catalogue-more rs r) ∙ onward (record_bytes (length rs) (read r)) ∙ differs-says c o (record_bytes (length rs) (read r)) e in
      ap (same c) (catalogue-append (rs ++ (r ∷ [])) qs)
      ∙ same-append (catalogue (rs ++ (r ∷ []))) (catalogue_from (length (rs ++ (r ∷ []))) qs) c
      ∙ ap (λ t. t && same (drop (length (catalogue (rs ++ (r ∷ [])))) c) (catalogue_from (length (rs ++ (r ∷ []))) qs)) f

  -- after the last record: the catalogue is theirs exactly if it ends here
  pub reached-end : same c (catalogue rs) ≡ eqb o (length c)
  reached-end =
      ap (same c) (sym (append-nil (catalogue rs)))
      ∙ same-append (catalogue rs) [] c
      ∙ ap (λ t. t && same (drop (length (catalogue rs)) c) []) h.front
      ∙ ap (λ n. same (drop n c) []) (sym h.place)
      ∙ same_none c o reached-within
