-- `binary_len::binary_len_from` meets its contract: the references from the cursor on decide, or the parts before them.
use Prim.Native.Nat.{◌+◌}
use mathlib.Core.Path.{◌≡◌, refl, sym, ap, ◌∙◌}
use mathlib.Core.Bool.{true, false}
use mathlib.Core.List.{◌++◌}
use native.Mathlib.Omega.{arith}
use Rattle.format.specs.Bytes.{starts}
use Rattle.format.specs.Binary.{magic}
use Rattle.binary_len.specs.BinaryLen.{number_at, references_at}
use Rattle.binary_len.proofs.PartByPart.{start-cut, start-other, text-length-cut, text-cut, count_cut, list_at}
use Rattle.binary_len.proofs.Grown.{longer}
use Rattle.binary_len.specs.Step.{told, len_from, Resumes}
use Rattle.binary_len.proofs.Resume.{from_start, from_cut, from_at, list-longer, resumes-as}
use Rattle.binary_len.proofs.binary_len_from.Goals as goal
use Rattle.binary_len.proofs.binary_len_from.Goals.{Else-not-starts, Then-not-starts}

-- nothing has begun: the bytes start with `BAM` and 1, or not
begins : (c : Else-not-starts) → starts magic c.args.bytes.now ≡ true
unfolding magic
begins c = sym c.starts.ensures ∙ c.if-not-starts.false

other : (c : Then-not-starts) → starts magic c.args.bytes.now ≡ false
unfolding magic
other c = sym c.starts.ensures ∙ c.if-not-starts.true

pub returns-then-len-at : goal.returns-then-len-at
unfolding told Resumes
returns-then-len-at c =
    let a = c.args in record {
      answer = sym (from_cut a.from a.bytes.now c.if-from.true c.if-len-at.true);
      resumes = λ rest. refl;
    }

pub returns-then-from : goal.returns-then-from
returns-then-from c =
    let a = c.args in
    let s = c.args.bytes.now in
    let f = c.args.from in
    let t = c.if-from.true in
    let h = c.if-len-at.false in record {
      answer = c.pass_references.ensures.answer ∙ sym (from_at f s t h);
      resumes = resumes-as s c.pass_references.result (λ u. references_at u f.at f.left) (len_from f) (λ rest. sym (from_at f (s ++ rest) t (omega (arith, longer s rest)))) c.pass_references.ensures.resumes;
    }

pub returns-then-starts : goal.returns-then-starts
unfolding told Resumes magic
returns-then-starts c =
    let a = c.args in record {
      answer = sym (from_start a.from a.bytes.now c.if-from.false ∙ start-cut a.bytes.now (other (goal.at.returns-then-starts c).Then-not-starts) (sym c.starts-then-not-starts.ensures ∙ c.if-starts.true));
      resumes = λ rest. refl;
    }

pub returns-then-not-starts : goal.returns-then-not-starts
unfolding told Resumes magic
returns-then-not-starts c =
    let a = c.args in record {
      answer = sym (from_start a.from a.bytes.now c.if-from.false ∙ start-other a.bytes.now (other (goal.at.returns-then-not-starts c).Then-not-starts) (sym c.starts-then-not-starts.ensures ∙ c.if-starts.false));
      resumes = tt;
    }

pub returns-then-len-lt8 : goal.returns-then-len-lt8
unfolding told Resumes
returns-then-len-lt8 c =
    let a = c.args in record {
      answer = sym (from_start a.from a.bytes.now c.if-from.false ∙ text-length-cut a.bytes.now (begins (goal.at.returns-then-len-lt8 c).Else-not-starts) c.if-len-lt8.true);
      resumes = λ rest. refl;
    }

pub returns-then-len-end : goal.returns-then-len-end
unfolding told Resumes number_at
returns-then-len-end c =
    let a = c.args in record {
      answer = sym (from_start a.from a.bytes.now c.if-from.false ∙ text-cut a.bytes.now (begins (goal.at.returns-then-len-end c).Else-not-starts) c.if-len-lt8.false c.get_u32.result c.get_u32.ensures c.if-len-end.true);
      resumes = λ rest. refl;
    }

pub returns-then-len-end-lt4 : goal.returns-then-len-end-lt4
unfolding told Resumes number_at
returns-then-len-end-lt4 c =
    let a = c.args in record {
      answer = sym (from_start a.from a.bytes.now c.if-from.false ∙ count_cut a.bytes.now (begins (goal.at.returns-then-len-end-lt4 c).Else-not-starts) c.if-len-lt8.false c.get_u32.result c.get_u32.ensures c.if-len-end.false (omega arith));
      resumes = λ rest. refl;
    }

pub returns : goal.returns
unfolding number_at
returns c =
    let a = c.args in
    let s = c.args.bytes.now in
    let n = c.get_u32.result in
    let m = c.get_u32-count.result in record {
      answer = c.pass_references-2.ensures.answer ∙ ap (references_at s (8 + n + 4)) c.get_u32-count.ensures
          ∙ sym
          (from_start a.from s c.if-from.false ∙ list_at s (begins (goal.at.returns c).Else-not-starts) c.if-len-lt8.false n c.get_u32.ensures c.if-len-end.false (omega arith));
      resumes = resumes-as s c.pass_references-2.result (λ u. references_at u (8 + n + 4) m) (len_from a.from)
          (λ rest. sym
          (from_start a.from (s ++ rest) c.if-from.false ∙ list-longer s n (begins (goal.at.returns c).Else-not-starts) c.get_u32.ensures (omega arith) rest
          ∙ ap (references_at (s ++ rest) (8 + n + 4)) (sym c.get_u32-count.ensures)))
          c.pass_references-2.ensures.resumes;
    }
