-- `read::read_with` meets its contract: judged by the work area, and read as any text that has been judged.
use Rattle.format.specs.Work.{reading_with}
use Rattle.read.proofs.read_with.Goals as goal

pub returns : goal.returns
unfolding reading_with
returns c = record {
  answer = c.read_judged.ensures.answer;
  wrote = c.read_judged.ensures.wrote;
  zeros = c.judge_with-judged.ensures.zeros;
}
