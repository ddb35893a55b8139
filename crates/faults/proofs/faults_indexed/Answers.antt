-- `faults::faults_indexed` meets its contract: the first line that is kept is found, the programs from there on are linked, and the rows written.
use native.Mathlib.Omega.{arith}
use Rattle.faults.proofs.faults_indexed.Goals as goal

pub write_faults-requires : goal.write_faults-requires
write_faults-requires c =
    let m = c.link_kept-links.ensures in record {
      text_len_bound = c.requires.text_len_bound;
      first = c.find_first-b.ensures;
      in_bounds = omega (arith, m.room, c.requires.in_bounds);
      links = record { parents = m.parents; count = m.count; plain = m.plain };
    }
