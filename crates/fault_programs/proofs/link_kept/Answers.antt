-- `fault_programs::link_kept` meets its contract: the places that are gathered say the programs that are kept.
use mathlib.Core.Path.{◌≡◌, ap, ◌∙◌}
use mathlib.Core.List.{List}
use native.Mathlib.Omega.{arith}
use Rattle.format.specs.Programs.{Program, programs, links}
use Rattle.format.proofs.Slots.{held_none}
use Rattle.key_look.specs.Seed.{plain_seed}
use Rattle.key_index.specs.KeySlots.{start}
use Rattle.carry_passes.specs.From.{kept_from}
use Rattle.program_parents.specs.Parents.{parents_of}
use Rattle.program_parents.proofs.Numbers.{links-count}
use Rattle.fault_programs.proofs.link_kept.Goals as goal

pub gather-gathered-requires : goal.gather-gathered-requires
gather-gathered-requires c = record {
  text_len_bound = c.requires.text_len_bound;
  first = c.requires.first;
  fresh = record { some = c.requires.in_bounds; room = omega arith; held = held_none (start plain_seed c.args.text.now 2048) 2048 };
}

pub parents_in-found-requires : goal.parents_in-found-requires
parents_in-found-requires c =
    record { ps = programs (kept_from c.args.text.now c.args.b); are = c.gather-gathered.ensures.programs; fits = c.requires.text_len_bound }

pub returns : goal.returns
unfolding parents_of
returns c =
    let ps : List Program = programs (kept_from c.args.text.now c.args.b) in
    let is : c.parents_in-found.result ≡ parents_of (links ps) = c.parents_in-found.ensures ps c.gather-gathered.ensures.programs in record {
      parents = ap (λ x. x.list) is;
      count = ap (λ x. x.count) is ∙ links-count ps;
      plain = c.gather-gathered.ensures.plain;
      room = c.gather-gathered.ensures.room;
    }
