-- `add_ids::find_id` meets its contract: the ID that is listed, or none at the text's front.
use mathlib.Core.Path.{sym}
use Rattle.add_ids.specs.Taken.{id_in, id_standing}
use Rattle.add_ids.proofs.Search.{id-none, standing-none}
use Rattle.add_ids.proofs.find_id.Goals as goal

pub returns-then-ids-k : goal.returns-then-ids-k
returns-then-ids-k c =
    let a = c.args in
    let h = c.if-ids-k.true in record {
      value = sym (id-none a.text.now a.ids.now c.requires a.program.0 h);
      place = standing-none a.text.now a.ids.now c.requires a.program.0 a.text.ref_ptr h;
    }

pub returns : goal.returns
unfolding id_in id_standing
returns c = record { value = c.id_at.ensures.value; place = c.id_at.ensures.place }
