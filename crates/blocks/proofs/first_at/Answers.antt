use mathlib.Core.Path.{◌∙◌, sym}
use Rattle.blocks.proofs.Turns.{first_start, first_shut, first_not, begun_not}
use Rattle.blocks.proofs.first_at.Goals as goal

pub first_tag-requires : goal.first_tag-requires
first_tag-requires c =
    let p = c.requires in
    let w = rw c.in-Start.is at c.find_open.ensures.1 in record {
      place_bound = (w.1, w.2, p.at_in_bounds.1);
      lines_len = p.lines_len;
    }

pub returns-in-Start : goal.returns-in-Start
returns-in-Start c =
    rw (first_start _ _ _ _ _ _ (sym c.find_open.ensures.0
    ∙ c.in-Start.is)) c.first_tag.ensures

pub returns-in-Shut : goal.returns-in-Shut
returns-in-Shut c = begun_not (first_shut _ _ _ _ _ _ (sym c.find_open.ensures.0 ∙ c.in-Shut.is))

pub returns-in-Not : goal.returns-in-Not
returns-in-Not c = begun_not (first_not _ _ _ _ _ _ (sym c.find_open.ensures.0 ∙ c.in-Not.is))
