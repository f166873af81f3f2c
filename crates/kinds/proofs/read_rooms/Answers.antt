use mathlib.Core.Path.{refl, sym, ◌∙◌}
use Rattle.values.specs.Room.{holds}
use Rattle.values.proofs.Rooms.{unless_on}
use Rattle.laying.specs.Code.{zeros}
use Rattle.kinds.proofs.Roads.{plain_ready, xml_ready}
use Rattle.kinds.proofs.read_rooms.Goals as goal

-- XML, in the rooms of the most rows and lines
pub read_in-requires : goal.read_in-requires
unfolding zeros
read_in-requires c =
    let p = c.requires in
    let w = p.1 (sym c.is_xml.ensures ∙ c.if-is_xml.true) in record {
      classes = c.classes-classes.ensures;
      tens = c.powers-powers.ensures;
      d_len_bound = p.0;
      rows_len = (w.0, w.1, refl);
      seen_value = refl;
    }

pub returns-then-is_xml : goal.returns-then-is_xml
returns-then-is_xml c =
    let e = sym c.is_xml.ensures ∙ c.if-is_xml.true in
    let w = c.requires.1 e in
    let k = c.read_in.auto in
    holds (xml_ready c.args.d.now _ _ (k.rows ∙ w.0) (k.lines ∙ w.1) _ e c.read_in.ensures)

-- 1.1, in any
pub read_in-requires-2 : goal.read_in-requires-2
unfolding zeros
read_in-requires-2 c = record {
  classes = c.classes-classes.ensures;
  tens = c.powers-powers.ensures;
  d_len_bound = c.requires.0;
  marks_len = refl;
  seen_value = refl;
}

pub returns : goal.returns
returns c =
    let e = sym c.is_xml.ensures ∙ c.if-is_xml.false in
    unless_on (λ s. s) (λ l. l) (plain_ready c.args.d.now c.requires.0 e _ _ _) c.read_in-2.ensures
