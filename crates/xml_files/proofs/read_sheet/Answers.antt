use Rattle.xml_files.proofs.Wholes.{ends_in, sheet_here, sheet_not}
use Rattle.xml_files.proofs.read_sheet.Goals as goal

pub read_preface-requires : goal.read_preface-requires
read_preface-requires c = c.requires.d_len_bound.1

pub read_body-requires : goal.read_body-requires
read_body-requires c =
    let p = c.requires in record {
      classes = p.classes;
      tens = p.tens;
      d_len_bound = (
        p.d_len_bound.0,
        ends_in c.args.d.now _ c.read_preface.ensures.1 c.in-Is.is,
      );
      rows_len = p.rows_len;
      seen_value = p.seen_value;
    }

pub returns-in-Is : goal.returns-in-Is
returns-in-Is c =
    let a = c.args in
    sheet_here a.bad a.latin a.d.now a.at _ c.read_preface.ensures.0 _ _ _ _ _ c.in-Is.is
    c.read_body.ensures

pub returns-in-Not : goal.returns-in-Not
returns-in-Not c =
    let a = c.args in
    sheet_not a.bad a.latin a.d.now a.at _ c.read_preface.ensures.0 _ _ _ c.in-Not.is
