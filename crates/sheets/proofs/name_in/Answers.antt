use mathlib.Core.Path.{sym, ap, ◌∙◌}
use Rattle.xml_reading.specs.rule.Word.{NAME}
use Rattle.xml_reading.specs.rule.Role.{naming}
use Rattle.elements.specs.Code.{phrase_of}
use Rattle.sheets.proofs.Parts.{due_goes, due_stops, name_ends}
use Rattle.sheets.proofs.name_in.Goals as goal

pub naming_at-requires : goal.naming_at-requires
naming_at-requires c = let v = rw c.in-At.is at
    c.next_due.ensures.1 in record {
      known = c.requires.known;
      end_in_bounds = v.1;
    }

pub returns-in-At : goal.returns-in-At
returns-in-At c =
    let a = c.args in
    let e = sym c.next_due.ensures.0 ∙ c.in-At.is in
    record {
      is = λ l h. c.naming_at.ensures.is l h
          ∙ ap phrase_of (sym (due_goes a.bad a.d.now NAME (naming a.bad a.d.now a.m.latin a.m.standard l) a.at e));
      ends = name_ends a.d.now c.naming_at.result c.naming_at.ensures.inside c.naming_at.ensures.next;
    }

pub returns-in-Not : goal.returns-in-Not
returns-in-Not c =
    let a = c.args in
    let e = sym c.next_due.ensures.0 ∙ c.in-Not.is in
    record {
      is = λ l h. rw (due_stops a.bad a.d.now NAME (naming a.bad a.d.now a.m.latin a.m.standard l) a.at e);
      ends = tt;
    }
