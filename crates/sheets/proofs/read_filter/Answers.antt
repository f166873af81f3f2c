use mathlib.Core.Path.{sym, ap, ◌∙◌}
use Rattle.reading.specs.rule.Result.{Result, Is, bind}
use Rattle.xml_reading.specs.rule.Word.{VARIABLE}
use Rattle.xml_reading.specs.rule.Open.{Open, within_element}
use Rattle.xml_reading.specs.rule.Role.{filter}
use Rattle.xml_reading.specs.rule.Variable.{with}
use Rattle.elements.specs.Code.{read_of}
use Rattle.elements.proofs.Dues.{read_open}
use Rattle.sheets.specs.Code.{sifted_of}
use Rattle.sheets.proofs.Parts.{within_first}
use Rattle.sheets.proofs.Sifts.{sifted_tag, filter_is, filter_not}
use Rattle.sheets.proofs.read_filter.Goals as goal

pub find_open-o-requires : goal.find_open-o-requires
find_open-o-requires c = rw c.in-Is.is at c.filter_at.ensures.next

pub returns-in-Is : goal.returns-in-Is
returns-in-Is c =
    let a = c.args in
    let f = c.in-Is.filter in
    let n = c.in-Is.next in
    let o = c.find_open-o.result in
    let R = ap read_of c.find_open-o.ensures.0 ∙ read_open (within_element a.bad a.d.now VARIABLE n) in
    record {
      is = λ l h. c.sift_by.ensures ∙ ap (λ (x : Result Open). sifted_of (bind x λ y k. Is (with f y) k)) R
          ∙ rw (filter_is (filter a.bad a.d.now a.m.latin a.m.standard l
          (record { place = a.name.place; length = a.name.length }) a.usage a.place a.end)
          (sym (c.filter_at.ensures.is l h) ∙ c.in-Is.is));
      ends = rw c.sift_by.ensures (sifted_tag a.d.now f o (within_first a.d.now n o c.find_open-o.ensures.1));
    }

pub returns-in-Not : goal.returns-in-Not
returns-in-Not c =
    let a = c.args in
    record {
      is = λ l h. rw (filter_not (filter a.bad a.d.now a.m.latin a.m.standard l
          (record { place = a.name.place; length = a.name.length }) a.usage a.place a.end)
          (sym (c.filter_at.ensures.is l h) ∙ c.in-Not.is));
      ends = tt;
    }
