use mathlib.Core.Path.{◌≡◌, sym, ap, ◌∙◌}
use mathlib.Core.Bool.{true, false}
use Rattle.survey.specs.rule.Survey.{KeptText}
use Rattle.reading.specs.rule.Result.{Result, bind}
use Rattle.xml_reading.specs.rule.Word.{VARIABLE, FILTER}
use Rattle.xml_reading.specs.rule.Open.{Open, within_element}
use Rattle.xml_reading.specs.rule.Variable.{filtered}
use Rattle.elements.specs.Code.{read_of, starts_of}
use Rattle.elements.proofs.Dues.{read_open}
use Rattle.prefaces.specs.Code.{rule_of}
use Rattle.sheets.specs.Code.{sifted_of}
use Rattle.sheets.proofs.Parts.{within_first}
use Rattle.sheets.proofs.Rests.{due_within}
use Rattle.sheets.proofs.Sifts.{sifted_tag, starts_due, sift_old, sift_none, sift_one}
use Rattle.sheets.proofs.sift_in.Goals as goal

pub is_start-requires : goal.is_start-requires
is_start-requires c = let a = c.args in
    within_first a.d.now a.at c.find_open-o.result c.find_open-o.ensures.1

pub tag_due-requires : goal.tag_due-requires
tag_due-requires c = let a = c.args in
    within_first a.d.now a.at c.find_open-o.result
    c.find_open-o.ensures.1

pub read_filter-requires : goal.read_filter-requires
read_filter-requires c =
    let a = c.args in
    let o = c.find_open-o.result in record {
      known = c.requires.known;
      length_in_bounds = (
        c.requires.length_in_bounds.0,
        (due_within a.bad a.d.now FILTER o (within_first a.d.now a.at o c.find_open-o.ensures.1)
            (sym c.tag_due.ensures ∙ c.in-At.is)).1,
      );
    }

pub returns-then-m : goal.returns-then-m
returns-then-m c =
    let a = c.args in
    let o = c.find_open-o.result in
    let t : KeptText = record { place = a.name.place; length = a.name.length } in
    let R = ap read_of c.find_open-o.ensures.0 ∙ read_open (within_element a.bad a.d.now VARIABLE a.at) in
    record {
      is = λ l h. c.sift_by.ensures ∙ ap sifted_of
          (sym (sift_old a.bad a.d.now (rule_of a.m) l t a.usage o c.if-m.true))
          ∙ ap (λ (x : Result Open). sifted_of (bind x (filtered a.bad a.d.now (rule_of a.m) l t a.usage))) R;
      ends = rw c.sift_by.ensures (sifted_tag a.d.now 0 o
          (within_first a.d.now a.at o c.find_open-o.ensures.1));
    }

pub returns-then-not-is_start : goal.returns-then-not-is_start
returns-then-not-is_start c =
    let a = c.args in
    let o = c.find_open-o.result in
    let t : KeptText = record { place = a.name.place; length = a.name.length } in
    let R = ap read_of c.find_open-o.ensures.0
    ∙ read_open (within_element a.bad a.d.now VARIABLE a.at) in
    let s : starts_of a.d.now o FILTER ≡ false = sym c.is_start.ensures ∙ c.if-not-is_start.true in
    record {
      is = λ l h. c.sift_by-then-not-is_start.ensures ∙ ap sifted_of
          (sym (sift_none a.bad a.d.now (rule_of a.m) l t a.usage o c.if-m.false s))
          ∙ ap (λ (x : Result Open). sifted_of (bind x (filtered a.bad a.d.now (rule_of a.m) l t a.usage))) R;
      ends = rw c.sift_by-then-not-is_start.ensures (sifted_tag a.d.now 0 o
          (within_first a.d.now a.at o c.find_open-o.ensures.1));
    }

pub returns-in-At : goal.returns-in-At
returns-in-At c =
    let a = c.args in
    let o = c.find_open-o.result in
    let t : KeptText = record { place = a.name.place; length = a.name.length } in
    let R = ap read_of c.find_open-o.ensures.0 ∙ read_open (within_element a.bad a.d.now VARIABLE a.at) in
    let s : starts_of a.d.now o FILTER ≡ true = sym c.is_start.ensures ∙ c.if-not-is_start.false in
    record {
      is = λ l h. c.read_filter.ensures.is l h ∙ ap sifted_of (sym (sift_one a.bad a.d.now (rule_of a.m) l t a.usage o
          c.if-m.false s (sym c.tag_due.ensures ∙ c.in-At.is)))
          ∙ ap (λ (x : Result Open). sifted_of (bind x (filtered a.bad a.d.now (rule_of a.m) l t a.usage))) R;
      ends = c.read_filter.ensures.ends;
    }

pub returns-in-Not : goal.returns-in-Not
returns-in-Not c =
    let a = c.args in
    let o = c.find_open-o.result in
    let s : starts_of a.d.now o FILTER ≡ true = sym c.is_start.ensures ∙ c.if-not-is_start.false in
    starts_due a.bad a.d.now FILTER o s (sym c.tag_due.ensures ∙ c.in-Not.is)
