use mathlib.Core.Path.{sym, ◌∙◌}
use Rattle.prefaces.specs.Code.{rule_of}
use Rattle.sheets.proofs.Fronts.{front_is, label_not, name_not, title_never}
use Rattle.sheets.proofs.front_at.Goals as goal

pub title_at-requires : goal.title_at-requires
title_at-requires c = record {
  end_in_bounds = c.requires.end_in_bounds;
  rows_len = (c.requires.known.lying.room, c.requires.known.lying.few);
}

pub name_in-requires : goal.name_in-requires
name_in-requires c = let v = rw c.in-Is.is at
    c.title_at.ensures.next in record {
      known = c.requires.known;
      at_in_bounds = v;
    }

pub label_in-requires : goal.label_in-requires
label_in-requires c = let v = rw c.in-Ok.is at c.name_in.ensures.ends in v.1

pub place_front-requires : goal.place_front-requires
place_front-requires c =
    let v = rw c.in-Ok.is at
    c.name_in.ensures.ends in
    let w = rw c.in-Ok-label_in.is at c.label_in.ensures.1 in
    (v.0, w.1)

pub returns-in-Ok-label_in : goal.returns-in-Ok-label_in
returns-in-Ok-label_in c =
    let a = c.args in
    record {
      is = λ l h i. c.place_front.ensures.0 ∙ front_is a.bad a.d.now (rule_of a.m) l a.place a.end
          c.in-Ok.a c.in-Ok-label_in.b (sym (c.title_at.ensures.is l h
          i) ∙ c.in-Is.is) (sym (c.name_in.ensures.is l h) ∙ c.in-Ok.is)
          (sym c.label_in.ensures.0 ∙ c.in-Ok-label_in.is);
      ends = c.place_front.ensures.1;
    }

pub returns-in-Err-label_in : goal.returns-in-Err-label_in
returns-in-Err-label_in c =
    let a = c.args in
    record {
      is = λ l h i. label_not a.bad a.d.now (rule_of a.m) l a.place a.end c.in-Ok.a
          (sym (c.title_at.ensures.is l h i) ∙ c.in-Is.is)
          (sym (c.name_in.ensures.is l h) ∙ c.in-Ok.is)
          (sym c.label_in.ensures.0 ∙ c.in-Err-label_in.is);
      ends = tt;
    }

pub returns-in-Err : goal.returns-in-Err
returns-in-Err c =
    let a = c.args in
    record {
      is = λ l h i. name_not a.bad a.d.now (rule_of a.m) l a.place a.end
          (sym (c.title_at.ensures.is l h i) ∙ c.in-Is.is)
          (sym (c.name_in.ensures.is l h) ∙ c.in-Err.is);
      ends = tt;
    }

pub returns-in-Not : goal.returns-in-Not
returns-in-Not c =
    let a = c.args in
    record {
      is = λ l h i. title_never a.bad a.d.now (rule_of a.m) l a.place a.end
          (sym (c.title_at.ensures.is l h i) ∙ c.in-Not.is);
      ends = tt;
    }
