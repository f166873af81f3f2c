use mathlib.Core.Path.{◌≡◌, sym, ◌∙◌}
use lib.ListN.{length}
use Rattle.definition.specs.declared.Against.TheVariants.{Same}
use Rattle.definition.specs.rule.Against.{sss_against}
use Rattle.clean.specs.rule.Written.{writing_of, clean_written, out_after}
use Rattle.clean.specs.Law.{same_clean, same_most}
use Rattle.clean.proofs.write_definition.Goals as goal

pub write_read-requires : goal.write_read-requires
write_read-requires c =
    let a = c.args in
    same_most a.d.now a.t.now (sym c.judge.ensures ∙ c.in-Same.is)

pub returns-in-Same : goal.returns-in-Same
unfolding writing_of
returns-in-Same c =
    let a = c.args in
    let e : sss_against a.d.now a.t.now ≡ Same = sym c.judge.ensures
    ∙ c.in-Same.is in
    let f = same_clean a.d.now a.t.now (length a.out.now) e in
    record {
      says = rw (e, f) c.write_read.ensures.value;
      leaves = rw (e, f)
          c.write_read.ensures.out_after;
    }

pub returns-in-Other : goal.returns-in-Other
unfolding writing_of clean_written out_after
returns-in-Other c =
    let e = sym c.judge.ensures ∙ c.in-Other.is in
    record { says = rw e; leaves = rw e }

pub returns-in-Refused : goal.returns-in-Refused
unfolding writing_of clean_written out_after
returns-in-Refused c =
    let e = sym c.judge.ensures ∙ c.in-Refused.is in
    record { says = rw e; leaves = rw e }
