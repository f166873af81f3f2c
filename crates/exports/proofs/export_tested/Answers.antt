-- `exports::export_tested` meets its contract: judged, measured, written.
use mathlib.Core.Path.{sym, ◌∙◌}
use borrow.Author.Rules.{rules}
use borrow.Author.Tests.{leb-true}
use Rattle.files.specs.rule.Tested.{Tested}
use Rattle.exports.specs.rule.Text.{export_said}
use Rattle.exports.specs.Sizes.{told_sound, told_text, too_long, all_there}
use Rattle.exports.proofs.export_tested.Goals as goal

pub judge-j-requires : goal.judge-j-requires
judge-j-requires c = (
  record { good = c.requires; head = c.read-h.ensures },
  c.find_terminator-w.ensures,
)

pub fits-requires : goal.fits-requires
fits-requires c =
    let g : Tested c.args.t.now c.read-h.result = record {
      good = c.requires;
      head = c.read-h.ensures;
    } in record {
      classes = c.classes-classes.ensures;
      ready = record { tens = c.powers-powers.ensures; tested = g; list = search rules };
      found = (
        c.find_terminator-w.ensures,
        told_sound _ _ c.count_before-n.ensures c.judge-j.ensures g,
      );
      room_bound = search rules;
    }

pub returns-then-not-fits : goal.returns-then-not-fits
unfolding export_said
returns-then-not-fits c =
    let args = c.args in
    too_long args.def.now args.t.now args.d.now args.out.now (rw (told_text _ _ c.count_before-n.ensures
    c.judge-j.ensures args.def.now) at (sym c.fits.ensures ∙ c.if-not-fits.true))

pub write-length-requires : goal.write-length-requires
write-length-requires c =
    let g : Tested c.args.t.now c.read-h.result = record {
      good = c.requires;
      head = c.read-h.ensures;
    } in record {
      classes = c.classes-classes.ensures;
      ready = record {
        tens = c.powers-powers.ensures;
        tested = g;
        list = search rules;
      };
      found = (
        c.find_terminator-w.ensures,
        told_sound _ _ c.count_before-n.ensures c.judge-j.ensures g,
      );
      d_in_bounds = leb-true _ _ (sym c.fits.ensures ∙ c.if-not-fits.false);
    }

pub returns : goal.returns
unfolding export_said
returns c =
    let args = c.args in
    let e = told_text _ _ c.count_before-n.ensures c.judge-j.ensures args.def.now in
    all_there args.def.now args.t.now args.d.now args.out.now (rw e at (sym c.fits.ensures
    ∙ c.if-not-fits.false)) c.judge-j.ensures (rw e at c.write-length.ensures.0)
    (rw e at c.write-length.ensures.1)
