-- `strides::block_of` meets its contract: by rising, or by looking at all.
use mathlib.Core.Path.{sym, ◌∙◌}
use mir.Facts.{to_z-of_z}
use borrow.Author.Rules.{sfits_of}
use Rattle.strides.specs.rule.Stride.{stride_at}
use Rattle.strides.specs.Stride.{rise_differ}
use Rattle.strides.specs.Hull.{rise_hulled}
use Rattle.strides.proofs.block_of.Goals as goal

pub returns-then-all_rise : goal.returns-then-all_rise
returns-then-all_rise c =
    let f = stride_at c.args.t.now c.args.at
    c.args.step in
    let n = c.args.n in
    let r = sym c.all_rise.ensures ∙ c.if-all_rise.true in
    record {
      differ = sym (rise_differ f n r);
      hull = rw (
        to_z-of_z (sfits_of c.number_at.type_inv),
        to_z-of_z (sfits_of c.number_at-then-all_rise.type_inv),
        c.number_at.ensures,
        c.number_at-then-all_rise.ensures,
      ) (rise_hulled f n r c.requires.1);
    }
