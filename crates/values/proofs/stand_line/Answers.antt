use mathlib.Core.Path.{◌≡◌, ◌∙◌, sym}
use mir.Syntax.{w64}
use mir.Val.{to_z, of_z}
use native.Mathlib.Omega.{arith}
use borrow.Author.Rules.{rules}
use Rattle.values.proofs.Lists.{good_line}
use Rattle.values.proofs.stand_line.Goals as goal
use Rattle.values.proofs.stand_line.Goals.{In-Ok}

z_back : (c : In-Ok) → to_z w64 (of_z w64 c.in-Ok.z) ≡ c.in-Ok.z
z_back c = search rules

pub judge_line-requires : goal.judge_line-requires
judge_line-requires c =
    let p = c.requires.spare in record {
      last_in_bounds = (p.0.so_far, p.1, p.2);
      marks_len = p.3;
      marked = c.requires.marked;
    }

pub store-requires : goal.store-requires
store-requires c =
    let p = c.requires.spare in
    let g = good_line _ _ _ _ _ _ (sym c.judge_line.ensures ∙ c.in-Ok.is) in record {
      line_size_in_bounds = (p.0.one_more (omega (arith, g.few, p.1)), p.2);
      storable = c.requires.storable;
      z_value = z_back (goal.at.store-requires c).In-Ok ∙ g.says;
    }

pub returns-in-Ok : goal.returns-in-Ok
returns-in-Ok c =
    let e = sym c.judge_line.ensures ∙ c.in-Ok.is in
    let g = good_line _ _ _ _ _ _ e in record {
      value = rw (e, z_back (goal.at.returns-in-Ok c).In-Ok);
      lines_after = rw e c.store.ensures;
      marks_after = rw e (c.leave_mark.ensures ∙ rw g.says);
    }

pub returns-in-Err : goal.returns-in-Err
returns-in-Err c =
    let e = sym c.judge_line.ensures ∙ c.in-Err.is in record {
      value = rw e;
      lines_after = rw e;
      marks_after = rw e;
    }
