use Rattle.std.proofs.Common.{rules}
use Rattle.statements.specs.Position.{both_of}
use Rattle.statements.proofs.Helds.{held_size}
use Rattle.statements.proofs.both.Goals as goal

pub returns-in_err-x : goal.returns-in_err-x
unfolding both_of
returns-in_err-x c = search rules

pub returns-in_err-y : goal.returns-in_err-y
unfolding both_of
returns-in_err-y c = search rules

pub returns-in_err-next : goal.returns-in_err-next
unfolding both_of
returns-in_err-next c = search rules

pub returns : goal.returns
unfolding both_of
returns c = search rules

pub says_less-below-requires : goal.says_less-below-requires
says_less-below-requires c =
    let pre = c.requires in record {
      classes = pre.classes;
      size_value = (held_size pre.held.1 c.in_ok-y.was, held_size pre.held.0 c.in_ok-x.was);
    }
