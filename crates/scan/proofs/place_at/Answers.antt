use mathlib.Core.Path.{sym, ap}
use Rattle.scan.specs.rule.Text.{place_of}
use Rattle.scan.proofs.Texts.{stepped, ended}
use Rattle.scan.proofs.place_at.Goals as goal

pub returns-in-Byte : goal.returns-in-Byte
unfolding place_of
returns-in-Byte c = sym (ap place_of (stepped _ _ c.next_byte.ensures c.in-Byte.is).split)

pub returns-in-End : goal.returns-in-End
unfolding place_of
returns-in-End c = sym (ap place_of (ended _ _ c.next_byte.ensures c.in-End.is))
