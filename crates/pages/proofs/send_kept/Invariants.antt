use Prim.Native.Nat.{◌-◌}
use lib.ListN.{length}
use Rattle.sink.specs.Sent.{Owed}
use Rattle.scan.specs.rule.Text.{text}
use Rattle.clean_text.specs.rule.Span.{up_to, span_of}
use Rattle.pages.proofs.send_kept.Given as goal

abbrev pub invariant-loop-byte : goal.invariant-loop-byte
invariant-loop-byte l = Owed l.bound l.initial.out l.at (span_of l.d l.from l.end) l.out l.p (up_to l.end (text l.d l.n))

abbrev pub decreases-loop-byte : goal.decreases-loop-byte
decreases-loop-byte l = length l.d - l.n
