-- `files::judge_from` meets its contract. The invariant: the verdict on the records that are left, after n others, is the file's.
use mathlib.Core.Path.{◌≡◌}
use Prim.Native.Nat.{◌+◌, ◌≤◌, ◌<◌, ◌-◌}
use lib.ListN.{length, drop}
use Rattle.lows.specs.Lows.{Clear}
use Rattle.cuts.specs.rule.Records.{records_from}
use Rattle.files.specs.rule.File.{records_verdict}
use Rattle.files.proofs.judge_from.Given as goal

abbrev pub invariant-loop-from : goal.invariant-loop-from
invariant-loop-from l = (l.n ≤ l.from + 1) × (length l.scratch ≡ length l.initial.scratch)
    × (records_verdict l.t l.initial.n l.known (records_from l.w (drop l.initial.from l.d))
    ≡ records_verdict l.t l.n l.first (records_from l.w (drop l.from l.d)))
    × (l.from < length l.d → Clear l.d l.from l.clear)

abbrev pub decreases-loop-from : goal.decreases-loop-from
decreases-loop-from l = length l.d - l.from
