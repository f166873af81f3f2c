-- `listing::append_judged` meets its contract: the number of each case, and the ident of an illegal row.
use Prim.Native.Nat.{◌≤◌}
use native.Mathlib.Omega.{arith}
use Rattle.faults.specs.Joined.{number_few}
use Rattle.records.specs.rule.Verdict.{judged_as}
use Rattle.listing.specs.rule.Listing.{fault_line}
use Rattle.listing.proofs.append_judged.Goals as goal

pub append_fault-requires-in-Faulty : goal.append_fault-requires-in-Faulty
append_fault-requires-in-Faulty c =
    let p = c.requires in
    let e = c.fault_number-number.ensures in
    let f : c.fault_number-number.result ≤ 243 = rw e (number_few _) in record {
      tens = p.tens.0;
      k_bound = (omega arith, p.n_bound.0, c.ident_of.ensures.1, p.n_bound.1);
    }

pub returns-in-Sound : goal.returns-in-Sound
unfolding fault_line judged_as
returns-in-Sound c = rw c.in-Sound.is c.append_ok.ensures

pub returns-in-BadTable : goal.returns-in-BadTable
unfolding fault_line judged_as
returns-in-BadTable c = rw c.in-BadTable.is c.append_fault.ensures

pub returns-in-ShortRecord : goal.returns-in-ShortRecord
unfolding fault_line judged_as
returns-in-ShortRecord c = rw c.in-ShortRecord.is c.append_fault-in-ShortRecord.ensures

pub returns-in-LowByte : goal.returns-in-LowByte
unfolding fault_line judged_as
returns-in-LowByte c = rw c.in-LowByte.is c.append_fault-in-LowByte.ensures

pub returns-in-Faulty : goal.returns-in-Faulty
unfolding fault_line judged_as
returns-in-Faulty c = rw (
  c.in-Faulty.is,
  ← c.fault_number-number.ensures,
  ← c.ident_of.ensures.0,
) c.append_fault-in-Faulty.ensures
