-- `listing::append_last` meets its contract: the line of each case.
use native.Mathlib.Omega.{arith}
use Rattle.files.specs.rule.File.{file_said}
use Rattle.listing.specs.rule.Listing.{fault_line, last_text}
use Rattle.listing.specs.Turns.{count_in}
use Rattle.listing.proofs.append_last.Goals as goal

pub append_ok-requires : goal.append_ok-requires
unfolding count_in file_said
append_ok-requires c = let p = c.requires in record {
  tens = p.tens.0;
  n_bound = (rw c.in-Sound.is at p.j_bound.0, p.j_bound.1);
}

pub append_fault-requires-in-Unended : goal.append_fault-requires-in-Unended
unfolding count_in file_said
append_fault-requires-in-Unended c = let p = c.requires in record {
  tens = p.tens.0;
  k_bound = (omega arith, rw c.in-Unended.is at p.j_bound.0, omega arith, p.j_bound.1);
}

pub append_fault-requires-in-OtherLength : goal.append_fault-requires-in-OtherLength
unfolding count_in file_said
append_fault-requires-in-OtherLength c = let p = c.requires in record {
  tens = p.tens.0;
  k_bound = (omega arith, rw c.in-OtherLength.is at p.j_bound.0, omega arith, p.j_bound.1);
}

pub append_judged-requires : goal.append_judged-requires
unfolding count_in file_said
append_judged-requires c = let p = c.requires in record {
  tens = p.tens;
  n_bound = (rw c.in-Fault.is at p.j_bound.0, p.j_bound.1);
}

pub returns-in-Sound : goal.returns-in-Sound
unfolding last_text file_said fault_line
returns-in-Sound c = rw c.in-Sound.is c.append_ok.ensures

pub returns-in-BadTable : goal.returns-in-BadTable
unfolding last_text file_said fault_line
returns-in-BadTable c = rw c.in-BadTable.is c.append_fault.ensures

pub returns-in-Unended : goal.returns-in-Unended
unfolding last_text file_said fault_line
returns-in-Unended c = rw c.in-Unended.is c.append_fault-in-Unended.ensures

pub returns-in-OtherLength : goal.returns-in-OtherLength
unfolding last_text file_said fault_line
returns-in-OtherLength c = rw c.in-OtherLength.is c.append_fault-in-OtherLength.ensures

pub returns-in-Fault : goal.returns-in-Fault
unfolding last_text file_said fault_line
returns-in-Fault c = rw c.in-Fault.is c.append_judged.ensures
