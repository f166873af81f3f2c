-- `texts::ended` meets its contract, case by case.
use Rattle.texts.specs.Measured.{ended_in}
use Rattle.texts.proofs.ended.Goals as goal

pub returns-in-Plain : goal.returns-in-Plain
unfolding ended_in
returns-in-Plain c = rw c.in-Plain.is

pub returns-in-Opened : goal.returns-in-Opened
unfolding ended_in
returns-in-Opened c = rw c.in-Opened.is

pub returns-in-Shut : goal.returns-in-Shut
unfolding ended_in
returns-in-Shut c = rw c.in-Shut.is

pub returns-in-Ell : goal.returns-in-Ell
unfolding ended_in
returns-in-Ell c = rw c.in-Ell.is

pub returns-in-Pair : goal.returns-in-Pair
unfolding ended_in
returns-in-Pair c = rw c.in-Pair.is

pub returns-in-Low : goal.returns-in-Low
unfolding ended_in
returns-in-Low c = rw c.in-Low.is
