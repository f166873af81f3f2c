use mathlib.Core.Path.{sym, ap, ◌∙◌}
use Rattle.ranks.specs.declared.Found.{Found}
use Rattle.reading.specs.rule.Least.{named, least}
use Rattle.xml_reading.specs.rule.Open.{nothing}
use Rattle.elements.specs.Code.{found_of}
use Rattle.elements.specs.declared.Passed.TheVariants as passed
use Rattle.elements.proofs.Ranking.{found_unknown}
use Rattle.elements.proofs.pass_pair.Goals as goal

pub returns-then-empty : goal.returns-then-empty
unfolding nothing found_of named least
returns-then-empty c = rw c.if-empty.true (ap (λ (x : Found). passed.Is x c.args.at)
    c.fault_at-found.ensures)

pub returns-in-Past : goal.returns-in-Past
unfolding nothing found_of named least
returns-in-Past c = rw (
  c.if-empty.false,
  sym c.read_pair.ensures ∙ c.in-Past.is,
) (ap (λ (x : Found). passed.Is x c.in-Past.next) c.fault_at-found-in-Past.ensures)

pub returns-in-Cut : goal.returns-in-Cut
unfolding nothing
returns-in-Cut c = rw (
  c.if-empty.false,
  sym c.read_pair.ensures ∙ c.in-Cut.is,
) (ap (λ (x : Found). passed.Is x c.in-Cut.p) (c.fault_at-found-in-Cut.ensures ∙ sym (found_unknown _)))

pub returns-in-Fault : goal.returns-in-Fault
unfolding nothing
returns-in-Fault c = rw (
  c.if-empty.false,
  sym c.read_pair.ensures ∙ c.in-Fault.is,
)
