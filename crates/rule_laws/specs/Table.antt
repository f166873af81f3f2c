-- The lent table once a definition is read, over THE RULE: it begins with the table of the survey, and "Numbers beyond 6 + 18V + 4E are
-- kept".
use Rattle.std.specs.Prelude.{◌≡◌, List, ◌++◌, ℤ, length, take, drop}
use Rattle.std.proofs.Common.{zero-add}
use Rattle.std.proofs.Math.Seq.{take-append_seam, drop-append_seam}
use Rattle.cells.specs.rule.Cell.{pasted}
use Rattle.survey.specs.rule.Survey.{Variable}
use Rattle.survey.specs.rule.Table.{table_of}
use Rattle.definition.specs.rule.Definition.{Built, sss_table_after}

module _ (l : List Variable) (t : List ℤ) where
  after_is : sss_table_after (Built l) t ≡ table_of l ++ drop (length (table_of l)) t
  unfolding sss_table_after pasted
  after_is = rw (zero-add (length (table_of l)))

  pub table_begins : take (length (table_of l)) (sss_table_after (Built l) t) ≡ table_of l
  table_begins = rw after_is (take-append_seam (table_of l) (drop (length (table_of l)) t))

  pub table_beyond : drop (length (table_of l)) (sss_table_after (Built l) t) ≡ drop (length (table_of l)) t
  table_beyond = rw after_is (drop-append_seam (table_of l) (drop (length (table_of l)) t))
