-- `columns::count_categories` meets its contract: as many as are marked.
-- Assumes nothing.
use mathlib.Core.Path.{◌∙◌}
use native.Mathlib.Omega.{arith}
use Rattle.columns.specs.Members.{count_marked}
use Rattle.columns.proofs.count_categories.Goals as goal

pub mark_legal-requires : goal.mark_legal-requires
mark_legal-requires c = record {
  line_facts = c.requires.line_facts;
  marks_len_bound = c.requires.covered.few;
}

pub count_marked-requires : goal.count_marked-requires
count_marked-requires c = omega (
  arith,
  c.mark_legal.auto.marks,
  c.requires.covered.few,
)

pub returns : goal.returns
returns c = let marked = c.mark_legal in (
  c.count_marked.ensures
      ∙ count_marked c.requires.covered _ marked.auto.marks marked.ensures,
  marked.ensures,
)
