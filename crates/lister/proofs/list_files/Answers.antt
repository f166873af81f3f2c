-- `lister::list_files` is safe: what it lends has the lengths that are asked, and what it prints of a refusal is small.
use mathlib.Core.Path.{sym}
use lib.Dec.{lit≤}
use lib.Seq.{length-take-le}
use Rattle.lister.proofs.list_files.Goals as goal

pub list_by-requires : goal.list_by-requires
list_by-requires g c = (
  c.powers-powers.ensures,
  c.requires.1,
  lit≤ tt,
)

pub append_definition-end-requires : goal.append_definition-end-requires
append_definition-end-requires g c = record {
  tens = c.powers-powers.ensures;
  k_bound = (c.printed-k.ensures, c.printed-p.ensures, lit≤ tt);
}

pub slice_bounds-write-end : goal.slice_bounds-write-end
slice_bounds-write-end g c = sym (length-take-le _ _ c.append_definition-end.ensures.inside)
