-- `listing::ident_of` meets its contract.
use native.Mathlib.Omega.{arith}
use Rattle.listing.specs.RowLaws.{ident_few, row_stands, ident_here, ident_none}
use Rattle.listing.proofs.ident_of.Goals as goal

pub read-requires : goal.read-requires
read-requires c = row_stands c.requires c.if-i-h.true

pub returns-then-i-h : goal.returns-then-i-h
returns-then-i-h c =
    let e = c.read.ensures in (
      rw e (ident_here c.requires c.if-i-h.true),
      rw e (ident_few c.requires c.if-i-h.true),
    )

pub returns : goal.returns
returns c = (ident_none c.requires c.if-i-h.false, omega arith)
