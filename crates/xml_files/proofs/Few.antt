-- THE TABLE BUILT OF A DEFINITION IN XML IS WELL FORMED: crate `sheets` shows it, and crate `laws`, which does not stand on that one, has
-- it
-- from here.
use mathlib.Core.Path.{◌≡◌}
use mathlib.Core.Bool.{true}
use mathlib.Core.List.{List}
use Prim.Native.Nat.{ℕ}
use lib.IntN.{ℤ}
use lib.ListN.{length}
use Rattle.cells.specs.rule.Cell.{pasted}
use Rattle.sound.specs.rule.Sound.{well_formed}
use Rattle.xml_reading.specs.rule.Role.{XmlEntry}
use Rattle.xml_reading.specs.rule.Whole.{xml_table, Built, xml_outcome}
use Rattle.sheets.proofs.Few.{read_well_formed}

-- XML-WELL-FORMED: whatever follows it in the lent table
pub xml_well_formed : (d : List ℕ) (t : List ℤ) (l : List XmlEntry) → xml_outcome d (length t) ≡ Built l
    → well_formed (pasted t 0 (xml_table l))
    ≡ true
xml_well_formed = read_well_formed
