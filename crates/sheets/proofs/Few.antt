-- The ident of every start tag of a variable is below 10,000; so the table built of a definition in XML is well formed.
use mathlib.Core.Path.{◌≡◌}
use mathlib.Core.Bool.{cond, true}
use mathlib.Core.List.{List, []}
use Prim.Native.Nat.{ℕ, ◌≤◌, ◌<◌}
use lib.IntN.{ℤ}
use lib.ListN.{length}
use Rattle.cells.specs.rule.Cell.{pasted}
use Rattle.sound.specs.rule.Sound.{well_formed}
use Rattle.survey.specs.rule.Survey.{Figure}
use Rattle.xml_reading.specs.rule.Word.{IDENT, TYPE, USE}
use Rattle.xml_reading.specs.rule.Element.{figure_of}
use Rattle.xml_reading.specs.rule.Role.{XmlEntry}
use Rattle.xml_reading.specs.rule.Whole.{xml_table, Built, xml_outcome}
use Rattle.filters.proofs.Slots.{two_held}
use Rattle.filters.proofs.Figured.{few_digits}
use Rattle.xml_laws.specs.Entries.{title_fine}
use Rattle.xml_laws.specs.Sheets.{Few}
use Rattle.xml_laws.specs.Sheets as laws

short : (x y : Figure) → x ≡ y → (y.digits ≤ 4 → y.value < 10000) → x.digits ≤ 4 → x.value < 10000
short x y e = rw e (λ f. f)

pub few : Few
few bad d old l p e t n f =
    let g = title_fine bad d old l p e f in
    let h = g.held in
    let s = two_held d 1 4 (cond old 0 5) bad g.place g.end IDENT TYPE (cond old [] USE) g.tag_is in
    short t.ident (figure_of d h.a h.ae) g.ident_is (few_digits d h.a h.ae s.first.fits) g.digits

-- THE TABLE BUILT IS WELL FORMED, for every definition in XML that is read
pub read_well_formed : (d : List ℕ) (t : List ℤ) (l : List XmlEntry) → xml_outcome d (length t) ≡ Built l
    → well_formed (pasted t 0 (xml_table l))
    ≡ true
read_well_formed d t l e = laws.read_well_formed few d t l e
