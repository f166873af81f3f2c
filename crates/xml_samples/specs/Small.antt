-- A small survey in XML, from its bytes: it is read, and gives its table, with a serial, a weight and a filter; 10 where that doesn't fit.
use Rattle.std.specs.Prelude.{◌≡◌, refl, List, [], ◌∷◌, ◌++◌, map, ℕ, ℤ, pos}
use Rattle.xml_reading.specs.rule.Whole.{XmlOutcome, Built, Refusal, xml_outcome, xml_table}
use Rattle.xml_samples.specs.Bytes.{bytes}
use Rattle.xml_samples.specs.Definitions.{definitions}

abbrev pub small : List ℕ
small =
    bytes "<sss version=\"1.2\"><survey><record ident=\"A\">\n"
    ++ bytes "<variable ident=\"1\" type=\"character\" use=\"serial\"><name>no</name><label/>"
    ++ bytes "<position start=\"1\" finish=\"4\"/><size>4</size></variable>\n"
    ++ bytes "<variable ident=\"2\" type=\"logical\"><name>own</name><label>Owns &lt;one&gt;</label><position start=\"5\"/></variable>\n"
    ++ bytes "<variable ident=\"3\" type=\"single\"><name>kind</name><label>Which<br/>kind</label>"
    ++ bytes "<position start=\"6\"/><filter>own</filter>"
    ++ bytes "<values><value code=\"1\">a</value><value code=\"2\">b</value></values></variable>\n"
    ++ bytes "<variable ident=\"4\" type=\"quantity\" use=\"weight\"><name>w</name><label>Weight</label>"
    ++ bytes "<position start=\"7\" finish=\"10\"/><values><range from=\"0.00\" to=\"9.99\"/></values></variable>\n"
    ++ bytes "</record></survey></sss>\n"

-- ---- its table: 6 + 20 * 4 + 4 * 2 = 94 numbers
abbrev numbers : List ℕ
numbers =
    (12 ∷ 4 ∷ 2 ∷ 10 ∷ 6 ∷ 86 ∷ [])
    ++ (1 ∷ 4 ∷ 1 ∷ 4 ∷ 4 ∷ 0 ∷ 0 ∷ 0 ∷ 0 ∷ 0 ∷ 0 ∷ 0 ∷ 0 ∷ 0 ∷ 102 ∷ 2 ∷ 119 ∷ 0 ∷ 1 ∷ 0 ∷ [])
    ++ (2 ∷ 5 ∷ 5 ∷ 5 ∷ 1 ∷ 0 ∷ 0 ∷ 0 ∷ 0 ∷ 0 ∷ 0 ∷ 0 ∷ 0 ∷ 0 ∷ 218 ∷ 3 ∷ 235 ∷ 16 ∷ 0 ∷ 0 ∷ [])
    ++ (3 ∷ 1 ∷ 6 ∷ 6 ∷ 1 ∷ 0 ∷ 0 ∷ 0 ∷ 0 ∷ 0 ∷ 0 ∷ 0 ∷ 0 ∷ 2 ∷ 332 ∷ 4 ∷ 350 ∷ 14 ∷ 0 ∷ 2 ∷ [])
    ++ (4 ∷ 3 ∷ 7 ∷ 10 ∷ 4 ∷ 2 ∷ 1 ∷ 0 ∷ 0 ∷ 1 ∷ 0 ∷ 999 ∷ 2 ∷ 0 ∷ 547 ∷ 1 ∷ 562 ∷ 6 ∷ 2 ∷ 0 ∷ [])
    ++ (1 ∷ 0 ∷ 437 ∷ 1 ∷ [])
    ++ (2 ∷ 0 ∷ 462 ∷ 1 ∷ [])

abbrev table_in : XmlOutcome → List ℤ
table_in (Built l) = xml_table l
table_in (Refusal n p) = []

-- the serial, the logical that is the filter of the third, and the weight
pub read_small : table_in (xml_outcome small 94) ≡ map pos numbers
unfolding definitions
read_small = refl

-- 10: one number less
pub too_short : xml_outcome small 93 ≡ Refusal 10 0
unfolding definitions
too_short = refl
