-- The small survey of crate `xml_samples`, with a serial, a weight and a filter, a break and references, is derived with nothing charged.
use Rattle.std.specs.Prelude.{◌≡◌, refl, List}
use Rattle.bridge.specs.Lowest.{never}
use Rattle.xml_reading.specs.rule.Role.{XmlEntry}
use Rattle.xml_reading.specs.rule.Whole.{XmlOutcome, Built, Refusal, xml_outcome}
use Rattle.xml_samples.specs.Small.{small, read_small}
use Rattle.xml_derivations.specs.Document.{Taken}
use Rattle.xml_derivation_laws.specs.Whole.{taken_exactly}

pub small_derived : (l : List XmlEntry) × Taken small 94 l
small_derived = by (xml_outcome small 94) refl where
  by : (o : XmlOutcome) → xml_outcome small 94 ≡ o → (l : List XmlEntry) × Taken small 94 l
  by (Built l) e = (l, (taken_exactly small 94 l).0 e)
  by (Refusal k p) e = let z = rw e at read_small in never cc
