-- What is known before `<sss>` was read.
use Rattle.std.specs.Prelude.{Bool, List, [], ℕ}
use Rattle.std.proofs.Math.Bool.{false}
use Rattle.xml_reading.specs.rule.Variable.{Manner}
use Rattle.xml_grammar.specs.Meaning.{State, between}

module _ (bad : Bool) (d : List ℕ) (f : ℕ) where
  -- a manner by its four, so that a version can be looked at
  abbrev pub by : Bool → Bool → Bool → Bool → Manner
  by old languages standard latin = record { old = old; languages = languages; standard = standard; latin = latin }

  -- before the version is known
  abbrev pub unknown : Bool → State
  unknown latin = between (by false false false latin) []
