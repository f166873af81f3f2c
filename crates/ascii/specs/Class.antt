-- What follows from rule/Class.antt, and what the code keeps.
use Rattle.std.specs.Prelude.{ℕ, ◌≡◌, List}
use Rattle.below.specs.rule.Table.{tabulated}
use Rattle.ascii.specs.rule.Class.{class_of}

-- the table of the classes of the 256 bytes
abbrev pub Classes : List ℕ → Type 0
Classes l = l ≡ tabulated class_of 256
