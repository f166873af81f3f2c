-- What follows from rule/Text.antt, and what the code keeps.
use Rattle.std.specs.Prelude.{List, [], ◌∷◌, ◌++◌, ℕ}
use Rattle.lines.specs.rule.Text.{numeral}

unfoldable pub definition_text : ℕ → ℕ → List ℕ
definition_text k place =
    (100 ∷ 101 ∷ 102 ∷ 105 ∷ 110 ∷ 105 ∷ 116 ∷ 105 ∷ 111 ∷ 110 ∷ 32 ∷ []) ++ (numeral k ++ ((32 ∷ numeral place) ++ (10 ∷ [])))
