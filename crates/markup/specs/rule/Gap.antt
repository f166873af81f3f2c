-- Comments, and what may stand between two tags: white space and comments. 60 33 45 45 is <!--, 45 45 62 is -->.
use Rattle.std.specs.Prelude.{Bool, cond, List, [], ◌∷◌, ℕ, suc, ◌+◌, ◌-◌, length, drop}
use Rattle.scan.specs.rule.Loop.{Next, Again, Done, loop_of}
use Rattle.markup.specs.rule.Bytes.{is_white, stands, end_fault}
use Rattle.markup.specs.declared.Skip.{Skip}
use Rattle.markup.specs.declared.Skip.TheVariants.{Past, Broken}
use Rattle.markup.specs.declared.Move.{Move}
use Rattle.markup.specs.declared.Move.TheVariants.{Go, Stop}

-- behind <!--: up to the first two dashes, which > has to follow
unfoldable pub xml_comment : Bool → ℕ → ℕ → List ℕ → Skip
xml_comment bad opened p [] = Broken (end_fault bad p opened)
xml_comment bad opened p (b ∷ s) =
    cond (stands (45 ∷ 45 ∷ []) (b ∷ s)) (cond (stands (45 ∷ 45 ∷ 62 ∷ []) (b ∷ s)) (Past (p + 3)) (Broken p))
    (xml_comment bad opened (p + 1) s)

abbrev pub on_skip : Skip → Move
on_skip (Past n) = Go n
on_skip (Broken p) = Stop (Broken p)

-- one step of a gap: a byte of white space, a comment, or neither
unfoldable pub move_of : Bool → ℕ → List ℕ → Move
move_of bad p [] = Stop (Past p)
move_of bad p (b ∷ s) =
    cond (is_white b) (Go (p + 1))
    (cond (stands (60 ∷ 33 ∷ 45 ∷ 45 ∷ []) (b ∷ s)) (on_skip (xml_comment bad p (p + 4) (drop 3 s))) (Stop (Past p)))

abbrev pub next_move : Move → Next ℕ Skip
next_move (Go n) = Again n
next_move (Stop r) = Done r

-- as many as there are
unfoldable pub gap_of : Bool → List ℕ → ℕ → Skip
gap_of bad d p = loop_of (λ p. next_move (move_of bad p (drop p d))) (Past 0) (suc (length d - p)) p
