-- "`SSS` comes first, with no space before it. Then `VERSION 1.1`": spaces alone stand between. A version that is not 1.1 as text is 4.
use Rattle.std.specs.Prelude.{Bool, true, false, cond, not, ◌&&◌, List, [], ◌∷◌, ℕ, eqb, length}
use Rattle.scan.specs.rule.Text.{text, place_of}
use Rattle.scan.specs.rule.Number.{is_space, is_value, run_of, run_bytes}
use Rattle.tokens.specs.rule.Gap.{fault}
use Rattle.statements.specs.rule.Words.{SSS, VERSION, ONE-ONE}
use Rattle.reading.specs.rule.Result.{Is, Reader, ◌>>◌, due}
use Rattle.reading.specs.rule.Least.{◌when◌, judged}
use Rattle.reading.specs.rule.Token.{here}

unfoldable pub same : List ℕ → List ℕ → Bool
same [] [] = true
same [] (y ∷ t) = false
same (x ∷ s) [] = false
same (x ∷ s) (y ∷ t) = eqb x y && same s t

module _ (d : List ℕ) where
  abbrev pub spaces_skipped : Reader Unit
  spaces_skipped n = Is tt (place_of (text d (run_of is_space n (text d n))))

  -- "a version is the longest run of digits, points, `+` and `-`; none is 2"
  unfoldable pub version : Reader Unit
  version n =
      let s = run_bytes is_value (text d n) in
      cond (eqb (length s) 0) (due n) (judged (fault 4 n when not (same s ONE-ONE) ∷ []) tt (run_of is_value n (text d n)))

  unfoldable pub opening : Reader Unit
  opening = here d SSS >> spaces_skipped >> here d VERSION >> spaces_skipped >> version
