-- A quantity's format as a table may have it: "decimals 9", a point (code 1 or 2) "where decimals are above 0".
use Rattle.std.specs.Prelude.{◌≡◌, ◌≤◌}
use Rattle.layout.specs.declared.Format.{Format}

-- a quantity's format: at most 9 decimals, and none without a point
pub record FormatFacts (f : Format) : Type 0 where
  pub few : f.decimals ≤ 9
  pub plain : f.point ≡ 0 → f.decimals ≡ 0
