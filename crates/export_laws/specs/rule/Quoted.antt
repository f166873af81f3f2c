-- "texts and names are quoted when they hold a comma, quote, CR or LF" (document 02, C-16).
use Rattle.std.specs.Prelude.{List, ◌∷◌, ℕ}

pub data Special : ℕ → Type 0 where
  comma : Special 44
  quote : Special 34
  cr : Special 13
  lf : Special 10

pub data AmongBytes (b : ℕ) : List ℕ → Type 0 where
  here : {s : List ℕ} → AmongBytes b (b ∷ s)
  there : {c : ℕ} {s : List ℕ} → AmongBytes b s → AmongBytes b (c ∷ s)

pub record HoldsOne (f : List ℕ) : Type 0 where
  pub byte : ℕ
  pub special : Special byte
  pub among : AmongBytes byte f
