-- The grammar of comma-separated text (RFC 4180, as document 02's C-16 and C-23 have it), needless quotes aside: a text is lines, a line is
-- one field or more parted by commas and ended by CR LF, a field is its bytes, where none of them is a comma, quote, CR or LF, or stands in
-- quotes with its own doubled. 44 is the comma, 34 the quote, 13 CR, 10 LF.
use Rattle.std.specs.Prelude.{◌≡◌, false, List, [], ◌∷◌, ◌++◌, ℕ}
use Rattle.commas.specs.rule.Csv.{holds_special, doubled}
use Rattle.csv_fields.specs.rule.Page.{Lines, done, line}

-- a field as it may be written
pub data FieldSpelt (f : List ℕ) (s : List ℕ) : Type 0 where
  plainly : holds_special f ≡ false → s ≡ f → FieldSpelt f s
  quoted : s ≡ (34 ∷ []) ++ (doubled f ++ (34 ∷ [])) → FieldSpelt f s

pub data IsLine : List (List ℕ) → List ℕ → Type 0 where
  alone : {f u s : List ℕ} → FieldSpelt f u → s ≡ u ++ (13 ∷ 10 ∷ []) → IsLine (f ∷ []) s
  and_more : {f u w s : List ℕ} {fs : List (List ℕ)} → FieldSpelt f u → IsLine fs w → s ≡ u ++ (44 ∷ w) → IsLine (f ∷ fs) s

pub data IsText : List (List (List ℕ)) → List ℕ → Type 0 where
  no_line : {s : List ℕ} → s ≡ [] → IsText [] s
  and_lines : {fs : List (List ℕ)} {ls : List (List (List ℕ))} {u w s : List ℕ} → IsLine fs u → IsText ls w → s ≡ u ++ w
      → IsText (fs ∷ ls) s

-- lines with nothing malformed behind them
unfoldable pub all_of : List (List (List ℕ)) → Lines
all_of [] = done
all_of (fs ∷ ls) = line fs (all_of ls)
