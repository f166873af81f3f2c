-- Which answer exactly when (document 02, C-23): "20, 40 and 90 come before them; 60 last". The text's own refusals, 61 to 64, are those of
-- its first line that has one (`TextOutcome`), and of a line the lowest number.
use Rattle.std.specs.Prelude.{◌≡◌, true, false, List, [], ◌∷◌, ℕ, ◌+◌, ◌≤◌, ◌<◌, min, ℤ, length}
use Rattle.layout.specs.rule.Row.{row_at}
use Rattle.fields.specs.rule.Field.{Value, spaces}
use Rattle.fields.specs.rule.Row.{written_of}
use Rattle.sound.specs.rule.Sound.{well_formed}
use Rattle.sound.specs.rule.Rows.{rows_of, length_of}
use Rattle.sharing.specs.rule.Sharing.{shares_none}
use Rattle.kinds.specs.rule.Against.{yields}
use Rattle.csv_fields.specs.rule.Page.{Lines, done, broken, line}
use Rattle.field_values.specs.rule.Value.{IsValue}
use Rattle.import_rule.specs.rule.Line.{LineSays, builds, faulty}
use Rattle.import_rule.specs.rule.Text.{TextSays, accepts, refuses, file_bytes}
use Rattle.imports.specs.rule.Import.{ImportVerdict, refused, written, import_says}

-- the fields of the rows from i on are values, written to the record s in row order, which gives u; or one is none, at a column
pub data LineWritten (t : List ℤ) : ℕ → List (List ℕ) → List ℕ → LineSays → Type 0 where
  all_written : {i : ℕ} {s : List ℕ} → LineWritten t i [] s (builds s)
  one_written : {i : ℕ} {f s : List ℕ} {fs : List (List ℕ)} {u : LineSays} (x : Value) → IsValue t (rows_of t) (row_at t i) f x
      → LineWritten t (i + 1) fs (written_of t (rows_of t) (row_at t i) x s) u → LineWritten t i (f ∷ fs) s u
  no_value : {i : ℕ} {f s : List ℕ} {fs : List (List ℕ)} → ((x : Value) → IsValue t (rows_of t) (row_at t i) f x → ⊥)
      → LineWritten t i (f ∷ fs) s (faulty 64 (i + 1))

-- A LINE: 63 before 64; else the record that ordinary writes in row order into L spaces give
pub data LineOutcome (t : List ℤ) (fs : List (List ℕ)) : LineSays → Type 0 where
  other_count : (length fs ≡ rows_of t → ⊥) → LineOutcome t fs (faulty 63 (min (length fs) (rows_of t) + 1))
  its_fields : {u : LineSays} → length fs ≡ rows_of t → LineWritten t 0 fs (spaces (length_of t)) u → LineOutcome t fs u

-- THE LINES from line n on: the first that is refused refuses the text
pub data LinesOutcome (t : List ℤ) : ℕ → Lines → TextSays → Type 0 where
  no_line : {n : ℕ} → LinesOutcome t n done (accepts [])
  malformed : {n c : ℕ} → LinesOutcome t n (broken c) (refuses 61 n c)
  refused_line : {n k c : ℕ} {fs : List (List ℕ)} {ls : Lines} → LineOutcome t fs (faulty k c)
      → LinesOutcome t n (line fs ls) (refuses k n c)
  built_line : {n : ℕ} {fs : List (List ℕ)} {ls : Lines} {r : List ℕ} {rs : List (List ℕ)} → LineOutcome t fs (builds r)
      → LinesOutcome t (n + 1) ls (accepts rs) → LinesOutcome t n (line fs ls) (accepts (r ∷ rs))
  later_line : {n k m c : ℕ} {fs : List (List ℕ)} {ls : Lines} {r : List ℕ} → LineOutcome t fs (builds r)
      → LinesOutcome t (n + 1) ls (refuses k m c) → LinesOutcome t n (line fs ls) (refuses k m c)

-- the first column, from c on, in which the names that are due and the fields of the name line are not the same, or that is on one side
-- only
pub data FirstOther : ℕ → List (List ℕ) → List (List ℕ) → ℕ → Type 0 where
  more_fields : {c : ℕ} {f : List ℕ} {fs : List (List ℕ)} → FirstOther c [] (f ∷ fs) c
  more_names : {c : ℕ} {m : List ℕ} {ms : List (List ℕ)} → FirstOther c (m ∷ ms) [] c
  here : {c : ℕ} {m f : List ℕ} {ms fs : List (List ℕ)} → (m ≡ f → ⊥) → FirstOther c (m ∷ ms) (f ∷ fs) c
  later : {c k : ℕ} {m f : List ℕ} {ms fs : List (List ℕ)} → m ≡ f → FirstOther (c + 1) ms fs k → FirstOther c (m ∷ ms) (f ∷ fs) k

-- THE TEXT: its name line, which is line 1, and then its lines
pub data TextOutcome (t : List ℤ) (names : List (List ℕ)) : Lines → TextSays → Type 0 where
  no_names : TextOutcome t names done (refuses 61 1 1)
  torn_names : {c : ℕ} → TextOutcome t names (broken c) (refuses 61 1 c)
  other_names : {c : ℕ} {fs : List (List ℕ)} {ls : Lines} → FirstOther 1 names fs c → TextOutcome t names (line fs ls) (refuses 62 1 c)
  same_names : {fs : List (List ℕ)} {ls : Lines} {x : TextSays} → names ≡ fs → LinesOutcome t 2 ls x → TextOutcome t names (line fs ls) x

-- THE CALL
pub data ImportOutcome (def : List ℕ) (t : List ℤ) (s : List ℕ) (room : ℕ) : ImportVerdict → Type 0 where
  bad_table_lem : well_formed t ≡ false → ImportOutcome def t s room (refused 20 0 0)
  other_table : well_formed t ≡ true → yields def t ≡ false → ImportOutcome def t s room (refused 40 0 0)
  shared_place : well_formed t ≡ true → yields def t ≡ true → shares_none t (rows_of t) ≡ false
      → ImportOutcome def t s room (refused 90 0 0)
  refused_text : {k n c : ℕ} → well_formed t ≡ true → yields def t ≡ true → shares_none t (rows_of t) ≡ true → import_says def t s
      ≡ refuses k n c
      → ImportOutcome def t s room (refused k n c)
  short_room : {rs : List (List ℕ)} → well_formed t ≡ true → yields def t ≡ true → shares_none t (rows_of t) ≡ true → import_says def t s
      ≡ accepts rs
      → room < length (file_bytes rs) → ImportOutcome def t s room (refused 60 0 0)
  all_built : {rs : List (List ℕ)} → well_formed t ≡ true → yields def t ≡ true → shares_none t (rows_of t) ≡ true → import_says def t s
      ≡ accepts rs
      → length (file_bytes rs) ≤ room → ImportOutcome def t s room (written (length rs) (length (file_bytes rs)))
