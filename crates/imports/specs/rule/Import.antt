-- Import from comma-separated text (document 02, C-23): "20, 40 and 90 come before them; 60 last, with output unchanged in every case." 61
-- to 64 come with line and column, by line and then lowest number. 60 where the records, of L bytes and CR LF each, have no room; an exact
-- fit is enough.
use Rattle.std.specs.Prelude.{◌≡◌, cond, List, ◌++◌, ℕ, leb, ℤ, length, drop}
use Rattle.sound.specs.rule.Sound.{well_formed}
use Rattle.sound.specs.rule.Rows.{rows_of}
use Rattle.sharing.specs.rule.Sharing.{shares_none}
use Rattle.kinds.specs.rule.Against.{yields}
use Rattle.name_line.specs.rule.Names.{name_line}
use Rattle.import_rule.specs.rule.Text.{TextSays, accepts, refuses, text_says, file_bytes, data_of}
use Rattle.imports.specs.declared.Import.{Import}
use Rattle.imports.specs.declared.Import.TheVariants as I

-- a number with line and column, 0 where none is named; or how many records, and the length of the data
pub data ImportVerdict : Type 0 where
  refused : ℕ → ℕ → ℕ → ImportVerdict
  written : ℕ → ℕ → ImportVerdict

-- document 02's numbers for each case of the answer
unfoldable pub import_said : Import → ImportVerdict
import_said I.BadTable = refused 20 0 0
import_said I.OtherTable = refused 40 0 0
import_said I.SharedPlace = refused 90 0 0
import_said (I.Refused k n c) = refused k n c
import_said I.ShortRoom = refused 60 0 0
import_said (I.Written n m) = written n m

-- what the text says, in so much room
unfoldable pub roomed : TextSays → ℕ → ImportVerdict
roomed (accepts rs) room = cond (leb (length (file_bytes rs)) room) (written (length rs) (length (file_bytes rs))) (refused 60 0 0)
roomed (refuses k n c) room = refused k n c

unfoldable pub import_says : List ℕ → List ℤ → List ℕ → TextSays
import_says def t s = text_says t (name_line def t (rows_of t)) s

-- THE VERDICT, with so much room
unfoldable pub import_verdict : List ℕ → List ℤ → List ℕ → ℕ → ImportVerdict
import_verdict def t s room =
    cond (well_formed t)
    (cond (yields def t) (cond (shares_none t (rows_of t)) (roomed (import_says def t s) room) (refused 90 0 0)) (refused 40 0 0))
    (refused 20 0 0)

-- the output afterwards: the data and what stood behind them, or as it was
unfoldable pub import_after : ImportVerdict → List ℕ → List ℕ → List ℕ
import_after (refused k n c) s out = out
import_after (written n m) s out = s ++ drop (length s) out

-- THE PROMISE of the call
pub record Imported (def : List ℕ) (t : List ℤ) (s out out' : List ℕ) (v : ImportVerdict) : Type 0 where
  pub says : v ≡ import_verdict def t s (length out)
  pub leaves : out' ≡ import_after (import_verdict def t s (length out)) (data_of (import_says def t s)) out
