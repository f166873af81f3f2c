-- What follows from rule/Tested.antt, and what the code keeps.
use Rattle.std.specs.Prelude.{◌≡◌, List, ℤ}
use Rattle.layout.specs.declared.Header.{Header}
use Rattle.sound.specs.rule.Rows.{rows_of, length_of}
use Rattle.files.specs.rule.Tested.{Tested}

-- ---- laws
pub tested_rows : {t : List ℤ} {h : Header} → Tested t h → h.rows ≡ rows_of t
tested_rows g = rw g.head

pub tested_length : {t : List ℤ} {h : Header} → Tested t h → h.length ≡ length_of t
tested_length g = rw g.head
