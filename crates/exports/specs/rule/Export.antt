-- Export to comma-separated text (document 02, C-16): "Refusals: 20, then 40 as in C-11, a refused definition included, then 60 the text
-- before
-- any fault does not fit; for these three output is unchanged."
use Rattle.std.specs.Prelude.{◌≡◌, cond, List, ℕ, ℤ, length}
use Rattle.sound.specs.rule.Sound.{well_formed}
use Rattle.files.specs.rule.File.{file_verdict}
use Rattle.kinds.specs.rule.Against.{yields}
use Rattle.exports.specs.rule.Text.{export_text, ExportVerdict, refused, fitted, export_after}

-- THE VERDICT, with so much room
unfoldable pub export_verdict : List ℕ → List ℤ → List ℕ → ℕ → ExportVerdict
export_verdict def t d room =
    cond (well_formed t) (cond (yields def t) (fitted (file_verdict t d) (export_text def t d) room) (refused 40)) (refused 20)

-- THE PROMISE of the call
pub record Exported (def : List ℕ) (t : List ℤ) (d out out' : List ℕ) (v : ExportVerdict) : Type 0 where
  pub says : v ≡ export_verdict def t d (length out)
  pub leaves : out' ≡ export_after (export_verdict def t d (length out)) (export_text def t d) out
