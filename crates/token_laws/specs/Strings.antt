-- A string says its signs, and ends, in one way only: what `string_exactly` of crate `marks` calls its decoded signs are the only ones
-- that its pieces say.
use Rattle.std.specs.Prelude.{◌≡◌, List, ℕ}
use Rattle.std.proofs.Common.{◌∙◌, sym}
use Rattle.signs.specs.declared.Sign.{Sign}
use Rattle.scan.specs.rule.Text.{Text}
use Rattle.marks.specs.Spelling.{Spelt}
use Rattle.marks.proofs.Complete.{string_complete, string_decoded}

pub string_once : {t : Text} {m m' : List Sign} {n n' : ℕ} → Spelt t m n → Spelt t m' n' → (m ≡ m') × (n ≡ n')
string_once s s' = (sym (string_decoded s) ∙ string_decoded s', cc (string_complete s, string_complete s'))
