use Rattle.xml_reading.specs.rule.Sheet.{says_word}
use Rattle.prefaces.proofs.says_word.Goals as goal

pub returns : goal.returns
unfolding says_word
returns c = c.is_word.ensures
