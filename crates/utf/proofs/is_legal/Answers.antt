use borrow.Author.Rules.{rules}
use Rattle.utf.specs.rule.Chars.{legal_character}
use Rattle.utf.proofs.is_legal.Goals as goal

pub returns : goal.returns
unfolding legal_character
returns c = search rules
