-- What the answers of the readers of texts and truths mean: a text's length and a truth, by the field.
use Rattle.std.specs.Prelude.{length}
use Rattle.fields.specs.rule.Field.{missing, number, members, text, truth, Field, holds, illegal}
use Rattle.letters.specs.declared.Text.{Text}
use Rattle.letters.specs.declared.Text.TheVariants as t
use Rattle.letters.specs.declared.Truth.{Truth}
use Rattle.letters.specs.declared.Truth.TheVariants as b

unfoldable pub text_said : Field → Text
text_said (holds missing) = t.Blank
text_said (holds (text s)) = t.Length (length s)
text_said (holds (number z)) = t.Wrong
text_said (holds (members ms)) = t.Wrong
text_said (holds (truth x)) = t.Wrong
text_said illegal = t.Wrong

unfoldable pub truth_said : Field → Truth
truth_said (holds missing) = b.Blank
truth_said (holds (truth x)) = b.Says x
truth_said (holds (number z)) = b.Wrong
truth_said (holds (members ms)) = b.Wrong
truth_said (holds (text s)) = b.Wrong
truth_said illegal = b.Wrong
