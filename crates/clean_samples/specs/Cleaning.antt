-- What computes where a clean text is made of a survey. Made by: tools/unfolds cleaning clean_text fields.Number:padded
use Rattle.clean_text.specs.rule.Clean.{line_of, clean_text, plain_digits, values_lines, variable_lines, each_variable, head_lines}
use Rattle.clean_text.specs.rule.Clean.{clean_lines}
use Rattle.clean_text.specs.rule.Clean.{clean_of}
use Rattle.clean_text.specs.rule.Span.{up_to, span_of}
use Rattle.fields.specs.rule.Number.{padded}

unfoldable pub cleaning : Unit {0}
unfolding line_of clean_text plain_digits values_lines variable_lines each_variable head_lines clean_lines clean_of up_to span_of padded
cleaning = tt
