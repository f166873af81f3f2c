use native.Mathlib.Omega.{arith}
use Rattle.tokens.proofs.over_spaces.Goals as goal

pub returns-then-v-ge-SPACES : goal.returns-then-v-ge-SPACES
returns-then-v-ge-SPACES c = (0, omega arith)

pub returns-else-v-ge-SPACES : goal.returns-else-v-ge-SPACES
returns-else-v-ge-SPACES c = (1, omega arith)
