-- `value_fields::is_roomy` meets its contract.
use mathlib.Core.Path.{refl}
use Rattle.below.specs.Below.{holds_not}
use Rattle.value_fields.proofs.is_roomy.Goals as goal

pub returns-then-at-eq0 : goal.returns-then-at-eq0
returns-then-at-eq0 c h = holds_not h refl

pub returns-then-out-at : goal.returns-then-out-at
returns-then-out-at c h = holds_not h refl

pub returns-then-out-at-lt300 : goal.returns-then-out-at-lt300
returns-then-out-at-lt300 c h = holds_not h refl

pub returns-then-bound-at : goal.returns-then-bound-at
returns-then-bound-at c h = holds_not h refl

pub returns-then-bound-at-le300 : goal.returns-then-bound-at-le300
returns-then-bound-at-le300 c h = holds_not h refl
