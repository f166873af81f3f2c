-- What may stand before a token: spaces, and after the VERSION statement comments. A token is named by its first byte behind them,
-- and by the file's length where nothing is left. A comment that does not close is refused at the outermost mark.
use Rattle.std.specs.Prelude.{ℕ, suc, ◌+◌, ◌-◌, cond, List, eqb, length, Result, Ok, Err}
use Rattle.scan.specs.rule.Text.{Text, stop, sign, text}
use Rattle.scan.specs.rule.Number.{is_space}
use Rattle.scan.specs.rule.Loop.{Next, Again, Done, loop_of}
use Rattle.marks.specs.declared.Skip.{Skip}
use Rattle.marks.specs.declared.Skip.TheVariants.{Past, Unclosed, Bad}
use Rattle.marks.specs.rule.Marks.{comment_of}
use Rattle.tokens.specs.declared.Fault.{Fault}

-- what a reader read, as where reading stands, or the refusal that ended it
abbrev pub OrFault : Type 0 → Type 0
OrFault A = Result A Fault

abbrev pub fault : ℕ → ℕ → Fault
fault n p = record { number = n; place = p }

-- a comment that opened at p
abbrev pub gap_skip : ℕ → Skip → Next ℕ (OrFault ℕ)
gap_skip p (Past n) = Again n
gap_skip p Unclosed = Done (Err (fault 3 p))
gap_skip p (Bad q) = Done (Err (fault 3 q))

unfoldable pub gap_step : Text → Next ℕ (OrFault ℕ)
gap_step (stop p) = Done (Ok p)
gap_step (sign p b t) =
    let past = gap_skip p (comment_of 1 t) in
    cond (is_space b) (Again (p + 1)) (cond (eqb b 60) past (Done (Ok p)))

-- spaces and comments from `at` on, as long as there are any: the place of the token behind them
unfoldable pub gap_at : List ℕ → ℕ → OrFault ℕ
gap_at d at = loop_of (λ n. gap_step (text d n)) (Ok 0) (suc (length d - at)) at
