-- THE CODE'S BOOKS, which contracts inside the library name; crate `bridge` proves them equal to the rule of crate `reading`.
use Rattle.std.specs.Prelude.{ℕ, suc, ◌-◌, List, length, Ok, Err}
use Rattle.scan.specs.rule.Text.{text, place_of}
use Rattle.scan.specs.rule.Number.{is_space, run_of}
use Rattle.scan.specs.rule.Loop.{Next, Again, Done}
use Rattle.tokens.specs.declared.Pace.{Pace}
use Rattle.tokens.specs.declared.Pace.TheVariants.{On, Over}
use Rattle.tokens.specs.rule.Gap.{gap_at, OrFault}

-- what follows where reading stands; a refusal stays as it is
abbrev pub then : OrFault ℕ → (ℕ → OrFault ℕ) → OrFault ℕ
then (Ok n) k = k n
then (Err f) k = Err f

unfoldable pub gap_on : List ℕ → OrFault ℕ → OrFault ℕ
gap_on d t = then t (gap_at d)

unfoldable pub spaces_on : List ℕ → OrFault ℕ → OrFault ℕ
spaces_on d t = then t λ n. Ok (place_of (text d (run_of is_space n (text d n))))

-- how much is left to read, at most: it falls with every token, so that what is read again and again comes to an end
unfoldable pub left : List ℕ → OrFault ℕ → ℕ
left d (Ok n) = suc (length d - n)
left d (Err f) = 0

-- the same step as the code answers it
unfoldable pub pace_of : Next ℕ (OrFault ℕ) → Pace
pace_of (Again n) = On n
pace_of (Done r) = Over r
