-- A reader starts at a place of the file. It answers what it read and the place behind it; or a refusal, which then is the answer of
-- everything that begins with it: "the first 2 or 3 met".
use Rattle.std.specs.Prelude.{ℕ, zero, suc}
use Rattle.scan.specs.rule.Loop.{Next, Again, Done}
use Rattle.tokens.specs.declared.Fault.{Fault}
use Rattle.tokens.specs.rule.Gap.{fault}

pub data Result (A : Type 0) : Type 0 where
  Is : A → ℕ → Result A
  Not : Fault → Result A

abbrev pub Reader : Type 0 → Type 0
Reader A = ℕ → Result A

abbrev pub bind : {A B : Type 0} → Result A → (A → Reader B) → Result B
bind (Is a n) k = k a n
bind (Not f) k = Not f

-- one reader behind another
infixr 5 ◌>>=◌ ◌>>◌
abbrev pub ◌>>=◌ : {A B : Type 0} → Reader A → (A → Reader B) → Reader B
◌>>=◌ p k n = bind (p n) k

abbrev pub ◌>>◌ : {A B : Type 0} → Reader A → Reader B → Reader B
◌>>◌ p q n = bind (p n) (λ a. q)

-- nothing more is read
abbrev pub give : {A : Type 0} → A → Reader A
give a n = Is a n

-- "2 another token was due", here
abbrev pub due : {A : Type 0} → Reader A
due n = Not (fault 2 n)

-- again and again, so many times at most
abbrev pub turn : {S A : Type 0} → (S → Reader A) → Next S A → Reader A
turn k (Again s) = k s
turn k (Done a) = give a

unfoldable pub repeat : {S A : Type 0} → ℕ → (S → Reader (Next S A)) → S → Reader A
repeat zero step s n = Not (fault 0 0)
repeat (suc f) step s n = bind (step s n) (turn (repeat f step))
