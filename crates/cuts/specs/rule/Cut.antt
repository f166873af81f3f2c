-- "Data files": "A terminator is CR LF, LF CR, CR or LF; the first one met (a pair if both bytes adjoin) holds for the file". 13 is CR,
-- 10 is LF.
use Rattle.std.specs.Prelude.{◌≡◌, Bool, false, cond, ◌&&◌, List, [], ◌∷◌, ℕ, ◌+◌, ◌≤◌, eqb, drop}
use Rattle.cuts.specs.declared.Terminator.{Terminator}
use Rattle.cuts.specs.declared.Next.{Next}
use Rattle.cuts.specs.declared.Next.TheVariants.{Ended, Unended, Nothing}

abbrev pub one_byte : ℕ → ℕ → Terminator
one_byte a b = record { first = a; second = b; size = 1 }

abbrev pub two_bytes : ℕ → ℕ → Terminator
two_bytes a b = record { first = a; second = b; size = 2 }

abbrev pub no_ending : Terminator
no_ending = record { first = 0; second = 0; size = 0 }

-- s begins with the byte b
unfoldable pub begins_with : ℕ → List ℕ → Bool
begins_with b [] = false
begins_with b (c ∷ s) = eqb c b

-- the terminator that begins with a, before s: a pair if b adjoins
unfoldable pub terminator_at : ℕ → ℕ → List ℕ → Terminator
terminator_at a b s = cond (begins_with b s) (two_bytes a b) (one_byte a b)

-- the first terminator met
unfoldable pub terminator_of : List ℕ → Terminator
terminator_of [] = no_ending
terminator_of (b ∷ s) = cond (eqb b 13) (terminator_at 13 10 s) (cond (eqb b 10) (terminator_at 10 13 s) (terminator_of s))

-- the rest s of the data, after a terminator's first byte, goes on with the rest of it
unfoldable pub whole_at : Terminator → List ℕ → Bool
whole_at w s = cond (eqb w.size 2) (begins_with w.second s) (eqb w.size 1)

-- s begins with the whole terminator
unfoldable pub begins_at : Terminator → List ℕ → Bool
begins_at w [] = false
begins_at w (c ∷ s) = eqb c w.first && whole_at w s

-- the record that starts at `start`, read on at the place i, where s is left: it ends before the first whole terminator
unfoldable pub end_from : Terminator → ℕ → ℕ → List ℕ → Next
end_from w start i [] = Unended start i
end_from w start i (c ∷ s) = cond (begins_at w (c ∷ s)) (Ended start i (i + w.size)) (end_from w start (i + 1) s)

-- the next record from a place on, where s is left; at the end there is none
unfoldable pub next_from : Terminator → ℕ → List ℕ → Next
next_from w from [] = Nothing
next_from w from (c ∷ s) = end_from w from from (c ∷ s)

unfoldable pub next_of : List ℕ → ℕ → Next
next_of d from = next_from (terminator_of d) from (drop from d)

-- THE PROMISE of the call that finds the next record
pub record NextFound (d : List ℕ) (from : ℕ) (n : Next) : Type 0 where
  pub says : n ≡ next_of d from

-- the file's terminator, of two bytes at most
pub record Found (d : List ℕ) (w : Terminator) : Type 0 where
  pub is : w ≡ terminator_of d
  pub few : w.size ≤ 2
