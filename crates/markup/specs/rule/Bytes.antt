-- Kinds of bytes, runs of one kind, and whether given bytes stand first.
use Rattle.std.specs.Prelude.{Bool, true, false, cond, ◌&&◌, ◌||◌, List, [], ◌∷◌, ℕ, ◌+◌, leb, eqb}

-- white space: tab, line feed, carriage return, space
unfoldable pub is_white : ℕ → Bool
is_white b = eqb b 32 || (eqb b 10 || (eqb b 13 || eqb b 9))

unfoldable pub is_digit : ℕ → Bool
is_digit b = leb 48 b && leb b 57

unfoldable pub is_hex : ℕ → Bool
is_hex b = is_digit b || ((leb 97 b && leb b 102) || (leb 65 b && leb b 70))

-- a name starts with a letter, _, : or anything from 128 on; then also digits, - and point
unfoldable pub starts_name : ℕ → Bool
starts_name b = (leb 97 b && leb b 122) || ((leb 65 b && leb b 90) || (eqb b 95 || (eqb b 58 || leb 128 b)))

unfoldable pub is_name : ℕ → Bool
is_name b = starts_name b || (is_digit b || (eqb b 45 || eqb b 46))

-- the kinds by number
unfoldable pub of_kind : ℕ → ℕ → Bool
of_kind k b = cond (eqb k 0) (is_white b) (cond (eqb k 1) (is_name b) (cond (eqb k 2) (is_digit b) (is_hex b)))

-- the longest run of bytes that pass: the place after it, its bytes, and what follows
unfoldable pub run_of : (ℕ → Bool) → ℕ → List ℕ → ℕ
run_of f p [] = p
run_of f p (b ∷ s) = cond (f b) (run_of f (p + 1) s) p

unfoldable pub bytes_while : (ℕ → Bool) → List ℕ → List ℕ
bytes_while f [] = []
bytes_while f (b ∷ s) = cond (f b) (b ∷ bytes_while f s) []

unfoldable pub rest_of : (ℕ → Bool) → List ℕ → List ℕ
rest_of f [] = []
rest_of f (b ∷ s) = cond (f b) (rest_of f s) (b ∷ s)

-- whether w stands first
unfoldable pub stands : List ℕ → List ℕ → Bool
stands [] s = true
stands (x ∷ w) [] = false
stands (x ∷ w) (b ∷ s) = eqb b x && stands w s

-- where a text ends too early: at the bad character that cuts it, else where the mark that is open began
abbrev pub end_fault : Bool → ℕ → ℕ → ℕ
end_fault bad q opened = cond bad q opened
