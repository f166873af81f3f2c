-- How many bytes the legal character at the start of a list has, and the first place from which on none stands.
use Rattle.std.specs.Prelude.{Bool, cond, ◌&&◌, List, [], ◌∷◌, ℕ, suc, ◌+◌, ◌*◌, ◌-◌, ltb, leb, eqb}
use Rattle.std.specs.Prelude.{length, drop}
use Rattle.scan.specs.rule.Loop.{Next, Again, Done, loop_of}
use Rattle.utf.specs.rule.Chars.{legal_character}

-- a byte that is a character of its own
unfoldable pub plain_of : Bool → ℕ → Bool
plain_of l b = legal_character b && ltb b (cond l 256 128)

-- a byte that follows in a sequence
unfoldable pub follows : ℕ → Bool
follows b = leb 128 b && ltb b 192

-- sequences of two, three and four bytes: no shorter form, and a legal character
unfoldable pub valid_pair : ℕ → ℕ → Bool
valid_pair a b = follows b && (leb 128 ((a - 192) * 64 + (b - 128)) && legal_character ((a - 192) * 64 + (b - 128)))

unfoldable pub triple_of : ℕ → ℕ → ℕ → Bool
triple_of a b c =
    follows b
    && (follows c
    && (leb 2048 ((a - 224) * 4096 + ((b - 128) * 64 + (c - 128))) && legal_character ((a - 224) * 4096 + ((b - 128) * 64 + (c - 128)))))

unfoldable pub valid_four : ℕ → ℕ → ℕ → ℕ → Bool
valid_four a b c e =
    follows b
    && (follows c
    && (follows e
    && (leb 65536 ((a - 240) * 262144 + ((b - 128) * 4096 + ((c - 128) * 64 + (e - 128))))
    && legal_character ((a - 240) * 262144 + ((b - 128) * 4096 + ((c - 128) * 64 + (e - 128)))))))

unfoldable pub two_in : ℕ → List ℕ → ℕ
two_in a [] = 0
two_in a (b ∷ s) = cond (valid_pair a b) 2 0

unfoldable pub three_in : ℕ → List ℕ → ℕ
three_in a [] = 0
three_in a (b ∷ []) = 0
three_in a (b ∷ c ∷ s) = cond (triple_of a b c) 3 0

unfoldable pub four_in : ℕ → List ℕ → ℕ
four_in a [] = 0
four_in a (b ∷ []) = 0
four_in a (b ∷ c ∷ []) = 0
four_in a (b ∷ c ∷ e ∷ s) = cond (valid_four a b c e) 4 0

-- by its first byte
unfoldable pub long_of : ℕ → List ℕ → ℕ
long_of a s = cond (ltb a 192) 0 (cond (ltb a 224) (two_in a s) (cond (ltb a 240) (three_in a s) (cond (ltb a 248) (four_in a s) 0)))

-- how many bytes the legal character at the start has; 0 if none stands there
unfoldable pub character_width : Bool → List ℕ → ℕ
character_width l [] = 0
character_width l (a ∷ s) = cond (plain_of l a) 1 (cond l 0 (long_of a s))

abbrev pub bad_step : Bool → List ℕ → ℕ → Next ℕ ℕ
bad_step l d p = cond (eqb (character_width l (drop p d)) 0) (Done p) (Again (p + character_width l (drop p d)))

-- from character to character, the first place where no legal one stands; the length, if all are legal
unfoldable pub first_bad : Bool → List ℕ → ℕ → ℕ
first_bad l d p = loop_of (bad_step l d) 0 (suc (length d - p)) p
