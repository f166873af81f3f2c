-- What follows from rule/Spelling.antt, and what the code keeps.
use Rattle.std.specs.Prelude.{◌≡◌, Bool, true, false, ◌&&◌, List, [], ◌∷◌, ◌++◌, ℕ, ◌+◌, ◌<◌}
use Rattle.signs.specs.declared.Sign.{Sign}
use Rattle.signs.specs.declared.Sign.TheVariants.{Byte, Break}
use Rattle.scan.specs.rule.Text.{Text, stop, sign, text}
use Rattle.marks.specs.rule.Marks.{is_hex, inside_of}
use Rattle.marks.specs.declared.Inside.{Inside}
use Rattle.marks.specs.declared.Inside.TheVariants.{Plain, Opened, Shut, Ell, Pair, Low}
use Rattle.marks.specs.declared.Move.{Move}
use Rattle.marks.specs.declared.Move.TheVariants.{Go, Closed, Wrong}
use Rattle.marks.specs.declared.Given.{Given}
use Rattle.marks.specs.declared.Given.TheVariants.{One, Nothing}
use Rattle.marks.specs.declared.Part.{Part}
use Rattle.marks.specs.declared.Part.TheVariants.{Said, Over}
use Rattle.marks.specs.rule.Spelling.{hex_pair, gives_of}

-- a text is hex pairs, one or more, and a closing brace, which say the signs m, and then u
pub data Pairs : Text → List Sign → Text → Type 0 where
  last : {p q r a b : ℕ} {u : Text} → is_hex a ≡ true → is_hex b ≡ true
      → Pairs (sign p a (sign q b (sign r 125 u))) (Byte (hex_pair a b) ∷ []) u
  more : {p q a b : ℕ} {m : List Sign} {t u : Text} → is_hex a ≡ true → is_hex b ≡ true → Pairs t m u
      → Pairs (sign p a (sign q b t)) (Byte (hex_pair a b) ∷ m) u

-- a text is a piece of a string, which says the signs m, and then u
pub data Piece : Text → List Sign → Text → Type 0 where
  plain : {p b : ℕ} {u : Text} → (b ≡ 34 → ⊥) → (b ≡ 123 → ⊥) → Piece (sign p b u) (Byte b ∷ []) u
  quote : {p q r : ℕ} {u : Text} → Piece (sign p 123 (sign q 34 (sign r 125 u))) (Byte 34 ∷ []) u
  brace : {p q r : ℕ} {u : Text} → Piece (sign p 123 (sign q 123 (sign r 125 u))) (Byte 123 ∷ []) u
  line : {p q r s : ℕ} {u : Text} → Piece (sign p 123 (sign q 78 (sign r 76 (sign s 125 u)))) (Break ∷ []) u
  bytes : {p : ℕ} {m : List Sign} {t u : Text} → Pairs t m u → Piece (sign p 123 t) m u

-- a text is pieces, which say the signs m, and then a quote, with n the place after it
pub data Spelt : Text → List Sign → ℕ → Type 0 where
  closed : {p : ℕ} {u : Text} → Spelt (sign p 34 u) [] (p + 1)
  piece : {t u : Text} {m s : List Sign} {n : ℕ} → Piece t m u → Spelt u s n → Spelt t (m ++ s) n

-- a text is pieces, and then an open brace at o
pub data Braced (o : ℕ) : Text → Type 0 where
  here : {u : Text} → Braced o (sign o 123 u)
  after_piece : {t u : Text} {m : List Sign} → Piece t m u → Braced o u → Braced o t

-- a text is pieces, and then an open brace at o, where no piece stands
pub data Broken (o : ℕ) : Text → Type 0 where
  breaks : {u : Text} → ((m : List Sign) (w : Text) → Piece (sign o 123 u) m w → ⊥) → Broken o (sign o 123 u)
  breaks_after : {t u : Text} {m : List Sign} → Piece t m u → Broken o u → Broken o t

abbrev pub given_list : Given → List Sign
given_list (One x) = x ∷ []
given_list Nothing = []

-- in a pair's second half both bytes are hex digits
unfoldable pub ready : Inside → ℕ → ℕ → Bool
ready Plain a b = true
ready (Opened o) a b = true
ready (Shut o) a b = true
ready (Ell o) a b = true
ready (Pair o) a b = true
ready (Low o) a b = is_hex a && is_hex b

-- a state that the byte before is not part of: any but a pair's second half
unfoldable pub idle : Inside → Bool
idle Plain = true
idle (Opened o) = true
idle (Shut o) = true
idle (Ell o) = true
idle (Pair o) = true
idle (Low o) = false

-- one byte of a string: the sign that it completes is said; where it completes nothing the reader goes on
abbrev pub said : List Sign → ℕ → Inside → Part → Part
said [] n s k = k
said (x ∷ m) n s k = Said x n s

abbrev pub parted : Move → List Sign → ℕ → (Inside → Part) → Part
parted (Go s) m n k = said m n s (k s)
parted Closed m n k = Over
parted (Wrong o) m n k = Over

-- what a string says next, read on from s, where a was the byte before
unfoldable pub part_from : Inside → ℕ → Text → Part
part_from s a (stop p) = Over
part_from s a (sign p b t) = parted (inside_of s b p) (gives_of s a b) (p + 1) (λ s. part_from s b t)

-- from `at` on the file d has the inside of a comment of level l, bytes, strings and comments, and its closing angle, with n the
-- place after it
pub data Comment (d : List ℕ) : ℕ → ℕ → ℕ → Type 0 where
  over : {l at p : ℕ} → text d at ≡ sign p 62 (text d (p + 1)) → Comment d l at (p + 1)
  byte : {l at n p b : ℕ} → text d at ≡ sign p b (text d (p + 1)) → (b ≡ 62 → ⊥) → (b ≡ 34 → ⊥) → (b ≡ 60 → ⊥)
      → Comment d l (p + 1) n → Comment d l at n
  string : {l at n p k : ℕ} {m : List Sign} → text d at ≡ sign p 34 (text d (p + 1)) → Spelt (text d (p + 1)) m k → Comment d l k n
      → Comment d l at n
  comment : {l at n p k : ℕ} → text d at ≡ sign p 60 (text d (p + 1)) → l < 32 → Comment d (l + 1) (p + 1) k → Comment d l k n
      → Comment d l at n

-- a text that goes on with another
unfoldable pub joined : Text → Text → Text
joined (stop p) v = v
joined (sign p b t) v = sign p b (joined t v)
