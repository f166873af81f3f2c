-- "The declaration may be absent (the file then begins with `<sss`, in UTF-8); if it is there: `<?xml`, version `1.0`, then optionally
-- encoding, then optionally standalone (`yes` or `no`, which says nothing here), either quotes, white space around `=`, `?>`. Encodings
-- UTF-8 and ISO-8859-1, letter case aside, no aliases; none is UTF-8. A byte order mark with ISO-8859-1 is 50 at the encoding's name."
-- "DOCTYPE: `<!DOCTYPE sss PUBLIC "public" "system">` or `<!DOCTYPE sss SYSTEM "system">`. An internal subset is 51 at its `[` (also right
-- behind `sss`)."
-- Both as data: what is due, piece by piece. Told.antt says what each piece is and where it is at fault.
use Rattle.std.specs.Prelude.{Bool, true, false, List, [], ◌∷◌, ℕ}

pub data Form : Type 0 where
  -- nothing more
  done : Form
  -- white space, one byte or more; white space or none
  white : Form → Form
  room : Form → Form
  -- just these bytes
  word : List ℕ → Form → Form
  -- one of these values in either quotes; the name of an encoding, behind a byte order mark (true) UTF-8 alone
  value : List (List ℕ) → Form → Form
  encoding : Bool → Form → Form
  -- a string in either quotes; of a public identifier (true) XML's own characters
  literal : Bool → Form → Form
  -- the root's name
  root : Form → Form
  -- no internal subset
  bracket : Form → Form
  -- white space and this word, then the first; else the second
  perhaps : List ℕ → Form → Form → Form
  -- this word, then the first; else the second
  which : List ℕ → Form → Form → Form

-- <?xml
abbrev pub XML : List ℕ
XML = 60 ∷ 63 ∷ 120 ∷ 109 ∷ 108 ∷ []

-- <sss
abbrev pub SSS : List ℕ
SSS = 60 ∷ 115 ∷ 115 ∷ 115 ∷ []

-- <!DOCTYPE
abbrev pub DOCTYPE : List ℕ
DOCTYPE = 60 ∷ 33 ∷ 68 ∷ 79 ∷ 67 ∷ 84 ∷ 89 ∷ 80 ∷ 69 ∷ []

-- version
abbrev pub version_word : List ℕ
version_word = 118 ∷ 101 ∷ 114 ∷ 115 ∷ 105 ∷ 111 ∷ 110 ∷ []

-- encoding
abbrev pub encoding_is : List ℕ
encoding_is = 101 ∷ 110 ∷ 99 ∷ 111 ∷ 100 ∷ 105 ∷ 110 ∷ 103 ∷ []

-- standalone
abbrev pub standalone_is : List ℕ
standalone_is = 115 ∷ 116 ∷ 97 ∷ 110 ∷ 100 ∷ 97 ∷ 108 ∷ 111 ∷ 110 ∷ 101 ∷ []

-- 1.0
abbrev pub one_nought : List ℕ
one_nought = 49 ∷ 46 ∷ 48 ∷ []

-- yes
abbrev pub yes : List ℕ
yes = 121 ∷ 101 ∷ 115 ∷ []

-- no
abbrev pub no : List ℕ
no = 110 ∷ 111 ∷ []

-- UTF-8
abbrev pub UTF-8 : List ℕ
UTF-8 = 85 ∷ 84 ∷ 70 ∷ 45 ∷ 56 ∷ []

-- ISO-8859-1
abbrev pub ISO-8859-1 : List ℕ
ISO-8859-1 = 73 ∷ 83 ∷ 79 ∷ 45 ∷ 56 ∷ 56 ∷ 53 ∷ 57 ∷ 45 ∷ 49 ∷ []

-- sss
abbrev pub sss : List ℕ
sss = 115 ∷ 115 ∷ 115 ∷ []

-- PUBLIC
abbrev pub PUBLIC : List ℕ
PUBLIC = 80 ∷ 85 ∷ 66 ∷ 76 ∷ 73 ∷ 67 ∷ []

-- SYSTEM
abbrev pub SYSTEM : List ℕ
SYSTEM = 83 ∷ 89 ∷ 83 ∷ 84 ∷ 69 ∷ 77 ∷ []

-- ---- the declaration
-- = and a value, behind a word: 61 is =
abbrev pub pair : List (List ℕ) → Form → Form
pair ws f = room (word (61 ∷ []) (room (value ws f)))

-- 63 62 is ?>
abbrev pub close : Form
close = room (word (63 ∷ 62 ∷ []) done)

abbrev pub standalone : Form
standalone = perhaps standalone_is (pair (yes ∷ no ∷ []) close) close

abbrev pub naming_form : Bool → Form
naming_form marked = room (word (61 ∷ []) (room (encoding marked standalone)))

abbrev pub encoded : Bool → Form
encoded marked = perhaps encoding_is (naming_form marked) standalone

abbrev pub declaration : Bool → Form
declaration marked = word XML (white (word version_word (pair (one_nought ∷ []) (encoded marked))))

-- ---- the DOCTYPE
-- 62 is >
abbrev pub ending : Form
ending = room (bracket (word (62 ∷ []) done))

abbrev pub located : Form
located = white (literal false ending)

abbrev pub public : Form
public = white (literal true located)

abbrev pub external : Form
external = which PUBLIC public (word SYSTEM located)

abbrev pub behind : Form
behind = bracket (white (bracket external))

abbrev pub doctype : Form
doctype = word DOCTYPE (white (root behind))
