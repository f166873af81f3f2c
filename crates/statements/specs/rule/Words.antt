-- The keywords of a definition, in capitals.
use Rattle.std.specs.Prelude.{ℕ, List, [], ◌∷◌}

abbrev pub SSS : List ℕ
SSS = 83 ∷ 83 ∷ 83 ∷ []

abbrev pub VERSION : List ℕ
VERSION = 86 ∷ 69 ∷ 82 ∷ 83 ∷ 73 ∷ 79 ∷ 78 ∷ []

abbrev pub DATE : List ℕ
DATE = 68 ∷ 65 ∷ 84 ∷ 69 ∷ []

abbrev pub TIME : List ℕ
TIME = 84 ∷ 73 ∷ 77 ∷ 69 ∷ []

abbrev pub ORIGIN : List ℕ
ORIGIN = 79 ∷ 82 ∷ 73 ∷ 71 ∷ 73 ∷ 78 ∷ []

abbrev pub USER : List ℕ
USER = 85 ∷ 83 ∷ 69 ∷ 82 ∷ []

abbrev pub STANDARD : List ℕ
STANDARD = 83 ∷ 84 ∷ 65 ∷ 78 ∷ 68 ∷ 65 ∷ 82 ∷ 68 ∷ []

abbrev pub NAMES : List ℕ
NAMES = 78 ∷ 65 ∷ 77 ∷ 69 ∷ 83 ∷ []

abbrev pub SURVEY : List ℕ
SURVEY = 83 ∷ 85 ∷ 82 ∷ 86 ∷ 69 ∷ 89 ∷ []

abbrev pub TITLE : List ℕ
TITLE = 84 ∷ 73 ∷ 84 ∷ 76 ∷ 69 ∷ []

abbrev pub RECORD : List ℕ
RECORD = 82 ∷ 69 ∷ 67 ∷ 79 ∷ 82 ∷ 68 ∷ []

abbrev pub VARIABLE : List ℕ
VARIABLE = 86 ∷ 65 ∷ 82 ∷ 73 ∷ 65 ∷ 66 ∷ 76 ∷ 69 ∷ []

abbrev pub NAME : List ℕ
NAME = 78 ∷ 65 ∷ 77 ∷ 69 ∷ []

abbrev pub LABEL : List ℕ
LABEL = 76 ∷ 65 ∷ 66 ∷ 69 ∷ 76 ∷ []

abbrev pub TYPE : List ℕ
TYPE = 84 ∷ 89 ∷ 80 ∷ 69 ∷ []

abbrev pub SINGLE : List ℕ
SINGLE = 83 ∷ 73 ∷ 78 ∷ 71 ∷ 76 ∷ 69 ∷ []

abbrev pub MULTIPLE : List ℕ
MULTIPLE = 77 ∷ 85 ∷ 76 ∷ 84 ∷ 73 ∷ 80 ∷ 76 ∷ 69 ∷ []

abbrev pub QUANTITY : List ℕ
QUANTITY = 81 ∷ 85 ∷ 65 ∷ 78 ∷ 84 ∷ 73 ∷ 84 ∷ 89 ∷ []

abbrev pub CHARACTER : List ℕ
CHARACTER = 67 ∷ 72 ∷ 65 ∷ 82 ∷ 65 ∷ 67 ∷ 84 ∷ 69 ∷ 82 ∷ []

abbrev pub LOGICAL : List ℕ
LOGICAL = 76 ∷ 79 ∷ 71 ∷ 73 ∷ 67 ∷ 65 ∷ 76 ∷ []

abbrev pub POSITION : List ℕ
POSITION = 80 ∷ 79 ∷ 83 ∷ 73 ∷ 84 ∷ 73 ∷ 79 ∷ 78 ∷ []

abbrev pub TO : List ℕ
TO = 84 ∷ 79 ∷ []

abbrev pub SPREAD : List ℕ
SPREAD = 83 ∷ 80 ∷ 82 ∷ 69 ∷ 65 ∷ 68 ∷ []

abbrev pub OF : List ℕ
OF = 79 ∷ 70 ∷ []

abbrev pub SIZE : List ℕ
SIZE = 83 ∷ 73 ∷ 90 ∷ 69 ∷ []

abbrev pub VALUES : List ℕ
VALUES = 86 ∷ 65 ∷ 76 ∷ 85 ∷ 69 ∷ 83 ∷ []

abbrev pub WITH : List ℕ
WITH = 87 ∷ 73 ∷ 84 ∷ 72 ∷ []

abbrev pub SPECIAL : List ℕ
SPECIAL = 83 ∷ 80 ∷ 69 ∷ 67 ∷ 73 ∷ 65 ∷ 76 ∷ []

abbrev pub END : List ℕ
END = 69 ∷ 78 ∷ 68 ∷ []

abbrev pub NOTE : List ℕ
NOTE = 78 ∷ 79 ∷ 84 ∷ 69 ∷ []

-- the version, 1.1 as text
abbrev pub ONE-ONE : List ℕ
ONE-ONE = 49 ∷ 46 ∷ 49 ∷ []
