-- The names of document 000's elements and attributes, and the two versions. Case counts.
use Rattle.std.specs.Prelude.{ℕ, List, [], ◌∷◌}

-- sss
abbrev pub SSS : List ℕ
SSS = 115 ∷ 115 ∷ 115 ∷ []

-- date
abbrev pub DATE : List ℕ
DATE = 100 ∷ 97 ∷ 116 ∷ 101 ∷ []

-- time
abbrev pub TIME : List ℕ
TIME = 116 ∷ 105 ∷ 109 ∷ 101 ∷ []

-- origin
abbrev pub ORIGIN : List ℕ
ORIGIN = 111 ∷ 114 ∷ 105 ∷ 103 ∷ 105 ∷ 110 ∷ []

-- user
abbrev pub USER : List ℕ
USER = 117 ∷ 115 ∷ 101 ∷ 114 ∷ []

-- survey
abbrev pub SURVEY : List ℕ
SURVEY = 115 ∷ 117 ∷ 114 ∷ 118 ∷ 101 ∷ 121 ∷ []

-- name
abbrev pub NAME : List ℕ
NAME = 110 ∷ 97 ∷ 109 ∷ 101 ∷ []

-- version
abbrev pub VERSION : List ℕ
VERSION = 118 ∷ 101 ∷ 114 ∷ 115 ∷ 105 ∷ 111 ∷ 110 ∷ []

-- title
abbrev pub TITLE : List ℕ
TITLE = 116 ∷ 105 ∷ 116 ∷ 108 ∷ 101 ∷ []

-- record
abbrev pub RECORD : List ℕ
RECORD = 114 ∷ 101 ∷ 99 ∷ 111 ∷ 114 ∷ 100 ∷ []

-- variable
abbrev pub VARIABLE : List ℕ
VARIABLE = 118 ∷ 97 ∷ 114 ∷ 105 ∷ 97 ∷ 98 ∷ 108 ∷ 101 ∷ []

-- label
abbrev pub LABEL : List ℕ
LABEL = 108 ∷ 97 ∷ 98 ∷ 101 ∷ 108 ∷ []

-- position
abbrev pub POSITION : List ℕ
POSITION = 112 ∷ 111 ∷ 115 ∷ 105 ∷ 116 ∷ 105 ∷ 111 ∷ 110 ∷ []

-- filter
abbrev pub FILTER : List ℕ
FILTER = 102 ∷ 105 ∷ 108 ∷ 116 ∷ 101 ∷ 114 ∷ []

-- spread
abbrev pub SPREAD : List ℕ
SPREAD = 115 ∷ 112 ∷ 114 ∷ 101 ∷ 97 ∷ 100 ∷ []

-- size
abbrev pub SIZE : List ℕ
SIZE = 115 ∷ 105 ∷ 122 ∷ 101 ∷ []

-- values
abbrev pub VALUES : List ℕ
VALUES = 118 ∷ 97 ∷ 108 ∷ 117 ∷ 101 ∷ 115 ∷ []

-- range
abbrev pub RANGE : List ℕ
RANGE = 114 ∷ 97 ∷ 110 ∷ 103 ∷ 101 ∷ []

-- value
abbrev pub VALUE : List ℕ
VALUE = 118 ∷ 97 ∷ 108 ∷ 117 ∷ 101 ∷ []

-- options
abbrev pub OPTIONS : List ℕ
OPTIONS = 111 ∷ 112 ∷ 116 ∷ 105 ∷ 111 ∷ 110 ∷ 115 ∷ []

-- languages
abbrev pub LANGUAGES : List ℕ
LANGUAGES = 108 ∷ 97 ∷ 110 ∷ 103 ∷ 117 ∷ 97 ∷ 103 ∷ 101 ∷ 115 ∷ []

-- ident
abbrev pub IDENT : List ℕ
IDENT = 105 ∷ 100 ∷ 101 ∷ 110 ∷ 116 ∷ []

-- href
abbrev pub HREF : List ℕ
HREF = 104 ∷ 114 ∷ 101 ∷ 102 ∷ []

-- type
abbrev pub TYPE : List ℕ
TYPE = 116 ∷ 121 ∷ 112 ∷ 101 ∷ []

-- use
abbrev pub USE : List ℕ
USE = 117 ∷ 115 ∷ 101 ∷ []

-- start
abbrev pub START : List ℕ
START = 115 ∷ 116 ∷ 97 ∷ 114 ∷ 116 ∷ []

-- finish
abbrev pub FINISH : List ℕ
FINISH = 102 ∷ 105 ∷ 110 ∷ 105 ∷ 115 ∷ 104 ∷ []

-- subfields
abbrev pub SUBFIELDS : List ℕ
SUBFIELDS = 115 ∷ 117 ∷ 98 ∷ 102 ∷ 105 ∷ 101 ∷ 108 ∷ 100 ∷ 115 ∷ []

-- width
abbrev pub WIDTH : List ℕ
WIDTH = 119 ∷ 105 ∷ 100 ∷ 116 ∷ 104 ∷ []

-- from
abbrev pub FROM : List ℕ
FROM = 102 ∷ 114 ∷ 111 ∷ 109 ∷ []

-- to
abbrev pub TO : List ℕ
TO = 116 ∷ 111 ∷ []

-- code
abbrev pub CODE : List ℕ
CODE = 99 ∷ 111 ∷ 100 ∷ 101 ∷ []

-- 1.1
abbrev pub ONE-ONE : List ℕ
ONE-ONE = 49 ∷ 46 ∷ 49 ∷ []

-- 1.2
abbrev pub ONE-TWO : List ℕ
ONE-TWO = 49 ∷ 46 ∷ 50 ∷ []
