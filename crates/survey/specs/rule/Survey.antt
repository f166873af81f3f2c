-- WHAT A DEFINITION SAYS, as plain data: every number and text with its place in the file, every number as it was written and by its
-- true value, however long. "A variable: `VARIABLE` id, NAME, LABEL, TYPE, POSITION a [TO b], then by type. SINGLE and QUANTITY: VALUES.
-- MULTIPLE: optional `SPREAD` n [`OF` w], then VALUES. CHARACTER: SIZE. LOGICAL: nothing."
use Rattle.std.specs.Prelude.{Bool, List, ℕ}
use Rattle.std.proofs.Math.Option.{Option}

-- ---- what stands in the file
-- a number: the place of its first digit, the place after its last, how many digits were written, and what they say
pub record Figure : Type 0 where
  pub place : ℕ
  pub end : ℕ
  pub digits : ℕ
  pub value : ℕ

-- a value of VALUES, a run of digits, points, `+` and `-`: a minus or none, digits, a point or none, decimals; what all its digits say,
-- the point left out; and whether that is the whole run, with a digit in it
pub record Amount : Type 0 where
  pub place : ℕ
  pub end : ℕ
  pub minus : Bool
  pub whole : ℕ
  pub point : Bool
  pub decimals : ℕ
  pub size : ℕ
  pub formed : Bool

-- a text: "places are just after the opening quote; lengths are undecoded bytes"
pub record KeptText : Type 0 where
  pub place : ℕ
  pub length : ℕ

-- ---- VALUES: "a range `a TO b` ..; lines are a value, a string, optional SPECIAL"
pub record Range : Type 0 where
  pub from : Amount
  pub to : Amount

pub record Line : Type 0 where
  pub value : Amount
  pub text : KeptText
  pub special : Bool

pub record Block : Type 0 where
  pub range : Option Range
  pub lines : List Line

-- ---- a variable
-- SPREAD n, and OF w or none
pub record Spread : Type 0 where
  pub count : Figure
  pub width : Option Figure

pub data Content : Type 0 where
  single : Block → Content
  multiple : Option Spread → Block → Content
  quantity : Block → Content
  character : Figure → Content
  logical : Content

-- POSITION start, and TO finish or none
pub record Variable : Type 0 where
  pub ident : Figure
  pub name : KeptText
  pub label : KeptText
  pub start : Figure
  pub finish : Option Figure
  pub content : Content

-- ---- the whole: the texts of the heading, whether STANDARD NAMES was given, the record's letter, and the variables
pub record Heading : Type 0 where
  pub date : Option KeptText
  pub time : Option KeptText
  pub origin : Option KeptText
  pub user : Option KeptText
  pub standard : Bool
  pub title : Option KeptText
  pub letter : ℕ

pub record Survey : Type 0 where
  pub heading : Heading
  pub variables : List Variable
