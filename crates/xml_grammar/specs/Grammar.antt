-- THE GRAMMAR OF DOCUMENT 000, a line an element, as its DTD and "Definition File Elements and Attributes" have it: the word of its tag,
-- its attributes, what it holds, in this order. No limit and no test of numbers is here, and nothing mentions a reader. What is `later` or
-- `newly` is not in version 1.1 ("Changes from triple-s XML 1.1 to triple-s XML 1.2"). Inside texts stand br and text: crate `contents`.
use Rattle.std.specs.Prelude.{List, [], ◌∷◌, ℕ}
use Rattle.forms.specs.rule.Form as form
use Rattle.reading.specs.rule.Variable.{Sort, Single, Multiple, Quantity, Character, Logical}
use Rattle.xml_reading.specs.rule.Word.{SSS, VERSION, OPTIONS, LANGUAGES, DATE, TIME, ORIGIN, USER, SURVEY, NAME, TITLE, RECORD, IDENT}
use Rattle.xml_reading.specs.rule.Word.{HREF, VARIABLE, TYPE, USE, LABEL, POSITION, START, FINISH, FILTER, SPREAD, SUBFIELDS, WIDTH}
use Rattle.xml_reading.specs.rule.Word.{VALUES, RANGE, FROM, TO, VALUE, CODE, SIZE}

-- the elements; name stands twice in the DTD, for the survey and for a variable
pub data Element : Type 0 where
  Sss Date Time Origin User : Element
  Survey SurveyName SurveyVersion Title Record : Element
  Variable Name Label Position Filter Spread Size : Element
  Values Range Value : Element

-- what the value of an attribute is made of: whatever; digits; digits, points, + and -; one letter; a word of a list
pub data Form : Type 0 where
  anything digits signed letter type usage option : Form

-- "The variable type must be one of", "The use_type .. must be one of", "The only value that option_setting may have"
abbrev pub words_of : Form → List (List ℕ)
words_of anything = []
words_of digits = []
words_of signed = []
words_of letter = []
words_of type = form.single ∷ form.multiple ∷ form.quantity ∷ form.character ∷ form.logical ∷ []
words_of usage = form.serial ∷ form.weight ∷ []
words_of option = form.standardnames ∷ []

-- #REQUIRED; #IMPLIED; #IMPLIED since version 1.2
pub data Attribute : Type 0 where
  required : List ℕ → Form → Attribute
  implied : List ℕ → Form → Attribute
  later : List ℕ → Form → Attribute

-- x; x?; x? since version 1.2; (x | y); x*
pub data Part : Type 0 where
  once : Element → Part
  perhaps : Element → Part
  newly : Element → Part
  either : Element → Element → Part
  any : Element → Part

-- EMPTY; (#PCDATA); (#PCDATA), digits alone; %texts; parts in this order; parts, and behind them those that the variable's type asks for
pub data Holds : Type 0 where
  nothing plain number texts : Holds
  parts : List Part → Holds
  typed : List Part → Holds

-- attributes that are required stand first
pub record Rule : Type 0 where
  pub word : List ℕ
  pub attributes : List Attribute
  pub holds : Holds

abbrev pub rule : List ℕ → List Attribute → Holds → Rule
rule w a h = record { word = w; attributes = a; holds = h }

-- ---- the table
abbrev pub rule_of : Element → Rule
-- <!ELEMENT sss (date?, time?, origin?, user?, survey)>
rule_of Sss =
    rule SSS (required VERSION anything ∷ implied OPTIONS option ∷ later LANGUAGES anything ∷ [])
    (parts (perhaps Date ∷ perhaps Time ∷ perhaps Origin ∷ perhaps User ∷ once Survey ∷ []))
rule_of Date = rule DATE [] plain
rule_of Time = rule TIME [] plain
rule_of Origin = rule ORIGIN [] plain
rule_of User = rule USER [] plain
-- <!ELEMENT survey (name?, version?, title?, record)>
rule_of Survey = rule SURVEY [] (parts (newly SurveyName ∷ newly SurveyVersion ∷ perhaps Title ∷ once Record ∷ []))
rule_of SurveyName = rule NAME [] plain
rule_of SurveyVersion = rule VERSION [] plain
rule_of Title = rule TITLE [] texts
-- <!ELEMENT record (variable+)>
rule_of Record = rule RECORD (required IDENT letter ∷ later HREF anything ∷ []) (parts (once Variable ∷ any Variable ∷ []))
-- <!ELEMENT variable (name, label, position, filter?, ((spread?, values) | size)?)>
rule_of Variable =
    rule VARIABLE (required IDENT digits ∷ required TYPE type ∷ later USE usage ∷ [])
    (typed (once Name ∷ once Label ∷ once Position ∷ newly Filter ∷ []))
rule_of Name = rule NAME [] plain
rule_of Label = rule LABEL [] texts
rule_of Position = rule POSITION (required START digits ∷ implied FINISH digits ∷ []) nothing
rule_of Filter = rule FILTER [] plain
rule_of Spread = rule SPREAD (required SUBFIELDS digits ∷ implied WIDTH digits ∷ []) nothing
rule_of Size = rule SIZE [] number
-- <!ELEMENT values (value+ | (range, value*))>
rule_of Values = rule VALUES [] (parts (either Range Value ∷ any Value ∷ []))
rule_of Range = rule RANGE (required FROM signed ∷ required TO signed ∷ []) nothing
rule_of Value = rule VALUE (required CODE signed ∷ []) texts

-- "The elements that can follow the <position> or <filter> element vary according to the variable type"
abbrev pub typed_of : Sort → List Part
typed_of Single = once Values ∷ []
typed_of Multiple = perhaps Spread ∷ once Values ∷ []
typed_of Quantity = once Values ∷ []
typed_of Character = once Size ∷ []
typed_of Logical = []
