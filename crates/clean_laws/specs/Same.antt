-- THE SAME BUT FOR PLACES: a survey s of the file d and a survey s' of the file p. Numbers and texts have the same kept bytes and say the
-- same; a POSITION's TO and a spread's OF may be stated in p where d leaves them out.
use Rattle.std.specs.Prelude.{◌≡◌, List, [], ◌∷◌, ℕ, ◌/◌}
use Rattle.std.proofs.Math.Option.{Option, none, some, get_or}
use Rattle.survey.specs.rule.Survey.{Figure, Amount, Range, Line, Block, Spread, Content, single, multiple, quantity, character, logical}
use Rattle.survey.specs.rule.Survey.{Variable, Heading, Survey}
use Rattle.survey.specs.rule.Width.{room_in}
use Rattle.clean_text.specs.rule.Clean.{figure_token, amount_token, plain_digits}
use Rattle.printed.specs.Runs.{bare_amount}
use Rattle.printed.specs.Strings.{SameText}

-- two lists, member by member; two options
pub data Alike {A : Type 0} (R : A → A → Type 0) : List A → List A → Type 0 where
  nil : Alike R [] []
  more : {a b : A} {l m : List A} → R a b → Alike R l m → Alike R (a ∷ l) (b ∷ m)

pub data Both {A : Type 0} (R : A → A → Type 0) : Option A → Option A → Type 0 where
  neither : Both R none none
  either : {a b : A} → R a b → Both R (some a) (some b)

module _ (d p : List ℕ) where
  pub record SameFigure (x x' : Figure) : Type 0 where
    pub span : figure_token p x' ≡ figure_token d x
    pub digits : x'.digits ≡ x.digits
    pub value : x'.value ≡ x.value

  pub record SameAmount (a a' : Amount) : Type 0 where
    pub span : amount_token p a' ≡ amount_token d a
    pub says : bare_amount a' ≡ bare_amount a

  pub record SameLine (l l' : Line) : Type 0 where
    pub value : SameAmount l.value l'.value
    pub text : SameText d p l.text l'.text
    pub special : l'.special ≡ l.special

  pub record SameRange (r r' : Range) : Type 0 where
    pub from : SameAmount r.from r'.from
    pub to : SameAmount r.to r'.to

  pub record SameBlock (b b' : Block) : Type 0 where
    pub range : Both SameRange b.range b'.range
    pub lines : Alike SameLine b.lines b'.lines

  -- OF, where it was not given, says what each of the subfields has of the room
  pub data SameSpread (room : ℕ) : Option Spread → Option Spread → Type 0 where
    undivided : SameSpread room none none
    stated : {x w x' w' : Figure} → SameFigure x x' → SameFigure w w'
        → SameSpread room (some (record { count = x; width = some w })) (some (record { count = x'; width = some w' }))
    even : {x x' w' : Figure} → SameFigure x x' → figure_token p w' ≡ plain_digits (room / x.value) → w'.value ≡ room / x.value
        → SameSpread room (some (record { count = x; width = none })) (some (record { count = x'; width = some w' }))

  pub data SameContent (room : ℕ) : Content → Content → Type 0 where
    of_single : {b b' : Block} → SameBlock b b' → SameContent room (single b) (single b')
    of_multiple : {s s' : Option Spread} {b b' : Block} → SameSpread room s s' → SameBlock b b'
        → SameContent room (multiple s b) (multiple s' b')
    of_quantity : {b b' : Block} → SameBlock b b' → SameContent room (quantity b) (quantity b')
    of_character : {x x' : Figure} → SameFigure x x' → SameContent room (character x) (character x')
    of_logical : SameContent room logical logical

  pub record SameVariable (v v' : Variable) : Type 0 where
    pub ident : SameFigure v.ident v'.ident
    pub name : SameText d p v.name v'.name
    pub label : SameText d p v.label v'.label
    pub start : SameFigure v.start v'.start
    pub finish : SameFigure (get_or v.finish v.start) (get_or v'.finish v'.start)
    pub content : SameContent (room_in v) v.content v'.content

  pub record SameHeading (h h' : Heading) : Type 0 where
    pub date : Both (SameText d p) h.date h'.date
    pub time : Both (SameText d p) h.time h'.time
    pub origin : Both (SameText d p) h.origin h'.origin
    pub user : Both (SameText d p) h.user h'.user
    pub standard : h'.standard ≡ h.standard
    pub title : Both (SameText d p) h.title h'.title
    pub letter : h'.letter ≡ h.letter

  pub record SameSurvey (s s' : Survey) : Type 0 where
    pub heading : SameHeading s.heading s'.heading
    pub variables : Alike SameVariable s.variables s'.variables
