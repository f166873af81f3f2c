-- `<values>`: a range or a value, then values, as the table says.
use Rattle.std.specs.Prelude.{◌≡◌, refl, Bool, List, [], ◌∷◌, ℕ, suc}
use Rattle.std.proofs.Common.{◌∙◌, sym}
use Rattle.std.proofs.Math.Option.{none, some}
use Rattle.layout.specs.rule.Layout.{most_lines}
use Rattle.scan.specs.rule.Loop.{Next, Again}
use Rattle.pairs.specs.rule.Stand.{bare_of}
use Rattle.survey.specs.rule.Survey.{Block, Line}
use Rattle.survey.specs.rule.Survey as survey
use Rattle.reading.specs.rule.Result.{Result, Is, Not, Reader, ◌>>=◌, give, repeat, bind}
use Rattle.reading.specs.rule.Values.{with_line, unlisted}
use Rattle.xml_reading.specs.rule.Word.{VALUES, RANGE, VALUE}
use Rattle.xml_reading.specs.rule.Open.{Open, within_element, due, unknown_at, enter}
use Rattle.xml_reading.specs.rule.Open as stands
use Rattle.xml_reading.specs.rule.Block.{range, line, lined, on_open, another_line, first, values}
use Rattle.xml_grammar.specs.Grammar.{Element, Values, Range, Value, either, any}
use Rattle.xml_grammar.specs.Reader.{steps, round, element}
use Rattle.xml_grammar.specs.Meaning.{State, with_block, is_quantity, lines_before, meanings}
use Rattle.xml_grammar.specs.Behind.{map_behind, on_tag_lem, due_behind, either_behind}
use Rattle.xml_grammar.proofs.Leaves.{range_is, value_is}
use Rattle.xml_grammar.specs.Loops.{onward, ending, rounds_are, turn_is}

module _ (bad : Bool) (d : List ℕ) (f : ℕ) (s : State) where
  abbrev child : Element → State → ℕ → Reader State
  child = element bad d (meanings d) (suc f)

  abbrev hold : Block → State
  hold b = with_block s b

  abbrev held : Block → Reader State
  held b = give (hold b)

  abbrev quantity : Bool
  quantity = is_quantity s.sort

  abbrev line_in : Block → ℕ → Reader Line
  line_in b = line bad d s.manner.languages quantity (lines_before s) b

  abbrev line_on : Block → ℕ → Reader Block
  line_on b = lined bad d s.manner.languages quantity (lines_before s) b

  abbrev next_one : Block → Reader (Next Block Block)
  next_one = another_line bad d s.manner.languages quantity (lines_before s)

  -- ---- another value
  handed : (b : Block) (K L : Block → Reader State) (r : Result Line) → ((c : Block) (m : ℕ) → K c m ≡ L c m)
      → bind r (λ l. K (with_line b l)) ≡ bind (bind (bind r λ l. give (with_line b l)) λ c. give (Again c)) (onward L held)
  handed b K L (Is l m) e = e (with_line b l) m
  handed b K L (Not x) e = refl

  through : {A : Type 0} (r : Result A) (g : A → State) (K : State → Reader State) → bind (bind r λ a. give (g a)) K ≡ bind r λ a. K (g a)
  through (Is a m) g K = refl
  through (Not x) g K = refl

  a_round : (b : Block) (n : ℕ) (K : State → Reader State) (L : Block → Reader State) → ((c : Block) (m : ℕ) → K (hold c) m ≡ L c m)
      → bind (round bad d (meanings d) child VALUES Value (hold b) n) (onward K (ending bad d hold)) ≡ bind (next_one b n) (onward L held)
  unfolding another_line
  a_round b n K L e =
      turn_is bad d hold VALUE VALUES b (child Value (hold b)) (λ p. line_on b p >>= λ c. give (Again c)) K L
      (λ p m. rw (value_is bad d f (hold b) p m) (through (line_in b p m) (λ l. hold (with_line b l)) K
      ∙ handed b (λ c. K (hold c)) L (line_in b p m) e))
      (on_open bad d s.manner.languages quantity (lines_before s) b) (λ p m. refl) (λ p m. refl) n

  -- ---- a range, or the first value
  abbrev rest : Block → Reader Block
  rest b = repeat (suc most_lines) next_one b

  first_is : (n : ℕ)
      → (steps bad d (meanings d) child VALUES (either Range Value ∷ any Value ∷ [])).go (hold (unlisted none)) n
      ≡ bind (bind (first bad d s.manner.languages quantity (lines_before s) n) rest) held
  unfolding steps first
  first_is n = by (within_element bad d VALUES n) where
    loop : State → Reader State
    loop t n = bind (repeat (suc most_lines) (round bad d (meanings d) child VALUES Value) t n) (ending bad d hold)

    done : Block → Reader State
    done b n = bind (rest b n) held

    loops : (b : Block) (n : ℕ) → loop (hold b) n ≡ done b n
    loops b n = rounds_are bad d hold (round bad d (meanings d) child VALUES Value) next_one a_round (suc most_lines) b n

    behind : (r : Result Block) → bind (bind r rest) held ≡ bind r done
    behind (Is b m) = refl
    behind (Not x) = refl

    read : (r : Result Block) → bind (bind r held) loop ≡ bind r done
    read (Is b m) = loops b m
    read (Not x) = refl

    ranged : (p m : ℕ) → bind (child Range (hold (unlisted none)) p m) loop
        ≡ bind (bind (range bad d quantity p m) λ r. give (unlisted (some r))) done
    ranged p m = rw (range_is bad d f (hold (unlisted none)) p m) (on (range bad d quantity p m)) where
      on : (r : Result survey.Range) → bind (bind r λ r. give (hold (unlisted (some r)))) loop
          ≡ bind (bind r λ r. give (unlisted (some r))) done
      on (Is r m) = loops (unlisted (some r)) m
      on (Not x) = refl

    lined_is : (p m : ℕ) → child Value (hold (unlisted none)) p m ≡ bind (line_on (unlisted none) p m) λ b. give (hold b)
    lined_is p m = value_is bad d f (hold (unlisted none)) p m ∙ map_behind (line_in (unlisted none) p m) _ _ held λ l m. refl

    by : (r : Result Open)
        → bind r (λ o n. bind (stands.either_element bad d RANGE o (child Range (hold (unlisted none)))
        (due bad d VALUE o (child Value (hold (unlisted none)))) n) loop)
        ≡ bind (bind (bind r λ o. stands.either_element bad d RANGE o (λ p. range bad d quantity p >>= λ r. give (unlisted (some r)))
        (due bad d VALUE o (line_on (unlisted none)))) rest) held
    by (Is o m) =
        either_behind bad d RANGE o m (child Range (hold (unlisted none))) (λ p. range bad d quantity p >>= λ r. give (unlisted (some r)))
        (due bad d VALUE o (child Value (hold (unlisted none)))) (due bad d VALUE o (line_on (unlisted none))) loop done
        (λ p. ranged p m)
        (due_behind bad d VALUE o m (child Value (hold (unlisted none))) (line_on (unlisted none)) hold loop done lined_is loops)
        ∙ sym (behind (stands.either_element bad d RANGE o (λ p. range bad d quantity p >>= λ r. give (unlisted (some r)))
        (due bad d VALUE o (line_on (unlisted none))) m))
    by (Not x) = refl

  -- ---- the whole
  closing : (r : Result State) → bind r (λ s. give s) ≡ r
  closing (Is t m) = refl
  closing (Not x) = refl

  pub values_is : (p e : ℕ) → element bad d (meanings d) (suc (suc f)) Values s p e
      ≡ bind (values bad d s.manner.languages quantity (lines_before s) p e) held
  unfolding element values
  values_is p e =
      on_tag_lem bad d (bare_of bad d p e) _ _ held λ h empty q n.
      map_behind (enter bad d (unknown_at h.unknown ∷ []) empty q n) _ _ held λ u n. closing _ ∙ first_is n
