-- The elements that hold no others: each is read as its line of the table says.
use Rattle.std.specs.Prelude.{◌≡◌, Bool, ℕ, suc, ◌+◌, ◌-◌, take, drop}
use Rattle.std.proofs.Math.Path.{refl}
use Rattle.std.proofs.Common.{◌∙◌}
use mathlib.Core.List.{List, [], ◌∷◌, ◌++◌}
use Rattle.std.proofs.Math.Option.{some}
use Rattle.spans.specs.rule.Heard.{heard}
use Rattle.forms.specs.rule.Form.{fits_of}
use Rattle.tags.specs.declared.Held.{Held}
use Rattle.tags.specs.declared.Tag.{Tag}
use Rattle.tags.specs.rule.Tag.{tag_of}
use Rattle.pairs.specs.rule.Stand.{bare_of}
use Rattle.tokens.specs.rule.Gap.{fault}
use Rattle.survey.specs.rule.Survey.{Figure, KeptText}
use Rattle.reading.specs.rule.Result.{Reader, ◌>>=◌, ◌>>◌, give, bind}
use Rattle.reading.specs.rule.Least.{judged}
use Rattle.reading.specs.rule.Statement.{size_charges}
use Rattle.reading.specs.rule.Values.{with_line, unlisted}
use Rattle.reading.specs.rule.Variable.{room}
use Rattle.xml_reading.specs.rule.Word.{DATE, TIME, ORIGIN, USER, NAME, VERSION, TITLE, LABEL, FILTER, POSITION, SPREAD, SIZE, RANGE, VALUE}
use Rattle.xml_reading.specs.rule.Word.{START, FINISH, SUBFIELDS, WIDTH, FROM, TO, CODE}
use Rattle.xml_reading.specs.rule.Open.{unknown_at, on_tag, nothing}
use Rattle.xml_reading.specs.rule.Element.{Body, body, text, position, spread, size, size_in, figure_of}
use Rattle.xml_reading.specs.rule.Block.{rich, range, line}
use Rattle.xml_reading.specs.rule.Role.{naming, filter}
use Rattle.xml_grammar.specs.Grammar.{Date, Time, Origin, User, SurveyName, SurveyVersion, Title, Name, Label, Position, Filter}
use Rattle.xml_grammar.specs.Grammar.{Spread}
use Rattle.xml_grammar.specs.Grammar.{Size, Range, Value}
use Rattle.xml_grammar.specs.Reader.{counting, element}
use Rattle.xml_grammar.specs.Meaning.{State, with_name, with_label, with_place, with_filter, with_spread, with_block, with_size}
use Rattle.xml_grammar.specs.Meaning.{is_quantity}
use Rattle.xml_grammar.specs.Meaning.{lines_before, named, filtered, meanings}
use Rattle.xml_grammar.specs.Behind.{map_behind, judged_as, judged_map, fit_behind, on_tag_lem}

module _ (bad : Bool) (d : List ℕ) where
  -- `<position start [finish]/>`
  pub position_is : (f : ℕ) (s : State) (p e : ℕ)
      → element bad d (meanings d) (suc f) Position s p e ≡ bind (position bad d p e) λ x. give (with_place s x)
  unfolding element position
  position_is f s p e =
      on_tag_lem bad d (tag_of bad d p e START FINISH [] 1 1 0 1) _ _ _ λ h empty q n.
      map_behind (nothing bad d POSITION empty n) _ _ _ λ l m. judged_as _ _ _ m _ _ refl

  -- `<spread subfields [width]/>`
  pub spread_is : (f : ℕ) (s : State) (p e : ℕ)
      → element bad d (meanings d) (suc f) Spread s p e ≡ bind (spread bad d (room s.place) p e) λ x. give (with_spread s x)
  unfolding element spread
  spread_is f s p e =
      on_tag_lem bad d (tag_of bad d p e SUBFIELDS WIDTH [] 1 1 0 1) _ _ _ λ h empty q n.
      map_behind (nothing bad d SPREAD empty n) _ _ _ λ l m. judged_as _ _ _ m _ _ refl

  -- `<range from to/>`
  pub range_is : (f : ℕ) (s : State) (p e : ℕ) → element bad d (meanings d) (suc f) Range s p e
      ≡ bind (range bad d (is_quantity s.sort) p e) λ r. give (with_block s (unlisted (some r)))
  unfolding element range
  range_is f s p e =
      on_tag_lem bad d (tag_of bad d p e FROM TO [] 2 2 0 2) _ _ _ λ h empty q n.
      map_behind (nothing bad d RANGE empty n) _ _ _ λ l m. judged_as _ _ _ m _ _ refl

  -- `<value code>text</value>`
  pub value_is : (f : ℕ) (s : State) (p e : ℕ) → element bad d (meanings d) (suc f) Value s p e
      ≡ bind (line bad d s.manner.languages (is_quantity s.sort) (lines_before s) s.block p e)
      λ l. give (with_block s (with_line s.block l))
  unfolding element line
  value_is f s p e =
      on_tag_lem bad d (tag_of bad d p e CODE [] [] 2 0 0 1) _ _ _ λ h empty q n.
      map_behind (body bad d VALUE (rich s.manner.languages) empty n) _ _ _ λ b m. judged_as _ _ _ m _ _ refl

  -- `<size>n</size>`
  abbrev size_of : Body → Figure
  size_of b = figure_of d b.text.place (b.text.place + b.text.length)

  size_in_lem : (s : State) (h : Held) (b : Body) (m : ℕ)
      → counting bad d (meanings d) Size s h b m ≡ bind (size_in bad d h.unknown b m) λ x. give (with_size s x)
  unfolding size_in
  size_in_lem s h b m =
      let v = b.text.place in
      let e = v + b.text.length in
      fit_behind b.whole (fits_of 1 (heard (take (e - v) (drop v d)) 0)) (size_charges (size_of b) ++ unknown_at h.unknown ∷ b.charges)
      (unknown_at h.unknown ∷ b.charges) (size_of b) (fault 2 v) m λ x. give (with_size s x)

  pub size_is : (f : ℕ) (s : State) (p e : ℕ)
      → element bad d (meanings d) (suc f) Size s p e ≡ bind (size bad d p e) λ x. give (with_size s x)
  unfolding element size
  size_is f s p e =
      on_tag_lem bad d (bare_of bad d p e) _ _ _ λ h empty q n. map_behind (body bad d SIZE 0 empty n) _ _ _ λ b m. size_in_lem s h b m

  -- ---- elements that are only a text
  text_is : (t : Tag) (w : List ℕ) (m : ℕ) (g : KeptText → Reader State)
      → on_tag bad d t (λ h empty q. body bad d w m empty >>= λ b. judged (unknown_at h.unknown ∷ b.charges) (tt {0}) >> g b.text)
      ≡ bind (on_tag bad d t λ h empty q. body bad d w m empty >>= λ b. judged (unknown_at h.unknown ∷ b.charges) b.text) g
  text_is t w m g =
      on_tag_lem bad d t _ _ _ λ h empty q n. map_behind (body bad d w m empty n) _ _ _ λ b m. judged_as _ _ _ m _ _ refl

  pub date_is : (f : ℕ) (s : State) (p e : ℕ) → element bad d (meanings d) (suc f) Date s p e ≡ bind (text bad d DATE 0 p e) λ t. give s
  unfolding element text
  date_is f s p e = text_is (bare_of bad d p e) DATE 0 λ t. give s

  pub time_is : (f : ℕ) (s : State) (p e : ℕ) → element bad d (meanings d) (suc f) Time s p e ≡ bind (text bad d TIME 0 p e) λ t. give s
  unfolding element text
  time_is f s p e = text_is (bare_of bad d p e) TIME 0 λ t. give s

  pub origin_is : (f : ℕ) (s : State) (p e : ℕ)
      → element bad d (meanings d) (suc f) Origin s p e ≡ bind (text bad d ORIGIN 0 p e) λ t. give s
  unfolding element text
  origin_is f s p e = text_is (bare_of bad d p e) ORIGIN 0 λ t. give s

  pub user_is : (f : ℕ) (s : State) (p e : ℕ) → element bad d (meanings d) (suc f) User s p e ≡ bind (text bad d USER 0 p e) λ t. give s
  unfolding element text
  user_is f s p e = text_is (bare_of bad d p e) USER 0 λ t. give s

  pub survey_name_is : (f : ℕ) (s : State) (p e : ℕ)
      → element bad d (meanings d) (suc f) SurveyName s p e ≡ bind (text bad d NAME 0 p e) λ t. give s
  unfolding element text
  survey_name_is f s p e = text_is (bare_of bad d p e) NAME 0 λ t. give s

  pub survey_version_is : (f : ℕ) (s : State) (p e : ℕ)
      → element bad d (meanings d) (suc f) SurveyVersion s p e ≡ bind (text bad d VERSION 0 p e) λ t. give s
  unfolding element text
  survey_version_is f s p e = text_is (bare_of bad d p e) VERSION 0 λ t. give s

  pub title_is : (f : ℕ) (s : State) (p e : ℕ)
      → element bad d (meanings d) (suc f) Title s p e ≡ bind (text bad d TITLE (rich s.manner.languages) p e) λ t. give s
  unfolding element text
  title_is f s p e = text_is (bare_of bad d p e) TITLE (rich s.manner.languages) λ t. give s

  pub label_is : (f : ℕ) (s : State) (p e : ℕ) → element bad d (meanings d) (suc f) Label s p e
      ≡ bind (text bad d LABEL (rich s.manner.languages) p e) λ t. give (with_label s t)
  unfolding element text
  label_is f s p e = text_is (bare_of bad d p e) LABEL (rich s.manner.languages) λ t. give (with_label s t)

  -- a variable's name, and its filter
  name_text : (f : ℕ) (s : State) (p e : ℕ) → element bad d (meanings d) (suc f) Name s p e ≡ bind (text bad d NAME 0 p e) (named d s)
  unfolding element text
  name_text f s p e = text_is (bare_of bad d p e) NAME 0 (named d s)

  pub name_is : (f : ℕ) (s : State) (p e : ℕ) → element bad d (meanings d) (suc f) Name s p e
      ≡ bind (naming bad d s.manner.latin s.manner.standard s.entries p e) λ t. give (with_name s t)
  unfolding naming
  name_is f s p e =
      name_text f s p e
      ∙ map_behind (text bad d NAME 0 p e) _ (named d s) (λ t. give (with_name s t)) λ t n. judged_map _ t (with_name s) n

  filter_text : (f : ℕ) (s : State) (p e : ℕ)
      → element bad d (meanings d) (suc f) Filter s p e ≡ bind (text bad d FILTER 0 p e) (filtered d s)
  unfolding element text
  filter_text f s p e = text_is (bare_of bad d p e) FILTER 0 (filtered d s)

  pub filter_is : (f : ℕ) (s : State) (p e : ℕ) → element bad d (meanings d) (suc f) Filter s p e
      ≡ bind (filter bad d s.manner.latin s.manner.standard s.entries s.name s.usage p e) λ x. give (with_filter s x)
  unfolding filter
  filter_is f s p e =
      filter_text f s p e
      ∙ map_behind (text bad d FILTER 0 p e) _ (filtered d s) (λ x. give (with_filter s x)) λ t n. judged_map _ _ (with_filter s) n
