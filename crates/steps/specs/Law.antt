-- Where the grammar derives a thing, the step past it stands where the derivation does, and its stretch is the thing's own.
use Rattle.std.specs.Prelude.{◌≡◌, Bool, true, false, List, [], ◌∷◌, ℕ, ◌+◌, ◌-◌, ◌≤◌, ◌<◌}
use Rattle.std.proofs.Math.Path.{refl}
use Rattle.std.proofs.Common.{sym, ap, ◌∙◌, arith}
use Rattle.scan.specs.rule.Text.{text}
use Rattle.scan.specs.rule.Number.{run_of, is_value}
use Rattle.scan.specs.rule.Word.{word_at}
use Rattle.scan.specs.Word.{capitals}
use Rattle.scan.specs.Number.{capped}
use Rattle.statements.specs.rule.Words.{NOTE}
use Rattle.survey.specs.rule.Survey.{Figure, Amount, KeptText}
use Rattle.reading.specs.rule.Result.{Result, Is}
use Rattle.reading.specs.rule.Token.{amount_read}
use Rattle.bridge.specs.Tokens.{number_on_lem, string_on_lem}
use Rattle.bridge.specs.Notes.{notes_on_lem}
use Rattle.grammar.specs.Token.{Gap, Here, NoWord, Keyword, keyword, Number, Value, String, Notes, Statement, Phrase, End, Optional}
use Rattle.grammar.specs.Token.{Whether, yes, no}
use Rattle.grammar.specs.Token as token
use Rattle.grammar.specs.Refusal.{Noted, noted}
use Rattle.grammar_laws.specs.Views.{word_at_lem, word_not}
use Rattle.grammar_laws.specs.Places.{gap_there, differ, other_word}
use Rattle.grammar_laws.specs.Tokens.{run_there, number_is, string_is}
use Rattle.grammar_laws.specs.Notes.{note_capitals, notes_is}
use Rattle.steps.specs.declared.Span.{Span}
use Rattle.steps.specs.declared.Found.{Found}
use Rattle.steps.specs.Step.{span, place_in, gap_past, notes_past, found_in, word_past, statement_past, keyword_past, word_found}
use Rattle.steps.specs.Step.{statement_found}
use Rattle.steps.specs.Step.{number_in, number_span, phrase_in, string_span, value_span}

abbrev pub found : Bool → ℕ → Found
found q m = record { there = q; next = m }

module _ (d : List ℕ) where
  pub gap_past_lem : {n m : ℕ} → Gap d n m → gap_past d n ≡ m
  unfolding gap_past place_in
  gap_past_lem g = rw (gap_there d g)

  pub notes_past_lem : {n m : ℕ} → Notes d n m → NoWord d NOTE m → notes_past d n ≡ m
  unfolding notes_past place_in
  notes_past_lem {n} s o = rw (notes_on_lem d (Is n n), notes_is d (noted s o))

  -- ---- words
  module _ {w : List ℕ} (c : capitals w ≡ true) where
    pub word_past_lem : {n m : ℕ} → Here d w n m → word_past d n w ≡ m
    unfolding word_past found_in
    word_past_lem h = rw (word_past, word_at_lem d c h)

    pub keyword_past_lem : {n m : ℕ} → Keyword d w n m → keyword_past d n w ≡ m
    unfolding keyword_past
    keyword_past_lem (keyword g h) = rw (gap_past_lem g) (word_past_lem h)

    pub whether_past : {n m : ℕ} {q : Bool} → Whether d w n q m → word_found d n w ≡ found q m
    unfolding word_found found_in
    whether_past (yes (keyword g h)) = rw (gap_past_lem g, word_at_lem d c h)
    whether_past (no g h) = rw (gap_past_lem g, word_not d c h)

    -- an optional word that stands, and one that does not
    pub given_past : {n m : ℕ} → Keyword d w n m → word_found d n w ≡ found true m
    unfolding word_found found_in
    given_past (keyword g h) = rw (gap_past_lem g, word_at_lem d c h)

    pub absent_past : {n m : ℕ} → Gap d n m → NoWord d w m → word_found d n w ≡ found false m
    unfolding word_found found_in
    absent_past g h = rw (gap_past_lem g, word_not d c h)

    -- a statement begins with this word, or with another thing
    module _ (o : differ w NOTE ≡ true) where
      pub notes_before : {n k m : ℕ} → Notes d n k → Here d w k m → notes_past d n ≡ k
      notes_before s h = notes_past_lem s (other_word d c note_capitals o h)

      pub statement_past_lem : {n m : ℕ} → Statement d w n m → statement_past d n w ≡ m
      unfolding statement_past
      statement_past_lem (token.statement s h) = rw (notes_before s h) (word_past_lem h)

      pub statement_found_lem : {n m : ℕ} → Statement d w n m → statement_found d n w ≡ found true m
      unfolding statement_found found_in
      statement_found_lem (token.statement s h) = rw (notes_before s h, word_at_lem d c h)

    pub statement_missed : {n k : ℕ} → Notes d n k → NoWord d NOTE k → NoWord d w k → statement_found d n w ≡ found false k
    unfolding statement_found found_in
    statement_missed s o h = rw (notes_past_lem s o, word_not d c h)

  -- ---- numbers, values, strings
  pub number_past : {n m : ℕ} {x : Figure} → Number d n x m → number_span d n ≡ span x.place x.end m (capped x.value)
  unfolding number_span number_in
  number_past {n} (token.number g r) = rw (number_on_lem d (Is n n), number_is d (token.number g r))

  pub number_end : {n m : ℕ} {x : Figure} → Number d n x m → x.end ≡ m
  number_end (token.number g r) = refl

  pub value_past : {n m : ℕ} {a : Amount} → Value d n a m → value_span d n ≡ span a.place a.end m 0
  unfolding value_span amount_read
  value_past (token.value r) = rw (run_there r).0 refl

  pub string_past : {n m : ℕ} {t : KeptText} → String d n t m → string_span d n ≡ span t.place (m - 1) m 0
  unfolding string_span phrase_in
  string_past {n} (token.string g e s) = rw (string_on_lem d (Is n n), string_is d (token.string g e s))
