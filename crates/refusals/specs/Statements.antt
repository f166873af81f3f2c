-- Of statements: what they hand on stands, and what they refuse is met (specs/Tokens).
use Rattle.std.specs.Prelude.{List, eqb, ltb, length, Ok, Err}
use Prim.Native.Nat.{ℕ, suc, ◌≤◌, ◌%◌}
use Rattle.std.proofs.Common.{arith}
use Rattle.scan.specs.rule.Text.{text, place_of}
use Rattle.scan.specs.rule.Number.{is_value, run_of}
use Rattle.scan.specs.rule.Word.{word_at}
use Rattle.scan.specs.declared.Word.{Word}
use Rattle.scan.specs.declared.Word.TheVariants.{Matched, Not}
use Rattle.tokens.specs.declared.Choice.{Choice}
use Rattle.tokens.specs.declared.Choice.TheVariants.{Taken, Left}
use Rattle.tokens.specs.declared.Figures.{Figures}
use Rattle.tokens.specs.Gap.{then, gap_on, spaces_on, left}
use Rattle.tokens.specs.Token.{word_here, choice_of, number_on, past_number, string_on, past_string}
use Rattle.statements.specs.declared.Typed.{Typed}
use Rattle.statements.specs.declared.Typed.TheVariants as typed
use Rattle.statements.specs.rule.Words.{SSS, VERSION, ONE-ONE, RECORD, NOTE, TYPE, SINGLE, MULTIPLE, QUANTITY, CHARACTER, LOGICAL}
use Rattle.statements.specs.rule.Words.{POSITION, TO, OF, SIZE}
use Rattle.statements.specs.Note.{past_note, note_step, notes_here, notes_on, statement_on, text_on}
use Rattle.statements.specs.Opening.{whole, version_here, opening_of, record_on}
use Rattle.statements.specs.Kinds.{or, last, type_here, type_on}
use Rattle.statements.specs.Position.{true_of, below_of, judge_position, both_of, position_rest, position_on}
use Rattle.statements.specs.Spread.{judge_of, judge_even, fields_of, even_of, rest, spread_rest}
use Rattle.statements.specs.Size.{judge_size, size_on}
use Rattle.refusals.specs.Loops.{Onward, loop_keeps}
use Rattle.refusals.specs.Scanned.{either, text_within, place_within}
use Rattle.refusals.specs.Tokens.{Met, Stands, gap_on_lem, run_on, spaces_on_lem, word_here_lem, ChoiceStands, choice_of_lem}
use Rattle.refusals.specs.Tokens.{NumberStands, number_on_lem, past_number_lem, PhraseStands, string_on_lem, past_string_lem, letter_on_lem}
use Rattle.tokens.specs.rule.Gap.{OrFault}
use Rattle.statements.specs.declared.Position.{Position}
use Rattle.statements.specs.declared.Subfields.{Subfields}

module _ (d : List ℕ) where
  -- ---- notes, words and texts
  past_note_lem : (m : ℕ) → m ≤ length d → Stands d (past_note d m)
  unfolding past_note
  past_note_lem m h =
      let q = string_on d (Ok m) in
      gap_on_lem d (past_string q) (past_string_lem d q (string_on_lem d (Ok m) h))

  note_step_lem : (c : Choice) (t : OrFault ℕ) → ChoiceStands d c → Stands d t → Onward (Stands d) (Stands d) (note_step d c t)
  note_step_lem (Taken m) t k h = past_note_lem m k
  note_step_lem Left t k h = h

  notes_here_lem : (t : OrFault ℕ) → Stands d t → Stands d (notes_here d t)
  unfolding notes_here
  notes_here_lem t h =
      loop_keeps (λ f. Stands d) (Stands d) (λ t. note_step d (choice_of d t NOTE) t) (Ok 0) (λ s p. omega arith)
      (λ f t p. note_step_lem (choice_of d t NOTE) t (choice_of_lem d t NOTE p) p) (suc (left d t)) t h

  pub notes_on_lem : (t : OrFault ℕ) → Stands d t → Stands d (notes_on d t)
  unfolding notes_on
  notes_on_lem t h = notes_here_lem (gap_on d t) (gap_on_lem d t h)

  pub statement_on_lem : (t : OrFault ℕ) (w : List ℕ) → Stands d t → Stands d (statement_on d t w)
  unfolding statement_on
  statement_on_lem t w h = word_here_lem d (notes_on d t) w (notes_on_lem t h)

  pub text_on_lem : (t : OrFault ℕ) (w : List ℕ) → Stands d t → PhraseStands d (text_on d t w)
  unfolding text_on
  text_on_lem t w h = string_on_lem d (statement_on d t w) (statement_on_lem t w h)

  -- ---- SSS VERSION 1.1, and RECORD
  version_here_lem : (n : ℕ) → n ≤ length d → Stands d (version_here d n)
  unfolding version_here
  version_here_lem n h = either (Stands d) (eqb end n) (omega arith) (by (word_at d n ONE-ONE)) where
    end : ℕ
    end = run_of is_value n (text d n)

    by : (r : Word) → Stands d (whole n end r)
    by (Matched m) = either (Stands d) (eqb m end) (run_on d is_value n h) (omega arith)
    by Not = omega arith

  pub opening_of_lem : Stands d (opening_of d)
  unfolding opening_of
  opening_of_lem =
      let sss = word_here d (Ok (place_of (text d 0))) SSS in
      let version = word_here d (spaces_on d sss) VERSION in
      let a = word_here_lem d (Ok (place_of (text d 0))) SSS (place_within (length d) (text d 0) (text_within d 0 (omega arith))) in
      let b = word_here_lem d (spaces_on d sss) VERSION (spaces_on_lem d sss a) in
      by (spaces_on d version) (spaces_on_lem d version b)
    where
      by : (t : OrFault ℕ) → Stands d t → Stands d (then t (version_here d))
      by (Ok n) h = version_here_lem n h
      by (Err f) h = h

  pub record_on_lem : (t : OrFault ℕ) → Stands d t → Stands d (record_on d t)
  unfolding record_on
  record_on_lem t h = letter_on_lem d (statement_on d t RECORD) (statement_on_lem t RECORD h)

  -- ---- TYPE
  abbrev pub TypedStands : Typed → Type 0
  TypedStands (typed.Is k n) = n ≤ length d
  TypedStands (typed.Not f) = Met d f

  type_or : (c : Choice) (k : ℕ) (z : Typed) → ChoiceStands d c → TypedStands z → TypedStands (or c k z)
  type_or (Taken m) k z h i = h
  type_or Left k z h i = i

  type_last : (t : OrFault ℕ) (k : ℕ) → Stands d t → TypedStands (last t k)
  type_last (Ok m) k h = h
  type_last (Err f) k h = h

  type_here_lem : (t : OrFault ℕ) → Stands d t → TypedStands (type_here d t)
  unfolding type_here
  type_here_lem t h =
      type_or (choice_of d t SINGLE) 1 _ (choice_of_lem d t SINGLE h)
      (type_or (choice_of d t MULTIPLE) 2 _ (choice_of_lem d t MULTIPLE h)
      (type_or (choice_of d t QUANTITY) 3 _ (choice_of_lem d t QUANTITY h)
      (type_or (choice_of d t CHARACTER) 4 _ (choice_of_lem d t CHARACTER h)
      (type_last (word_here d t LOGICAL) 5 (word_here_lem d t LOGICAL h)))))

  pub type_on_lem : (t : OrFault ℕ) → Stands d t → TypedStands (type_on d t)
  unfolding type_on
  type_on_lem t h = type_here_lem (gap_on d (statement_on d t TYPE)) (gap_on_lem d (statement_on d t TYPE) (statement_on_lem t TYPE h))

  -- ---- POSITION
  abbrev pub StatedStands : OrFault Position → Type 0
  StatedStands (Ok q) = (q.place ≤ length d) × (q.next ≤ length d)
  StatedStands (Err f) = Met d f

  judge_position_lem : (a b : Figures) (n : ℕ) → a.place ≤ length d → b.place ≤ length d → n ≤ length d
      → StatedStands (judge_position (below_of d b a) a b n)
  unfolding judge_position
  judge_position_lem a b n h k l =
      either StatedStands (eqb a.size 0) (omega arith)
      (either StatedStands (ltb (true_of d b) (true_of d a)) (omega arith)
      (either StatedStands (ltb 16384 a.size) (omega arith)
      (either StatedStands (ltb 16384 b.size) (omega arith) (h, l))))

  both_of_lem : (a b : OrFault Figures) (end : OrFault ℕ) → NumberStands d a → NumberStands d b → Stands d end
      → StatedStands (both_of d a b end)
  unfolding both_of
  both_of_lem (Err f) b end h k l = h
  both_of_lem (Ok x) (Err f) end h k l = k
  both_of_lem (Ok x) (Ok y) (Err f) h k l = l
  both_of_lem (Ok x) (Ok y) (Ok n) h k l = judge_position_lem x y n h.0 k.0 l

  pub position_on_lem : (t : OrFault ℕ) → Stands d t → StatedStands (position_on d t)
  unfolding position_on
  position_on_lem t h = by (choice_of d g TO) (choice_of_lem d g TO after) where
    a : OrFault Figures
    a = number_on d (statement_on d t POSITION)

    g : OrFault ℕ
    g = gap_on d (past_number a)

    first : NumberStands d a
    first = number_on_lem d (statement_on d t POSITION) (statement_on_lem t POSITION h)

    after : Stands d g
    after = gap_on_lem d (past_number a) (past_number_lem d a first)

    by : (c : Choice) → ChoiceStands d c → StatedStands (position_rest d a g c)
    by (Taken m) k =
        let b = number_on d (Ok m) in
        let second = number_on_lem d (Ok m) k in
        both_of_lem a b (past_number b) first second (past_number_lem d b second)
    by Left k = both_of_lem a a g first first after

  -- ---- SPREAD
  abbrev pub SpreadStands : OrFault Subfields → Type 0
  SpreadStands (Ok s) = s.next ≤ length d
  SpreadStands (Err f) = Met d f

  fields_of_lem : (a b : OrFault Figures) → NumberStands d a → NumberStands d b → SpreadStands (fields_of a b)
  unfolding fields_of judge_of
  fields_of_lem (Err f) b h k = h
  fields_of_lem (Ok x) (Err f) h k = k
  fields_of_lem (Ok x) (Ok y) h k =
      either SpreadStands (eqb x.size 0) (omega arith) (either SpreadStands (eqb y.size 0) (omega arith) k.1)

  even_of_lem : (a : OrFault Figures) (width : ℕ) (end : OrFault ℕ) → NumberStands d a → Stands d end → SpreadStands (even_of a width end)
  unfolding even_of judge_even
  even_of_lem (Err f) width end h k = h
  even_of_lem (Ok x) width (Err f) h k = k
  even_of_lem (Ok x) width (Ok n) h k =
      either SpreadStands (eqb x.size 0) (omega arith) (either SpreadStands (eqb (width % x.size) 0) k (omega arith))

  pub spread_rest_lem : (t : OrFault ℕ) (width : ℕ) → Stands d t → SpreadStands (spread_rest d t width)
  unfolding spread_rest
  spread_rest_lem t width h = by (choice_of d g OF) (choice_of_lem d g OF after) where
    a : OrFault Figures
    a = number_on d t

    g : OrFault ℕ
    g = gap_on d (past_number a)

    first : NumberStands d a
    first = number_on_lem d t h

    after : Stands d g
    after = gap_on_lem d (past_number a) (past_number_lem d a first)

    by : (c : Choice) → ChoiceStands d c → SpreadStands (rest d a width g c)
    by (Taken m) k = fields_of_lem a (number_on d (Ok m)) first (number_on_lem d (Ok m) k)
    by Left k = even_of_lem a width g first after

  -- ---- SIZE
  judge_size_lem : (a : OrFault Figures) → NumberStands d a → NumberStands d (judge_size a)
  unfolding judge_size
  judge_size_lem (Ok x) h =
      either (NumberStands d) (eqb x.size 0) (omega arith) (either (NumberStands d) (ltb 4096 x.size) (omega arith) h)
  judge_size_lem (Err f) h = h

  pub size_on_lem : (t : OrFault ℕ) → Stands d t → NumberStands d (size_on d t)
  unfolding size_on
  size_on_lem t h = judge_size_lem (number_on d (statement_on d t SIZE))
      (number_on_lem d (statement_on d t SIZE) (statement_on_lem t SIZE h))
