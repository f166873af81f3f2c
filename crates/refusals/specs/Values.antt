-- Of VALUES: what they hand on stands, and what they refuse is met (specs/Tokens). The reader of lines refuses before its steps run out.
use Rattle.std.specs.Prelude.{◌≡◌, Bool, cond, ◌&&◌, List, [], ◌∷◌, ◌++◌, ℕ, suc, ◌+◌, ◌-◌, ◌≤◌, ◌<◌, ℤ, Ok, Err}
use Rattle.std.proofs.Math.Path.{refl}
use Rattle.std.proofs.Math.Bool.{true, false, not}
use native.Mathlib.Omega.{arith}
use borrow.Author.Tests.{leb-false, eqb-false}
use Rattle.std.proofs.Math.Dec.{eqb, leb}
use Rattle.std.proofs.Math.ListN.{length}
use Rattle.std.proofs.Common.{length-append}
use Rattle.std.specs.Int.Signed.{lt_z}
use Rattle.tokens.specs.declared.Choice.{Choice}
use Rattle.tokens.specs.declared.Choice.TheVariants.{Taken, Left}
use Rattle.tokens.specs.declared.Value.{Value}
use Rattle.tokens.specs.rule.Gap.{fault, OrFault}
use Rattle.tokens.specs.Gap.{gap_on}
use Rattle.tokens.specs.Token.{choice_of, word_here, word_on, value_here, value_on, past_value, string_on, past_string}
use Rattle.statements.specs.rule.Words.{VALUES, TO, END, WITH, SPECIAL}
use Rattle.statements.specs.Note.{notes_on, statement_on}
use Rattle.values.specs.declared.Block.{Block}
use Rattle.values.specs.declared.Said.{Said}
use Rattle.values.specs.declared.Ranged.{Ranged}
use Rattle.values.specs.declared.Ranged.TheVariants as ranged
use Rattle.values.specs.declared.Turn.{Turn}
use Rattle.values.specs.declared.Turn.TheVariants as turn
use Rattle.values.specs.Value.{form_of, large_of, true_of, scaled_of}
use Rattle.values.specs.Range.{limit_range, reversed_of, judge_range, settled, ranged_of, with_or, range_rest}
use Rattle.values.specs.Line.{said_of, special_or, line_rest, number_at, repeated_in, line_fault, judge_line, grown_by, end_of, end_or}
use Rattle.values.specs.Line.{more_of}
use Rattle.values.specs.Line.{Given, Is, Not, Listing, state_of, after, judged_step, read_step, line_step, lines_from}
use Rattle.values.specs.Block.{empty_block, closed_by, range_then, to_or, values_on}
use Rattle.refusals.specs.Loops.{Onward, loop_keeps}
use Rattle.refusals.specs.Scanned.{either}
use Rattle.refusals.specs.Tokens.{Met, Stands, gap_on_lem, word_here_lem, word_on_lem, ChoiceStands, choice_of_lem, ValueStands}
use Rattle.refusals.specs.Tokens.{AmountStands}
use Rattle.refusals.specs.Tokens.{value_here_lem, value_on_lem, past_value_lem, PhraseStands, string_on_lem, past_string_lem}
use Rattle.refusals.specs.Statements.{notes_on_lem, statement_on_lem}
use Rattle.tokens.specs.declared.Quoted.{Quoted}

module _ (d : List ℕ) where
  -- ---- a range
  abbrev JudgedStands : OrFault Block → Type 0
  JudgedStands (Ok b) = Unit
  JudgedStands (Err f) = Met d f

  abbrev RangedStands : Ranged → Type 0
  RangedStands (ranged.Is b with n) = n ≤ length d
  RangedStands (ranged.Not f) = Met d f

  judge_range_lem : (quantity : Bool) (a b : Value) → ValueStands d a → ValueStands d b
      → JudgedStands (judge_range (reversed_of d a b) quantity a b)
  unfolding judge_range limit_range
  judge_range_lem quantity a b h k =
      either JudgedStands (form_of quantity a) (either JudgedStands (form_of quantity b)
      (either JudgedStands (eqb a.decimals b.decimals)
      (either JudgedStands (lt_z (true_of d b) (true_of d a)) (omega arith)
      (either JudgedStands (large_of quantity a) (omega arith) (either JudgedStands (large_of quantity b) (omega arith) tt)))
      (omega arith)) (omega arith)) (omega arith)

  ranged_of_lem : (quantity : Bool) (a b : OrFault Value) (end : OrFault ℕ) (with : Bool) → AmountStands d a → AmountStands d b
      → Stands d end
      → RangedStands (ranged_of d quantity a b end with)
  unfolding ranged_of
  ranged_of_lem quantity (Err f) b end with h k l = h
  ranged_of_lem quantity (Ok x) (Err f) end with h k l = k
  ranged_of_lem quantity (Ok x) (Ok y) (Err f) with h k l = l
  ranged_of_lem quantity (Ok x) (Ok y) (Ok n) with h k l = by (judge_range (reversed_of d x y) quantity x y)
      (judge_range_lem quantity x y h k) where
        by : (j : OrFault Block) → JudgedStands j → RangedStands (settled j with n)
        by (Ok b) i = l
        by (Err f) i = i

  range_rest_lem : (quantity : Bool) (a : OrFault Value) (t : OrFault ℕ) → AmountStands d a → Stands d t
      → RangedStands (range_rest d quantity a t)
  unfolding range_rest
  range_rest_lem quantity a t h k = by (choice_of d g WITH) (choice_of_lem d g WITH behind) where
    b : OrFault Value
    b = value_on d t

    g : OrFault ℕ
    g = gap_on d (past_value b)

    second : AmountStands d b
    second = value_on_lem d t k

    behind : Stands d g
    behind = gap_on_lem d (past_value b) (past_value_lem d b second)

    by : (c : Choice) → ChoiceStands d c → RangedStands (with_or d quantity a b g c)
    by (Taken m) l = ranged_of_lem quantity a b (Ok m) true h second l
    by Left l = ranged_of_lem quantity a b g false h second behind

  -- ---- a line
  abbrev LinedStands : OrFault Said → Type 0
  LinedStands (Ok s) = ValueStands d s.value × (s.next ≤ length d)
  LinedStands (Err f) = Met d f

  said_of_lem : (a : OrFault Value) (q : OrFault Quoted) (special : ℕ) (end : OrFault ℕ) → AmountStands d a → PhraseStands d q
      → Stands d end
      → LinedStands (said_of a q special end)
  unfolding said_of
  said_of_lem (Err f) q special end h k l = h
  said_of_lem (Ok v) (Err f) special end h k l = k
  said_of_lem (Ok v) (Ok t) special (Err f) h k l = l
  said_of_lem (Ok v) (Ok t) special (Ok n) h k l = (h, l)

  line_rest_lem : (a : OrFault Value) → AmountStands d a → LinedStands (line_rest d a)
  unfolding line_rest
  line_rest_lem a h = by (choice_of d g SPECIAL) (choice_of_lem d g SPECIAL behind) where
    q : OrFault Quoted
    q = string_on d (past_value a)

    g : OrFault ℕ
    g = gap_on d (past_string q)

    quoted : PhraseStands d q
    quoted = string_on_lem d (past_value a) (past_value_lem d a h)

    behind : Stands d g
    behind = gap_on_lem d (past_string q) (past_string_lem d q quoted)

    by : (c : Choice) → ChoiceStands d c → LinedStands (special_or a q g c)
    by (Taken m) l = said_of_lem a q 1 (Ok m) h quoted l
    by Left l = said_of_lem a q 0 g h quoted behind

  -- a line is good only where fewer than 4,096 stand before it
  abbrev VerdictStands : ℕ → OrFault ℤ → Type 0
  VerdictStands n (Ok z) = n < 4096
  VerdictStands n (Err f) = Met d f

  line_fault_lem : (quantity : Bool) (b : Block) (v : Value) → (line_fault quantity b v ≡ 0 → ⊥) → ValueStands d v
      → Met d (fault (line_fault quantity b v) v.place)
  unfolding line_fault
  line_fault_lem quantity b v = by (form_of quantity v) (b.known && not (eqb v.decimals b.decimals)) (large_of quantity v) where
    by : (f k l : Bool) → (cond {A = ℕ} f (cond k 6 (cond l 8 0)) 6 ≡ 0 → ⊥) → ValueStands d v
        → Met d (fault (cond f (cond k 6 (cond l 8 0)) 6) v.place)
    by false k l z h = omega arith
    by true true l z h = omega arith
    by true false true z h = omega arith
    by true false false z h = absurd (z refl)

  judge_line_lem : (f : ℕ → ℤ) (n first : ℕ) (quantity : Bool) (b : Block) (v : Value) → ValueStands d v
      → VerdictStands (first + n) (judge_line f n first quantity b v)
  unfolding judge_line
  judge_line_lem f n first quantity b v h =
      by (eqb (line_fault quantity b v) 0) (repeated_in f n (scaled_of v)) (leb 4096 (first + n)) refl refl
    where
      by : (x r m : Bool) → eqb (line_fault quantity b v) 0 ≡ x → leb 4096 (first + n) ≡ m → VerdictStands (first + n)
          (cond x (cond r (Err (fault 6 v.place)) (cond m (Err (fault 8 v.place)) (Ok (scaled_of v))))
          (Err (fault (line_fault quantity b v) v.place)))
      by true true m e l = omega arith
      by true false true e l = omega arith
      by true false false e l = leb-false 4096 (first + n) l
      by false r m e l = line_fault_lem quantity b v (eqb-false (line_fault quantity b v) 0 e) h

  -- ---- what follows a line
  abbrev TurnStands : Turn → Type 0
  TurnStands (turn.More a b) = AmountStands d a
  TurnStands (turn.Over b n) = n ≤ length d
  TurnStands (turn.Not f) = Met d f

  end_of_lem : (b : Block) (t : OrFault ℕ) → Stands d t → TurnStands (end_of b t)
  unfolding end_of
  end_of_lem b (Ok n) h = h
  end_of_lem b (Err f) h = h

  more_of_lem : (b : Block) (n : ℕ) → n ≤ length d → TurnStands (more_of d b n)
  unfolding more_of
  more_of_lem b n h = by (choice_of d t END) (choice_of_lem d t END behind) where
    t : OrFault ℕ
    t = notes_on d (Ok n)

    behind : Stands d t
    behind = notes_on_lem d (Ok n) h

    by : (c : Choice) → ChoiceStands d c → TurnStands (end_or d b t c)
    by (Taken m) k = end_of_lem b (word_on d (Ok m) VALUES) (word_on_lem d (Ok m) VALUES k)
    by Left k = value_here_lem d t behind

  -- ---- lines one after the other
  abbrev pub GivenStands : Given → Type 0
  GivenStands (Is b l n) = n ≤ length d
  GivenStands (Not f) = Met d f

  -- with f steps left, `first` lines before the block
  record Reads (first f : ℕ) (l : Listing) : Type 0 where
    pub stands : AmountStands d l.amount
    pub some : 1 ≤ f
    pub enough : 4096 < f + (first + length l.lines)

  after_line : (first f : ℕ) (l : List Said) (s : Said) (t : Turn) → first + length l < 4096 → 4096 < suc f + (first + length l)
      → TurnStands t → Onward (Reads first f) GivenStands (after (l ++ s ∷ []) t)
  after_line first f l s (turn.More a b) few h k =
      record { stands = k; some = omega arith; enough = simp length-append (omega arith) }
  after_line first f l s (turn.Over b n) few h k = k
  after_line first f l s (turn.Not g) few h k = k

  line_step_lem : (quantity : Bool) (first f : ℕ) (l : Listing) → Reads first (suc f) l
      → Onward (Reads first f) GivenStands (line_step d quantity first l)
  unfolding line_step
  line_step_lem quantity first f l h = by (line_rest d l.amount) (line_rest_lem l.amount h.stands) where
    on : (s : Said) (v : OrFault ℤ) → s.next ≤ length d → VerdictStands (first + length l.lines) v
        → Onward (Reads first f) GivenStands (judged_step d l s v)
    on s (Ok z) k g =
        after_line first f l.lines s (more_of d (grown_by l.block s.value) s.next) g h.enough
        (more_of_lem (grown_by l.block s.value) s.next k)
    on s (Err g) k i = i

    by : (r : OrFault Said) → LinedStands r → Onward (Reads first f) GivenStands (read_step d quantity first l r)
    by (Ok s) k =
        on s (judge_line (number_at l.lines) (length l.lines) first quantity l.block s.value) k.1
        (judge_line_lem (number_at l.lines) (length l.lines) first quantity l.block s.value k.0)
    by (Err g) k = k

  lines_from_lem : (quantity : Bool) (first : ℕ) (a : OrFault Value) (b : Block) → AmountStands d a
      → GivenStands (lines_from d quantity first (state_of a b []))
  unfolding lines_from
  lines_from_lem quantity first a b h =
      loop_keeps (Reads first) GivenStands (line_step d quantity first) (Not (fault 0 0)) (λ l r. absurd (omega (arith, r.some)))
      (line_step_lem quantity first) (suc (4096 - (first + 0))) (state_of a b [])
      (record { stands = h; some = omega arith; enough = omega arith })

  -- ---- a block
  closed_by_lem : (b : Block) (t : OrFault ℕ) → Stands d t → GivenStands (closed_by b t)
  unfolding closed_by
  closed_by_lem b (Ok n) h = h
  closed_by_lem b (Err f) h = h

  range_then_lem : (quantity : Bool) (first : ℕ) (r : Ranged) → RangedStands r → GivenStands (range_then d quantity first r)
  unfolding range_then
  range_then_lem quantity first (ranged.Not f) h = h
  range_then_lem quantity first (ranged.Is b with n) h =
      let t = notes_on d (Ok n) in
      let k = notes_on_lem d (Ok n) h in
      let e = word_here d t END in
      either GivenStands with (lines_from_lem quantity first (value_here d t) b (value_here_lem d t k))
      (closed_by_lem b (word_on d e VALUES) (word_on_lem d e VALUES (word_here_lem d t END k)))

  pub values_on_lem : (quantity : Bool) (first : ℕ) (t : OrFault ℕ) → Stands d t → GivenStands (values_on d quantity first t)
  unfolding values_on
  values_on_lem quantity first t h = by (choice_of d g TO) (choice_of_lem d g TO behind) where
    a : OrFault Value
    a = value_here d (notes_on d (statement_on d t VALUES))

    g : OrFault ℕ
    g = gap_on d (past_value a)

    value : AmountStands d a
    value = value_here_lem d (notes_on d (statement_on d t VALUES))
        (notes_on_lem d (statement_on d t VALUES) (statement_on_lem d t VALUES h))

    behind : Stands d g
    behind = gap_on_lem d (past_value a) (past_value_lem d a value)

    by : (c : Choice) → ChoiceStands d c → GivenStands (to_or d quantity first a c)
    by (Taken m) k = range_then_lem quantity first (range_rest d quantity a (Ok m)) (range_rest_lem quantity a (Ok m) value k)
    by Left k = lines_from_lem quantity first a empty_block value
