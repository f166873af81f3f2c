-- A row's reading by its kind, and its answer by what was said.
-- Assumes nothing.
use mathlib.Core.Path.{◌≡◌, refl, sym, ap, ◌∙◌}
use mathlib.Core.Bool.{Bool, true, false, cond, ◌&&◌}
use mathlib.Core.List.{List, [], ◌∷◌}
use Prim.Native.Nat.{ℕ, zero, suc, ◌+◌, ◌-◌, ◌≤◌}
use native.Mathlib.Omega.{arith}
use borrow.Author.Tests.{le-leb, ltb-false}
use lib.Dec.{leb, eqb}
use lib.IntN.{ℤ, pos}
use lib.ListN.{length, get_or, take, drop}
use Rattle.below.specs.Below.{holds_not}
use Rattle.cells.specs.rule.Cell.{eq_z}
use Rattle.layout.specs.declared.Format.{Format}
use Rattle.layout.specs.declared.Spread.TheVariants.{Bits, Fields}
use Rattle.layout.specs.declared.Kind.TheVariants.{Single, Multiple, Quantity, Character, Logical}
use Rattle.layout.specs.declared.Row.{Row}
use Rattle.places.specs.rule.Places.{pick, run}
use Rattle.places.specs.Laws.{pick_run}
use Rattle.fields.specs.rule.Legal.{legal}
use Rattle.fields.specs.rule.Number.{Said, blank, says, wrong, code_of, quantity_of, all_spaces}
use Rattle.fields.specs.rule.Field.{Field, holds, illegal, missing, number, members, text, truth, number_field, single_says, single_field}
use Rattle.fields.specs.rule.Field.{quantity_says, quantity_field, all_bits, set_bits, bits_field, all_entries, spread_set, spread_field}
use Rattle.fields.specs.rule.Field.{all_plain, unended, text_field, truth_field}
use Rattle.fields.specs.rule.Row.{categories, bit_places, spread_places, places_by, field_by, reading_of}
use Rattle.letters.specs.Letters.{text_said, truth_said}
use Rattle.letters.specs.declared.Text.TheVariants as t
use Rattle.letters.specs.declared.Truth.TheVariants as b
use Rattle.sets.specs.declared.SetRead.{SetRead}
use Rattle.sets.specs.declared.SetRead.TheVariants as set
use Rattle.sets.specs.Sets.{set_answer, ReadSet}
use Rattle.sets.specs.rule.Sets.{list_after, is_illegal}
use Rattle.readings.specs.Answer.{answer_of, numeral_field, set_said, illegal_answer, SetAnswered, RowRead}
use Rattle.readings.specs.Ready.{Plain}
use Rattle.readings.specs.declared.Answer.{Answer}
use Rattle.readings.specs.declared.Answer.TheVariants.{Missing, Number, Set, Text, Truth, Illegal, ShortList}

-- ---- the reading of a row by its kind
module _ (tab : List ℤ) (v : ℕ) (r : Row) (bytes : List ℕ) where
  pub as_single : r.kind ≡ Single → reading_of tab v r bytes
      ≡ single_field (legal tab v r) (pick bytes (run (r.finish - r.width) r.width))
  unfolding reading_of field_by places_by
  as_single e = rw e

  pub as_bits : r.kind ≡ Multiple Bits → reading_of tab v r bytes
      ≡ bits_field (categories tab v r) (pick bytes (bit_places (r.start - 1) (categories tab v r)))
  unfolding reading_of field_by places_by
  as_bits e = rw e

  pub as_spread : (n b : ℕ) → r.kind ≡ Multiple (Fields n b) → reading_of tab v r bytes
      ≡ spread_field (legal tab v r) r.width n (pick bytes (spread_places (r.start - 1) b r.width n))
  unfolding reading_of field_by places_by
  as_spread n b e = rw e

  pub as_quantity : (f : Format) → r.kind ≡ Quantity f → reading_of tab v r bytes
      ≡ quantity_field f (legal tab v r) (pick bytes (run (r.finish - r.width) r.width))
  unfolding reading_of field_by places_by
  as_quantity f e = rw e

  pub as_text : r.kind ≡ Character → reading_of tab v r bytes ≡ text_field (pick bytes (run (r.start - 1) r.width))
  unfolding reading_of field_by places_by
  as_text e = rw e

  pub as_truth : r.kind ≡ Logical → reading_of tab v r bytes ≡ truth_field (get_or bytes (r.finish - 1) 0 ∷ [])
  unfolding reading_of field_by places_by
  as_truth e = rw e

-- ---- a text without a byte below 32 is legal
plain_run : (bytes : List ℕ) (a w : ℕ) → Plain bytes → a + w ≤ length bytes → all_plain (pick bytes (run a w)) ≡ true
unfolding all_plain
plain_run bytes a zero h l = refl
plain_run bytes a (suc w) h l = rw (
  le-leb 32 (get_or bytes a 0) (ltb-false _ _ (h a (omega arith))),
  plain_run bytes (suc a) w h (omega arith),
)

pub text_legal : (bytes : List ℕ) (a w : ℕ) → Plain bytes → a + w ≤ length bytes → false ≡ is_illegal (text_field (pick bytes (run a w)))
unfolding is_illegal text_field
text_legal bytes a w h l = rw (plain_run bytes a w h l) (go (all_spaces (pick bytes (run a w))))
  where
    go : (c : Bool) → false ≡ is_illegal (cond c (holds missing) (holds (text (unended (pick bytes (run a w))))))
    go true = refl
    go false = refl

-- a spread whose subfields are all good is legal
pub spread_legal : (ok : ℤ → Bool) (w n : ℕ) (s : List ℕ) → all_entries ok w n s ≡ true → is_illegal (spread_field ok w n s) ≡ false
unfolding is_illegal spread_field
spread_legal ok w n s e = rw e (go (all_spaces s))
  where
    go : (c : Bool) → is_illegal (cond c (holds missing) (holds (members (spread_set w n s)))) ≡ false
    go true = refl
    go false = refl

-- ---- a field that is no set keeps the list
number_keeps : (ok : ℤ → Bool) (z : ℤ) (list : List ℤ) → list_after (number_field ok z) list ≡ list
unfolding list_after number_field
number_keeps ok z list = go (ok z)
  where
    go : (c : Bool) → list_after (cond c (holds (number z)) illegal) list ≡ list
    go true = refl
    go false = refl

single_by : (ok : ℤ → Bool) (s : Said) (list : List ℤ) → list_after (single_says ok s) list ≡ list
unfolding list_after single_says
single_by ok blank list = refl
single_by ok (says z) list = go (eq_z z (pos 0)) (number_keeps ok z list)
  where
    go : (c : Bool) → list_after (number_field ok z) list ≡ list → list_after (cond c (holds missing) (number_field ok z)) list ≡ list
    go true e = refl
    go false e = e
single_by ok wrong list = refl

quantity_by : (ok : ℤ → Bool) (s : Said) (list : List ℤ) → list_after (quantity_says ok s) list ≡ list
unfolding list_after quantity_says
quantity_by ok blank list = refl
quantity_by ok (says z) list = number_keeps ok z list
quantity_by ok wrong list = refl

pub single_keeps : (ok : ℤ → Bool) (s : List ℕ) (list : List ℤ) → list_after (single_field ok s) list ≡ list
single_keeps ok s list = single_by ok (code_of s) list

pub quantity_keeps : (f : Format) (ok : ℤ → Bool) (s : List ℕ) (list : List ℤ) → list_after (quantity_field f ok s) list ≡ list
quantity_keeps f ok s list = quantity_by ok (quantity_of f s) list

pub text_keeps : (s : List ℕ) (list : List ℤ) → list_after (text_field s) list ≡ list
unfolding list_after text_field
text_keeps s list = go (all_spaces s) (all_plain s)
  where
    go : (c d : Bool) → list_after (cond c (holds missing) (cond d (holds (text (unended s))) illegal)) list ≡ list
    go true d = refl
    go false true = refl
    go false false = refl

pub truth_keeps : (s : List ℕ) (list : List ℤ) → list_after (truth_field s) list ≡ list
unfolding list_after truth_field
truth_keeps s list = go (all_spaces s) (eqb (get_or s 0 0) 49) (eqb (get_or s 0 0) 48)
  where
    go : (c d e : Bool) → list_after (cond c (holds missing) (cond d (holds (truth true)) (cond e (holds (truth false)) illegal))) list
        ≡ list
    go true d e = refl
    go false true e = refl
    go false false true = refl
    go false false false = refl

pub row_read : {p : ℕ} {f g : Field} {list : List ℤ} {r : Answer} → g ≡ f → r ≡ answer_of p (length list) f → list_after f list ≡ list
    → RowRead p g list list r
row_read e a k = record { answer = rw e a; leaves = rw e (sym k) }

pub row_set : {p : ℕ} {f g : Field} {list list' : List ℤ} {r : Answer} → g ≡ f → SetAnswered f list list' r → RowRead p g list list' r
row_set {p} e a = record { answer = rw e (a.answer p); leaves = rw e a.leaves }

-- ---- a set's answer
data SetField : Field → Type 0 where
  none : SetField (holds missing)
  some : {ms : List ℤ} → SetField (holds (members ms))
  bad : SetField illegal

set_cases : (c d : Bool) (ms : List ℤ) → SetField (cond c (holds missing) (cond d (holds (members ms)) illegal))
set_cases true d ms = none
set_cases false true ms = some
set_cases false false ms = bad

bits_set : (cs s : List ℕ) → SetField (bits_field cs s)
unfolding bits_field
bits_set cs s = set_cases (all_spaces s) (all_bits s) (set_bits cs s)

spread_set_lem : (ok : ℤ → Bool) (w n : ℕ) (s : List ℕ) → SetField (spread_field ok w n s)
unfolding spread_field
spread_set_lem ok w n s = set_cases (all_spaces s) (all_entries ok w n s) (spread_set w n s)

set_said_lem : (p : ℕ) {f : Field} (list : List ℤ) → SetField f → set_said (set_answer f list) ≡ answer_of p (length list) f
unfolding set_said set_answer answer_of
set_said_lem p list none = refl
set_said_lem p list (some {ms}) = go (leb (length ms) (length list))
  where
    go : (c : Bool) → set_said (cond c (set.Count (length ms)) set.Short) ≡ cond c (Set (length ms)) ShortList
    go true = refl
    go false = refl
set_said_lem p list bad = refl

pub bits_answered : (cs s : List ℕ) (list list' : List ℤ) (a : Answer) (r : SetRead) → a ≡ set_said r
    → ReadSet (bits_field cs s) list list' r
    → SetAnswered (bits_field cs s) list list' a
bits_answered cs s list list' a r e q = record {
  answer = λ p. e ∙ ap set_said q.answer
      ∙ set_said_lem p list (bits_set cs s);
  leaves = q.leaves;
}

pub spread_answered : (ok : ℤ → Bool) (w n : ℕ) (s : List ℕ) (list list' : List ℤ) (a : Answer) (r : SetRead) → a ≡ set_said r
    → ReadSet (spread_field ok w n s) list list' r → SetAnswered (spread_field ok w n s) list list' a
spread_answered ok w n s list list' a r e q = record
    { answer = λ p. e ∙ ap set_said q.answer ∙ set_said_lem p list (spread_set_lem ok w n s); leaves = q.leaves }

-- ---- illegal or not
pub illegal_back : (p n : ℕ) (f : Field) → illegal_answer (answer_of p n f) ≡ is_illegal f
unfolding illegal_answer answer_of is_illegal
illegal_back p n (holds missing) = refl
illegal_back p n (holds (number z)) = refl
illegal_back p n (holds (members ms)) = go (leb (length ms) n)
  where
    go : (c : Bool) → illegal_answer (cond c (Set (length ms)) ShortList) ≡ false
    go true = refl
    go false = refl
illegal_back p n (holds (text s)) = refl
illegal_back p n (holds (truth x)) = refl
illegal_back p n illegal = refl

-- ---- answers of numbers, by what was said
module _ (zero : Bool) (ok : ℤ → Bool) (p n : ℕ) where
  pub numeral_missing : Missing ≡ answer_of p n (numeral_field zero ok blank)
  unfolding answer_of numeral_field single_says quantity_says
  numeral_missing = go zero
    where
      go : (z : Bool) → Missing ≡ answer_of p n (numeral_field z ok blank)
      go true = refl
      go false = refl

  pub numeral_wrong : Illegal ≡ answer_of p n (numeral_field zero ok wrong)
  unfolding answer_of numeral_field single_says quantity_says
  numeral_wrong = go zero
    where
      go : (z : Bool) → Illegal ≡ answer_of p n (numeral_field z ok wrong)
      go true = refl
      go false = refl

  pub numeral_zero : (z : ℤ) → zero && eq_z z (pos 0) ≡ true → Missing ≡ answer_of p n (numeral_field zero ok (says z))
  unfolding answer_of numeral_field single_says
  numeral_zero z e = go zero e
    where
      go : (b : Bool) → b && eq_z z (pos 0) ≡ true → Missing ≡ answer_of p n (numeral_field b ok (says z))
      go true q = rw q
      go false q = holds_not q refl

  pub numeral_number : (z : ℤ) → zero && eq_z z (pos 0) ≡ false → answer_of p n (number_field ok z)
      ≡ answer_of p n (numeral_field zero ok (says z))
  unfolding numeral_field single_says quantity_says
  numeral_number z e = go zero e
    where
      go : (b : Bool) → b && eq_z z (pos 0) ≡ false → answer_of p n (number_field ok z) ≡ answer_of p n (numeral_field b ok (says z))
      go true q = rw q
      go false q = refl

pub as_single_says : (ok : ℤ → Bool) (s : List ℕ) (x : Said) (p n : ℕ) → x ≡ code_of s → answer_of p n (numeral_field true ok x)
    ≡ answer_of p n (single_field ok s)
unfolding numeral_field
as_single_says ok s x p n e = rw e

pub as_quantity_says : (f : Format) (ok : ℤ → Bool) (s : List ℕ) (x : Said) (p n : ℕ) → x ≡ quantity_of f s
    → answer_of p n (numeral_field false ok x) ≡ answer_of p n (quantity_field f ok s)
unfolding numeral_field
as_quantity_says f ok s x p n e = rw e

-- ---- the part of the record that the code lends
pub last_bytes : (bytes : List ℕ) (e w : ℕ) → w ≤ e → e ≤ length bytes → take (e - (e - w)) (drop (e - w) bytes)
    ≡ pick bytes (run (e - w) w)
last_bytes bytes e w h l = let q : e - (e - w) ≡ w = omega arith in rw q (sym (pick_run bytes (e - w) w (omega arith)))

pub first_bytes : (bytes : List ℕ) (a w : ℕ) → a + w ≤ length bytes → take (a + w - a) (drop a bytes) ≡ pick bytes (run a w)
first_bytes bytes a w l = let q : a + w - a ≡ w = omega arith in rw q (sym (pick_run bytes a w l))

-- ---- texts and truths by their readers
module _ (p n : ℕ) (s : List ℕ) where
  pub text_missing : text_said (text_field s) ≡ t.Blank → Missing ≡ answer_of p n (text_field s)
  unfolding text_said text_field answer_of
  text_missing e = go (all_spaces s) (all_plain s) e
    where
      go : (c d : Bool) → text_said (cond c (holds missing) (cond d (holds (text (unended s))) illegal)) ≡ t.Blank → Missing
          ≡ answer_of p n (cond c (holds missing) (cond d (holds (text (unended s))) illegal))
      go true d q = refl
      go false true q = let z : ◌≡◌ {A = ℕ} 0 1 = cc in absurd (omega arith)
      go false false q = let z : ◌≡◌ {A = ℕ} 0 1 = cc in absurd (omega arith)

  pub text_length : (k : ℕ) → text_said (text_field s) ≡ t.Length k → Text p k ≡ answer_of p n (text_field s)
  unfolding text_said text_field answer_of
  text_length k e = go (all_spaces s) (all_plain s) e
    where
      go : (c d : Bool) → text_said (cond c (holds missing) (cond d (holds (text (unended s))) illegal)) ≡ t.Length k → Text p k
          ≡ answer_of p n (cond c (holds missing) (cond d (holds (text (unended s))) illegal))
      go true d q = let z : ◌≡◌ {A = ℕ} 0 1 = cc in absurd (omega arith)
      go false true q = cc
      go false false q = let z : ◌≡◌ {A = ℕ} 0 1 = cc in absurd (omega arith)

  pub text_wrong : text_said (text_field s) ≡ t.Wrong → Illegal ≡ answer_of p n (text_field s)
  unfolding text_said text_field answer_of
  text_wrong e = go (all_spaces s) (all_plain s) e
    where
      go : (c d : Bool) → text_said (cond c (holds missing) (cond d (holds (text (unended s))) illegal)) ≡ t.Wrong → Illegal
          ≡ answer_of p n (cond c (holds missing) (cond d (holds (text (unended s))) illegal))
      go true d q = let z : ◌≡◌ {A = ℕ} 0 1 = cc in absurd (omega arith)
      go false true q = let z : ◌≡◌ {A = ℕ} 0 1 = cc in absurd (omega arith)
      go false false q = refl

data TruthField : Field → Type 0 where
  none : TruthField (holds missing)
  says_it : {x : Bool} → TruthField (holds (truth x))
  bad : TruthField illegal

truth_field_lem : (s : List ℕ) → TruthField (truth_field s)
unfolding truth_field
truth_field_lem s = go (all_spaces s) (eqb (get_or s 0 0) 49) (eqb (get_or s 0 0) 48)
  where
    go : (c d e : Bool) → TruthField (cond c (holds missing) (cond d (holds (truth true)) (cond e (holds (truth false)) illegal)))
    go true d e = none
    go false true e = says_it
    go false false true = says_it
    go false false false = bad

module _ (p n : ℕ) where
  truth_blank_by : {f : Field} → TruthField f → truth_said f ≡ b.Blank → Missing ≡ answer_of p n f
  unfolding truth_said answer_of
  truth_blank_by none e = refl
  truth_blank_by says_it e = let z : ◌≡◌ {A = ℕ} 0 1 = cc in absurd (omega arith)
  truth_blank_by bad e = let z : ◌≡◌ {A = ℕ} 0 1 = cc in absurd (omega arith)

  truth_says_by : {f : Field} (x : Bool) → TruthField f → truth_said f ≡ b.Says x → Truth x ≡ answer_of p n f
  unfolding truth_said answer_of
  truth_says_by x none e = let z : ◌≡◌ {A = ℕ} 0 1 = cc in absurd (omega arith)
  truth_says_by x says_it e = cc
  truth_says_by x bad e = let z : ◌≡◌ {A = ℕ} 0 1 = cc in absurd (omega arith)

  truth_wrong_by : {f : Field} → TruthField f → truth_said f ≡ b.Wrong → Illegal ≡ answer_of p n f
  unfolding truth_said answer_of
  truth_wrong_by none e = let z : ◌≡◌ {A = ℕ} 0 1 = cc in absurd (omega arith)
  truth_wrong_by says_it e = let z : ◌≡◌ {A = ℕ} 0 1 = cc in absurd (omega arith)
  truth_wrong_by bad e = refl

  module _ (s : List ℕ) where
    pub truth_missing : truth_said (truth_field s) ≡ b.Blank → Missing ≡ answer_of p n (truth_field s)
    truth_missing e = truth_blank_by (truth_field_lem s) e

    pub truth_says : (x : Bool) → truth_said (truth_field s) ≡ b.Says x → Truth x ≡ answer_of p n (truth_field s)
    truth_says x e = truth_says_by x (truth_field_lem s) e

    pub truth_wrong : truth_said (truth_field s) ≡ b.Wrong → Illegal ≡ answer_of p n (truth_field s)
    truth_wrong e = truth_wrong_by (truth_field_lem s) e

module _ (ok : ℤ → Bool) (z : ℤ) (p n : ℕ) where
  pub number_said : ok z ≡ true → Number z ≡ answer_of p n (number_field ok z)
  unfolding answer_of number_field
  number_said e = rw e

  pub number_not : ok z ≡ false → Illegal ≡ answer_of p n (number_field ok z)
  unfolding answer_of number_field
  number_not e = rw e
