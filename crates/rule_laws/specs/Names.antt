-- "9 (earliest place) after `END SSS`": the names of a definition that is read stand one behind the other in the order of its variables, so
-- that the first name at fault is the one of the earliest place.
use Rattle.std.proofs.Common.{⊎_elim, eq-or-lt_of_le, arith}
use Rattle.std.specs.Prelude.{◌≡◌, Bool, length}
use Rattle.std.proofs.Math.Path.{refl}
use Rattle.std.proofs.Math.Bool.{true, false, cond}
use mathlib.Core.List.{List, [], ◌∷◌, ◌++◌}
use Prim.Native.Nat.{ℕ, zero, suc, ◌+◌, ◌≤◌, ◌<◌}
use Rattle.std.proofs.lemmas.List.{length-map}
use Rattle.below.specs.Below.{holds_not}
use Rattle.scan.specs.rule.Loop.{Next, Again, Done}
use Rattle.scan.specs.rule.Text.{text, place_of}
use Rattle.tokens.specs.declared.Fault.{Fault}
use Rattle.statements.specs.rule.Words.{END}
use Rattle.signs.specs.declared.Sign.{Sign}
use Rattle.names.specs.rule.Standard.{name_wrong, name_fault_from, name_fault}
use Rattle.survey.specs.rule.Survey.{Variable, Heading, Survey}
use Rattle.reading.specs.rule.Result.{Result, Is, Not, bind, turn, repeat}
use Rattle.scan.specs.rule.Word.{word_at}
use Rattle.scan.specs.declared.Word.{Word}
use Rattle.scan.specs.declared.Word.TheVariants as spelled
use Rattle.reading.specs.rule.Token.{either, on_word}
use Rattle.reading.specs.rule.Statement.{notes}
use Rattle.reading.specs.rule.Whole.{another_variable, front, ends, survey, survey_of}
use Rattle.definition.specs.rule.Definition.{names_of, quote_at}
use Rattle.bridge.specs.Lowest.{never}
use Rattle.bridge.specs.Facts.{word_ahead}
use Rattle.rule_laws.specs.Ahead.{After, stops, notes_leads, Named, named, nameless, variable_named}
use Rattle.rule_laws.specs.Ahead as ahead

-- ---- the words: from a on each name stands behind the one before it, and all before b
pub data Ordered : ℕ → List Variable → ℕ → Type 0 where
  none : {a b : ℕ} → a ≤ b → Ordered a [] b
  more : {a b : ℕ} {v : Variable} {l : List Variable} → a < v.name.place → Ordered v.name.place l b → Ordered a (v ∷ l) b

one_more : {a b c : ℕ} {l : List Variable} (v : Variable) → Ordered a l b → b < v.name.place → v.name.place ≤ c
    → Ordered a (l ++ v ∷ []) c
one_more {a} v (none h) g i = let j : a < v.name.place = omega arith in more j (none i)
one_more v (more h o) g i = more h (one_more v o g i)

reaches : {a b c : ℕ} {l : List Variable} → Ordered a l b → b ≤ c → Ordered a l c
reaches {a} {c = c} (none h) g = let i : a ≤ c = omega arith in none i
reaches (more h o) g = more h (reaches o g)

-- ---- a variable more
data Step (a : ℕ) : Result (Next (List Variable) (List Variable)) → Type 0 where
  again : {l : List Variable} {m : ℕ} → Ordered a l m → Step a (Is (Again l) m)
  done : {l : List Variable} {m : ℕ} → Ordered a l m → Step a (Is (Done l) m)
  over : {f : Fault} → Step a (Not f)

data All (a : ℕ) : Result (List Variable) → Type 0 where
  all : {l : List Variable} {m : ℕ} → Ordered a l m → All a (Is l m)
  none_read : {f : Fault} → All a (Not f)

module _ (d : List ℕ) (a : ℕ) where
  another_step : {n : ℕ} (l : List Variable) → Ordered a l n → Step a (another_variable d l n)
  unfolding another_variable
  another_step {n} l o = at_variable (variable_named d l n) where
    at_end_lem : (v : Variable) (k : ℕ) → Ordered a (l ++ v ∷ []) k → (w : Word) → word_at d k END ≡ w
        → Step a (on_word (λ e. Is (Done (l ++ v ∷ [])) e) (λ i. Is (Again (l ++ v ∷ [])) i) k w)
    at_end_lem v k q (spelled.Matched e) i = let h : k ≤ e = omega (arith, word_ahead d 69 (78 ∷ 68 ∷ []) i) in done (reaches q h)
    at_end_lem v k q spelled.Not i = again q

    at_notes : (v : Variable) {m : ℕ} {r : Result Unit} → Ordered a (l ++ v ∷ []) m → After m r
        → Step a (bind r λ u. either d END (λ e. Is (Done (l ++ v ∷ [])) e) (λ i. Is (Again (l ++ v ∷ [])) i))
    at_notes v q (ahead.ends {m = k} h) = at_end_lem v k (reaches q h) (word_at d k END) refl
    at_notes v q stops = over

    at_variable : {r : Result Variable} → Named d n r → Step a (bind r λ v n. bind (notes d n) λ u.
        either d END (λ e. Is (Done (l ++ v ∷ [])) e) (λ i. Is (Again (l ++ v ∷ [])) i))
    at_variable (named {v = v} {m = m} g h) = at_notes v (one_more v o g h) (notes_leads d m)
    at_variable nameless = over

  all_ordered : (f : ℕ) {n : ℕ} (l : List Variable) → Ordered a l n → All a (repeat f (another_variable d) l n)
  unfolding repeat
  all_ordered zero l o = none_read
  all_ordered (suc f) l o = by (another_step l o) (λ m k q. all_ordered f k q) where
    by : {r : Result (Next (List Variable) (List Variable))} → Step a r
        → ((m : ℕ) (k : List Variable) → Ordered a k m → All a (repeat f (another_variable d) k m))
        → All a (bind r (turn (repeat f (another_variable d))))
    by (again {l = k} {m = m} q) ih = ih m k q
    by (done q) ih = all q
    by over ih = none_read

-- ---- the whole
pub record InOrder (l : List Variable) : Type 0 where
  pub from : ℕ
  pub to : ℕ
  pub ordered : Ordered from l to

data Read : Result Survey → Type 0 where
  read : {s : Survey} {n : ℕ} → InOrder s.variables → Read (Is s n)
  unread : {f : Fault} → Read (Not f)

abbrev given : Heading → List Variable → Survey
given h l = record { heading = h; variables = l }

survey_read : (d : List ℕ) → Read (survey_of d)
unfolding survey_of survey
survey_read d = at_front (front d (place_of (text d 0))) where
  at_ends : (h : Heading) (l : List Variable) → InOrder l → (r : Result Unit) → Read (bind r λ u n. Is (given h l) n)
  at_ends h l q (Is u n) = read q
  at_ends h l q (Not f) = unread

  at_all : (h : Heading) {a : ℕ} {r : Result (List Variable)} → All a r → Read (bind r λ l n. bind (ends d n) λ u n. Is (given h l) n)
  at_all h {a} (all {l = l} {m = m} o) = at_ends h l (record { from = a; to = m; ordered = o }) (ends d m)
  at_all h none_read = unread

  at_front : (r : Result Heading) → Read (bind r λ h n. bind (repeat 513 (another_variable d) [] n) λ l n. bind (ends d n) λ u n. Is
      (given h l) n)
  at_front (Is h n) = let i : n ≤ n = omega arith in at_all h (all_ordered d n 513 [] (none i))
  at_front (Not f) = unread

-- NAMES IN ORDER, of every definition that is read
pub names_ordered : (d : List ℕ) {s : Survey} {n : ℕ} → survey_of d ≡ Is s n → InOrder s.variables
names_ordered d {s} {n} e = by (survey_read d) e where
  by : {r : Result Survey} → Read r → r ≡ Is s n → InOrder s.variables
  by (read {s = t} q) i = let j : t ≡ s = cc in rw (← j) q
  by unread i = never cc

-- ---- the first name at fault
-- name i stands before name j
places_rise : {a b : ℕ} {l : List Variable} → Ordered a l b → (j : ℕ) → j < length l → a ≤ quote_at l j
unfolding quote_at
places_rise (none h) j g = absurd (omega arith)
places_rise (more {v = v} h o) zero g = omega arith
places_rise (more {v = v} h o) (suc j) g = omega (arith, places_rise o j (omega arith))

quotes_rise : {a b : ℕ} {l : List Variable} → Ordered a l b → (i j : ℕ) → i < j → j < length l → quote_at l i < quote_at l j
unfolding quote_at
quotes_rise (none h) i j g k = absurd (omega arith)
quotes_rise (more h o) i zero g k = absurd (omega arith)
quotes_rise (more {v = v} h o) zero (suc j) g k = omega (arith, places_rise o j (omega arith))
quotes_rise (more h o) (suc i) (suc j) g k = quotes_rise o i j (omega arith) (omega arith)

module _ (names : List (List Sign)) where
  fault_first : (f k j : ℕ) → k ≤ j → j < k + f → name_wrong names j ≡ true → name_fault_from names f k ≤ j
  unfolding name_fault_from
  fault_first zero k j h g e = absurd (omega arith)
  fault_first (suc f) k j h g e = by (name_wrong names k) refl (λ i. fault_first f (k + 1) j i (omega arith) e) where
    by : (q : Bool) → name_wrong names k ≡ q → (k + 1 ≤ j → name_fault_from names f (k + 1) ≤ j)
        → cond q k (name_fault_from names f (k + 1)) ≤ j
    by true i ih = h
    by false i ih = ih (⊎_elim (λ q. holds_not e (rw (← q) i)) (λ l. omega arith) (eq-or-lt_of_le h))

-- NINE: of the names that break the rule the first, which 9 names, has the earliest place
pub nine_earliest : (d : List ℕ) {s : Survey} {n : ℕ} → survey_of d ≡ Is s n → (j : ℕ) → j < length s.variables
    → name_wrong (names_of d s.variables) j ≡ true
    → quote_at s.variables (name_fault (names_of d s.variables)) ≤ quote_at s.variables j
unfolding name_fault names_of
nine_earliest d {s} e j h w =
    let l : List Variable = s.variables in
    let c : length (names_of d l) ≡ length l = length-map l _ in
    let f : name_fault (names_of d l) ≤ j = fault_first (names_of d l) (length (names_of d l)) 0 j (omega arith) (omega arith) w in
    ⊎_elim (λ q. rw q (omega arith)) (λ i. let k = quotes_rise (names_ordered d e).ordered (name_fault (names_of d l)) j i h in omega arith)
    (eq-or-lt_of_le f)
