-- "`END SSS`. WHAT FOLLOWS IS IGNORED": a file that is the same as a definition up to the place behind its `END SSS` is read as the same
-- survey, up to the same place, with the same answer and the same table.
use Rattle.std.specs.Prelude.{◌≡◌, List, [], ◌∷◌, ◌++◌, ℕ, zero, suc, ◌≤◌, ◌<◌, ℤ, length, get_or, take}
use Rattle.std.proofs.Common.{sym, ◌∙◌, arith}
use Rattle.std.proofs.Math.Seq.{take-append_seam}
use Rattle.std.proofs.lemmas.List.{take-append-le}
use borrow.Author.Tests.{le-ltb}
use Rattle.scan.specs.rule.Text.{text}
use Rattle.scan.specs.rule.Text as scan
use Rattle.scan.specs.Word.{Written}
use Rattle.scan.specs.Word as word
use Rattle.scan.proofs.Texts.{From, at_sign, from_text}
use Rattle.tokens.specs.declared.Fault.{Fault}
use Rattle.statements.specs.rule.Words.{SSS, SURVEY, RECORD}
use Rattle.survey.specs.rule.Survey.{Survey}
use Rattle.reading.specs.rule.Result.{Is, Not}
use Rattle.reading.specs.rule.Whole.{survey_of}
use Rattle.definition.specs.declared.Answer.{Answer}
use Rattle.definition.specs.rule.Definition.{names_of, judge_names, sss_outcome, SssRead}
use Rattle.bridge.specs.Lowest.{never}
use Rattle.grammar.specs.Token.{keyword}
use Rattle.grammar.specs.Token as token
use Rattle.grammar.specs.Grammar.{Definition, definition}
use Rattle.grammar_laws.specs.Whole.{definition_exactly}
use Rattle.follow_laws.specs.Beginnings.{Alike, here, fewer}
use Rattle.follow_laws.specs.Pieces.{end_on, statement_far, letter_far, variables_far, items_far, title_far, opening_far}

-- ---- the same up to m
long_enough : (m : ℕ) (d d' : List ℕ) → take m d ≡ take m d' → m ≤ length d → m ≤ length d'
long_enough zero d d' e h = omega arith
long_enough (suc m) [] d' e h = absurd (omega arith)
long_enough (suc m) (x ∷ d) [] e h = never cc
long_enough (suc m) (x ∷ d) (y ∷ d') e h =
    let q : take m d ≡ take m d' = cc in
    let l = long_enough m d d' q (omega arith) in
    omega arith

byte_same : (m : ℕ) (d d' : List ℕ) → take m d ≡ take m d' → m ≤ length d → (k : ℕ) → k < m → get_or d k 0 ≡ get_or d' k 0
byte_same zero d d' e h k l = absurd (omega arith)
byte_same (suc m) [] d' e h k l = absurd (omega arith)
byte_same (suc m) (x ∷ d) [] e h k l = never cc
byte_same (suc m) (x ∷ d) (y ∷ d') e h zero l = cc
byte_same (suc m) (x ∷ d) (y ∷ d') e h (suc k) l =
    let q : take m d ≡ take m d' = cc in byte_same m d d' q (omega arith) k (omega arith)

alike : (m : ℕ) (d d' : List ℕ) → take m d ≡ take m d' → m ≤ length d → Alike d d' m
alike m d d' e h = record { within = h; within' = long_enough m d d' e h; same = byte_same m d d' e h }

-- ---- a word ends in the file, and so does a definition
written_within : {d w : List ℕ} {k m : ℕ} {t : scan.Text} → Written w k t m → From d k t → k ≤ length d → m ≤ length d
written_within word.none f h = h
written_within (word.one e v) (at_sign i l g r) h = written_within v r (omega arith)

word_within : (d : List ℕ) {x k m : ℕ} {w : List ℕ} {t : scan.Text} → Written (x ∷ w) k t m → From d k t → m ≤ length d
word_within d (word.one e v) (at_sign i l g r) = written_within v r (omega arith)

pub definition_within : (d : List ℕ) {s : Survey} {m : ℕ} → Definition d s m → m ≤ length d
definition_within d (definition o i v t r w x e₁ e₂ (token.end s (keyword {k = k} g h))) = word_within d h (from_text d k)

-- ---- the grammar of the one is the grammar of the other
grown : {d d' : List ℕ} {s : Survey} {m : ℕ} → Alike d d' m → Definition d s m
    → Definition d' s m × (names_of d s.variables ≡ names_of d' s.variables)
grown {m = m} z (definition o i v t r w x e₁ e₂ e₃) =
    let l : m ≤ m = omega arith in
    let x₃ = end_on z {w = SSS} (omega arith) e₃ (here l) in
    let x₂ = end_on z {w = SURVEY} (omega arith) e₂ x₃.1 in
    let x₁ = end_on z {w = RECORD} (omega arith) e₁ x₂.1 in
    let y = variables_far z x (fewer x₁.1 7 (omega arith)) in
    let y₆ = letter_far z w y.1 in
    let y₅ = statement_far z r y₆.1 in
    let y₄ = title_far z t y₅.1 in
    let y₃ = statement_far z v y₄.1 in
    let y₂ = items_far z i y₃.1 in
    let y₁ = opening_far z o y₂.1 in
    (definition y₁ y₂.0 y₃.0 y₄.0 y₅.0 y₆.0 y.0 x₁.0 x₂.0 x₃.0, y.2)

module _ (d d' : List ℕ) {s : Survey} {m : ℕ} (same : take m d ≡ take m d') where
  -- the text is derived, saying s up to m, whatever stands from m on
  pub derived_alike : Definition d s m → Definition d' s m
  derived_alike x = (grown (alike m d d' same (definition_within d x)) x).0

  -- WHAT FOLLOWS IS IGNORED: the same survey, up to the same place
  pub follows_ignored : survey_of d ≡ Is s m → survey_of d' ≡ Is s m
  follows_ignored e =
      let x = (definition_exactly d s m).0 e in
      (definition_exactly d' s m).1 (derived_alike x.0, x.1)

  -- and the same outcome, for any lent table, where neither file is too long
  module _ (read : survey_of d ≡ Is s m) (short : length d ≤ 1048576) (short' : length d' ≤ 1048576) where
    names_alike : names_of d s.variables ≡ names_of d' s.variables
    names_alike =
        let x = ((definition_exactly d s m).0 read).0 in
        (grown (alike m d d' same (definition_within d x)) x).1

    pub outcome_alike : (n : ℕ) → sss_outcome d n ≡ sss_outcome d' n
    unfolding sss_outcome judge_names
    outcome_alike n =
        rw (le-ltb 1048576 (length d) short, le-ltb 1048576 (length d') short', read, follows_ignored read, names_alike)

    pub call_alike : (t t' : List ℤ) (a : Answer) → SssRead d t t' a → SssRead d' t t' a
    call_alike t t' a p =
        let e = outcome_alike (length t) in
        record { says = rw e at p.says; leaves = rw e at p.leaves }

-- of a definition with anything behind it: with anything else, or with nothing
pub behind_ignored : (a x y : List ℕ) {s : Survey} → survey_of (a ++ x) ≡ Is s (length a) → survey_of (a ++ y) ≡ Is s (length a)
behind_ignored a x y e = follows_ignored (a ++ x) (a ++ y) (take-append_seam a x ∙ sym (take-append_seam a y)) e

-- and a text that is read is read so with anything behind it
pub anything_behind : (a x : List ℕ) {s : Survey} {m : ℕ} → survey_of a ≡ Is s m → survey_of (a ++ x) ≡ Is s m
anything_behind a x {s} {m} e =
    let l = definition_within a ((definition_exactly a s m).0 e).0 in
    follows_ignored a (a ++ x) (sym (take-append-le m a x l)) e

-- so a text that is refused has no beginning that is read
pub refused_throughout : (a x : List ℕ) {f : Fault} {s : Survey} {m : ℕ} → survey_of (a ++ x) ≡ Not f → survey_of a ≡ Is s m → ⊥
refused_throughout a x e r = let q = sym e ∙ anything_behind a x r in never cc
