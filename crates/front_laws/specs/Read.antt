-- A DEFINITION THAT WAS READ is sent as the clean text of its survey.
use Rattle.std.specs.Prelude.{◌≡◌, refl, List, ℕ, ◌≤◌, length}
use Rattle.std.proofs.Common.{sym, ap, ◌∙◌, arith}
use Rattle.survey.specs.rule.Survey.{Variable, Survey}
use Rattle.survey.specs.rule.Table.{lines_all}
use Rattle.reading.specs.rule.Result.{Is}
use Rattle.reading.specs.rule.Whole.{survey_of}
use Rattle.bridge.specs.Lowest.{never}
use Rattle.measures.specs.Survey as kept
use Rattle.built.specs.Nth.{few_rows, few_lines}
use Rattle.definition.specs.declared.Answer.TheVariants as answer
use Rattle.definition.specs.rule.Definition.{SssOutcome, Built, sss_outcome, sss_answer}
use Rattle.definition.specs.Books as books
use Rattle.definition.proofs.Goods.{built_good}
use Rattle.definition.proofs.Bridge.{SameOutcome, outcome_same, answer_same}
use Rattle.definition.proofs.Bridge as bridge
use Rattle.grammar_laws.specs.Whole.{definition_exactly}
use Rattle.clean_text.specs.rule.Clean.{clean_of}
use Rattle.fronts.specs.Front.{whole_text}
use Rattle.front_laws.specs.Whole.{whole_is}
use Rattle.front_laws.specs.Fine.{all_fine}

-- 512 variables and 4,096 lines at most
pub few : (d : List ℕ) (n : ℕ) (l : List Variable) → sss_outcome d n ≡ Built l → (length l ≤ 512) × (lines_all l ≤ 4096)
unfolding books.answer_in sss_answer
few d n l e = by refl e (outcome_same d n) where
  by : {o : books.Outcome} {q : SssOutcome} → books.outcome_in d n ≡ o → q ≡ Built l → SameOutcome d o q → (length l ≤ 512)
      × (lines_all l ≤ 4096)
  by i j (bridge.built {l = k} s) =
      let g = built_good d n k i in
      let a : answer.Read (length k) (kept.lines_all k) ≡ answer.Read (length l) (lines_all l) = sym (ap books.answer_in i)
      ∙ answer_same d n
      ∙ ap sss_answer e in
      let b : length k ≡ length l = cc in
      let c : kept.lines_all k ≡ lines_all l = cc in
      (omega (arith, b, few_rows g.0), omega (arith, c, few_lines g.0))
  by i j bridge.refused = never cc

pub read_clean : (d : List ℕ) (n : ℕ) {s : Survey} {m : ℕ} → survey_of d ≡ Is s m → sss_outcome d n ≡ Built s.variables → whole_text d
    ≡ clean_of d s
read_clean d n {s} {m} e o =
    let x = (definition_exactly d s m).0 e in
    let f = few d n s.variables o in
    whole_is d x.0 (all_fine d _ s.variables x.1 f.1) f.0
