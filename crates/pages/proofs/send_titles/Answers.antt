use mathlib.Core.Path.{refl, ◌∙◌}
use mathlib.Core.List.{[], ◌∷◌, ◌++◌}
use Rattle.statements.specs.rule.Words.{NAME, LABEL}
use Rattle.looks.specs.Look.{opens, letters}
use Rattle.pages.specs.Page.{titles_page, phrase_page, then}
use Rattle.pages.specs.Law.{paged_then}
use Rattle.pages.proofs.send_titles.Goals as goal

pub number_line-e-requires : goal.number_line-e-requires
unfolding opens letters
number_line-e-requires c = refl

pub phrase_line-f-requires : goal.phrase_line-f-requires
unfolding opens letters
phrase_line-f-requires c = refl

pub phrase_line-h-requires : goal.phrase_line-h-requires
unfolding opens letters
phrase_line-h-requires c = refl

pub send_phrase-requires : goal.send_phrase-requires
send_phrase-requires c = record {
  classes = c.requires;
  phrase_line = (c.phrase_line-h.ensures, c.pass_blanks-k.ensures.0);
}

pub shape_of-out : goal.shape_of-out
shape_of-out c =
    c.send_phrase.ensures.sent.room ∙ c.send_phrase-b.ensures.sent.room ∙ c.send_number-a.ensures.sent.room

pub returns : goal.returns
unfolding titles_page
returns c =
    let d = c.args.d.now in
    paged_then (λ a. then (phrase_page d a NAME (NAME ++ 32 ∷ 34 ∷ [])) λ b. phrase_page d b LABEL (LABEL ++ 32 ∷ 34 ∷ []))
    c.send_number-a.ensures
    (paged_then (λ b. phrase_page d b LABEL (LABEL ++ 32 ∷ 34 ∷ [])) c.send_phrase-b.ensures c.send_phrase.ensures)
