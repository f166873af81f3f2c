use mathlib.Core.Path.{◌∙◌}
use mathlib.Core.List.{[], ◌∷◌, ◌++◌}
use Rattle.statements.specs.rule.Words.{END, VARIABLE}
use Rattle.pages.specs.Page.{variable_page, body_page, end_page}
use Rattle.pages.specs.Law.{paged_then, paged_before, room_small}
use Rattle.pages.proofs.send_variable.Goals as goal

pub send_rest-e-requires : goal.send_rest-e-requires
send_rest-e-requires c = record {
  classes = c.requires.classes;
  tens = c.requires.tens;
  room_bound = rw c.room_of-room.ensures (room_small _ _);
}

pub shape_of-out : goal.shape_of-out
shape_of-out c =
    c.send_end.ensures.sent.room ∙ c.send_rest-e.ensures.sent.room
    ∙ c.send_position-c.ensures.room
    ∙ c.send_type-b.ensures.room
    ∙ c.send_titles-a.ensures.sent.room

pub returns : goal.returns
unfolding variable_page body_page
returns c =
    let d = c.args.d.now in
    paged_then (body_page d) c.send_titles-a.ensures
    (rw (
      ← c.type_at-t.ensures,
      ← c.find_position-s.ensures.is,
      ← c.room_of-room.ensures,
    )
    (paged_before c.send_type-b.ensures
    (paged_before c.send_position-c.ensures
    (paged_then (λ e. end_page d e VARIABLE (END ++ 32 ∷ VARIABLE ++ 13 ∷ 10 ∷ [])) c.send_rest-e.ensures
    c.send_end.ensures))))

pub send_titles-a-requires : goal.send_titles-a-requires
send_titles-a-requires c = c.requires.classes

pub type_at-t-requires : goal.type_at-t-requires
type_at-t-requires c = c.requires.classes

pub find_position-s-requires : goal.find_position-s-requires
find_position-s-requires c = c.requires.classes

pub send_position-c-requires : goal.send_position-c-requires
send_position-c-requires c = record {
  classes = c.requires.classes;
  stands = c.find_position-s.ensures.stands;
}

pub send_end-requires : goal.send_end-requires
send_end-requires c = c.requires.classes
