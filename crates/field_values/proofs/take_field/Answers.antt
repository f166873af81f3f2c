-- `field_values::take_field` meets its contract: what the quick road does not take, the other does.
use mathlib.Core.Path.{◌∙◌}
use Rattle.field_values.specs.Quick.{took_old}
use Rattle.field_values.proofs.take_field.Goals as goal

pub take_quick-requires : goal.take_quick-requires
take_quick-requires c = record {
  tens = c.requires.tens;
  ready = c.requires.ready;
  list_len = c.requires.list_len.0;
}

pub returns-then-take_quick : goal.returns-then-take_quick
returns-then-take_quick c = c.take_quick.ensures.taken c.if-take_quick.true

pub take_guessed-requires : goal.take_guessed-requires
take_guessed-requires c =
    let l = c.take_quick.auto in record {
      tens = c.requires.tens;
      ready = rw l.bytes c.requires.ready;
      list_len = (
        l.list ∙ c.requires.list_len.0,
        c.requires.list_len.1,
      );
    }

pub returns : goal.returns
returns c =
    took_old (c.take_quick.ensures.kept c.if-take_quick.false)
    c.take_guessed.ensures
