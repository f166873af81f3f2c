use mathlib.Core.Path.{refl, sym, ap, ◌∙◌}
use Rattle.sink.specs.Sent.{all_owed, less_owed, none_owed}
use Rattle.pages.specs.Page.{Page}
use Rattle.pages.specs.Law.{variables_out, variables_done, variables_more}
use Rattle.pages.proofs.send_variables.Goals as goal

pub loop-init : goal.loop-init
loop-init c = (all_owed _ _ _ refl, refl)

pub send_variable-v-requires : goal.send_variable-v-requires
send_variable-v-requires c = c.requires

pub look_end-e-requires : goal.look_end-e-requires
look_end-e-requires c = c.requires.classes

pub shape_of-out-then-e : goal.shape_of-out-then-e
shape_of-out-then-e c = c.send_variable-v.ensures.sent.room
    ∙ c.loop.invariant.0.same_room

pub returns-then-e : goal.returns-then-e
returns-then-e c =
    let q = variables_done _ _ _ c.loop-test.true _
    c.send_variable-v.ensures.stands _ c.look_end-e.ensures c.if-e.true in
    record {
      sent = none_owed (less_owed c.loop.invariant.0 (ap (λ (p : Page). p.text) q)
          c.send_variable-v.ensures.sent) refl;
      stands = sym (c.loop.invariant.1 ∙ ap (λ (p : Page). p.next) q);
    }

pub loop-preserved : goal.loop-preserved
loop-preserved c =
    let q = variables_more _ _ _ c.loop-test.true _
    c.send_variable-v.ensures.stands _ c.look_end-e.ensures c.if-e.false in (
      less_owed c.loop.invariant.0 (ap (λ (p : Page). p.text) q)
          c.send_variable-v.ensures.sent,
      c.loop.invariant.1 ∙ ap (λ (p : Page). p.next) q,
    )

pub shape_of-out : goal.shape_of-out
shape_of-out c = c.loop.invariant.0.same_room

pub returns : goal.returns
returns c =
    let q = variables_out _ _ _ c.loop-test.false in
    record {
      sent = none_owed c.loop.invariant.0 (ap (λ (p : Page). p.text) q);
      stands = sym (c.loop.invariant.1 ∙ ap (λ (p : Page). p.next) q);
    }
