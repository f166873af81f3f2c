use mathlib.Core.Path.{◌∙◌}
use mathlib.Core.List.{[], ◌∷◌}
use native.Mathlib.Omega.{arith}
use Rattle.sink.specs.Sent.{then, sent_as}
use Rattle.pages.specs.Page.{number_page}
use Rattle.pages.specs.Law.{paged_as}
use Rattle.pages.specs.Stand.{lined_room, lined_page, framed_apart}
use Rattle.pages.proofs.send_number.Goals as goal

pub send_whole-requires : goal.send_whole-requires
send_whole-requires c =
    lined_room (c.requires.number_line.0 c.if-e-gt0.true) (omega arith)

pub returns-then-e-gt0 : goal.returns-then-e-gt0
unfolding number_page
returns-then-e-gt0 c =
    paged_as c.send_whole.ensures (lined_page (c.requires.number_line.0 c.if-e-gt0.true) _ c.requires.number_line.1)

pub returns : goal.returns
unfolding number_page
returns c =
    let a = c.args in
    record {
      sent = sent_as (then c.send_bytes-b.ensures c.send_framed-end.ensures)
          (framed_apart a.d.now a.w.now (32 ∷ []) c.number_span-x.result (13 ∷ 10 ∷ [])
          ∙ rw (c.number_span-x.ensures, c.past_statement-a.ensures));
      stands = rw (c.number_span-x.ensures, c.past_statement-a.ensures);
    }
