use mathlib.Core.Path.{◌∙◌}
use mathlib.Core.List.{[], ◌∷◌}
use native.Mathlib.Omega.{arith}
use Rattle.sink.specs.Sent.{then, sent_as}
use Rattle.pages.specs.Page.{phrase_page}
use Rattle.pages.specs.Law.{paged_as}
use Rattle.pages.specs.Stand.{lined_room, lined_page, framed_apart}
use Rattle.pages.proofs.send_phrase.Goals as goal

pub send_whole-requires : goal.send_whole-requires
send_whole-requires c =
    lined_room (c.requires.phrase_line.0 c.if-e-gt0.true) (omega arith)

pub returns-then-e-gt0 : goal.returns-then-e-gt0
unfolding phrase_page
returns-then-e-gt0 c =
    paged_as c.send_whole.ensures (lined_page (c.requires.phrase_line.0 c.if-e-gt0.true) _ c.requires.phrase_line.1)

pub returns : goal.returns
unfolding phrase_page
returns c =
    let a = c.args in
    record {
      sent = sent_as (then c.send_bytes-b.ensures c.send_framed-end.ensures)
          (framed_apart a.d.now a.w.now (32 ∷ 34 ∷ []) c.string_span-x.result (34 ∷ 13 ∷ 10 ∷ [])
          ∙ rw (c.string_span-x.ensures, c.past_statement-a.ensures));
      stands = rw (c.string_span-x.ensures, c.past_statement-a.ensures);
    }
