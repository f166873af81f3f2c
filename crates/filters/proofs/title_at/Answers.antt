use mathlib.Core.Path.{sym, ◌∙◌}
use Rattle.filters.proofs.Titles.{title_held, title_faulty, title_read}
use Rattle.filters.proofs.title_at.Goals as goal

pub read_title-requires : goal.read_title-requires
read_title-requires c = c.requires.end_in_bounds.0

pub figure_at-n-requires : goal.figure_at-n-requires
figure_at-n-requires c =
    let a = c.args in
    let s = (title_held a.bad a.d.now a.old a.place a.end c.read_title.ensures
    c.in-Read.is).held.first in
    (s.ends, s.within, s.fits)

pub judge_ident-i-requires : goal.judge_ident-i-requires
judge_ident-i-requires c = c.requires.end_in_bounds.1

pub kind_at-kind-requires : goal.kind_at-kind-requires
kind_at-kind-requires c =
    let a = c.args in
    let s = (title_held a.bad a.d.now a.old a.place a.end c.read_title.ensures
    c.in-Read.is).held.second in
    (s.ends, s.within)

pub use_at-usage-requires : goal.use_at-usage-requires
use_at-usage-requires c =
    let a = c.args in
    λ k. let s = (title_held a.bad a.d.now a.old a.place a.end c.read_title.ensures
    c.in-Read.is).held.third k in (s.ends, s.within)

pub use_wrong-wrong-requires : goal.use_wrong-wrong-requires
use_wrong-wrong-requires c = c.requires.rows_len

pub returns-in-Read : goal.returns-in-Read
returns-in-Read c =
    let a = c.args in
    let s = title_held a.bad a.d.now a.old a.place a.end c.read_title.ensures c.in-Read.is in
    rw (
      c.judge_title.ensures,
      c.judge_ident-i.ensures,
      c.figure_at-n.ensures,
      c.kind_at-kind.ensures,
      c.use_at-usage.ensures,
    ) (title_read a.bad a.d.now a.old a.seen.now a.rows.now a.count a.place a.end _ _ _ _
    (sym c.read_title.ensures ∙ c.in-Read.is) s.held.first.fits s.next c.use_wrong-wrong.result
    (rw (c.use_at-usage.ensures, c.kind_at-kind.ensures) at c.use_wrong-wrong.ensures))

pub returns-in-Fault : goal.returns-in-Fault
returns-in-Fault c =
    let a = c.args in
    title_faulty a.bad a.d.now a.old a.seen.now a.rows.now a.count a.place a.end _ _
    (sym c.read_title.ensures ∙ c.in-Fault.is)
