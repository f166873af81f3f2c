use mathlib.Core.Path.{sym, ◌∙◌}
use Rattle.pairs.specs.rule.Pair.{pair_of}
use Rattle.pairs.proofs.Stands.{start_long, close_long}
use Rattle.pairs.proofs.read_pair.Goals as goal

pub misplaced-requires : goal.misplaced-requires
misplaced-requires c = let a = c.args in
    start_long a.bad a.d.now a.at _ _ (sym c.find_stand.ensures ∙ c.in-Start.is)

pub closed-requires : goal.closed-requires
closed-requires c = let a = c.args in
    close_long a.bad a.d.now a.at _ _ (sym c.find_stand.ensures ∙ c.in-Close.is)

pub returns-in-Start : goal.returns-in-Start
unfolding pair_of
returns-in-Start c = rw (sym c.find_stand.ensures ∙ c.in-Start.is) c.misplaced.ensures

pub returns-in-Close : goal.returns-in-Close
unfolding pair_of
returns-in-Close c = rw (sym c.find_stand.ensures ∙ c.in-Close.is) c.closed.ensures

pub returns-in-Foreign : goal.returns-in-Foreign
unfolding pair_of
returns-in-Foreign c = rw (sym c.find_stand.ensures ∙ c.in-Foreign.is)

pub returns-in-Text : goal.returns-in-Text
unfolding pair_of
returns-in-Text c = rw (sym c.find_stand.ensures ∙ c.in-Text.is)

pub returns-in-Broken : goal.returns-in-Broken
unfolding pair_of
returns-in-Broken c = rw (sym c.find_stand.ensures ∙ c.in-Broken.is)
