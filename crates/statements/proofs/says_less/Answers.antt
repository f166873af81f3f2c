use Rattle.statements.specs.Position.{true_of}
use Rattle.statements.proofs.Helds.{size_less, size_same}
use Rattle.statements.proofs.says_less.Goals as goal

pub returns-then-y-x : goal.returns-then-y-x
returns-then-y-x c =
    let a = c.args in
    let p = c.requires.size_value in
    size_less _ _ (true_of a.d.now a.y) (true_of a.d.now a.x) p.0 p.1 c.if-y-x.true

pub returns-then-x-lt-CAP : goal.returns-then-x-lt-CAP
returns-then-x-lt-CAP c =
    let a = c.args in
    let p = c.requires.size_value in
    size_same _ _ (true_of a.d.now a.y) (true_of a.d.now a.x) p.0 p.1 c.if-y-x.false c.if-x-lt-CAP.true

pub less-requires : goal.less-requires
less-requires c = c.requires.classes

pub returns : goal.returns
returns c = c.less.ensures
