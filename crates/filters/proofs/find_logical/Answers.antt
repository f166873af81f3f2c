use mathlib.Core.Path.{sym, ◌∙◌}
use native.Mathlib.Omega.{arith}
use Rattle.filters.specs.Code.{text_at}
use Rattle.filters.proofs.Asked.{found_begin, found_here, found_next, found_none}
use Rattle.filters.proofs.Passing.{found_pass}
use Rattle.filters.proofs.find_logical.Goals as goal

pub loop-i-init : goal.loop-i-init
loop-i-init c = let a = c.args in (
  omega arith,
  found_begin a.latin a.standard a.d.now a.rows.now a.count (text_at a.p a.n),
)

pub pass_apart-k-requires : goal.pass_apart-k-requires
pass_apart-k-requires c =
    let y = c.requires.known in
    let f = y.lying.few in
    let r = y.summing.room in
    (c.loop-i.invariant.0, omega arith)

pub returns-then-count-k : goal.returns-then-count-k
returns-then-count-k c =
    let a = c.args in
    let t = text_at a.p a.n in
    found_none a.latin a.standard a.d.now a.rows.now a.count t _ c.if-count-k.true
    (found_pass a.latin a.standard a.d.now a.rows.now a.count a.sums.now c.requires.known t a.sum c.requires.n_in_bounds.1
    _ _
    c.pass_apart-k.ensures c.loop-i.invariant.1)

pub is_name-named-requires : goal.is_name-named-requires
is_name-named-requires c = record {
  known = c.requires.known;
  i_lt_count = (c.if-count-k.false, c.requires.n_in_bounds.0, c.requires.n_in_bounds.1);
}

pub column-kind-requires : goal.column-kind-requires
column-kind-requires c = let y = c.requires.known.lying in let f = y.few in
    let k = c.if-count-k.false in (y.room, omega arith, omega arith)

pub returns-then-named-kind : goal.returns-then-named-kind
returns-then-named-kind c =
    let a = c.args in
    let t = text_at a.p a.n in
    found_here a.latin a.standard a.d.now a.rows.now a.count t _ c.if-count-k.false
    (found_pass a.latin a.standard a.d.now a.rows.now a.count a.sums.now c.requires.known t a.sum c.requires.n_in_bounds.1
    _ _
    c.pass_apart-k.ensures c.loop-i.invariant.1)
    (sym c.if-named-kind.true ∙ rw (c.is_name-named.ensures, c.column-kind.ensures))

pub loop-i-smaller : goal.loop-i-smaller
loop-i-smaller c = let x = c.pass_apart-k.ensures.on in omega arith

pub loop-i-preserved : goal.loop-i-preserved
loop-i-preserved c =
    let a = c.args in
    let t = text_at a.p a.n in (
      omega arith,
      found_next a.latin a.standard a.d.now a.rows.now a.count t _ c.if-count-k.false
          (found_pass a.latin a.standard a.d.now a.rows.now a.count a.sums.now c.requires.known t a.sum
          c.requires.n_in_bounds.1 _ _
          c.pass_apart-k.ensures c.loop-i.invariant.1)
          (sym c.if-named-kind.false ∙ rw (c.is_name-named.ensures, c.column-kind.ensures)),
    )

pub returns : goal.returns
returns c = let a = c.args in
    found_none a.latin a.standard a.d.now a.rows.now a.count (text_at a.p a.n) _ c.loop-i-test.false
    c.loop-i.invariant.1
