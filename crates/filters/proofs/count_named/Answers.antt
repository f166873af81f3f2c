use mathlib.Core.Path.{sym, ◌∙◌}
use native.Mathlib.Omega.{arith}
use Rattle.filters.specs.Code.{text_at}
use Rattle.filters.proofs.Asked.{count_begin, count_yes, count_no, count_over}
use Rattle.filters.proofs.Passing.{count_pass}
use Rattle.filters.proofs.count_named.Goals as goal

pub loop-i-init : goal.loop-i-init
loop-i-init c = let a = c.args in (
  omega arith,
  omega arith,
  count_begin a.latin a.standard a.d.now a.rows.now a.count (text_at a.p a.n),
)

pub pass_apart-k-requires : goal.pass_apart-k-requires
pass_apart-k-requires c =
    let y = c.requires.known in
    let f = y.lying.few in
    let r = y.summing.room in
    (c.loop-i.invariant.0, omega arith)

pub returns-then-count-k : goal.returns-then-count-k
returns-then-count-k c =
    let a = c.args in
    let t = text_at a.p a.n in
    count_over a.latin a.standard a.d.now a.rows.now a.count t _ _ c.if-count-k.true
    (count_pass a.latin a.standard a.d.now a.rows.now a.count a.sums.now c.requires.known t a.sum c.requires.n_in_bounds.1
    _ _ _
    c.pass_apart-k.ensures c.loop-i.invariant.2)

pub is_name-requires : goal.is_name-requires
is_name-requires c = record {
  known = c.requires.known;
  i_lt_count = (c.if-count-k.false, c.requires.n_in_bounds.0, c.requires.n_in_bounds.1);
}

pub loop-i-smaller-then-is_name : goal.loop-i-smaller-then-is_name
loop-i-smaller-then-is_name c = let x = c.pass_apart-k.ensures.on in omega arith

pub loop-i-preserved-then-is_name : goal.loop-i-preserved-then-is_name
loop-i-preserved-then-is_name c =
    let a = c.args in
    let t = text_at a.p a.n in
    let x = c.pass_apart-k.ensures in
    let o = x.on in (
      omega arith,
      omega arith,
      count_yes a.latin a.standard a.d.now a.rows.now a.count t _ _ c.if-count-k.false
          (count_pass a.latin a.standard a.d.now a.rows.now a.count a.sums.now c.requires.known t a.sum
          c.requires.n_in_bounds.1 _ _ _ x c.loop-i.invariant.2)
          (sym c.if-is_name.true ∙ c.is_name.ensures),
    )

pub loop-i-smaller : goal.loop-i-smaller
loop-i-smaller c = let x = c.pass_apart-k.ensures.on in omega arith

pub loop-i-preserved : goal.loop-i-preserved
loop-i-preserved c =
    let a = c.args in
    let t = text_at a.p a.n in
    let x = c.pass_apart-k.ensures in
    let o = x.on in (
      omega arith,
      omega arith,
      count_no a.latin a.standard a.d.now a.rows.now a.count t _ _ c.if-count-k.false
          (count_pass a.latin a.standard a.d.now a.rows.now a.count a.sums.now c.requires.known t a.sum
          c.requires.n_in_bounds.1 _ _ _ x c.loop-i.invariant.2)
          (sym c.if-is_name.false ∙ c.is_name.ensures),
    )

pub returns : goal.returns
returns c = let a = c.args in
    count_over a.latin a.standard a.d.now a.rows.now a.count (text_at a.p a.n) _ _ c.loop-i-test.false
    c.loop-i.invariant.2

pub overflow_add-found : goal.overflow_add-found
overflow_add-found c = let x = c.pass_apart-k.ensures.on in omega arith
