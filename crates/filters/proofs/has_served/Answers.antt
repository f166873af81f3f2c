use mathlib.Core.Path.{◌≡◌, sym, ap, ◌∙◌}
use Prim.Native.Nat.{ℕ}
use native.Mathlib.Omega.{arith}
use lib.ListN.{get_or}
use Rattle.filters.specs.Code.{text_at}
use Rattle.filters.specs.Sums.{sum_in, bin_of}
use Rattle.filters.proofs.Asked.{served_by, some_found, some_next, some_over, served_begin, served_row, served_said}
use Rattle.filters.proofs.Summing.{bin_unserved}
use Rattle.filters.proofs.Passing.{apart_unserved}
use Rattle.filters.proofs.has_served.Goals as goal

pub name_sum-sum-requires : goal.name_sum-sum-requires
name_sum-sum-requires c = c.requires.n_in_bounds

pub offset_bounds-sums-bin : goal.offset_bounds-sums-bin
offset_bounds-sums-bin c = omega (arith, c.bin_of-bin.ensures.2)

pub bounds-sums-bin : goal.bounds-sums-bin
bounds-sums-bin c = omega (arith, c.bin_of-bin.ensures.2, c.requires.known.summing.room)

pub returns-then-sums-bin-eq0 : goal.returns-then-sums-bin-eq0
returns-then-sums-bin-eq0 c =
    let a = c.args in
    let t = text_at a.p a.n in
    let e : c.bin_of-bin.result ≡ bin_of (sum_in a.latin a.d.now t) = c.bin_of-bin.ensures.0
    ∙ ap bin_of c.name_sum-sum.ensures in
    bin_unserved a.latin a.standard a.d.now a.rows.now a.count a.sums.now c.requires.known t
    (ap (λ (k : ℕ). get_or a.sums.now k 0) (sym e) ∙ c.if-sums-bin-eq0.true)

pub pass_apart-requires : goal.pass_apart-requires
pass_apart-requires c =
    let y = c.requires.known in
    let f = y.lying.few in
    let r = y.summing.room in
    (omega arith, omega arith)

pub returns-then-pass_apart-count : goal.returns-then-pass_apart-count
returns-then-pass_apart-count c =
    let a = c.args in
    apart_unserved a.latin a.standard a.d.now a.rows.now a.count a.sums.now c.requires.known (text_at a.p a.n) _
    c.name_sum-sum.ensures (rw c.if-pass_apart-count.true at c.pass_apart.ensures)

pub loop-i-init : goal.loop-i-init
loop-i-init c = let a = c.args in served_begin a.latin a.standard a.d.now a.rows.now a.count (text_at a.p a.n)

pub is_served-requires : goal.is_served-requires
is_served-requires c = record {
  known = c.requires.known;
  i_lt_count = (c.loop-i-test.true, c.requires.n_in_bounds, c.name_sum-sum.ensures);
}

pub returns-then-is_served : goal.returns-then-is_served
returns-then-is_served c =
    let a = c.args in
    let t = text_at a.p a.n in
    let i = c.loop-i.i in
    let k = c.loop-i-test.true in
    let r = served_row a.latin a.standard a.d.now a.rows.now a.count t c.requires.known.lying i k _
    (sym c.if-is_served.true ∙ c.is_served.ensures) in
    served_said a.latin a.standard a.d.now a.rows.now a.count t _
    (some_found a.rows.now a.count (served_by a.latin a.standard a.d.now t) i k c.loop-i.invariant r)

pub loop-i-preserved : goal.loop-i-preserved
loop-i-preserved c =
    let a = c.args in
    let t = text_at a.p a.n in
    let i = c.loop-i.i in
    let k = c.loop-i-test.true in
    let r = served_row a.latin a.standard a.d.now a.rows.now a.count t c.requires.known.lying i k _
    (sym c.if-is_served.false ∙ c.is_served.ensures) in
    some_next a.rows.now a.count (served_by a.latin a.standard a.d.now t) i k c.loop-i.invariant r

pub returns : goal.returns
returns c =
    let a = c.args in
    let t = text_at a.p a.n in
    served_said a.latin a.standard a.d.now a.rows.now a.count t _
    (some_over a.rows.now a.count (served_by a.latin a.standard a.d.now t) c.loop-i.i c.loop-i-test.false
    c.loop-i.invariant)
