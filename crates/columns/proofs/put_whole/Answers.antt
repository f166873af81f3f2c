-- `columns::put_whole` meets its contract: missing, or byte by byte.
-- Assumes nothing.
use native.Mathlib.Omega.{arith}
use Rattle.columns.specs.Whole.{whole_missing, whole_set}
use Rattle.columns.proofs.put_whole.Goals as goal

pub returns-then-bytes-at-eq32 : goal.returns-then-bytes-at-eq32
returns-then-bytes-at-eq32 c =
    let a = c.args in
    let p = c.requires in
    whole_missing a.bytes.now a.at a.w a.flags a.values p.le_w.0 p.bytes_value c.if-bytes-at-eq32.true
    a.met.now a.out.now
    c.put_many.ensures

pub returns : goal.returns
returns c =
    let a = c.args in
    let p = c.requires in
    let put = c.put_bits in
    whole_set a.bytes.now a.at a.w a.flags a.values p.le_w.0 p.bytes_value
    c.if-bytes-at-eq32.false a.met.now
    put.new.met a.out.now p.le_w.3 put.ensures

pub bounds-bytes-at : goal.bounds-bytes-at
bounds-bytes-at c = omega (arith, c.requires.le_w.0, c.requires.le_w.2)

pub put_many-requires : goal.put_many-requires
put_many-requires c = (
  c.requires.le_w.4.behind,
  c.requires.le_w.4.inside,
)

pub put_bits-requires : goal.put_bits-requires
put_bits-requires c = (
  c.requires.le_w.1,
  c.requires.le_w.2,
  c.requires.le_w.3,
  c.requires.le_w.4,
)
