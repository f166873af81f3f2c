use mathlib.Core.Path.{refl, ◌∙◌}
use mathlib.Core.Logic.{⊎_elim}
use native.Mathlib.Omega.{arith}
use Rattle.below.specs.Below.{lt_or_le}
use Rattle.pages.specs.Law.{lines_out}
use Rattle.pages.specs.Stand.{ran_none, ran_then, ran_left, ran_paged}
use Rattle.pages.proofs.send_lines.Goals as goal

pub loop-k-init : goal.loop-k-init
loop-k-init c = (ran_none _ _ _ _ _ _ (omega arith), c.first_line-n.ensures)

pub send_run-r-requires : goal.send_run-r-requires
send_run-r-requires c = record {
  classes = c.requires;
  count_bound = omega (arith, c.loop-k-test.true);
}

pub shape_of-out-then-r : goal.shape_of-out-then-r
shape_of-out-then-r c = c.send_run-r.ensures.sent.room
    ∙ c.loop-k.invariant.0.sent.room

-- the run ended the block
pub returns-then-r : goal.returns-then-r
returns-then-r c =
    let inv = c.loop-k.invariant in
    ran_paged _ (ran_then inv.0 refl c.send_run-r.ensures) (rw c.if-r.true) inv.1

pub send_next-l-requires : goal.send_next-l-requires
send_next-l-requires c = record {
  classes = c.requires;
  k_bound = c.send_run-r.ensures.most;
}

pub shape_of-out-then-l : goal.shape_of-out-then-l
shape_of-out-then-l c = c.send_next-l.ensures.ran.sent.room
    ∙ c.send_run-r.ensures.sent.room
    ∙ c.loop-k.invariant.0.sent.room

pub returns-then-l : goal.returns-then-l
returns-then-l c =
    let inv = c.loop-k.invariant in
    ran_paged _ (ran_then (ran_then inv.0 refl c.send_run-r.ensures)
    c.if-r.false c.send_next-l.ensures.ran)
    (rw c.if-l.true) inv.1

pub loop-k-smaller : goal.loop-k-smaller
loop-k-smaller c =
    let r = c.send_run-r.ensures in
    let l = c.send_next-l.ensures in
    let t = c.loop-k-test.true in
    ⊎_elim (λ h. omega (arith, r.more, l.count_value h, t, l.ran.most)) (λ h. omega (arith, l.ran.more, l.ran.most, t))
    (lt_or_le c.send_run-r.result.count 4096)

pub loop-k-preserved : goal.loop-k-preserved
loop-k-preserved c =
    let inv = c.loop-k.invariant in (
      ran_left (ran_then (ran_then inv.0 refl c.send_run-r.ensures)
          c.if-r.false c.send_next-l.ensures.ran) c.if-l.false,
      inv.1,
    )

pub returns : goal.returns
returns c = ran_paged _ c.loop-k.invariant.0 (lines_out _ _ _ c.loop-k-test.false) c.loop-k.invariant.1

pub shape_of-out : goal.shape_of-out
shape_of-out c = c.loop-k.invariant.0.sent.room
