use mathlib.Core.Path.{ap, ◌∙◌}
use Prim.Native.Nat.{ℕ}
use native.Mathlib.Omega.{arith}
use mathlib.Core.List.{List}
use Rattle.scan.specs.rule.Number.{decimal_of}
use Rattle.scan.specs.Number.{capped}
use Rattle.reading.specs.rule.Token.{amount_read, leading, after_point, without}
use Rattle.amounts.proofs.Hears.{size_both, some_both}
use Rattle.amounts.proofs.value_in.Goals as goal

pub read_digits-whole-requires : goal.read_digits-whole-requires
read_digits-whole-requires c = record {
  at_in_bounds = c.find_mark-sign.ensures.0;
  v_bound = omega arith;
}

pub find_mark-dot-requires : goal.find_mark-dot-requires
find_mark-dot-requires c = c.read_digits-whole.ensures.0

pub read_digits-rest-requires : goal.read_digits-rest-requires
read_digits-rest-requires c = record {
  at_in_bounds = c.find_mark-dot.ensures.0;
  v_bound = c.read_digits-whole.ensures.1;
}

pub is_over-over-requires : goal.is_over-over-requires
is_over-over-requires c = c.read_digits-rest.ensures.0

pub returns : goal.returns
unfolding amount_read
returns c =
    λ cs h.
    let a = c.find_mark-sign.ensures.1 cs h in
    let u : List ℕ = without 45 cs in
    let b = c.read_digits-whole.ensures.2 u a.1 in
    let e = c.find_mark-dot.ensures.1 (after_point u) b.2 in
    let t : List ℕ = without 46 (after_point u) in
    let f = c.read_digits-rest.ensures.2 t e.1 in
    let g = c.is_over-over.ensures (after_point t) f.2 in
    let z = f.0 ∙ ap (λ (x : ℕ). capped (decimal_of x (leading t))) b.0 ∙ size_both (leading u) (leading t) in
    rw (a.0, b.1, e.0, f.1, g, z) (rw (some_both (leading u) (leading t)))
