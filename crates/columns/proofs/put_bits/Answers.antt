use mathlib.Core.Path.{◌≡◌, refl, ◌∙◌, subst}
use mathlib.Core.Bool.{true}
use Prim.Native.Nat.{ℕ, ◌+◌, ◌*◌, ◌≤◌, ◌<◌}
use native.Mathlib.Omega.{arith}
use lib.ListN.{length, length-set}
use Rattle.columns.specs.Marked.{marked_entry, marked_good}
use Rattle.columns.specs.Whole.{BitsPut, bits_start, bits_one, bits_none}
use Rattle.columns.proofs.put_bits.Goals as goal
use Rattle.columns.proofs.put_bits.Goals.{In-loop-k, then-bytes-at-eq-HAS, else-bytes-at-eq-HAS}

-- there is room for the entry that is at hand
fits : (c : In-loop-k) → let a = c.args in let k = c.loop-k.k in
    (a.flags + k < a.values + 8 * k) × (a.values + 8 * k + 8 ≤ length a.out.now) × (a.at + k < length a.bytes.now)
    × (k + 1 < length a.met.now)
fits c =
    let p = c.requires in
    let l = c.loop-k-test.true in
    let r = p.3.behind in
    let s = p.3.inside in
    (omega (arith, p.0), omega (arith, p.0), omega (arith, p.1), omega (arith, p.2))

pub loop-k-init : goal.loop-k-init
loop-k-init c = (refl, refl, bits_start _ _ _ _ _ _ _)

pub put_entry-requires : goal.put_entry-requires
unfolding marked_entry
put_entry-requires c =
    let f = fits (goal.at.put_entry-requires c).In-loop-k in record {
      entry_good = marked_good true 1;
      flags_lt_values = (f.0, omega (arith, f.1, c.loop-k.invariant.1));
    }

pub put_entry-requires-else-bytes-at-eq-HAS : goal.put_entry-requires-else-bytes-at-eq-HAS
unfolding marked_entry
put_entry-requires-else-bytes-at-eq-HAS c =
    let f = fits (goal.at.put_entry-requires-else-bytes-at-eq-HAS c).In-loop-k in record {
      entry_good = marked_good true 0;
      flags_lt_values = (f.0, omega (arith, f.1, c.loop-k.invariant.1));
    }

pub loop-k-preserved : goal.loop-k-preserved
loop-k-preserved c =
    let l = c.loop-k in
    let p = c.requires in
    let low = c.loop-k-test.true in
    elim c.if-bytes-at-eq-HAS.branch [
      | then-bytes-at-eq-HAS w ↦ (
        rw (w.met-is, length-set) l.invariant.0,
        rw w.out-is (w.put_entry.auto.out ∙ l.invariant.1),
        rw (w.met-is, w.out-is) (bits_one _ _ _ _ _ _ l.invariant.2 low p.3.behind w.if-bytes-at-eq-HAS.true l.invariant.0
            (omega (arith, p.2)) w.put_entry.ensures),
      )
      | else-bytes-at-eq-HAS w ↦ (
        rw w.met-is l.invariant.0,
        rw w.out-is (w.put_entry-else-bytes-at-eq-HAS.auto.out ∙ l.invariant.1),
        rw (w.met-is, w.out-is) (bits_none _ _ _ _ _ _ l.invariant.2 low p.3.behind w.if-bytes-at-eq-HAS.false
            w.put_entry-else-bytes-at-eq-HAS.ensures),
      )
    ]

pub returns : goal.returns
returns c =
    let a = c.args in
    let l = c.loop-k in
    let e : l.k ≡ a.w = omega (arith, c.loop-k-test.false) in
    subst (λ (j : ℕ). BitsPut a.bytes.now a.at a.w j a.flags a.values a.met.now l.met a.out.now l.out) e
    l.invariant.2

pub overflow_add-at : goal.overflow_add-at
overflow_add-at c = omega (arith, (fits c).2)

pub bounds-bytes-at : goal.bounds-bytes-at
bounds-bytes-at c = omega (arith, (fits (goal.at.bounds-bytes-at c).In-loop-k).2)

pub bounds-met-k : goal.bounds-met-k
bounds-met-k c = omega (arith, (fits (goal.at.bounds-met-k c).In-loop-k).3, c.loop-k.invariant.0)

pub overflow_add-flags : goal.overflow_add-flags
overflow_add-flags c = omega (arith, (fits (goal.at.overflow_add-flags c).In-loop-k).0, (fits (goal.at.overflow_add-flags c).In-loop-k).1)

pub overflow_mul-k : goal.overflow_mul-k
overflow_mul-k c = omega (arith, (fits (goal.at.overflow_mul-k c).In-loop-k).0, (fits (goal.at.overflow_mul-k c).In-loop-k).1)

pub overflow_add-values : goal.overflow_add-values
overflow_add-values c = omega (
  arith,
  (fits (goal.at.overflow_add-values c).In-loop-k).0,
  (fits (goal.at.overflow_add-values c).In-loop-k).1,
)

pub overflow_add-flags-else-bytes-at-eq-HAS : goal.overflow_add-flags-else-bytes-at-eq-HAS
overflow_add-flags-else-bytes-at-eq-HAS c = omega (
  arith,
  (fits (goal.at.overflow_add-flags-else-bytes-at-eq-HAS c).In-loop-k).0,
  (fits (goal.at.overflow_add-flags-else-bytes-at-eq-HAS c).In-loop-k).1,
)

pub overflow_mul-k-else-bytes-at-eq-HAS : goal.overflow_mul-k-else-bytes-at-eq-HAS
overflow_mul-k-else-bytes-at-eq-HAS c = omega (
  arith,
  (fits (goal.at.overflow_mul-k-else-bytes-at-eq-HAS c).In-loop-k).0,
  (fits (goal.at.overflow_mul-k-else-bytes-at-eq-HAS c).In-loop-k).1,
)

pub overflow_add-values-else-bytes-at-eq-HAS : goal.overflow_add-values-else-bytes-at-eq-HAS
overflow_add-values-else-bytes-at-eq-HAS c = omega (
  arith,
  (fits (goal.at.overflow_add-values-else-bytes-at-eq-HAS c).In-loop-k).0,
  (fits (goal.at.overflow_add-values-else-bytes-at-eq-HAS c).In-loop-k).1,
)

pub shape_of-met : goal.shape_of-met
shape_of-met c = c.loop-k.invariant.0

pub shape_of-out : goal.shape_of-out
shape_of-out c = c.loop-k.invariant.1
