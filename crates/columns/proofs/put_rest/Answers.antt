use mathlib.Core.Path.{◌≡◌, refl, sym, ap, ◌∙◌}
use mathlib.Core.List.{List}
use Prim.Native.Nat.{◌+◌, ◌-◌, ◌*◌}
use native.Mathlib.Nat.{add-zero}
use native.Mathlib.Omega.{arith}
use lib.ListN.{length, get_or}
use Rattle.matrix.specs.declared.Entry.{Entry}
use Rattle.matrix.specs.Put.{put_entries}
use Rattle.matrix.specs.Entry.{entries_none}
use Rattle.columns.specs.Marked.{marked_entry, marked_from, marked_on, marked_off, marked_none, marked_good}
use Rattle.columns.specs.Stretch.{unmarked_same, alike_next, alike_count}
use Rattle.columns.specs.Room.{entry_then, noughts_then}
use Rattle.columns.proofs.put_rest.Goals as goal
use Rattle.columns.proofs.put_rest.Goals.{After-put_entry-arg-1, After-put_noughts-arg-1}

-- there is room for sixteen entries more
sixteen : (c : After-put_noughts-arg-1) → length (marked_from c.args.there
    c.args.allowed.now
    c.args.present.now
    c.loop-c.c
    (length c.args.allowed.now -
    c.loop-c.c))
    ≡ 16 + length (marked_from c.args.there
    c.args.allowed.now
    c.args.present.now
    (c.loop-c.c + 16)
    (length c.args.allowed.now -
    (c.loop-c.c + 16)))
sixteen c = alike_count c.args.there
    c.are_alike.ensures c.if-are_alike.true

-- there is room for one entry more
one : (c : After-put_entry-arg-1) → length
    (marked_from c.args.there
    c.args.allowed.now
    c.args.present.now
    c.loop-c.c
    (length c.args.allowed.now - c.loop-c.c))
    ≡ 1 + length
    (marked_from c.args.there
    c.args.allowed.now
    c.args.present.now
    (c.loop-c.c + 1)
    (length c.args.allowed.now - (c.loop-c.c + 1)))
one c =
    let args = c.args in
    ap (λ (es : List Entry). length es) (marked_on args.there args.allowed.now args.present.now c.loop-c.c
    c.loop-c-test.true c.if-allowed-b-eq1.true) ∙ omega arith

pub loop-c-init : goal.loop-c-init
loop-c-init c = (omega arith, refl, simp add-zero)

pub are_alike-requires : goal.are_alike-requires
are_alike-requires c = (omega (arith, c.loop-c-test.true), c.requires.allowed_in_bounds)

pub overflow_add-flags : goal.overflow_add-flags
overflow_add-flags c = let p = c.requires.room in
    omega (arith, sixteen c, c.loop-c.invariant.0, p.behind, p.inside)

pub overflow_mul-k : goal.overflow_mul-k
overflow_mul-k c = let p = c.requires.room in
    omega (arith, sixteen c, c.loop-c.invariant.0, p.behind, p.inside)

pub overflow_add-values : goal.overflow_add-values
overflow_add-values c = let p = c.requires.room in
    omega (arith, sixteen c, c.loop-c.invariant.0, p.behind, p.inside)

pub put_noughts-requires : goal.put_noughts-requires
put_noughts-requires c =
    let l = c.loop-c in
    let p = c.requires.room in
    (omega (arith, sixteen c, l.invariant.0, p.behind), omega (arith, sixteen c, l.invariant.0, l.invariant.1, p.inside))

pub overflow_add-k : goal.overflow_add-k
overflow_add-k c =
    let p = c.requires.room in
    omega (
      arith,
      sixteen (goal.at.overflow_add-k c).After-put_noughts-arg-1,
      c.loop-c.invariant.0,
      p.behind,
      p.inside,
    )

pub overflow_add-c-then-are_alike : goal.overflow_add-c-then-are_alike
overflow_add-c-then-are_alike c = omega (
  arith,
  c.are_alike.ensures.inside
      c.if-are_alike.true,
)

pub loop-c-smaller-then-are_alike : goal.loop-c-smaller-then-are_alike
loop-c-smaller-then-are_alike c = omega (arith, c.loop-c-test.true)

pub loop-c-preserved-then-are_alike : goal.loop-c-preserved-then-are_alike
loop-c-preserved-then-are_alike c =
    let l = c.loop-c in
    let a = c.args in
    let p = c.requires.room in
    let rest = marked_from a.there a.allowed.now a.present.now (l.c + 16) (length a.allowed.now - (l.c + 16)) in
    let e = alike_next a.there c.are_alike.ensures c.if-are_alike.true in
    let d : l.c + 1 + 15 ≡ l.c + 16 = omega arith in
    let f : a.flags + (l.k + 16) ≡ a.flags + l.k + 16 = omega arith in
    let v : a.values + 8 * (l.k + 16) ≡ a.values + 8 * l.k + 128 = omega arith in
    rw d (
      omega (arith, sixteen (goal.at.loop-c-preserved-then-are_alike c).After-put_noughts-arg-1, l.invariant.0),
      c.put_noughts.auto.out ∙ l.invariant.1,
      rw (c.put_noughts.ensures, f, v) (noughts_then l.out (a.flags + l.k) (a.values + 8 * l.k) a.there rest
          (omega (arith, sixteen (goal.at.loop-c-preserved-then-are_alike c).After-put_noughts-arg-1, l.invariant.0, p.behind))
          ∙ ap (λ (es : List Entry). put_entries l.out (a.flags + l.k) (a.values + 8 * l.k) es) (sym e) ∙ l.invariant.2),
    )

pub bounds-allowed-b : goal.bounds-allowed-b
bounds-allowed-b c = c.loop-c-test.true

pub bounds-present-b : goal.bounds-present-b
bounds-present-b c =
    omega (
      arith,
      c.loop-c-test.true,
      c.requires.allowed_in_bounds,
    )

-- left: add-put-entry : tie.Need-overflow-add-put-entry invariant-loop decreases-loop
-- add-put-entry
--     c = let p = c.before.before.before.before.before.before.before.before.before.before.before.before.before.requires.1 in
--     omega (arith, one c, c.before.before.before.before.before.before.before.before.before.loop.invariant.0, p.behind, p.inside)

-- left: mul-put-entry : tie.Need-overflow-mul-put-entry invariant-loop decreases-loop
-- mul-put-entry
--     c = let p = c.before.before.before.before.before.before.before.before.before.before.before.before.before.requires.1 in
--     omega (arith, one c, c.before.before.before.before.before.before.before.before.before.loop.invariant.0, p.behind, p.inside)

-- left: add-put-entry-2 : tie.Need-overflow-add-put-entry-2 invariant-loop decreases-loop
-- add-put-entry-2
--     c = let p = c.before.before.before.before.before.before.before.before.before.before.before.before.before.requires.1 in
--     omega (arith, one c, c.before.before.before.before.before.before.before.before.before.loop.invariant.0, p.behind, p.inside)

pub put_entry-requires : goal.put_entry-requires
put_entry-requires c =
    let l = c.loop-c in
    let p = c.requires.room in record {
      entry_good = rw c.member_entry-e.ensures (marked_good c.args.there _);
      flags_lt_values = (omega (arith, one c, l.invariant.0, p.behind), omega (arith, one c, l.invariant.0, l.invariant.1, p.inside));
    }

pub overflow_add-k-then-allowed-b-eq1 : goal.overflow_add-k-then-allowed-b-eq1
overflow_add-k-then-allowed-b-eq1 c =
    let p = c.requires.room in omega (
      arith,
      one (goal.at.overflow_add-k-then-allowed-b-eq1 c).After-put_entry-arg-1,
      c.loop-c.invariant.0,
      p.behind,
      p.inside,
    )

pub loop-c-smaller-then-allowed-b-eq1 : goal.loop-c-smaller-then-allowed-b-eq1
loop-c-smaller-then-allowed-b-eq1 c = omega (arith, c.loop-c-test.true)

pub loop-c-preserved-then-allowed-b-eq1 : goal.loop-c-preserved-then-allowed-b-eq1
loop-c-preserved-then-allowed-b-eq1 c =
    let l = c.loop-c in
    let a = c.args in
    let p = c.requires.room in
    let rest = marked_from a.there a.allowed.now a.present.now (l.c + 1) (length a.allowed.now - (l.c + 1)) in
    let e = marked_on a.there a.allowed.now a.present.now l.c c.loop-c-test.true c.if-allowed-b-eq1.true in
    let f : a.flags + (l.k + 1) ≡ a.flags + l.k + 1 = omega arith in
    let v : a.values + 8 * (l.k + 1) ≡ a.values + 8 * l.k + 8 = omega arith in (
      omega (arith, one (goal.at.loop-c-preserved-then-allowed-b-eq1 c).After-put_entry-arg-1, l.invariant.0),
      c.put_entry.auto.out ∙ l.invariant.1,
      rw (c.put_entry.ensures, c.member_entry-e.ensures, f, v)
          (entry_then l.out (a.flags + l.k) (a.values + 8 * l.k) (marked_entry a.there (get_or a.present.now l.c 0)) rest
          (omega (arith, one (goal.at.loop-c-preserved-then-allowed-b-eq1 c).After-put_entry-arg-1, l.invariant.0, p.behind))
          ∙ ap (λ (es : List Entry). put_entries l.out (a.flags + l.k) (a.values + 8 * l.k) es) (sym e) ∙ l.invariant.2),
    )

pub pass_unmarked-c-requires : goal.pass_unmarked-c-requires
pass_unmarked-c-requires c = omega (arith, c.loop-c-test.true)

pub loop-c-smaller : goal.loop-c-smaller
loop-c-smaller c = omega (arith, c.loop-c-test.true, c.pass_unmarked-c.ensures.on)

pub loop-c-preserved : goal.loop-c-preserved
loop-c-preserved c =
    let l = c.loop-c in
    let a = c.args in
    let e = marked_off a.there a.allowed.now a.present.now l.c c.loop-c-test.true c.if-allowed-b-eq1.false
    ∙ unmarked_same a.there a.allowed.now a.present.now (l.c + 1) c.pass_unmarked-c.result c.pass_unmarked-c.ensures in (
      omega (arith, ap (λ (es : List Entry). length es) e, l.invariant.0),
      l.invariant.1,
      ap (λ (es : List Entry). put_entries l.out (a.flags + l.k) (a.values + 8 * l.k) es) (sym e) ∙ l.invariant.2,
    )

pub shape_of-out : goal.shape_of-out
shape_of-out c = c.loop-c.invariant.1

pub returns : goal.returns
returns c =
    let l = c.loop-c in
    let a = c.args in
    let e = marked_none a.there a.allowed.now a.present.now l.c c.loop-c-test.false in
    record {
      count = omega (arith, ap (λ (es : List Entry). length es) e, l.invariant.0);
      leaves = sym (entries_none l.out (a.flags + l.k) (a.values + 8 * l.k))
          ∙ ap (λ (es : List Entry). put_entries l.out (a.flags + l.k) (a.values + 8 * l.k) es) (sym e) ∙ l.invariant.2;
    }
