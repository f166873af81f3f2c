-- Theorems of specs/Uses.antt, kept here: a wrong definition is refused by them.
use Rattle.std.specs.Prelude.{◌≡◌, Bool, ◌&&◌, List, ℕ, ◌-◌, ◌<◌, eqb, leb, ℤ}
use Rattle.std.proofs.Common.{⊎_elim, arith, eqb-true, leb-true}
use Rattle.std.proofs.Math.Bool.{true, false, cond}
use Rattle.below.specs.Below.{and_both, and_left, and_right, either_true, all_at_lem}
use Rattle.layout.specs.rule.Layout.{mark_xml, row_base, columns_at}
use Rattle.layout.specs.declared.Header.{Header}
use Rattle.layout.specs.declared.Columns.{Columns}
use Rattle.uses.specs.rule.Uses.{unused, rows_unused, use_known, serial_typed, weight_typed, unfiltered, own_use, filter_good, use_good}
use Rattle.uses.specs.rule.Uses.{uses_good, xml_good, kind_good}
use Rattle.uses.specs.Uses.{UseFew}

none_few : (i : ℕ) (c : Columns) → unused c ≡ true → UseFew i c
none_few i c e =
    let u = eqb-true c.usage 0 (and_left (eqb c.usage 0) (eqb c.filter 0) e) in
    let f = eqb-true c.filter 0 (and_right (eqb c.usage 0) (eqb c.filter 0) e) in
    record { known = omega arith; earlier = omega arith }

good_few : (t : List ℤ) (i : ℕ) (c : Columns) → use_good t i c ≡ true → UseFew i c
unfolding use_good filter_good
good_few t i c e =
    let a = and_left (use_known c && serial_typed c) (weight_typed c)
    (and_left (use_known c && serial_typed c && weight_typed c) (unfiltered c) (and_left (own_use c) (filter_good t i c) e)) in
    let l = leb c.filter i in
    let k = eqb (columns_at t (row_base (c.filter - 1))).kind 5 in
    record {
      known = leb-true c.usage 2 (and_left (use_known c) (serial_typed c) a);
      earlier =
          ⊎_elim (λ z. let f = eqb-true c.filter 0 z in omega arith) (λ z. leb-true c.filter i (and_left l k z))
          (either_true (eqb c.filter 0) (l && k) (and_right (own_use c) (filter_good t i c) e));
    }

module _ (t : List ℤ) (h : Header) (g : kind_good t h ≡ true) where
  pub use_few : (i : ℕ) → i < h.rows → UseFew i (columns_at t (row_base i))
  unfolding kind_good rows_unused xml_good uses_good
  use_few i l = go (eqb h.mark mark_xml) g
    where
      go : (b : Bool) → cond b (xml_good t h.rows h.lines) (rows_unused t h.rows) ≡ true → UseFew i (columns_at t (row_base i))
      go true e = good_few t i (columns_at t (row_base i))
          (all_at_lem (λ k. use_good t k (columns_at t (row_base k))) h.rows i l (and_both (and_both e).0).0)
      go false e = none_few i (columns_at t (row_base i)) (all_at_lem (λ k. unused (columns_at t (row_base k))) h.rows i l e)
