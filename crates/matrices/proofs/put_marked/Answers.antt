-- `matrices::put_marked` meets its contract: the marks of the row, then its entries, then the summaries of its columns.
-- Assumes nothing.
use mathlib.Core.Path.{◌≡◌, sym, ap, ◌∙◌}
use mathlib.Core.Bool.{Bool, cond}
use mathlib.Core.List.{List, []}
use Prim.Native.Nat.{ℕ, ◌≤◌}
use native.Mathlib.Omega.{arith}
use lib.ListN.{length}
use Rattle.std.proofs.lemmas.Option.{IfSome_then}
use Rattle.little.specs.rule.Bytes.{put_at}
use Rattle.columns.specs.Room.{room_as}
use Rattle.columns.specs.Rows.{entries_by, count_by}
use Rattle.matrix.specs.declared.Entry.{Entry}
use Rattle.matrices.specs.Parts.{records_in, length_records}
use Rattle.matrices.specs.Blocks.{put_each}
use Rattle.matrices.specs.Summaries.{summaries_in, put_nothing}
use Rattle.matrices.specs.Met.{cleared, by_length}
use Rattle.matrices.specs.Stand.{row_there, row_met}
use Rattle.matrices.proofs.put_marked.Goals as goal

pub put_each-held-requires : goal.put_each-held-requires
put_each-held-requires c =
    let clear = c.clear in
    let marked = c.mark_row-m in
    let p = c.requires in
    let n = p.columns_bound in record {
      tens = (p.tens.0, p.tens.1, clear.auto.marks ∙ p.tens.2 ∙ sym marked.auto.allowed);
      marked_row = (marked.ensures, λ x l. cleared clear.ensures x);
      steps = p.steps;
      columns_bound = (n.0, λ k l. room_as (sym marked.ensures.many) (n.7 k l));
    }

pub put_summaries-requires : goal.put_summaries-requires
put_summaries-requires c =
    let put = c.put_each-held in
    let marked = c.mark_row-m in
    let a = c.args in
    let p = c.requires in
    let n = p.columns_bound in
    let m = marked.result in
    let many = marked.ensures.many in
    let rs = (records_in a.d.now a.s.first a.s.step a.p.from a.p.count) in
    let g : List ℕ → List Entry = λ x. entries_by a.row.kind a.t.now a.rows a.row x in
    let long : (r : List ℕ) → length (g r) ≡ m.count = λ r. by_length a.t.now a.rows a.row r a.row.kind ∙ sym many in
    let few : m.count ≤ a.columns = omega (arith, many, n.5) in
    let all : a.p.count ≡ length rs = sym (length_records a.d.now a.s.first a.s.step a.p.from a.p.count) in record {
      columns_bound = (
        n.1,
        few,
        omega (arith, many, n.6),
        omega (arith, n.3),
        omega (arith, many, n.4, put.auto.out),
        n.2,
      );
      columns_there = row_there g m.count a.columns long few rs a.out.now a.flags a.values all n.3
          (λ k l. room_as (sym many) (n.7 k l)) put.ensures.0 p.each_good;
      met_column = IfSome_then put.result put.ensures.1
          (λ held met. row_met g m.count a.columns long few rs a.out.now a.flags a.values all n.3
          (λ k l. room_as (sym many) (n.7 k l)) put.ensures.0 m.gap held _ met);
    }

pub returns-then-told : goal.returns-then-told
returns-then-told c =
    let put = c.put_each-held in
    let many = c.mark_row-m.ensures.many in
    let a = c.args in
    let rs = (records_in a.d.now a.s.first a.s.step a.p.from a.p.count) in
    let whole = put_each (λ x. entries_by a.row.kind a.t.now a.rows a.row x) a.columns a.out.now a.flags
    a.values rs in (
      many,
      c.put_summaries.ensures
          ∙ ap (λ (x : List ℕ). put_at x a.at (summaries_in x a.columns a.flags a.values a.p.count
          c.mark_row-m.result.count)) put.ensures.0
          ∙ ap (λ (k : ℕ). put_at whole a.at (summaries_in whole a.columns a.flags a.values a.p.count k)) many
          ∙ ap (λ (b : Bool). put_at whole a.at (cond b (summaries_in whole a.columns a.flags a.values a.p.count
          (count_by a.row.kind a.t.now a.rows a.row)) [])) (sym c.if-told.true),
    )

pub returns-else-told : goal.returns-else-told
returns-else-told c =
    let put = c.put_each-held in
    let a = c.args in
    let rs = (records_in a.d.now a.s.first a.s.step a.p.from a.p.count) in
    let whole = put_each (λ x. entries_by a.row.kind a.t.now a.rows a.row x) a.columns a.out.now a.flags
    a.values rs in (
      c.mark_row-m.ensures.many,
      put.ensures.0
          ∙ sym (put_nothing whole a.at)
          ∙ ap (λ (b : Bool). put_at whole a.at (cond b (summaries_in whole a.columns a.flags a.values a.p.count
          (count_by a.row.kind a.t.now a.rows a.row)) [])) (sym c.if-told.false),
    )
