-- `import_names::same_xml` meets its contract.
use mathlib.Core.Path.{sym, ap, ◌∙◌}
use mathlib.Core.List.{List}
use mathlib.Core.Bool.{false}
use Prim.Native.Nat.{ℕ}
use native.Mathlib.Omega.{arith}
use lib.ListN.{take}
use lib.Seq.{length-take-le}
use Rattle.import_rule.specs.rule.Text.{same_bytes}
use Rattle.import_lines.specs.Undoubled.{undoubled}
use Rattle.name_line.specs.Names.{rest_text, from_of, rest_is}
use Rattle.import_names.proofs.same_xml.Goals as goal

pub slice_bounds-same_rest-end : goal.slice_bounds-same_rest-end
slice_bounds-same_rest-end c = sym (length-take-le c.end_of-end.result
    c.args.def.now c.end_of-end.ensures.1)

pub same_rest-requires : goal.same_rest-requires
same_rest-requires c =
    omega (
      arith,
      length-take-le c.end_of-end.result c.args.def.now
          c.end_of-end.ensures.1,
      c.from_of-from.ensures.1,
    )

pub returns : goal.returns
returns c =
    let a = c.args in
    c.same_rest.ensures
    ∙ ap (λ (s : List ℕ). same_bytes s (undoubled false a.raw.now))
    (ap (λ (q : ℕ). rest_text a.latin (take c.end_of-end.result a.def.now) q)
    c.from_of-from.ensures.0
    ∙ ap (λ (q : ℕ). rest_text a.latin (take q a.def.now) (from_of q a.place)) c.end_of-end.ensures.0
    ∙ rest_is a.latin a.def.now a.place a.long)
