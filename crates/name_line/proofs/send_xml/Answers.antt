-- `name_line::send_xml` meets its contract.
use mathlib.Core.Path.{sym, ap, ◌∙◌}
use native.Mathlib.Omega.{arith}
use Prim.Native.Nat.{ℕ}
use lib.ListN.{take}
use lib.Seq.{length-take-le}
use Rattle.commas.specs.rule.Csv.{field_bytes}
use Rattle.sink.specs.Sent.{sent_as}
use Rattle.name_line.specs.Names.{rest_text, from_of, rest_is}
use Rattle.name_line.proofs.send_xml.Goals as goal

pub slice_bounds-xml_send_rest-end : goal.slice_bounds-xml_send_rest-end
slice_bounds-xml_send_rest-end c = sym (length-take-le c.end_of-end.result
    c.args.d.now c.end_of-end.ensures.1)

pub xml_send_rest-requires : goal.xml_send_rest-requires
xml_send_rest-requires c = omega (
  arith,
  length-take-le c.end_of-end.result
      c.args.d.now c.end_of-end.ensures.1,
  c.from_of-from.ensures.1,
)

pub returns : goal.returns
returns c =
    let a = c.args in
    sent_as c.xml_send_rest.ensures (ap field_bytes
    (ap (λ (q : ℕ). rest_text a.latin (take c.end_of-end.result a.d.now) q)
    c.from_of-from.ensures.0
    ∙ ap (λ (q : ℕ). rest_text a.latin (take q a.d.now) (from_of q a.place)) c.end_of-end.ensures.0
    ∙ rest_is a.latin a.d.now a.place a.long))
