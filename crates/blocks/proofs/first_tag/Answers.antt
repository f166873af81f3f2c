use mathlib.Core.Path.{◌∙◌, sym}
use Rattle.blocks.proofs.Turns.{empty_lines, empty_standing, first_range, first_line}
use Rattle.blocks.proofs.first_tag.Goals as goal

pub value_tag-r-requires : goal.value_tag-r-requires
value_tag-r-requires c =
    let p = c.requires in record {
      place_bound = p.place_bound;
      standing = empty_standing _ _ _ _ _ p.lines_len.1 p.lines_len.0 p.lines_len.2 c.empty_block-b.ensures;
    }

pub returns-then-is_named : goal.returns-then-is_named
returns-then-is_named c =
    let p = c.requires in
    first_range _ _ _ _ _ p.lines_len.1 p.lines_len.0 p.lines_len.2 _ _ _ _ _ p.place_bound.1
    (sym c.is_named.ensures ∙ c.if-is_named.true)
    c.range_at-r.ensures c.listed.ensures

pub returns : goal.returns
returns c =
    let p = c.requires in
    let l = empty_lines _ _ _ _ _ p.lines_len.1 p.lines_len.0 p.lines_len.2 c.empty_block-b.ensures in
    first_line _ _ _ _ _ (sym c.is_named.ensures ∙ c.if-is_named.false)
    (c.value_tag-r.ensures _ _ l) c.listed-2.ensures
