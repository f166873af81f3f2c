-- `sets::bits::read_each` meets its contract: by what the bytes are, and whether the list has room.
use mathlib.Core.Path.{◌≡◌, sym, ◌∙◌}
use lib.ListN.{length}
use Rattle.fields.specs.rule.Legal.{legal}
use Rattle.fields.specs.rule.Field.{holds, members}
use Rattle.sets.specs.Alike.{all_at}
use Rattle.sets.specs.Full.{each_defined}
use Rattle.sets.specs.Sets.{codes_to, set_bits_at, bits_field_at}
use Rattle.sets.proofs.AlikeLaws.{spaces_alike, bits_alike, each_alike}
use Rattle.sets.proofs.SetLaws.{read_missing, read_illegal, read_room, read_short, bits_missing, bits_members, bits_wrong}
use Rattle.sets.proofs.bits.read_each.Goals as goal
use Rattle.sets.proofs.bits.read_each.Goals.{After-count_each-n, After-run_is, After-run_is-2, Else-not-run_is}

-- the bytes of all categories are spaces, or `0` and `1`
spaces : (c : After-run_is) → let a = c.args in
    c.run_is.result ≡ all_at 32 32 a.bytes.now a.at a.w (legal a.t.now a.rows a.row)
spaces c = let a = c.args in c.run_is.ensures
    ∙ each_alike 32 32 a.bytes.now a.at a.w (legal a.t.now a.rows a.row) c.requires.each_legal

bits : (c : After-run_is-2) → let a = c.args in
    c.run_is-2.result ≡ all_at 48 49 a.bytes.now a.at a.w (legal a.t.now a.rows a.row)
bits c = let a = c.args in
    c.run_is-2.ensures ∙ each_alike 48 49 a.bytes.now a.at a.w (legal a.t.now a.rows a.row)
    c.requires.each_legal

-- all bytes are `0` and `1`
set : (c : Else-not-run_is) → let a = c.args in
    let codes = codes_to a.t.now a.rows a.row a.w in
    bits_field_at codes a.at a.bytes.now ≡ holds (members (set_bits_at codes a.at a.bytes.now))
set c = bits_members _ _ (spaces_alike _ ∙ sym (spaces (goal.at.Else-not-run_is c).After-run_is) ∙ c.if-run_is.false)
    (bits_alike _ ∙ sym (bits (goal.at.Else-not-run_is c).After-run_is-2) ∙ c.if-not-run_is.false)

-- how many members
counted : (c : After-count_each-n) → let a = c.args in
    c.count_each-n.result ≡ length (set_bits_at (codes_to a.t.now a.rows a.row a.w) a.at a.bytes.now)
counted c =
    let a = c.args in
    rw (each_defined a.t.now a.rows a.row a.w c.requires.each_legal) c.count_each-n.ensures

pub returns-then-run_is : goal.returns-then-run_is
returns-then-run_is c = read_missing _ _ (bits_missing _ _
    (spaces_alike _ ∙ sym (spaces (goal.at.returns-then-run_is c).After-run_is) ∙ c.if-run_is.true))

pub returns-then-not-run_is : goal.returns-then-not-run_is
returns-then-not-run_is c =
    read_illegal _ _
    (bits_wrong _ _ (spaces_alike _ ∙ sym (spaces (goal.at.returns-then-not-run_is c).After-run_is) ∙ c.if-run_is.false)
    (bits_alike _ ∙ sym (bits (goal.at.returns-then-not-run_is c).After-run_is-2) ∙ c.if-not-run_is.true))

pub fill_each-requires : goal.fill_each-requires
fill_each-requires c = record {
  bits_room = c.requires.bits_room;
  bytes_in_bounds = rw c.count_each-n.ensures at c.if-n-list.true;
}

pub returns-then-n-list : goal.returns-then-n-list
returns-then-n-list c =
    let a = c.args in
    read_room _ _ _ _ (set (goal.at.returns-then-n-list c).Else-not-run_is) (counted (goal.at.returns-then-n-list c).After-count_each-n) _
    c.if-n-list.true (rw (each_defined a.t.now a.rows a.row a.w
    c.requires.each_legal) c.fill_each.ensures)

pub returns : goal.returns
returns c = read_short _ _ _ _ (set (goal.at.returns c).Else-not-run_is) (counted (goal.at.returns c).After-count_each-n) c.if-n-list.false
