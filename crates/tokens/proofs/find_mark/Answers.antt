use borrow.Author.Tests.{eq-eqb, ne_eqb}
use Rattle.scan.proofs.Texts.{stepped, ended}
use Rattle.tokens.specs.Token.{mark_of}
use Rattle.tokens.proofs.find_mark.Goals as goal

pub returns-then-byte-b : goal.returns-then-byte-b
unfolding mark_of
returns-then-byte-b c =
    let s = stepped _ _ c.next_byte.ensures c.in-Byte.is in
    rw (s.split, eq-eqb _ _ c.if-byte-b.true, s.next)

pub returns-else-byte-b : goal.returns-else-byte-b
unfolding mark_of
returns-else-byte-b c =
    let s = stepped _ _ c.next_byte.ensures c.in-Byte.is in
    rw (s.split, ne_eqb _ _ c.if-byte-b.false)

pub returns-in-End : goal.returns-in-End
unfolding mark_of
returns-in-End c = rw (ended _ _ c.next_byte.ensures c.in-End.is)
