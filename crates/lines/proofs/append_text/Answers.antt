-- `lines::append_text` meets its contract: the bytes copied are the part of the record.
use Rattle.lines.specs.Appended.{copied_text}
use Rattle.lines.proofs.append_text.Goals as goal

pub returns : goal.returns
returns c =
    let a = c.args in
    copied_text a.out.now a.at a.bytes.now a.p a.n c.requires.0 c.requires.1 c.copy_in.ensures
