use Rattle.contents.proofs.Tellings.{encode_some}
use Rattle.contents.proofs.say_first.Goals as goal

pub encoded-b-requires : goal.encoded-b-requires
encoded-b-requires c = (c.requires, encode_some c.args.code)

pub returns : goal.returns
returns c = rw c.encoded-b.ensures
