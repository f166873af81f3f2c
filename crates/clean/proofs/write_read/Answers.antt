use Rattle.clean.proofs.write_read.Goals as goal

pub write_once-requires : goal.write_once-requires
write_once-requires c = record {
  d_len_bound = c.requires;
  d_bound = c.ample.ensures c.if-ample.true;
}
