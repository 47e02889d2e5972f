use Rattle.scheme.proofs.Written.{reads_back, reads_back_unended, only_written}
use Rattle.scheme.proofs.keys.keys_laws.Goals as goal

pub returns : goal.returns
returns c = record { reads_back = reads_back; reads_back_unended = reads_back_unended; only_written = only_written }
