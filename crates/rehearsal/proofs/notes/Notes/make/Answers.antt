use Rattle.std.proofs.Common.{vec_items}
use Rattle.rehearsal.proofs.Noting.{noted_made}
use Rattle.rehearsal.proofs.notes.Notes.make.Goals as goal

pub returns-clause-noted : goal.returns-clause-noted
returns-clause-noted c ss done noted =
    noted_made ss done (vec_items c.args.self.now.notes) c.args.name c.requires c.index_mut.result.now c.index_mut.ensures.value noted
