use Rattle.std.proofs.Common.{vec_items, refl}
use Rattle.rehearsal.proofs.Noting.{noted_signed, inserted}
use Rattle.rehearsal.proofs.notes.Notes.add.Goals as goal

pub unwrap-requires : goal.unwrap-requires
unwrap-requires c = (inserted c.args.member _ _ c.insert.result c.requires.who c.insert.ensures).0

pub returns-clause-noted : goal.returns-clause-noted
returns-clause-noted c ss done noted =
    noted_signed ss done (vec_items c.args.self.now.notes) c.args.name c.requires.there c.index_mut.result.now c.index_mut.ensures.value noted
    c.args.member _ (inserted c.args.member _ _ c.insert.result c.requires.who c.insert.ensures).1 refl
