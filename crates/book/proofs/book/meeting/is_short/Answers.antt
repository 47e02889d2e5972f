use Rattle.std.proofs.Common.{T, sym, subst, arith}
use Rattle.model.specs.Blocks.{byte_limit}
use Rattle.book.proofs.Below.{each_below}
use Rattle.book.proofs.book.meeting.is_short.Goals as goal

pub returns-clause-bytes : goal.returns-clause-bytes
returns-clause-bytes c =
    subst T (sym (each_below byte_limit (omega arith) c.args.load.now (λ i. (c.type_inv.load i).fits))) tt
