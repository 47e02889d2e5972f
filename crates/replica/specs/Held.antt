-- What the member of a seat holds. Assumes nothing.
use Rattle.replica.specs.declared.replica.Replica.{Replica}
use Rattle.model.specs.Member.{Member}

-- its lists hold names, the latest first
abbrev pub held : Replica → Member
held s = record { web = s.web; signed = s.signed; round = s.round }
