-- What a command, as the program holds it, says. Assumes nothing.
use Rattle.std.specs.Prelude.{ℕ, List, Ok, Err, Some, None, Option, Result}
use Rattle.lines.specs.Left.{left}
use Rattle.lines.specs.Words.{words_of}
use Rattle.rehearsal.specs.declared.command.BlockLine.{BlockLine}
use Rattle.rehearsal.specs.declared.command.Command.{Command}
use Rattle.rehearsal.specs.declared.command.Command.TheVariants.{Block as CBlock, Step as CStep, Bad as CBad, Order as COrder}
use Rattle.rehearsal.specs.declared.command.Keyword.{Keyword}
use Rattle.rehearsal.specs.declared.command.Keyword.TheVariants.{Block as KBlock, Step as KStep, Bad as KBad, Order as KOrder}
use Rattle.rehearsal.specs.declared.command.NotACommand.{NotACommand}
use Rattle.rehearsal.specs.Saying.{Said, Block, Step, Bad, Order, Keyed, block, step, bad, order, Described, Says}

abbrev pub described : BlockLine → Described
described b = record { word = b.word.now; author = b.author; round = b.round; load = b.load.now; parents = left b.parents }

abbrev pub said : Command → Said
said (CBlock b) = Block (described b)
said (CStep act i word) = Step act i word.now
said (CBad i) = Bad i
said (COrder i) = Order i

abbrev pub key_of : Keyword → Keyed
key_of KBlock = block
key_of (KStep act) = step act
key_of KBad = bad
key_of KOrder = order

-- these words say what the command says; or they say nothing
abbrev pub SaysOrNot : List (List ℕ) → Option Command → Type 0
SaysOrNot ws (Some c) = Says ws (said c)
SaysOrNot ws None = (what : Said) → Says ws what → ⊥

-- the line says what the command says; or it says nothing
abbrev pub Parses : List ℕ → Result Command NotACommand → Type 0
Parses line (Ok c) = Says (words_of line) (said c)
Parses line (Err _) = (what : Said) → Says (words_of line) what → ⊥
