-- What a line of a script says. Assumes nothing.
use Rattle.std.specs.Prelude.{◌≡◌, ℕ, ◌^◌, ◌<◌, List, [], ◌∷◌, length, codes}
use Rattle.lines.specs.Numbers.{Writes}
use Rattle.rehearsal.specs.declared.act.Act.{Act}
use Rattle.rehearsal.specs.declared.act.Act.TheVariants.{Makes, Signs, Takes, Forges}

-- a block: its word, author and round, its load as the line has it, and its parents' words
pub record Described : Type 0 where
  pub word : List ℕ
  pub author : ℕ
  pub round : ℕ
  pub load : List ℕ
  pub parents : List (List ℕ)

-- what a line may say
pub data Said : Type 0 where
  Block : Described → Said
  Step : Act → ℕ → List ℕ → Said
  Bad : ℕ → Said
  Order : ℕ → Said

-- which form it is of
pub data Keyed : Type 0 where
  block : Keyed
  step : Act → Keyed
  bad : Keyed
  order : Keyed

abbrev pub keyed_by : Said → Keyed
keyed_by (Block d) = block
keyed_by (Step act i word) = step act
keyed_by (Bad i) = bad
keyed_by (Order i) = order

-- its first word
abbrev pub spelled : Keyed → List ℕ
spelled block = codes "block"
spelled (step Makes) = codes "makes"
spelled (step Signs) = codes "signs"
spelled (step Takes) = codes "takes"
spelled (step Forges) = codes "forges"
spelled bad = codes "bad"
spelled order = codes "order"

-- the digits write the number, which isn't too large
pub record Reads (digits : List ℕ) (n : ℕ) : Type 0 where
  pub writes : Writes digits n
  pub small : n < 2 ^ 32

-- these words are a member's number and a word
pub record MemberAndWord (ws : List (List ℕ)) (i : ℕ) (word : List ℕ) : Type 0 where
  pub digits : List ℕ
  pub are : ws ≡ digits ∷ word ∷ []
  pub number : Reads digits i
  pub some : 0 < length word

-- or just a member's number
pub record JustMember (ws : List (List ℕ)) (i : ℕ) : Type 0 where
  pub digits : List ℕ
  pub are : ws ≡ digits ∷ []
  pub number : Reads digits i

-- or they describe a block
pub record Describes (ws : List (List ℕ)) (d : Described) : Type 0 where
  pub author : List ℕ
  pub round : List ℕ
  pub are : ws ≡ d.word ∷ author ∷ round ∷ d.load ∷ d.parents
  pub author_is : Reads author d.author
  pub round_is : Reads round d.round
  pub some_word : 0 < length d.word
  pub some_load : 0 < length d.load

abbrev pub RestSays : List (List ℕ) → Said → Type 0
RestSays ws (Block d) = Describes ws d
RestSays ws (Step act i word) = MemberAndWord ws i word
RestSays ws (Bad i) = JustMember ws i
RestSays ws (Order i) = JustMember ws i

-- The words of a line say this: the first is the form's, and the others are what it takes.
pub record Says (ws : List (List ℕ)) (what : Said) : Type 0 where
  pub rest : List (List ℕ)
  pub are : ws ≡ spelled (keyed_by what) ∷ rest
  pub says : RestSays rest what
