-- The bytes of messages: blocks, signatures and asks. All numbers are written lowest byte first. Assumes nothing.
use Rattle.std.specs.Prelude.{◌≡◌, List, [], ◌∷◌, ◌++◌, Bool, true, ◌&&◌, ℕ, zero, suc, ◌/◌, ◌%◌, ◌^◌, T, ◌==◌, nat_lt, nat_le, length}
use Rattle.model.specs.Names.{all_below}
use Rattle.model.specs.Blocks.{max_parents, max_load, byte_limit}

-- a hash, the name of a block on the wire, has so many bytes
abbrev pub hash_length : ℕ
hash_length = 32

-- A block as it is written: its parents are named by the hashes of their bytes.
pub record WireBlock : Type 0 where
  pub author : ℕ
  pub round : ℕ
  pub parents : List (List ℕ)
  pub load : List ℕ

-- a number in so many bytes, the lowest first
unfoldable pub low_first : ℕ → ℕ → List ℕ
low_first zero n = []
low_first (suc k) n = n % 256 ∷ low_first k (n / 256)

-- lists of bytes, one after the other
unfoldable pub joined : List (List ℕ) → List ℕ
joined [] = []
joined (x ∷ xs) = x ++ joined xs

-- The bytes of a block: `B`, author (1), round (4), how many parents (2), the parents' hashes, how long the load is (2), the load.
unfoldable pub block_bytes : WireBlock → List ℕ
block_bytes k =
    66 ∷ k.author ∷ (low_first 4 k.round ++ (low_first 2 (length k.parents) ++ (joined k.parents ++ (low_first 2 (length k.load) ++ k.load))))

-- The bytes that a member signs to say that it saw the block of this hash: `S`, who (1), the hash.
unfoldable pub signed_bytes : ℕ → List ℕ → List ℕ
signed_bytes who hash = 83 ∷ who ∷ hash

-- SaysBlock k signature: a block, with its author's signature of its bytes. SaysSigned who hash signature: member who has signed the block of this
-- hash. Asks hash: who sends this wants the block of this hash.
pub data Message : Type 0 where
  SaysBlock : WireBlock → List ℕ → Message
  SaysSigned : ℕ → List ℕ → List ℕ → Message
  Asks : List ℕ → Message

unfoldable pub message_bytes : Message → List ℕ
message_bytes (SaysBlock k signature) = block_bytes k ++ signature
message_bytes (SaysSigned who hash signature) = signed_bytes who hash ++ signature
message_bytes (Asks hash) = 65 ∷ hash

-- so many bytes
abbrev pub is_bytes : ℕ → List ℕ → Bool
is_bytes n bytes = length bytes == n && all_below byte_limit bytes

unfoldable pub all_hashes : List (List ℕ) → Bool
all_hashes [] = true
all_hashes (h ∷ hs) = is_bytes hash_length h && all_hashes hs

-- a block that can be written
unfoldable pub writable : WireBlock → Bool
writable k =
    nat_lt k.author 256 && nat_lt k.round (2 ^ 32) && nat_le (length k.parents) max_parents && all_hashes k.parents
    && nat_le (length k.load) max_load && all_below byte_limit k.load

-- a message that can be written, where signatures have so many bytes
unfoldable pub sendable : ℕ → Message → Bool
sendable long (SaysBlock k signature) = writable k && is_bytes long signature
sendable long (SaysSigned who hash signature) = nat_lt who 256 && is_bytes hash_length hash && is_bytes long signature
sendable long (Asks hash) = is_bytes hash_length hash

-- These bytes are this message, where signatures have so many bytes.
pub record Reads (long : ℕ) (bytes : List ℕ) (m : Message) : Type 0 where
  pub sent : T (sendable long m)
  pub written : bytes ≡ message_bytes m

-- Bytes have one reading at most; what was written is read back; and two different blocks have different bytes.
pub record WireLaws : Type 0 where
  pub one_reading : (long : ℕ) (bytes : List ℕ) (m m' : Message) → Reads long bytes m → Reads long bytes m' → m ≡ m'
  pub blocks_differ : (k k' : WireBlock) → T (writable k) → T (writable k') → block_bytes k ≡ block_bytes k' → k ≡ k'
  -- what members sign of blocks, and the bytes that authors sign, are never the same
  pub kinds_differ : (k : WireBlock) (who : ℕ) (hash : List ℕ) → block_bytes k ≡ signed_bytes who hash → ⊥
  pub signed_differ : (who who' : ℕ) (hash hash' : List ℕ) → signed_bytes who hash ≡ signed_bytes who' hash' → (who ≡ who') × (hash ≡ hash')
