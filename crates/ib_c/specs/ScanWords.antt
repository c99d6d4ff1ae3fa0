-- The chunks of a scan as words, with their pairs beside them, and the room for both.
use Rattle.std.specs.Prelude.{◌≡◌, ℕ, ◌*◌, ◌/◌, ◌≤◌, List, [], ◌∷◌, ◌++◌, length, drop}
use Rattle.std.specs.List.{flat_map}
use Rattle.ib_map.specs.Chunks.{HeldChunks}
use Rattle.ib_map.specs.declared.chunks.Chunk.{Chunk}
use Rattle.ib_c.specs.declared.status.Status.TheVariants.{Done}
use Rattle.ib_c.specs.Replays.{HasPutPairs}

-- a chunk as six words: the two of the key that it begins at, the two of the key that it ends at, its place, and how many pairs it has
abbrev pub chunk_words : Chunk → List ℕ
chunk_words chunk = chunk.low.first ∷ chunk.low.second ∷ chunk.high.first ∷ chunk.high.second ∷ chunk.place ∷ chunk.len ∷ []

-- .. and chunks one behind another
abbrev pub chunks_words : List Chunk → List ℕ
chunks_words list = flat_map chunk_words list

-- the chunks stand in front now, and all else is as before
abbrev pub HasPutChunks : List Chunk → List ℕ → List ℕ → Type 0
HasPutChunks list out into = (6 * length list ≤ length out) × (into ≡ chunks_words list ++ drop (6 * length list) out)

-- .. and their pairs in front of the other words, as ib_replay puts them
abbrev pub HasPut : HeldChunks → List ℕ → List ℕ → List ℕ → List ℕ → Type 0
HasPut held chunks pairs chunks_now pairs_now = HasPutChunks held.list chunks chunks_now × HasPutPairs held.pairs pairs Done pairs_now

-- no chunks, with the room that these words have
abbrev pub room_of : List ℕ → List ℕ → HeldChunks
room_of chunks pairs = record { list = []; pairs = []; chunk_room = length chunks / 6; pair_room = length pairs / 3 }
