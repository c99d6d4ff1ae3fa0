-- What a leaf is to a chunk.
use Rattle.std.specs.Prelude.{◌≡◌, ◌<◌, ◌⊎◌, Bool, true, false, List, [], ◌∷◌, length}
use Rattle.ib_map.specs.Keys.{MapKey}
use Rattle.ib_map.specs.Chunks.{HeldChunks}
use Rattle.ib_map.specs.Replies.{Span}
use Rattle.ib_page.specs.Image.{next_of}
use Rattle.ib_scan.specs.Walked.{IsSkipped, EndsBy}
use Rattle.ib_scan.specs.Scanning.{Appends}
use Rattle.ib_scan.specs.declared.part.Part.{Part}
use Rattle.ib_scan.specs.declared.part.Part.TheVariants.{Passed, Ends}
use Rattle.std.specs.Prelude.{ℕ}

-- it is passed over, or the chunk ends in it
abbrev pub IsPart : MapKey → MapKey → List ℕ → Part → Type 0
IsPart start high image (Passed next) = (next ≡ next_of image) × IsSkipped start image
IsPart start high image (Ends end) = EndsBy start high end image

-- a chunk was appended where it fits, else nothing was
abbrev pub HasPut : Span → Bool → HeldChunks → HeldChunks → Type 0
HasPut span true out new = Appends out new (span ∷ [])
HasPut span false out new = (new ≡ out) × ((out.chunk_room ≡ 0) ⊎ (out.pair_room < length span.pairs))
