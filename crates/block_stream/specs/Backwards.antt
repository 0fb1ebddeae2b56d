-- What is seen of a stream that comes from behind.
use Rattle.std.specs.Prelude.{ℕ, List, length}
use Rattle.block_stream.specs.declared.reading.Reading.{Reading}
use Rattle.block_stream.specs.declared.backward.Backward.{Backward}
use Rattle.block_stream.specs.Reads.{AreLoaded}

-- where the stream stands in its range
abbrev pub reading_of : {T : Type 0} → Backward T → Reading
reading_of stream = stream.reading

-- how many records its window has room for
abbrev pub room_of : {T : Type 0} → Backward T → ℕ
room_of stream = length stream.window.now

-- what it has read and not yet given is as these bytes of its file say
abbrev pub Reads : {T : Type 0} → Backward T → List ℕ → Type 0
Reads stream bytes = AreLoaded stream.reading stream.window.now bytes
