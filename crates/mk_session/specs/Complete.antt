-- The limits of a stream: the lines that a run answers are within them, and where all of them are
-- it must come to its end.
use Rattle.std.specs.Prelude.{ℕ, ◌≤◌, List, length}
use Rattle.mk_io.specs.Stream.{stream_lines, max_stream_lines, max_stream_bytes}

-- some bytes are no more than a stream may hold
pub record AreWithin (all : List ℕ) : Type 0 where
  pub lines : length (stream_lines all) ≤ max_stream_lines
  pub bytes : length all ≤ max_stream_bytes
