-- What clauses of this crate cite of the crates below it.
pub use Rattle.std.specs.List.{list_all}
pub use Rattle.mk_io.specs.Stream.{long}
pub use Rattle.mk_session.specs.{Below.file_of, Below.GoesOn, Below.IsAt, Below.IsMarket}
pub use Rattle.mk_session.specs.{Below.IsTreeOf, Below.Market, Below.market_of}
pub use Rattle.mk_session.specs.{Below.max_stream_lines, Below.opening, Below.Standing, Below.text}
pub use Rattle.mk_session.specs.{Transcript.AreReplied, inner.Progress.IsSoundAt}
