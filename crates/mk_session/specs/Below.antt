-- What clauses of this crate cite of the crates below it.
pub use Rattle.std.specs.List.{list_all}
pub use Rattle.arrayvec.specs.ArrayString.{array_string_len}
pub use Rattle.mk_command.specs.Commands.{command_of}
pub use Rattle.mk_disk.specs.Disk.{HasCause}
pub use Rattle.mk_exact.specs.Market.{Market}
pub use Rattle.mk_file.specs.{File.file_of, MarketOf.market_of}
pub use Rattle.mk_io.specs.{Cutting.fresh, Cutting.GoesOn, Memory.named, Outside.AddsFront}
pub use Rattle.mk_io.specs.{Outside.CountsFault, Outside.IsAtEnd, Outside.Rose, Quiet.file_or_empty}
pub use Rattle.mk_io.specs.{Stream.max_line_bytes, Stream.max_stream_lines, Stream.text}
pub use Rattle.mk_market.specs.Trading.{IsAt}
pub use Rattle.mk_names.specs.declared.limits.TheConstants.{MAX_ANSWER_BYTES, MAX_LINE_BYTES}
pub use Rattle.mk_names.specs.declared.limits.TheConstants.{MAX_RECORD_BYTES}
pub use Rattle.mk_rules.specs.{Standings.IsMarket, Transcript.opening, Transcript.Standing}
pub use Rattle.mk_tree.specs.Checked.{IsTreeOf}
