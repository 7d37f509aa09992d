-- What of a replay the crates above cite.
pub use Rattle.mk_replay.proofs.HasHome.{no_home}
pub use Rattle.mk_replay.proofs.Replayed.{around, all_back}
