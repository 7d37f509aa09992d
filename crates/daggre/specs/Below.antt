-- What clauses of this crate cite of the crates below it.
pub use Rattle.std.specs.{Fmt.signed_decimal, Vec.Iter.into_iter_items}
pub use Rattle.mk_audit.specs.AuditOutcome.{AuditOutcome}
pub use Rattle.mk_durable.specs.{Below.Adds, Below.AreWithin, Below.file_of, Below.HasCauses}
pub use Rattle.mk_durable.specs.{Below.HasKeepCauses, Below.IsMarket, Below.IsTurnedAway}
pub use Rattle.mk_durable.specs.{Below.Rose, KeepOutcome.AreHonest, KeepOutcome.IsHonestStore}
pub use Rattle.mk_durable.specs.{KeepOutcome.IsSoundStore, KeepOutcome.KeepOutcome}
pub use Rattle.mk_durable.specs.{KeepOutcome.KeepsChanges}
pub use Rattle.mk_engine.specs.Meaning.{ArePairsOf}
pub use Rattle.mk_io.specs.{Outside.AddsFront, Outside.append_known, Outside.HasCause}
pub use Rattle.mk_io.specs.{Status.code_of}
pub use Rattle.mk_make.specs.Sample.{sample_commands, sample_file}
pub use Rattle.mk_names.specs.{Name.is_name, Texts.same_text}
pub use Rattle.mk_net.specs.Network.{sizes}
pub use Rattle.mk_reply.specs.Below.{array_string_len, items_text, pair_text}
pub use Rattle.mk_rules.specs.Refusals.{known_pairs}
pub use Rattle.mk_session.specs.Outcome.{Outcome}
pub use Rattle.mk_states.specs.States.{IsState}
pub use Rattle.mk_tally.specs.Tally.{TallyEnds}
