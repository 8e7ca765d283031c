-- The lemmas for the crates above.
pub use Rattle.desk_journal.proofs.CrashLemmas.{begins_first}
pub use Rattle.desk_journal.proofs.KeptLemmas.{first_of_kept, frames_are_kept, frames_of_kept, kept_begins, rest_begins, rest_kept}
pub use Rattle.desk_journal.proofs.OneList.{one_list, one_list_of_stamps}
pub use Rattle.desk_journal.proofs.RecoverLemmas.{resumed_is_kept, resumed_stands}
pub use Rattle.desk_journal.proofs.StampLemmas.{added_more, none_added}
