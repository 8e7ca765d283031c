-- The words of clauses and definitions, for the crates above, from one place.
pub use Rattle.shared_docket.specs.SameAnswer.{same_act, same_day, same_shown, same_truth, same_refusal, same_answer}
unfoldable pub use Rattle.shared_docket.specs.DocketRules.{docket_rules}
pub use Rattle.shared_docket.specs.Sequential.{step_answers, commands_of, rows_of, IsSequential, IsLawfulAfter}
pub use Rattle.shared_docket.specs.Always.{IsOneDocket, LegalIsOneDocket}
