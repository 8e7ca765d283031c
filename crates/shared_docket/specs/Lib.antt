pub mod Always
pub mod AnswersLawful
pub mod DocketLawful
pub mod DocketRules
pub mod SameAnswer
pub mod Sequential
pub mod Words
