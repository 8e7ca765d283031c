-- Every docket is lawful.
pub mod ListLemmas
pub mod NumberLemmas
pub mod SeenLemmas
pub mod CaseLemmas
pub mod DeadlineLemmas
pub mod FactLemmas
pub mod MotionLemmas
pub mod NoticeLemmas
pub mod CalendarLemmas
pub mod HearingLemmas
pub mod HolidayLemmas
pub mod StepLemmas
pub mod DocketLemmas
pub mod SheetLemmas
