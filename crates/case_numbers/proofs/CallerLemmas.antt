-- The lemmas for the crates above, from one place.
pub use Rattle.case_numbers.proofs.NameLineLemmas.{name_of_line, no_name_line, no_name_past, rest_of_line}
pub use Rattle.case_numbers.proofs.ApartLemmas.{names_stay_apart_lem}
pub use Rattle.case_numbers.proofs.NumberLemmas.{digits_no_case}
pub use Rattle.case_numbers.proofs.ShownLemmas.{shown_is_read_back_lem}
