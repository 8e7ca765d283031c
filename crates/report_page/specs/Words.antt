-- The words of clauses and definitions, for the crates above, from one place.
unfoldable pub use Rattle.report_page.specs.Page.{page_text}
unfoldable pub use Rattle.report_page.specs.Pending.{pending_page}
