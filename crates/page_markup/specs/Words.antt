-- The words of clauses and definitions, for the crates above, from one place.
unfoldable pub use Rattle.page_markup.specs.Escaping.{escaped}
unfoldable pub use Rattle.page_markup.specs.Elements.{opening, closing, text_in}
pub use Rattle.page_markup.specs.Elements.{element, IsMarkup}
unfoldable pub use Rattle.page_markup.specs.Frame.{before_content, after_content}
pub use Rattle.page_markup.specs.Frame.{page_with}
