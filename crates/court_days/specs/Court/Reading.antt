-- The dates of a holiday list of a court's file, or its fault.
use Rattle.std.specs.Prelude.{◌&&◌, ℤ, int_le, List, [], Result, Ok, if◌then◌else◌}
use Rattle.toml.specs.Data.{Data, Members}
use Rattle.court_file_text.specs.declared.key.Key.{Key}
use Rattle.court_file_text.specs.declared.fault.CourtFault.{CourtFault}
use Rattle.court_file_text.specs.Words.{◌>>=◌, date_of_item, each_item, list_at}
use Rattle.court_days.specs.Days.{add_date}

-- the dates and one more, if it is in the span
abbrev pub keep_date : ℤ → ℤ → ℤ → List ℤ → List ℤ
keep_date from to d dates = if int_le from d && int_le d to then add_date d dates else dates

-- the dates and that of an item, if it is in the span
unfoldable pub and_date : Key → ℤ → ℤ → List ℤ → Data → Result (List ℤ) CourtFault
and_date k from to dates value = do
  d ← date_of_item k value
  Ok (keep_date from to d dates)

unfoldable pub dates_at : Key → ℤ → ℤ → Members → Result (List ℤ) CourtFault
dates_at k from to file = do
  items ← list_at k 4096 file
  each_item (and_date k from to) [] items
