use Rattle.std.proofs.Common.{◌≡◌, [], drop}
use Rattle.toml.specs.View.{items_view}
use Rattle.court_file_text.specs.Words.{each_item}
use Rattle.court_days.specs.Court.Reading.{and_date}
use Rattle.court_days.proofs.court.reading.dates_of.Given as goal

-- the dates so far and those of the items left are those of all items
abbrev pub invariant-loop-value : goal.invariant-loop-value
invariant-loop-value l = each_item (and_date l.fn.key l.fn.from l.fn.to) l.dates (items_view (drop l.value-index l.values)) ≡ each_item (and_date l.fn.key l.fn.from l.fn.to) [] (items_view l.values)
