use Rattle.std.proofs.Common.{◌≡◌, ◌≤◌, [], drop, length}
use Rattle.toml.specs.View.{items_view}
use Rattle.court_file_text.specs.Reading.{and_name_by, each_item}
use Rattle.court_file_text.proofs.reading.names_of.Given as goal

-- the names so far and those of the items left are those of all items
abbrev pub invariant-loop-value : goal.invariant-loop-value
invariant-loop-value l = record {
  same : each_item (and_name_by l.fn.desk l.fn.key) l.names (items_view (drop l.value-index l.values)) ≡ each_item (and_name_by l.fn.desk l.fn.key) [] (items_view l.values);
  most : length l.names ≤ l.value-index;
}
