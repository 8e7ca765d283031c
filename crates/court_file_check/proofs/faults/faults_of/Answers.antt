use Rattle.std.proofs.Common.{◌∙◌}
use Rattle.toml.specs.View.{table_view}
use Rattle.court_file_check.proofs.ItemLemmas.{all_parts}
use Rattle.court_file_check.proofs.faults.faults_of.Goals as goal

pub returns : goal.returns
returns c =
    c.faults-8.view_is ∙ all_parts (table_view c.args.file.now) c.none-faults.result c.check_zone.new.faults c.check_hours.new.faults c.check_span.new.faults c.check_dates.new.faults c.check_dates-2.new.faults c.check_names.new.faults c.check_names-2.new.faults c.check_efiling.new.faults
    c.none-faults.ensures c.in_ok-check_zone.ensures c.in_ok-check_hours.ensures c.in_ok-check_span.ensures c.in_ok-check_dates.ensures c.in_ok-check_dates-2.ensures c.in_ok-check_names.ensures c.in_ok-check_names-2.ensures c.in_ok-check_efiling.ensures
