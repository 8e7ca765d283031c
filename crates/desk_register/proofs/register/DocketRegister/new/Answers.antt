use Rattle.std.proofs.Common.{◌∙◌, refl, sym, arith}
use Rattle.docket_rows.specs.Words.{setup_of}
use Rattle.docket_laws.proofs.CallerLemmas.{sound_opening}
use Rattle.desk_register.specs.Cases.{cases_after, cases_of}
use Rattle.desk_register.specs.Entries.{rows_among}
use Rattle.desk_register.specs.Run.{run_after, run_by}
use Rattle.desk_register.proofs.CalledLemmas.{none_called}
use Rattle.desk_register.proofs.register.DocketRegister.new.Goals as goal

pub returns-clause-stands : goal.returns-clause-stands
unfolding run_by run_after rows_among cases_of cases_after
returns-clause-stands c = λ file. record {
  docket = record { setup_is = c.in_ok-new.ensures.setup; sound = sound_opening (setup_of c.args.under.now.court); stands = c.in_ok-new.ensures.rows };
  numbers = c.new-3.ensures;
  cases = c.new-2.ensures;
  called = c.new-4.ensures ∙ sym (none_called c.args.under.now file);
  number = refl;
  count = refl;
  begun = omega arith;
  few = omega arith;
}
