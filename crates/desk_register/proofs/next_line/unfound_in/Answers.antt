use Rattle.std.proofs.Common.{◌≡◌, ◌∙◌, Some, ap, subst, sym}
use Rattle.case_numbers.specs.Words.{CasesView}
use Rattle.csv.specs.Records.{fields_of}
use Rattle.docket_rows.specs.Words.{setup_of}
use Rattle.row_forms.specs.Words.{names_of}
use Rattle.row_forms.specs.Line.Words.{fields_read}
use Rattle.desk_numbers.specs.declared.subjects.Found.{Found}
use Rattle.desk_register.specs.declared.cause.UnfoundCause.{UnfoundCause}
use Rattle.desk_register.specs.declared.subject.Named.{Named}
use Rattle.desk_register.specs.CaseLines.{IsRead}
use Rattle.desk_register.specs.Cases.{cases_of}
use Rattle.desk_register.specs.LineCauses.{unfound_as, unfound_there}
use Rattle.desk_register.specs.Rows.{cased_at, found_at, unfound_of}
use Rattle.desk_register.specs.Run.{docketed_by}
use Rattle.desk_register.specs.Subjects.{named_in}
use Rattle.desk_register.proofs.NextLineLemmas.{found_alike, named_lacks}
use Rattle.desk_register.proofs.next_line.unfound_in.Goals as goal

pub returns-in-Some : goal.returns-in-Some
returns-in-Some c = λ kept cases_are numbers_are called_are holds.
    let under = c.args.under.now in
    let names = names_of under.court in
    let line = c.args.line.now in
    let text = (cased_at under kept line).text in
    let before = fields_of c.read_named.new.fields in
    let read : IsRead names (cases_of under kept) line before (c.in_ok-said.said, c.in_ok-said._name) = subst (λ (k : CasesView). IsRead names k line before (c.in_ok-said.said, c.in_ok-said._name)) cases_are c.in_ok-said.ensures in
    let named : named_in names text ≡ Some c.in-Some.named = sym (c.in_ok-named.ensures text read.said read.lacking_are) ∙ c.in-Some.is in
    let (place, lacks) = named_lacks names text c.in-Some.named named in
    let fields : before ≡ fields_read text = read.lacking_are place (read.said ∙ lacks) in
    let there : c.in_ok-found-in-Some.found ≡ found_at under kept text c.in-Some.named =
    c.in_ok-found-in-Some.ensures (setup_of under.court) (docketed_by under kept) holds
    ∙ found_alike under kept c.args.numbers.now c.args.called.now c.in-Some.named before text numbers_are called_are fields in
    c.unfound_there.ensures
    ∙ ap (unfound_there c.in-Some.named.at) c.unfound_as.ensures
    ∙ ap (λ (f : Found). unfound_there c.in-Some.named.at (unfound_as c.in-Some.named.name f)) there
    ∙ sym (ap (unfound_of under kept text) named)
