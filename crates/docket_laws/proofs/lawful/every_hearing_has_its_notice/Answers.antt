use Rattle.docket_laws.proofs.LawfulLemmas.DocketLemmas.{all_have_notice}
use Rattle.docket_laws.proofs.lawful.every_hearing_has_its_notice.Goals as goal

pub returns : goal.returns
returns c = all_have_notice
