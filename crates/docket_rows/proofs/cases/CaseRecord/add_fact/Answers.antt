use Rattle.std.proofs.Common.{◌∙◌, refl, sym}
use Rattle.docket_rows.proofs.cases.CaseRecord.add_fact.Goals as goal

pub keep_fact-requires : goal.keep_fact-requires
keep_fact-requires c = c.requires (sym c.is_kept.ensures ∙ c.if-is_kept.true)

pub returns-then-is_kept : goal.returns-then-is_kept
returns-then-is_kept c = rw (sym c.is_kept.ensures ∙ c.if-is_kept.true) c.keep_fact.ensures

pub returns-else-is_kept : goal.returns-else-is_kept
returns-else-is_kept c = rw (sym c.is_kept.ensures ∙ c.if-is_kept.false) refl
