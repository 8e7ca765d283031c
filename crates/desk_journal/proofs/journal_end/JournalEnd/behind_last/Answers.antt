use Rattle.std.proofs.Common.{◌∙◌, sym, ap, drop}
use Rattle.std.proofs.lemmas.List.{drop-drop}
use Rattle.desk_journal.proofs.journal_end.JournalEnd.behind_last.Goals as goal
use Rattle.desk_journal.proofs.NextLemmas.{other_bytes, same_bytes}

pub returns-then-ne : goal.returns-then-ne
returns-then-ne c = λ same. other_bytes c.split_at.result.0.now c.as_slice.result.now c.ne.result c.ne.ensures c.if-ne.true (c.split_at.ensures.front ∙ same ∙ sym c.as_slice.ensures)

pub returns : goal.returns
returns c = (
  sym c.split_at.ensures.front ∙ same_bytes c.split_at.result.0.now c.as_slice.result.now c.ne.result c.ne.ensures c.if-ne.false ∙ c.as_slice.ensures,
  c.split_at-2.ensures.back ∙ ap (drop c.args.self.now.last_size) c.split_at.ensures.back ∙ drop-drop c.args.self.now.last_size 32 c.args.bytes.now,
)
