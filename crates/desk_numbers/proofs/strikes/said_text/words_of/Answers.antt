use Rattle.std.proofs.Common.{◌∙◌, sym}
use Rattle.std.specs.Prelude.{string_bytes}
use Rattle.desk_numbers.proofs.StrikesLemmas.SaidTextLemmas.{text_on, text_past}
use Rattle.desk_numbers.proofs.strikes.said_text.words_of.Goals as goal

pub said-preserved : goal.said-preserved
said-preserved c = text_on c.args.said.now c.said.one-index _ (string_bytes c.said.words) (string_bytes c.push_word.new.text) c.said-test.true c.in_ok-push_word.ensures ∙ c.said.invariant

pub returns : goal.returns
returns c = sym (text_past c.args.said.now c.said.one-index (string_bytes c.said.words) c.said-test.false) ∙ c.said.invariant
