use Rattle.std.proofs.Common.{◌∙◌, sym}
use Rattle.program_streams.proofs.GatheredLemmas.{all_gathered, all_written}
use Rattle.program_streams.proofs.made.write_text.Goals as goal

pub returns-then-failed-clause-front : goal.returns-then-failed-clause-front
returns-then-failed-clause-front g c = λ _.
    let all = all_gathered g.W.Write.contents c.args.writer.now c.hand_over.new.writer c.flush.new.writer c.in-Ok.gathered c.hand_over.new.gathered c.flush.new.self (g.T.MadeText.bytes c.args.text) c.requires c.in-Ok.ensures c.hand_over.ensures c.flush.ensures.empty c.flush.ensures.given in
    all.failing (sym c.failed.ensures ∙ c.if-failed.true)

pub returns-then-failed-clause-again : goal.returns-then-failed-clause-again
returns-then-failed-clause-again g c =
    let all = all_gathered g.W.Write.contents c.args.writer.now c.hand_over.new.writer c.flush.new.writer c.in-Ok.gathered c.hand_over.new.gathered c.flush.new.self (g.T.MadeText.bytes c.args.text) c.requires c.in-Ok.ensures c.hand_over.ensures c.flush.ensures.empty c.flush.ensures.given in
    all.again

pub returns-clause-written : goal.returns-clause-written
returns-clause-written g c =
    let all = all_gathered g.W.Write.contents c.args.writer.now c.hand_over.new.writer c.flush.new.writer c.in-Ok.gathered c.hand_over.new.gathered c.flush.new.self (g.T.MadeText.bytes c.args.text) c.requires c.in-Ok.ensures c.hand_over.ensures c.flush.ensures.empty c.flush.ensures.given in
    all_written g.W.Write.contents c.args.writer.now c.flush.new.writer (g.T.MadeText.bytes c.args.text) all (sym c.failed.ensures ∙ c.if-failed.false)

pub returns-clause-again : goal.returns-clause-again
returns-clause-again g c =
    let all = all_gathered g.W.Write.contents c.args.writer.now c.hand_over.new.writer c.flush.new.writer c.in-Ok.gathered c.hand_over.new.gathered c.flush.new.self (g.T.MadeText.bytes c.args.text) c.requires c.in-Ok.ensures c.hand_over.ensures c.flush.ensures.empty c.flush.ensures.given in
    all.again
