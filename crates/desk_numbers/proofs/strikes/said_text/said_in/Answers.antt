use Rattle.std.proofs.Common.{◌≡◌, append-nil, arith, length, sym}
use Rattle.std.proofs.lemmas.Bool.Decides.{nat_tests}
use Rattle.desk_numbers.specs.Strikes.SaidText.{said_in}
use Rattle.desk_numbers.proofs.StrikesLemmas.WordsLemmas.{line_on, line_past}
use Rattle.desk_numbers.proofs.strikes.said_text.said_in.Goals as goal

pub line-preserved-in_ok-push : goal.line-preserved-in_ok-push
line-preserved-in_ok-push c =
    line_on c.line.line.now _ c.cut-in-line.result.1.now c.line.said.items c.push.new.self.items (said_in c.args.entry.now) _ c.cut-in-line.ensures.before c.cut-in-line.ensures.past c.in-Some.ensures c.in_ok-push.ensures.items c.line.invariant

pub line-preserved : goal.line-preserved
line-preserved c =
    line_on c.line.line.now _ c.cut-in-line.result.1.now c.line.said.items c.line.said.items (said_in c.args.entry.now) _ c.cut-in-line.ensures.before c.cut-in-line.ensures.past c.in_default.ensures (sym (append-nil c.line.said.items)) c.line.invariant

pub returns : goal.returns
returns c =
    let empty : length c.line.line.now ≡ 0 = grind (arith, nat_tests) in
    line_past c.line.line.now c.line.said.items (said_in c.args.entry.now) empty c.line.invariant
