use Rattle.std.proofs.Common.{◌≡◌, ◌+◌, ◌-◌, ◌++◌, ◌∙◌, append_assoc, append-nil, sym, ap, arith}
use Rattle.std.specs.List.{flat_map}
use Rattle.json.specs.Tree.{json_tokens}
use Rattle.report_json.specs.Names.{name_value, names_from}
use Rattle.report_json.proofs.NameLemmas.{names_more}
use Rattle.report_json.proofs.names.push_numbered.Goals as goal

pub loop-judge-preserved : goal.loop-judge-preserved
loop-judge-preserved c =
    let names = c.args.court.now.judges in
    let judge = c.loop-judge.judge in
    let here = json_tokens (name_value names judge) in
    let later = flat_map json_tokens (names_from names (judge + 1) (c.args.count - (judge + 1))) in
    rw (c.in_ok-push_name.ensures, c.judge_name.ensures) (append_assoc c.loop-judge.out here later ∙ ap (λ t. c.loop-judge.out ++ t) (sym (names_more names judge c.args.count (omega (arith, c.loop-judge-test.true)))) ∙ c.loop-judge.invariant)

pub returns : goal.returns
unfolding names_from
returns c =
    let none : c.args.count - c.loop-judge.judge ≡ 0 = omega (arith, c.loop-judge-test.false) in
    sym (append-nil _) ∙ rw none at c.loop-judge.invariant
