use Rattle.std.proofs.Common.{[], ◌∷◌, sym, arith}
use Rattle.row_forms.proofs.CutLemmas.{cut-none, cut-some}
use Rattle.row_forms.proofs.PanelLemmas.{one_name, two_names, three_names, four_names, panel_made}
use Rattle.row_forms.proofs.fields.hearings.panel_named.Goals as goal

pub returns-in_default : goal.returns-in_default
returns-in_default c =
    let one = one_name c.args.court.now.judges c.args.field.now (sym c.in_default.ensures) in
    rw (one, ← c.judge_named.ensures) (panel_made c.new.result (c.judge_named.result ∷ []) c.new.ensures.some c.new.ensures.value (omega arith, omega arith))

pub returns-in_default-cut_at : goal.returns-in_default-cut_at
returns-in_default-cut_at c =
    let first = c.judge_named-in_default-cut_at in
    let second = c.judge_named-in_default-cut_at-2 in
    let two = two_names c.args.court.now.judges c.args.field.now c.in-Some.first.now c.in-Some.more.now (sym c.in-Some.ensures) (sym c.in_default-cut_at.ensures) in
    rw (two, ← first.ensures, ← second.ensures) (panel_made c.new-in_default-cut_at.result (first.result ∷ second.result ∷ []) c.new-in_default-cut_at.ensures.some c.new-in_default-cut_at.ensures.value (omega arith, omega arith))

pub returns-then-is_some : goal.returns-then-is_some
returns-then-is_some c =
    let (fourth, rest, more) = cut-some 43 c.in-Some-cut_at.third.now c.cut_at-3.result c.cut_at-3.ensures (sym c.if-is_some.ensures) in
    sym (four_names c.args.court.now.judges c.args.field.now c.in-Some.first.now c.in-Some.more.now c.in-Some-cut_at.second.now c.in-Some-cut_at.third.now fourth rest (sym c.in-Some.ensures) (sym c.in-Some-cut_at.ensures) more)

pub returns : goal.returns
returns c =
    let none = cut-none 43 c.in-Some-cut_at.third.now c.cut_at-3.result c.cut_at-3.ensures (sym c.if-is_some.ensures) in
    let three = three_names c.args.court.now.judges c.args.field.now c.in-Some.first.now c.in-Some.more.now c.in-Some-cut_at.second.now c.in-Some-cut_at.third.now (sym c.in-Some.ensures) (sym c.in-Some-cut_at.ensures) none in
    rw (three, ← c.judge_named-2.ensures, ← c.judge_named-3.ensures, ← c.judge_named-4.ensures)
    (panel_made c.new-2.result (c.judge_named-2.result ∷ c.judge_named-3.result ∷ c.judge_named-4.result ∷ []) c.new-2.ensures.some c.new-2.ensures.value (omega arith, omega arith))
