use Rattle.std.proofs.Common.{◌≡◌, ◌∙◌, ◌+◌, ◌<◌, ap, append-nil, arith, length, min, sym}
use Rattle.std.proofs.lemmas.List.Elements.{All-push, All-same}
use Rattle.desk_numbers.specs.Strikes.SaidText.{Fits}
use Rattle.desk_numbers.proofs.SaidLemmas.{unsaid_on, unsaid_past}
use Rattle.desk_numbers.proofs.said.unsaid.Goals as goal
use Rattle.desk_numbers.proofs.said.unsaid.Goals.{in-Some+in_ok-push, in_default}

pub given-preserved : goal.given-preserved
given-preserved c =
    let kept = c.args.kept.now in
    let given = c.args.given.now in
    let i = c.given.of_row-index in
    let so_far = c.given.said.items in
    let next : c.saturating_add-row.result ≡ min (i + 1 + 1) 4_294_967_295 = omega (arith, c.given.invariant.row, c.saturating_add-row.ensures) in
    let row : length given < 4_294_967_296 → c.given.row ≡ i + 1 = λ few. omega (arith, few, c.given-test.true, c.given.invariant.row) in
    elim c.match-said_of.branch [
      | in-Some+in_ok-push w ↦
          let longer = ap (λ v. v.items) w.said-is ∙ w.in_ok-push.ensures.items in
          record {
            row = next;
            whole = λ few. unsaid_on kept given i c.given.row _ _ so_far _ _ c.given-test.true (row few) longer c.at.ensures w.in-Some.ensures.said ∙ c.given.invariant.whole few;
            fits = All-same Fits _ _ longer (All-push Fits so_far _ c.given.invariant.fits w.in-Some.ensures.fits);
          }
      | in_default w ↦
          let longer = ap (λ v. v.items) w.said-is ∙ sym (append-nil so_far) in
          record {
            row = next;
            whole = λ few. unsaid_on kept given i c.given.row _ _ so_far _ _ c.given-test.true (row few) longer c.at.ensures w.in_default.ensures.said ∙ c.given.invariant.whole few;
            fits = All-same Fits _ so_far (ap (λ v. v.items) w.said-is) c.given.invariant.fits;
          }
    ]

pub returns-clause-said : goal.returns-clause-said
returns-clause-said c = λ few. sym (unsaid_past c.args.kept.now c.args.given.now c.given.of_row-index (c.given.of_row-index + 1) c.given.said.items c.given-test.false) ∙ c.given.invariant.whole few
