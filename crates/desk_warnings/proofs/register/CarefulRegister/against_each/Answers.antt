use Rattle.std.proofs.Common.{Bor, ◌∙◌, ◌++◌, ℕ, List, [], get_or, string_bytes, ap, sym}
use Rattle.std.specs.List.{flat_map}
use Rattle.std.proofs.lemmas.List.{get_or_default, take_all}
use Rattle.desk_warnings.specs.Inside.Rows.{row_texts}
use Rattle.desk_warnings.specs.Rows.{against_one}
use Rattle.desk_warnings.proofs.RowLemmas.{against_more}
use Rattle.desk_warnings.proofs.register.CarefulRegister.against_each.Goals as goal

pub loop-row-preserved : goal.loop-row-preserved
loop-row-preserved c = λ kept stands.
    let under = c.args.standing.now in
    let held = c.args.held_back.now in
    let several = c.args.several in
    let blank : Bor (List ℕ) = record { ref_ptr = (0, 0); now = [] } in
    let place : Bor (List ℕ) = get_or c.args.rows.now c.loop-row.row-index blank in
    c.in_ok-push_str.ensures.bytes
    ∙ ap (λ (t : List ℕ). string_bytes c.loop-row.text ++ t) (c.as_str.ensures.value ∙ c.in_ok-against.ensures kept stands)
    ∙ ap (λ (t : List ℕ). t ++ against_one under held kept several place.now) (c.loop-row.invariant kept stands)
    ∙ sym (against_more (against_one under held kept several) c.args.rows.now c.loop-row.row-index place c.loop-row-test.true (get_or_default c.args.rows.now c.loop-row.row-index blank place c.loop-row-test.true))

pub returns : goal.returns
returns c = λ kept stands.
    c.loop-row.invariant kept stands
    ∙ ap (λ rows. flat_map (against_one c.args.standing.now c.args.held_back.now kept c.args.several) (row_texts rows)) (take_all c.loop-row.row-index c.args.rows.now c.loop-row-test.false)
