use Rattle.std.proofs.Common.{◌∙◌, ◌++◌, ◌∷◌, [], ℕ, List, Option, None, ap, arith, map}
use Rattle.row_forms.specs.Words.{names_of}
use Rattle.desk_entries.specs.Words.{note_in, row_only}
use Rattle.desk_program.specs.RowCase.{case_named}
use Rattle.desk_program.proofs.RowCaseLemmas.{cases_all, cases_first, cases_more}
use Rattle.desk_program.proofs.row_case.cases_named.Goals as goal

pub loop-place-init : goal.loop-place-init
loop-place-init c = (omega arith, cases_first (names_of c.args.court.now) c.args.entries.now c.push.new.self.items (c.in_ok-push.ensures.items ∙ ap (λ (l : List (Option ℕ)). l ++ None ∷ []) c.new-cases.ensures.items))

pub loop-place-preserved : goal.loop-place-preserved
loop-place-preserved c =
    let (begun, so_far) = c.loop-place.invariant in (
      omega (arith, begun),
      cases_more (names_of c.args.court.now) c.args.entries.now c.loop-place.place c.index-entries-place.result c.loop-place.cases.items c.push_case.new.cases.items begun c.loop-place-test.true c.index-entries-place.is so_far
          (c.in_ok-push_case.ensures ∙ ap (λ (e : List ℕ). c.loop-place.cases.items ++ map (case_named (names_of c.args.court.now)) (row_only (note_in e) e)) c.deref.ensures.value),
    )

pub returns : goal.returns
returns c = let (begun, so_far) = c.loop-place.invariant in cases_all (names_of c.args.court.now) c.args.entries.now c.loop-place.place c.loop-place.cases.items (omega (arith, c.loop-place-test.false)) so_far
