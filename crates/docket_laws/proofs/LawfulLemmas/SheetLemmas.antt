-- The deadlines on the sheet of a case.
use Rattle.std.proofs.Common.{◌≡◌, ℕ, true, is_some, map, filter, find, get_or, Option, Some, None, option_map, refl, ap, sym, ◌∙◌}
use Rattle.std.specs.Option.{option_map_or}
use Rattle.std.proofs.lemmas.Bool.{eqb-true}
use Rattle.std.proofs.lemmas.Simd.{map-map}
use Rattle.docket_rows.specs.declared.query.Query.TheVariants as query
use Rattle.docket_rows.specs.declared.refusal.Refusal.{Refusal}
use Rattle.docket_rows.specs.declared.refusal.Refusal.TheVariants.{NoSuchCase}
use Rattle.docket_rows.specs.declared.sheet.Sheet.{Sheet}
use Rattle.docket_rows.specs.declared.view.View.TheVariants as view
use Rattle.docket_rows.specs.Words.{CourtSetup, Rows, DocketedCase, DocketedDeadline, CaseRecordView, ending_in, facts_of, parts_of, is_case, is_deadline_in, case_shown, deadline_shown, query_refusal, sheet_deadline, sheet_of, seen_by, view_of}
use Rattle.docket_laws.specs.Lawful.{deadline_on_sheet}
use Rattle.docket_laws.proofs.PartsLists.{map_agree-kept}
use Rattle.docket_laws.proofs.LawfulLemmas.ListLemmas.{found_stands}
use Rattle.docket_laws.proofs.LawfulLemmas.SeenLemmas.{case_is}

same_sheet : (a b : Sheet) → view.Sheet a ≡ view.Sheet b → a ≡ b
same_sheet a b h = cc

-- a deadline of the case, as its sheet shows it
of_its_case : (setup : CourtSetup) (rows : Rows) (case : ℕ) (d : DocketedDeadline) → is_deadline_in case d ≡ true → sheet_deadline setup (parts_of rows) (facts_of rows case) (deadline_shown d) ≡ deadline_on_sheet setup rows d
unfolding parts_of
of_its_case setup rows case d here = ap (λ (n : ℕ). record (deadline_on_sheet setup rows d) { ended = ending_in (facts_of rows n) d.number (is_some d.row.filed) }) (sym (eqb-true d.case case here))

-- a sheet that is shown is that of a case of the rows
sheet_shown : (setup : CourtSetup) (rows : Rows) (case : ℕ) (refused : Option Refusal) (c : Option DocketedCase) (sheet : Sheet) → find (is_case case) rows.cases ≡ c → option_map_or view.Refused refused (option_map_or (λ (r : CaseRecordView). view.Sheet (sheet_of setup (parts_of rows) case r)) (option_map (case_shown rows) c) (view.Refused NoSuchCase)) ≡ view.Sheet sheet → sheet.deadlines ≡ map (deadline_on_sheet setup rows) (filter (is_deadline_in case) rows.deadlines)
unfolding parts_of
sheet_shown setup rows case (Some r) c sheet found h = absurd cc
sheet_shown setup rows case None None sheet found h = absurd cc
sheet_shown setup rows case None (Some c) sheet found h =
    let same = same_sheet (sheet_of setup (parts_of rows) case (case_shown rows c)) sheet h in
    let of_case : c.case ≡ case = case_is case c (found_stands (is_case case) rows.cases c found).1 in
    ap (λ (s : Sheet). s.deadlines) (sym same)
    ∙ map-map (sheet_deadline setup (parts_of rows) (facts_of rows c.case)) deadline_shown (filter (is_deadline_in c.case) rows.deadlines)
    ∙ map_agree-kept (is_deadline_in c.case) (λ d. sheet_deadline setup (parts_of rows) (facts_of rows c.case) (deadline_shown d)) (deadline_on_sheet setup rows) rows.deadlines (λ k d within here. of_its_case setup rows c.case (get_or rows.deadlines k d) here)
    ∙ ap (λ n. map (deadline_on_sheet setup rows) (filter (is_deadline_in n) rows.deadlines)) of_case

pub deadlines_on_sheet : (setup : CourtSetup) (rows : Rows) (case : ℕ) (sheet : Sheet) → view_of setup rows (query.Sheet case) ≡ view.Sheet sheet → sheet.deadlines ≡ map (deadline_on_sheet setup rows) (filter (is_deadline_in case) rows.deadlines)
unfolding seen_by parts_of
deadlines_on_sheet setup rows case sheet h = sheet_shown setup rows case (query_refusal setup (parts_of rows) (query.Sheet case)) (find (is_case case) rows.cases) sheet refl h
