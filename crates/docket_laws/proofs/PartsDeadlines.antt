-- The cases of the parts after a deadline is started, met or extended.
use Rattle.std.proofs.Common.{◌≡◌, ℕ, ℤ, ◌+◌, true, false, ◌==◌, ◌&&◌, List, [], ◌∷◌, ◌++◌, length, map, find, filter, Option, None, option_map, if◌then◌else◌, refl, ap, sym, ◌∙◌, inl, inr}
use Rattle.std.specs.Option.{option_or}
use Rattle.std.proofs.lemmas.Bool.{cases_Bool, eqb-true, eq-eqb, ne_eqb}
use Rattle.rule6.specs.declared.service.ServiceKind.{ServiceKind}
use Rattle.rule6.specs.declared.timeliness.Filing.{Filing}
use Rattle.rule_periods.specs.declared.period.Period.{Period}
use Rattle.rule_periods.specs.declared.grant.Request.{Request}
use Rattle.rule_periods.specs.Words.{DeadlineRowView, EventView, with_grant, with_filing}
use Rattle.docket_rows.specs.declared.command.Command.TheVariants.{Start, FileAct, Extend}
use Rattle.docket_rows.specs.Words.{Rows, DocketedDeadline, NumberedDeadline, is_case, is_deadline_in, deadline_shown, case_shown, parts_of, next_deadline, started, add_deadline, change_deadline, with_deadline, with_changed, case_written, rows_after}
use Rattle.docket_laws.proofs.PartsLists.{map-map, map_changed, filter-push_other, map_filter-push}
use Rattle.docket_laws.proofs.PartsCases.{written_at, number_found, shown_same, shown_changed}

-- one more deadline of a case
pub case_after_start : (rows : Rows) (case : ℕ) (period : Period) (event : EventView) (second : Option ℤ) (service : Option ServiceKind) (n : ℕ) → (parts_of (rows_after rows (Start case period event second service))).case n ≡ option_or (case_written (parts_of rows) (Start case period event second service) n) ((parts_of rows).case n)
unfolding parts_of
case_after_start rows case period event second service =
    let next = next_deadline (parts_of rows) case in
    let row = started period event second service in
    let d : DocketedDeadline = record { case = case; number = next; row = row } in
    let after = record rows { deadlines = rows.deadlines ++ d ∷ [] } in
    written_at
    (λ n. option_map (case_shown after) (find (is_case n) rows.cases))
    (λ n. option_map (case_shown rows) (find (is_case n) rows.cases))
    (λ n. option_map (add_deadline row) (option_map (case_shown rows) (find (is_case n) rows.cases)))
    case
    (shown_changed (case_shown after) (case_shown rows) (add_deadline row) (find (is_case case) rows.cases) (λ c found.
    let here : (case == c.case) ≡ true = eq-eqb case c.case (sym (number_found rows.cases case c found)) in
    let number : next ≡ length (map deadline_shown (filter (is_deadline_in c.case) rows.deadlines)) + 1 = rw found refl in
    ap (λ (ds : List NumberedDeadline). record (case_shown rows c) { deadlines = ds })
    (map_filter-push deadline_shown (is_deadline_in c.case) rows.deadlines d here
    ∙ ap (λ (k : ℕ). map deadline_shown (filter (is_deadline_in c.case) rows.deadlines) ++ record { number = k; row = row } ∷ []) number)))
    (λ n differ. shown_same (case_shown after) (case_shown rows) (find (is_case n) rows.cases) (λ c found.
    let other : (case == c.case) ≡ false = ne_eqb case c.case (λ e. differ (sym (number_found rows.cases n c found) ∙ sym e)) in
    ap (λ (ds : List DocketedDeadline). record (case_shown rows c) { deadlines = map deadline_shown ds }) (filter-push_other (is_deadline_in c.case) rows.deadlines d other)))

module _ (case number : ℕ) (change : DeadlineRowView → DeadlineRowView) where
  -- a change of a deadline leaves it in its case
  stays : (n : ℕ) (d : DocketedDeadline) → is_deadline_in n (with_deadline case number change d) ≡ is_deadline_in n d
  stays n d = elim (cases_Bool (d.case == case && d.number == number)) [
    | inl it ↦ rw it refl
    | inr other ↦ rw other refl
  ]

  -- it changes that deadline of its case
  changes : (d : DocketedDeadline) → (d.case == case) ≡ true → deadline_shown (with_deadline case number change d) ≡ (if d.number == number then record { number = d.number; row = change d.row } else deadline_shown d)
  changes d here = elim (cases_Bool (d.number == number)) [
    | inl it ↦ rw (here, it) refl
    | inr other ↦ rw (here, other) refl
  ]

  -- and none of another case
  leaves : (d : DocketedDeadline) → (d.case == case) ≡ false → deadline_shown (with_deadline case number change d) ≡ deadline_shown d
  leaves d other = rw other refl

  -- a change of a deadline of a case
  pub case_after_change : (rows : Rows) (n : ℕ) → (parts_of (with_changed case number change rows)).case n ≡ option_or (if n == case then option_map (change_deadline number change) ((parts_of rows).case n) else None) ((parts_of rows).case n)
  unfolding parts_of
  case_after_change rows =
      let after = with_changed case number change rows in
      let changed_one = λ (d : NumberedDeadline). if d.number == number then record d { row = change d.row } else d in
      written_at
      (λ n. option_map (case_shown after) (find (is_case n) rows.cases))
      (λ n. option_map (case_shown rows) (find (is_case n) rows.cases))
      (λ n. option_map (change_deadline number change) (option_map (case_shown rows) (find (is_case n) rows.cases)))
      case
      (shown_changed (case_shown after) (case_shown rows) (change_deadline number change) (find (is_case case) rows.cases) (λ c found.
      let same : c.case ≡ case = number_found rows.cases case c found in
      ap (λ (ds : List NumberedDeadline). record (case_shown rows c) { deadlines = ds })
      (map_changed (is_deadline_in c.case) (with_deadline case number change) deadline_shown (λ d. changed_one (deadline_shown d)) rows.deadlines (stays c.case)
      (λ d here. changes d (rw (← same) here))
      ∙ sym (map-map changed_one deadline_shown (filter (is_deadline_in c.case) rows.deadlines)))))
      (λ n differ. shown_same (case_shown after) (case_shown rows) (find (is_case n) rows.cases) (λ c found.
      let same : c.case ≡ n = number_found rows.cases n c found in
      ap (λ (ds : List NumberedDeadline). record (case_shown rows c) { deadlines = ds })
      (map_changed (is_deadline_in c.case) (with_deadline case number change) deadline_shown deadline_shown rows.deadlines (stays c.case)
      (λ d here. leaves d (ne_eqb d.case case (λ e. differ (sym same ∙ sym (eqb-true d.case c.case here) ∙ e)))))))

pub case_after_act : (rows : Rows) (case deadline : ℕ) (filing : Filing) (n : ℕ) → (parts_of (rows_after rows (FileAct case deadline filing))).case n ≡ option_or (case_written (parts_of rows) (FileAct case deadline filing) n) ((parts_of rows).case n)
case_after_act rows case deadline filing n = case_after_change case deadline (λ row. with_filing row filing) rows n

pub case_after_grant : (rows : Rows) (case deadline : ℕ) (request : Request) (n : ℕ) → (parts_of (rows_after rows (Extend case deadline request))).case n ≡ option_or (case_written (parts_of rows) (Extend case deadline request) n) ((parts_of rows).case n)
case_after_grant rows case deadline request n = case_after_change case deadline (λ row. with_grant row request.grant) rows n
