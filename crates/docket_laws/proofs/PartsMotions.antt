-- The parts after a motion is entered.
use Rattle.std.proofs.Common.{◌≡◌, ℕ, ℤ, ◌+◌, Bool, true, false, ◌==◌, List, [], ◌∷◌, ◌++◌, length, map, find, filter, get_or, Option, None, option_map, refl, ap, sym, ◌∙◌}
use Rattle.std.specs.Option.{option_or}
use Rattle.std.proofs.lemmas.Bool.{eq-eqb, ne_eqb}
use Rattle.std.proofs.lemmas.List.{length-map}
use Rattle.hearing_slots.specs.declared.need.Need.{Need}
use Rattle.hearing_slots.specs.Words.{in_order}
use Rattle.docket_rows.specs.declared.hearing.Hearing.{Hearing}
use Rattle.docket_rows.specs.declared.command.Command.TheVariants.{Motion}
use Rattle.docket_rows.specs.Words.{CourtSetup, Rows, DocketedMotion, DocketedHearing, NumberedMotion, CaseRecordView, AreSound, is_case, is_motion_in, is_motion, hearing_of, motion_shown, case_shown, booked, parts_of, next_motion, add_motion, case_written, rows_after}
use Rattle.docket_laws.proofs.PartsLists.{map_agree-kept, filter-push_other, map_filter-push, find-push_found}
use Rattle.docket_laws.proofs.PartsCases.{written_at, number_found, shown_same, shown_changed}
use Rattle.docket_laws.proofs.PartsSeen.{unset, none_next}

-- one more motion of a case
pub case_after_motion : (setup : CourtSetup) (rows : Rows) (case : ℕ) (served : ℤ) (need : Need) → AreSound setup rows → (n : ℕ) → (parts_of (rows_after rows (Motion case served need))).case n ≡ option_or (case_written (parts_of rows) (Motion case served need) n) ((parts_of rows).case n)
unfolding parts_of
case_after_motion setup rows case served need sound =
    let next = next_motion (parts_of rows) case in
    let m : DocketedMotion = record { case = case; number = next; served = served; need = need } in
    let after = record rows { motions = rows.motions ++ m ∷ [] } in
    let change = λ (c : CaseRecordView). add_motion (record { number = length c.motions + 1; served = served; need = need; hearing = None }) c in
    written_at
    (λ n. option_map (case_shown after) (find (is_case n) rows.cases))
    (λ n. option_map (case_shown rows) (find (is_case n) rows.cases))
    (λ n. option_map change (option_map (case_shown rows) (find (is_case n) rows.cases)))
    case
    (shown_changed (case_shown after) (case_shown rows) change (find (is_case case) rows.cases) (λ c found.
    let same : c.case ≡ case = number_found rows.cases case c found in
    let here : (case == c.case) ≡ true = eq-eqb case c.case (sym same) in
    let ms = map (motion_shown rows) (filter (is_motion_in c.case) rows.motions) in
    let number : next ≡ length ms + 1 = rw found refl in
    let count : next ≡ length (filter (is_motion_in case) rows.motions) + 1 = number ∙ ap (λ (k : ℕ). k + 1) (length-map (filter (is_motion_in c.case) rows.motions) (motion_shown rows)) ∙ ap (λ (n : ℕ). length (filter (is_motion_in n) rows.motions) + 1) same in
    let hearing : hearing_of rows case next ≡ None = ap (hearing_of rows case) count ∙ ap (option_map (λ (h : DocketedHearing). h.hearing)) (unset rows sound.hearings_of_motions case _ (none_next case rows.motions (sound.motions_numbered case))) in
    ap (λ (ms : List NumberedMotion). record (case_shown rows c) { motions = ms })
    (map_filter-push (motion_shown rows) (is_motion_in c.case) rows.motions m here
    ∙ ap (λ (h : Option Hearing). ms ++ record { number = next; served = served; need = need; hearing = h } ∷ []) hearing
    ∙ ap (λ (k : ℕ). ms ++ record { number = k; served = served; need = need; hearing = None } ∷ []) number)))
    (λ n differ. shown_same (case_shown after) (case_shown rows) (find (is_case n) rows.cases) (λ c found.
    let other : (case == c.case) ≡ false = ne_eqb case c.case (λ e. differ (sym (number_found rows.cases n c found) ∙ sym e)) in
    ap (λ (ms : List DocketedMotion). record (case_shown rows c) { motions = map (motion_shown rows) ms }) (filter-push_other (is_motion_in c.case) rows.motions m other)))

-- which changes no calendar: each hearing is that of a motion that was entered before
pub calendar_after_motion : (setup : CourtSetup) (rows : Rows) (case : ℕ) (served : ℤ) (need : Need) → AreSound setup rows → (other : Hearing → ℕ) (test : Hearing → Bool) → in_order (map (λ h. booked (rows_after rows (Motion case served need)) (other h.hearing) h) (filter (λ (h : DocketedHearing). test h.hearing) rows.hearings)) ≡ in_order (map (λ h. booked rows (other h.hearing) h) (filter (λ (h : DocketedHearing). test h.hearing) rows.hearings))
calendar_after_motion setup rows case served need sound other test =
    let after = rows_after rows (Motion case served need) in
    ap in_order (map_agree-kept (λ (h : DocketedHearing). test h.hearing) (λ h. booked after (other h.hearing) h) (λ h. booked rows (other h.hearing) h) rows.hearings (λ k d within passes.
    let h = get_or rows.hearings k d in
    let stands : find (is_motion h.case h.motion) after.motions ≡ find (is_motion h.case h.motion) rows.motions = find-push_found (is_motion h.case h.motion) rows.motions _ (sound.hearings_of_motions k d within) in
    rw stands refl))
