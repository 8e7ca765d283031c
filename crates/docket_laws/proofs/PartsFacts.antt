-- The cases of the parts with one more fact, which is kept or isn't.
use Rattle.std.proofs.Common.{◌≡◌, ℕ, Bool, true, false, cond, ◌==◌, List, [], ◌∷◌, ◌++◌, map, filter, find, None, option_map, if◌then◌else◌, append-nil, ap, sym, ◌∙◌}
use Rattle.std.specs.Option.{option_or}
use Rattle.std.proofs.lemmas.Bool.{eq-eqb, ne_eqb}
use Rattle.docket_rows.specs.declared.fact.Fact.{Fact}
use Rattle.docket_rows.specs.Words.{Rows, DocketedCase, DocketedFact, is_case, is_fact_in, fact_shown, case_shown, parts_of, is_kept, keep_fact, add_fact, with_fact}
use Rattle.docket_laws.proofs.PartsLists.{filter-push_other, map_filter-push}
use Rattle.docket_laws.proofs.PartsCases.{written_at, number_found, shown_same, shown_changed}

-- the case of one more fact, which is kept or isn't, and another case
here_shown : (rows : Rows) (f : DocketedFact) (c : DocketedCase) (kept : Bool) → is_fact_in c.case f ≡ true
    → case_shown (record rows { facts = rows.facts ++ cond kept (f ∷ []) [] }) c ≡ cond kept (keep_fact f.fact (case_shown rows c)) (case_shown rows c)
here_shown rows f c true here = ap (λ (fs : List Fact). record (case_shown rows c) { facts = fs }) (map_filter-push fact_shown (is_fact_in c.case) rows.facts f here)
here_shown rows f c false here = ap (λ (fs : List DocketedFact). record (case_shown rows c) { facts = map fact_shown (filter (is_fact_in c.case) fs) }) (append-nil rows.facts)

other_shown : (rows : Rows) (f : DocketedFact) (c : DocketedCase) (kept : Bool) → is_fact_in c.case f ≡ false → case_shown (record rows { facts = rows.facts ++ cond kept (f ∷ []) [] }) c ≡ case_shown rows c
other_shown rows f c true other = ap (λ (fs : List DocketedFact). record (case_shown rows c) { facts = map fact_shown fs }) (filter-push_other (is_fact_in c.case) rows.facts f other)
other_shown rows f c false other = ap (λ (fs : List DocketedFact). record (case_shown rows c) { facts = map fact_shown (filter (is_fact_in c.case) fs) }) (append-nil rows.facts)

-- one more fact of a case
pub case_with_fact : (rows : Rows) (case : ℕ) (fact : Fact) (n : ℕ) → (parts_of (with_fact case fact rows)).case n ≡ option_or (if n == case then option_map (add_fact fact) ((parts_of rows).case n) else None) ((parts_of rows).case n)
unfolding parts_of
case_with_fact rows case fact =
    let f : DocketedFact = record { case = case; fact = fact } in
    let after = with_fact case fact rows in
    written_at
    (λ n. option_map (case_shown after) (find (is_case n) rows.cases))
    (λ n. option_map (case_shown rows) (find (is_case n) rows.cases))
    (λ n. option_map (add_fact fact) (option_map (case_shown rows) (find (is_case n) rows.cases)))
    case
    (shown_changed (case_shown after) (case_shown rows) (add_fact fact) (find (is_case case) rows.cases) (λ c found.
    let here : (case == c.case) ≡ true = eq-eqb case c.case (sym (number_found rows.cases case c found)) in
    here_shown rows f c (is_kept fact) here))
    (λ n differ. shown_same (case_shown after) (case_shown rows) (find (is_case n) rows.cases) (λ c found.
    let other : (case == c.case) ≡ false = ne_eqb case c.case (λ e. differ (sym (number_found rows.cases n c found) ∙ sym e)) in
    other_shown rows f c (is_kept fact) other))
