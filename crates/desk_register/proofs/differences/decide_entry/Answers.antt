use Rattle.std.proofs.Common.{◌≡◌, ◌∙◌, ◌<◌, ◌++◌, ◌∷◌, [], ℕ, List, None, false, true, append-nil, ap, length, map, sym, subst, arith}
use Rattle.std.specs.Prelude.{MatchOption}
use Rattle.std.proofs.lemmas.List.{map_push}
use Rattle.desk_numbers.specs.Strikes.Words.{is_struck}
use Rattle.desk_register.specs.Differences.{Change, IsOtherwise, change_in}
use Rattle.desk_register.specs.Entries.{most_entries, next_number, note_in}
use Rattle.desk_register.specs.Rows.{follows}
use Rattle.desk_register.proofs.ChangeLemmas.{change_otherwise, change_same, change_struck}
use Rattle.desk_register.proofs.ListLemmas.{none_unless}
use Rattle.desk_register.proofs.NoteLemmas.{change_noted, none_if, some_if}
use Rattle.desk_register.proofs.RegisterLemmas.{stands_past_struck}
use Rattle.desk_register.proofs.differences.decide_entry.Goals as goal

pub returns-then-not-is_row-clause-stands : goal.returns-then-not-is_row-clause-stands
returns-then-not-is_row-clause-stands c = λ kept stands.
    let short : length kept < most_entries = omega (arith, stands.count, c.requires.room) in
    c.pass_note.ensures c.args.under.now kept c.args.entry.now stands short (some_if (note_in c.args.entry.now) (sym c.is_row.ensures ∙ c.if-not-is_row.true))

pub returns-then-not-is_row-clause-changes : goal.returns-then-not-is_row-clause-changes
returns-then-not-is_row-clause-changes c = λ kept stands.
    sym (ap (λ (l : List Change). map change_in c.args.differences.now.items ++ l) (change_noted c.args.under.now kept c.args.entry.now (some_if (note_in c.args.entry.now) (sym c.is_row.ensures ∙ c.if-not-is_row.true))) ∙ append-nil (map change_in c.args.differences.now.items))

pub returns-then-is_struck-clause-stands : goal.returns-then-is_struck-clause-stands
returns-then-is_struck-clause-stands c = λ kept stands.
    let none = none_if (note_in c.args.entry.now) (sym c.is_row.ensures ∙ c.if-not-is_row.false) in
    let struck : is_struck c.args.under.now.corrections (next_number kept) ≡ true = ap (is_struck c.args.under.now.corrections) (sym stands.number) ∙ sym c.is_struck.ensures ∙ c.if-is_struck.true in
    stands_past_struck c.args.under.now c.args.register.now c.pass_struck.new.self kept c.args.entry.now stands c.requires.room none struck c.pass_struck.ensures.docket c.in_ok-pass_struck.ensures.numbers c.in_ok-pass_struck.ensures.cases c.pass_struck.ensures.called c.in_ok-pass_struck.ensures.number c.in_ok-pass_struck.ensures.count

pub returns-then-is_struck-clause-changes : goal.returns-then-is_struck-clause-changes
returns-then-is_struck-clause-changes c = λ kept stands.
    let none = none_if (note_in c.args.entry.now) (sym c.is_row.ensures ∙ c.if-not-is_row.false) in
    let struck : is_struck c.args.under.now.corrections (next_number kept) ≡ true = ap (is_struck c.args.under.now.corrections) (sym stands.number) ∙ sym c.is_struck.ensures ∙ c.if-is_struck.true in
    sym (ap (λ (l : List Change). map change_in c.args.differences.now.items ++ l) (change_struck c.args.under.now kept c.args.entry.now none struck) ∙ append-nil (map change_in c.args.differences.now.items))

pub returns-in_ok-push-clause-stands : goal.returns-in_ok-push-clause-stands
returns-in_ok-push-clause-stands c = λ kept stands. c.in_ok-answer.ensures.stands kept stands (none_if (note_in c.args.entry.now) (sym c.is_row.ensures ∙ c.if-not-is_row.false))

pub returns-in_ok-push-clause-changes : goal.returns-in_ok-push-clause-changes
returns-in_ok-push-clause-changes c = λ kept stands.
    let none : note_in c.args.entry.now ≡ None = none_if (note_in c.args.entry.now) (sym c.is_row.ensures ∙ c.if-not-is_row.false) in
    let live : is_struck c.args.under.now.corrections (next_number kept) ≡ false = ap (is_struck c.args.under.now.corrections) (sym stands.number) ∙ sym c.is_struck.ensures ∙ c.if-is_struck.false in
    let otherwise : IsOtherwise c.args.under.now kept c.args.entry.now c.in-Some.answer.items =
    subst (λ o. MatchOption o (follows c.args.under.now kept c.args.entry.now) (λ a. IsOtherwise c.args.under.now kept c.args.entry.now a.items)) c.in-Some.is (c.in_ok-answer.ensures.other kept stands) in
    let whole : ℕ → List ℕ → Change = λ (n : ℕ) (e : List ℕ). record { number = n; entry = e; answer = c.in-Some.answer.items } in
    ap (map change_in) c.in_ok-push.ensures.items
    ∙ map_push change_in c.args.differences.now.items _
    ∙ ap (λ (l : List Change). map change_in c.args.differences.now.items ++ l)
    (ap (λ (e : List ℕ). whole c.args.register.now.number e ∷ []) c.in_ok-entry.ensures.items ∙ ap (λ (n : ℕ). whole n c.args.entry.now ∷ []) stands.number
    ∙ sym (change_otherwise c.args.under.now kept c.args.entry.now c.in-Some.answer.items none live otherwise))

pub returns-in_default-clause-stands : goal.returns-in_default-clause-stands
returns-in_default-clause-stands c = λ kept stands. c.in_ok-answer.ensures.stands kept stands (none_if (note_in c.args.entry.now) (sym c.is_row.ensures ∙ c.if-not-is_row.false))

pub returns-in_default-clause-changes : goal.returns-in_default-clause-changes
returns-in_default-clause-changes c = λ kept stands.
    let none : note_in c.args.entry.now ≡ None = none_if (note_in c.args.entry.now) (sym c.is_row.ensures ∙ c.if-not-is_row.false) in
    let live : is_struck c.args.under.now.corrections (next_number kept) ≡ false = ap (is_struck c.args.under.now.corrections) (sym stands.number) ∙ sym c.is_struck.ensures ∙ c.if-is_struck.false in
    let may : follows c.args.under.now kept c.args.entry.now = none_unless (follows c.args.under.now kept c.args.entry.now) (λ a. IsOtherwise c.args.under.now kept c.args.entry.now a.items) c.in_ok-answer.field-0 (c.in_ok-answer.ensures.other kept stands) c.in_default.not-Some in
    sym (ap (λ (l : List Change). map change_in c.args.differences.now.items ++ l) (change_same c.args.under.now kept c.args.entry.now none live may) ∙ append-nil (map change_in c.args.differences.now.items))
