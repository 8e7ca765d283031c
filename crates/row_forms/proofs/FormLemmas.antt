-- Command words, their forms, and what rows of each form ask for.
use Rattle.std.proofs.Common.{◌≡◌, ◌==◌, ℕ, ℤ, Bool, true, false, List, [], ◌∷◌, Option, Some, None, Result, Ok, Err, cond, length, not, refl, rules, sym, ap, subst}
use Rattle.std.specs.List.{find}
use Rattle.std.specs.Option.{is_some, ok_or}
use Rattle.std.proofs.lemmas.Slice.Eq.{bytes_eq-Decides}
use Rattle.hearing_slots.proofs.CallerLemmas.{find-Some}
use Rattle.row_forms.specs.declared.fault.RowCause.{RowCause}
use Rattle.row_forms.specs.declared.fault.RowCause.TheVariants.{UnknownCommand, WrongCount}
use Rattle.row_forms.specs.declared.forms.periods.Measured.{Measured}
use Rattle.row_forms.specs.declared.forms.table.Form.{Form}
use Rattle.row_forms.specs.declared.forms.table.Form.TheVariants.{Open, Extend, Reset, Set, Start}
use Rattle.row_forms.specs.declared.row.Work.{Work}
use Rattle.row_forms.specs.declared.row.Work.TheVariants.{Command}
use Rattle.docket_rows.specs.declared.command.Command.TheVariants as command
use Rattle.rule6.specs.declared.timeliness.Act.{Act}
use Rattle.rule_periods.specs.declared.grant.Grant.{Grant}
use Rattle.rule_periods.specs.declared.grant.Request.{Request}
use Rattle.rule_periods.specs.Words.{EventView, is_order, is_set, is_set_length}
use Rattle.court_clock.specs.Words.{minute_of_text}
use Rattle.row_forms.specs.Columns.{◌>>=◌, column, day_in, in_column, number_in}
use Rattle.row_forms.specs.Fields.Choices.{is_so}
use Rattle.row_forms.specs.Fields.Grants.{grant_of, order_dated, reset_to}
use Rattle.row_forms.specs.Forms.{RowsAskByTheirWords, extend_row, form_asking, read_as, set_length, set_to, start_row, work_as, work_of}
use Rattle.row_forms.specs.Forms.Periods.{measured_from}
use Rattle.row_forms.specs.Forms.Table.{CommandWordsNameForms, columns_of_form, command_word, form_of, forms, is_word_of, office_form_of, office_forms}
use Rattle.row_forms.specs.CourtNames.{CourtNames}
use Rattle.row_forms.specs.Office.{is_office_work}
use Rattle.row_forms.proofs.GrantLemmas.{grant_asked, reset_ordered}
use Rattle.row_forms.proofs.PeriodLemmas.{measured_counted}

-- a form that is found among some by a word has that word
pub named_in : (among : List Form) (word : List ℕ) (form : Form) → find (is_word_of word) among ≡ Some form → command_word form ≡ word
unfolding is_word_of
named_in among word form h = sym ((bytes_eq-Decides word (command_word form)).0 (find-Some (is_word_of word) among form h).passes)

named : (word : List ℕ) (form : Form) → form_of word ≡ Some form → command_word form ≡ word
unfolding form_of
named word form h = named_in forms word form h

-- of each form: the second line is checked for every other form
itself : (form : Form) → form_of (command_word form) ≡ Some form
unfolding form_of is_word_of
itself Open = refl
itself other = refl

pub command_words_name_forms_lem : CommandWordsNameForms
command_words_name_forms_lem word form = (named word form, λ same. subst (λ (w : List ℕ). form_of w ≡ Some form) same (itself form))

-- a word that clerk_office takes names the same form at the desk
pub at_desk : (word : List ℕ) (form : Form) → office_form_of word ≡ Some form → form_of word ≡ Some form
unfolding office_form_of
at_desk word form h = (command_words_name_forms_lem word form).1 (named_in office_forms word form h)

pub known_at_desk : (word : List ℕ) → is_some (office_form_of word) ≡ true → is_some (form_of word) ≡ true
known_at_desk word known = by (office_form_of word) refl known
  where
    by : (found : Option Form) → office_form_of word ≡ found → is_some found ≡ true → is_some (form_of word) ≡ true
    by None same none = cc none
    by (Some form) same some = ap is_some (at_desk word form same)

-- what is read, if anything is, is asked for by rows of that form
record Asks (form : Form) (r : Result Work RowCause) : Type 0 where
  asks : (work : Work) → r ≡ Ok work → form_asking work ≡ form

done : (form : Form) (work : Work) → form_asking work ≡ form → Asks form (Ok work)
done form work e = record { asks = λ other same. let equal : work ≡ other = cc same in rw (← equal) e }

after : {A : Type 0} (form : Form) (r : Result A RowCause) (more : A → Result Work RowCause) → ((x : A) → Asks form (more x)) → Asks form (r >>= more)
after form (Ok x) more each = each x
after form (Err cause) more each = record { asks = λ work none. cc none }

counted : (form : Form) (wrong : Bool) (r : Result Work RowCause) → Asks form r → Asks form (cond wrong (Err WrongCount) r)
counted form true r h = record { asks = λ work none. cc none }
counted form false r h = h

-- a row of `start` asks for a period that is counted
pub start_is : (names : CourtNames) (fields : List (List ℕ)) (work : Work) → start_row names fields ≡ Ok work → (form_asking work ≡ Start) × (is_office_work work ≡ true)
start_is names fields work h = by (number_in fields 3) (measured_from names fields 4) refl h
  where
    by : (case : Result ℕ RowCause) (m : Result Measured RowCause) → measured_from names fields 4 ≡ m
        → (case >>= (λ (n : ℕ). m >>= (λ (x : Measured). Ok (Command (command.Start n x.period x.event x.second x.service))))) ≡ Ok work
        → (form_asking work ≡ Start) × (is_office_work work ≡ true)
    by (Err cause) m same e = cc e
    by (Ok n) (Err cause) same e = cc e
    by (Ok n) (Ok x) same e =
        let is : Command (command.Start n x.period x.event x.second x.service) ≡ work = cc e in
        let plain : is_set x.period ≡ false = measured_counted names fields 4 x same in
        let asks : form_asking (Command (command.Start n x.period x.event x.second x.service)) ≡ Start = rw plain refl in
        let office : is_office_work (Command (command.Start n x.period x.event x.second x.service)) ≡ true = rw plain refl in
        rw (← is) (asks, office)

-- a row of `set` asks for a period that an order sets
set_length_is : (time : List ℕ) → is_set_length (set_length time) ≡ true
unfolding set_length
set_length_is [] = refl
set_length_is (b ∷ time) = refl

set_asks : (case : ℕ) (time : List ℕ) (act : Act) (event : EventView) → Asks Set (Ok (Command (command.Start case (set_to (set_length time) act) event None None)))
set_asks case time act event =
    done Set (Command (command.Start case (set_to (set_length time) act) event None None)) (ap (λ b. cond b Set Start) (set_length_is time))

-- a row of `extend` asks for more time, and one of `reset` for what an order sets
asks_for_time : (case deadline : ℕ) (request : Request) → is_order request.grant ≡ false → (form_asking (Command (command.Extend case deadline request)) ≡ Extend) × (is_office_work (Command (command.Extend case deadline request)) ≡ true)
asks_for_time case deadline request plain = (ap (λ b. cond b Reset Extend) plain, ap not plain)

pub extend_is : (fields : List (List ℕ)) (work : Work) → extend_row fields ≡ Ok work → (form_asking work ≡ Extend) × (is_office_work work ≡ true)
extend_is fields work h =
    by (number_in fields 3) (number_in fields 4) (grant_of (column fields 5)) refl (day_in fields 6) (minute_of_text (column fields 7)) (is_so (column fields 8)) (is_so (column fields 9)) (is_so (column fields 10)) h
  where
    by : (case deadline : Result ℕ RowCause) (found : Option Grant) → grant_of (column fields 5) ≡ found → (day : Result ℤ RowCause) (minute : Option ℕ) (motion cause neglect : Option Bool)
        → (case >>= (λ (n : ℕ). deadline >>= (λ (d : ℕ). in_column 5 found >>= (λ (g : Grant). day >>= (λ (a : ℤ). in_column 7 minute >>= (λ (t : ℕ). in_column 8 motion >>= (λ (m : Bool). in_column 9 cause >>= (λ (c : Bool). in_column 10 neglect >>= (λ (x : Bool). Ok (Command (command.Extend n d (record { grant = g; asked = record { day = a; minute = t }; motion = m; cause = c; neglect = x })))))))))))) ≡ Ok work
        → (form_asking work ≡ Extend) × (is_office_work work ≡ true)
    by (Err e) deadline found same day minute motion cause neglect none = cc none
    by (Ok n) (Err e) found same day minute motion cause neglect none = cc none
    by (Ok n) (Ok d) None same day minute motion cause neglect none = cc none
    by (Ok n) (Ok d) (Some g) same (Err e) minute motion cause neglect none = cc none
    by (Ok n) (Ok d) (Some g) same (Ok a) None motion cause neglect none = cc none
    by (Ok n) (Ok d) (Some g) same (Ok a) (Some t) None cause neglect none = cc none
    by (Ok n) (Ok d) (Some g) same (Ok a) (Some t) (Some m) None neglect none = cc none
    by (Ok n) (Ok d) (Some g) same (Ok a) (Some t) (Some m) (Some c) None none = cc none
    by (Ok n) (Ok d) (Some g) same (Ok a) (Some t) (Some m) (Some c) (Some x) read =
        let request : Request = record { grant = g; asked = record { day = a; minute = t }; motion = m; cause = c; neglect = x } in
        let is : Command (command.Extend n d request) ≡ work = cc read in
        rw (← is) (asks_for_time n d request (grant_asked (column fields 5) g same))

reset_asks : (case deadline : ℕ) (time : List ℕ) (event : EventView) (dated : ℤ) → Asks Reset (Ok (Command (command.Extend case deadline (order_dated dated (reset_to time event)))))
reset_asks case deadline time event dated =
    done Reset (Command (command.Extend case deadline (order_dated dated (reset_to time event)))) (ap (λ b. cond b Reset Extend) (reset_ordered time event))

-- of each form, as above
form_asks : (names : CourtNames) (form : Form) (fields : List (List ℕ)) → Asks form (read_as names form fields)
form_asks names Open fields = search (rules, counted, after, done) depth 12
form_asks names Start fields =
    counted Start (not (length fields == length (columns_of_form Start))) (start_row names fields) (record { asks = λ work h. (start_is names fields work h).0 })
form_asks names Extend fields =
    counted Extend (not (length fields == length (columns_of_form Extend))) (extend_row fields) (record { asks = λ work h. (extend_is fields work h).0 })
form_asks names Set fields = search (rules, counted, after, set_asks) depth 12
form_asks names Reset fields = search (rules, counted, after, reset_asks) depth 14
form_asks names other fields = search (rules, counted, after, done) depth 12

pub rows_ask_by_their_words_lem : RowsAskByTheirWords
unfolding work_of work_as
rows_ask_by_their_words_lem names fields work h = by (form_of (column fields 2)) h
  where
    by : (found : Option Form) → (ok_or found UnknownCommand >>= (λ form. read_as names form fields)) ≡ Ok work → found ≡ Some (form_asking work)
    by None e = cc e
    by (Some form) e = ap Some (sym ((form_asks names form fields).asks work e))
