-- An entry is read again as the row that it was made of.
use Rattle.std.proofs.Common.{◌≡◌, ◌∙◌, ◌+◌, ◌≤◌, ◌==◌, ◌&&◌, ℕ, suc, Bool, cond, List, [], ◌∷◌, ◌++◌, Option, Some, None, Result, Ok, Err, true, false, not, leb, ltb, length, refl, sym, ap, subst, append_assoc, arith}
use Rattle.std.proofs.lemmas.Grind.{common_steps}
use Rattle.std.specs.Prelude.{◌||◌, All, codes, nat_eq, nat_lt}
use Rattle.std.specs.Char.{is_ascii_digit}
use Rattle.std.specs.List.{list_all, list_any}
use Rattle.std.specs.Option.{ok_or, option_and_then}
use Rattle.std.specs.Str.{bytes_eq, is_utf8}
use Rattle.std.specs.Str.Parse.{digits_value}
use Rattle.std.proofs.lemmas.Bool.Decides.{nat_tests}
use Rattle.csv.specs.Reading.{default_config, records, records_from, records_next, strip_bom}
use Rattle.csv.specs.Records.{field_at}
use Rattle.csv.specs.Writing.{default_writer, escaped, field_text, fields_text, is_blank, needs_byte, read_back, row_text}
use Rattle.csv.specs.declared.parser.State.TheVariants as st
use Rattle.csv.proofs.RoundTrip.{read-write}
use Rattle.desk_numbers.specs.declared.said.Said.{Said}
use Rattle.desk_numbers.specs.Strikes.Words.{Fits, remark_in, restore_in, row_after, said_as, said_in, said_text, strike_in}
use Rattle.desk_numbers.proofs.StrikesLemmas.LineLemmas.{lacks, lacks-append, past_cut}
use Rattle.desk_numbers.proofs.StrikesLemmas.SaidTextLemmas.{entry_in_parts, said_read, text_lacks}
use Rattle.desk_register.specs.declared.standing.Standing.{Standing}
use Rattle.row_forms.specs.declared.fault.RowCause.{RowCause}
use Rattle.row_forms.specs.declared.fault.RowCause.TheVariants.{BadClerk, NotText, TooManyRows, WrongCount}
use Rattle.row_forms.specs.declared.line.line.Line.{Line}
use Rattle.row_forms.specs.declared.line.line.Line.TheVariants as line
use Rattle.row_forms.specs.declared.row.Row.{Row}
use Rattle.row_forms.specs.declared.row.Work.{Work}
use Rattle.row_forms.specs.Columns.{◌>>=◌}
use Rattle.row_forms.specs.Words.{CourtNames, clerk_of, column, is_number, names_of, number_of, row_of, work_of}
use Rattle.row_forms.specs.Line.Words.{fields_read, line_read}
use Rattle.row_forms.proofs.LineLemmas.CallerLemmas.{has_fields, says_first, says_row}
use Rattle.case_numbers.specs.Words.{CasesView, NameView, after_name, case_read, name_before, name_line, number_of as number_by}
use Rattle.case_numbers.proofs.CallerLemmas.{name_of_line, no_name_line, no_name_past, rest_of_line}
use Rattle.desk_register.specs.Cases.{cases_of}
use Rattle.desk_register.specs.CaseLines.{case_in, fresh_for, lacks_field, most_name, named, named_if, newly, reading_of}
use Rattle.desk_register.specs.Entries.{court_mark, later_file, most_clerks, note_in}
use Rattle.desk_register.specs.Rows.{answer_to, asks, entry_of, follows, has_room, kept_leaves, leaves, left_of, plain_leaves, reading_at, row_in, with_name, within}
use Rattle.desk_register.specs.Laws.{WhatIsLeftFollows}
use Rattle.desk_register.proofs.ListLemmas.{no_note}

-- a text that doesn't begin with the first byte of a byte order mark has none
no_mark : (b : ℕ) (bytes : List ℕ) → (b == 239) ≡ false → strip_bom (b ∷ bytes) ≡ b ∷ bytes
unfolding strip_bom
no_mark b [] other = refl
no_mark b (c ∷ []) other = refl
no_mark b (c ∷ d ∷ bytes) other = rw other refl

-- a digit is no such byte
digit_is_other : (b : ℕ) → is_ascii_digit b ≡ true → (b == 239) ≡ false
digit_is_other b digit = by (b == 239) refl
  where
    by : (same : Bool) → (b == 239) ≡ same → same ≡ false
    by true e = grind (arith, common_steps)
    by false e = refl

-- nor the first of the line of a court's file, of a strike or of a restore
digit_is_no_mark : (b : ℕ) → is_ascii_digit b ≡ true → nat_eq 37 b ≡ false
digit_is_no_mark b digit = by (nat_eq 37 b) refl
  where
    by : (same : Bool) → nat_eq 37 b ≡ same → same ≡ false
    by true e = grind (arith, common_steps)
    by false e = refl

-- the field of a number, and what comes after it, begins with a digit or a quote
number_first : (x more : List ℕ) → is_number x ≡ true → strip_bom (field_text default_writer x ++ more) ≡ field_text default_writer x ++ more
number_first [] more number = cc number
number_first (b ∷ x) more number = by (list_any (needs_byte default_writer) (b ∷ x))
  where
    digit : is_ascii_digit b ≡ true
    digit = grind (arith, common_steps)

    by : (needs : Bool) → strip_bom (cond needs (34 ∷ (escaped default_writer (b ∷ x) ++ 34 ∷ [])) (b ∷ x) ++ more) ≡ cond needs (34 ∷ (escaped default_writer (b ∷ x) ++ 34 ∷ [])) (b ∷ x) ++ more
    by true = no_mark 34 ((escaped default_writer (b ∷ x) ++ 34 ∷ []) ++ more) refl
    by false = no_mark b (x ++ more) (digit_is_other b digit)

number_no_note : (x more : List ℕ) → is_number x ≡ true → note_in (field_text default_writer x ++ more) ≡ None
number_no_note [] more number = cc number
number_no_note (b ∷ x) more number = by (list_any (needs_byte default_writer) (b ∷ x))
  where
    digit : is_ascii_digit b ≡ true
    digit = grind (arith, common_steps)

    by : (needs : Bool) → note_in (cond needs (34 ∷ (escaped default_writer (b ∷ x) ++ 34 ∷ [])) (b ∷ x) ++ more) ≡ None
    by true = no_note 34 ((escaped default_writer (b ∷ x) ++ 34 ∷ []) ++ more) refl
    by false = no_note b (x ++ more) (digit_is_no_mark b digit)

-- nor does it have the line of a name
number_no_name : (x more : List ℕ) → is_number x ≡ true → name_before (field_text default_writer x ++ more) ≡ None
number_no_name [] more number = cc number
number_no_name (b ∷ x) more number = by (list_any (needs_byte default_writer) (b ∷ x))
  where
    digit : is_ascii_digit b ≡ true
    digit = grind (arith, common_steps)

    by : (needs : Bool) → name_before (cond needs (34 ∷ (escaped default_writer (b ∷ x) ++ 34 ∷ [])) (b ∷ x) ++ more) ≡ None
    by true = no_name_line 34 ((escaped default_writer (b ∷ x) ++ 34 ∷ []) ++ more) refl
    by false = no_name_line b (x ++ more) (digit_is_no_mark b digit)

number_past_name : (x more : List ℕ) → is_number x ≡ true → after_name (field_text default_writer x ++ more) ≡ field_text default_writer x ++ more
number_past_name [] more number = cc number
number_past_name (b ∷ x) more number = by (list_any (needs_byte default_writer) (b ∷ x))
  where
    digit : is_ascii_digit b ≡ true
    digit = grind (arith, common_steps)

    by : (needs : Bool) → after_name (cond needs (34 ∷ (escaped default_writer (b ∷ x) ++ 34 ∷ [])) (b ∷ x) ++ more) ≡ cond needs (34 ∷ (escaped default_writer (b ∷ x) ++ 34 ∷ [])) (b ∷ x) ++ more
    by true = no_name_past 34 ((escaped default_writer (b ∷ x) ++ 34 ∷ []) ++ more) refl
    by false = no_name_past b (x ++ more) (digit_is_no_mark b digit)

-- a clerk's number is a number
clerk_is_number : (x : List ℕ) (clerk : ℕ) → clerk_of most_clerks x ≡ Some clerk → is_number x ≡ true
unfolding clerk_of number_of
clerk_is_number x clerk h = by (is_number x) refl h
  where
    by : (number : Bool) → is_number x ≡ number → option_and_then (λ n. cond (leb 1 n && leb n most_clerks) (Some n) None) (cond number (Some (digits_value 10 x)) None) ≡ Some clerk → number ≡ true
    by true e h = refl
    by false e h = cc h

-- a row has at least two fields, and the first is a number
pub spells_row : (names : CourtNames) (fields : List (List ℕ)) (row : Row) → row_of most_clerks names fields ≡ Ok row → (2 ≤ length fields) × (is_number (column fields 1) ≡ true)
unfolding row_of
spells_row names fields row h = by (list_all is_utf8 fields) (ltb (length fields) 2) refl (clerk_of most_clerks (column fields 1)) refl (work_of names fields) h
  where
    by : (text few : Bool) → ltb (length fields) 2 ≡ few → (found : Option ℕ) → clerk_of most_clerks (column fields 1) ≡ found → (work : Result Work RowCause)
        → cond (not text) (Err NotText) (cond few (Err WrongCount) (ok_or found BadClerk >>= (λ clerk. work >>= (λ work. Ok (record { clerk = clerk; work = work }))))) ≡ Ok row
        → (2 ≤ length fields) × (is_number (column fields 1) ≡ true)
    by false few e found same work h = cc h
    by true true e found same work h = cc h
    by true false e None same work h = cc h
    by true false e (Some clerk) same work h =
        let many : 2 ≤ length fields = grind (arith, nat_tests) in
        (many, clerk_is_number (column fields 1) clerk same)

-- the text of a row has no byte order mark
row_has_no_mark : (fields : List (List ℕ)) (tail : List ℕ) → 2 ≤ length fields → is_number (column fields 1) ≡ true → strip_bom (row_text default_writer fields ++ tail) ≡ row_text default_writer fields ++ tail
unfolding field_at
row_has_no_mark [] tail many number = absurd (omega (arith, many))
row_has_no_mark (x ∷ rest) tail many number =
    let ending = cond (is_blank default_writer (x ∷ rest)) (34 ∷ 34 ∷ []) [] ++ 10 ∷ [] in
    let parts : row_text default_writer (x ∷ rest) ++ tail ≡ field_text default_writer x ++ (fields_text default_writer rest ++ (ending ++ tail)) = simp append_assoc in
    ap strip_bom parts ∙ number_first x (fields_text default_writer rest ++ (ending ++ tail)) number ∙ sym parts

-- nor is it a court's file, a strike or a restore
row_is_no_note : (fields : List (List ℕ)) (tail : List ℕ) → 2 ≤ length fields → is_number (column fields 1) ≡ true → note_in (row_text default_writer fields ++ tail) ≡ None
unfolding field_at
row_is_no_note [] tail many number = absurd (omega (arith, many))
row_is_no_note (x ∷ rest) tail many number =
    let ending = cond (is_blank default_writer (x ∷ rest)) (34 ∷ 34 ∷ []) [] ++ 10 ∷ [] in
    let parts : row_text default_writer (x ∷ rest) ++ tail ≡ field_text default_writer x ++ (fields_text default_writer rest ++ (ending ++ tail)) = simp append_assoc in
    ap note_in parts ∙ number_no_note x (fields_text default_writer rest ++ (ending ++ tail)) number

-- nor does it begin with the line of a name
row_has_no_name : (fields : List (List ℕ)) (tail : List ℕ) → 2 ≤ length fields → is_number (column fields 1) ≡ true → name_before (row_text default_writer fields ++ tail) ≡ None
unfolding field_at
row_has_no_name [] tail many number = absurd (omega (arith, many))
row_has_no_name (x ∷ rest) tail many number =
    let ending = cond (is_blank default_writer (x ∷ rest)) (34 ∷ 34 ∷ []) [] ++ 10 ∷ [] in
    let parts : row_text default_writer (x ∷ rest) ++ tail ≡ field_text default_writer x ++ (fields_text default_writer rest ++ (ending ++ tail)) = simp append_assoc in
    ap name_before parts ∙ number_no_name x (fields_text default_writer rest ++ (ending ++ tail)) number

row_past_name : (fields : List (List ℕ)) (tail : List ℕ) → 2 ≤ length fields → is_number (column fields 1) ≡ true → after_name (row_text default_writer fields ++ tail) ≡ row_text default_writer fields ++ tail
unfolding field_at
row_past_name [] tail many number = absurd (omega (arith, many))
row_past_name (x ∷ rest) tail many number =
    let ending = cond (is_blank default_writer (x ∷ rest)) (34 ∷ 34 ∷ []) [] ++ 10 ∷ [] in
    let parts : row_text default_writer (x ∷ rest) ++ tail ≡ field_text default_writer x ++ (fields_text default_writer rest ++ (ending ++ tail)) = simp append_assoc in
    ap after_name parts ∙ number_past_name x (fields_text default_writer rest ++ (ending ++ tail)) number ∙ sym parts

one_more : (n : ℕ) → n + 1 ≡ suc n
one_more n = omega arith

read_as_itself : (fields : List (List ℕ)) → 2 ≤ length fields → read_back fields ≡ fields
read_as_itself [] many = absurd (omega (arith, many))
read_as_itself (x ∷ rest) many = refl

-- the first record of an entry is that of its row
first_record : (fields : List (List ℕ)) (tail : List ℕ) → 2 ≤ length fields → (more : List (List (List ℕ))) × (records default_config (row_text default_writer fields ++ tail) ≡ fields ∷ more)
unfolding records_from
first_record fields tail many =
    let text = row_text default_writer fields ++ tail in (
      records_from default_config (length text) st.StartRecord tail,
      ap (λ n. records_from default_config n st.StartRecord text) (one_more (length text))
          ∙ ap (records_next (records_from default_config (length text))) (read-write fields tail)
          ∙ ap (λ (r : List (List ℕ)). r ∷ records_from default_config (length text) st.StartRecord tail) (read_as_itself fields many),
    )

-- what an entry says that is made of a row
module _ (names : CourtNames) (fields : List (List ℕ)) (row : Row) (tail : List ℕ) (spelled : row_of most_clerks names fields ≡ Ok row) where
  there : (more : List (List (List ℕ))) × (records default_config (strip_bom (row_text default_writer fields ++ tail)) ≡ fields ∷ more)
  there =
      let (many, number) = spells_row names fields row spelled in
      let (more, first) = first_record fields tail many in
      (more, ap (records default_config) (row_has_no_mark fields tail many number) ∙ first)

  pub says_its_row : line_read most_clerks names (row_text default_writer fields ++ tail) ≡ line.Row row
  says_its_row = sym (says_first most_clerks names (row_text default_writer fields ++ tail) fields there.0 (Ok row) there.1 spelled)

  pub has_its_fields : fields_read (row_text default_writer fields ++ tail) ≡ fields
  has_its_fields = sym (has_fields most_clerks names (row_text default_writer fields ++ tail) fields there.0 there.1)

  pub is_no_note : note_in (row_text default_writer fields ++ tail) ≡ None
  is_no_note = let (many, number) = spells_row names fields row spelled in row_is_no_note fields tail many number

-- a name is one that was read
abbrev pub WasRead : Option NameView → Type 0
WasRead None = Unit {0}
WasRead (Some name) = (text : List ℕ) × (case_read text ≡ Some name)

-- the name in the line before an entry that is made of a row, and the rest of it
module _ (names : CourtNames) (fields : List (List ℕ)) (row : Row) (tail : List ℕ) (spelled : row_of most_clerks names fields ≡ Ok row) where
  in_parts : (name : NameView) → name_line (Some name) ++ (row_text default_writer fields ++ tail) ≡ codes "%%case " ++ name.shown ++ 10 ∷ (row_text default_writer fields ++ tail)
  in_parts name = ap (λ (l : List ℕ). codes "%%case " ++ l) (append_assoc name.shown (10 ∷ []) (row_text default_writer fields ++ tail))

  pub its_name : (name : Option NameView) → WasRead name → name_before (name_line name ++ (row_text default_writer fields ++ tail)) ≡ name
  its_name None was = let (many, number) = spells_row names fields row spelled in row_has_no_name fields tail many number
  its_name (Some name) was = ap name_before (in_parts name) ∙ name_of_line was.0 name was.1 (row_text default_writer fields ++ tail)

  pub past_its_name : (name : Option NameView) → WasRead name → after_name (name_line name ++ (row_text default_writer fields ++ tail)) ≡ row_text default_writer fields ++ tail
  past_its_name None was = let (many, number) = spells_row names fields row spelled in row_past_name fields tail many number
  past_its_name (Some name) was = ap after_name (in_parts name) ∙ rest_of_line was.0 name was.1 (row_text default_writer fields ++ tail)

  pub is_no_note_named : (name : Option NameView) → note_in (name_line name ++ (row_text default_writer fields ++ tail)) ≡ None
  unfolding strike_in restore_in row_after
  is_no_note_named None = is_no_note names fields row tail spelled
  is_no_note_named (Some name) = refl

-- the new name of a line was read
module _ (cases : CasesView) (line : List ℕ) (fields : List (List ℕ)) where
  newly_read : (name : NameView) → WasRead (Some name) → (number : Option ℕ) → WasRead (newly line fields name number).name
  newly_read name was None = tt
  newly_read name was (Some number) = was

  named_read : (name : NameView) → WasRead (Some name) → (number : Option ℕ) → WasRead (named cases line fields name number).name
  named_read name was (Some number) = tt
  named_read name was None = newly_read name was (fresh_for cases fields)

  named_if_read : (name : Option NameView) → WasRead name → WasRead (named_if cases line fields name).name
  named_if_read None was = tt
  named_if_read (Some name) was = named_read name was (number_by cases.named name.key)

read_somewhere : (text : List ℕ) (name : Option NameView) → case_read text ≡ name → WasRead name
read_somewhere text None is = tt
read_somewhere text (Some name) is = (text, is)

case_in_read : (fields : List (List ℕ)) → WasRead (case_in fields)
case_in_read fields = by (bytes_eq (column fields 2) (codes "calendar") || nat_lt most_name (length (column fields 3)))
  where
    by : (calendar : Bool) → WasRead (cond calendar None (case_read (column fields 3)))
    by true = tt
    by false = read_somewhere (column fields 3) (case_read (column fields 3)) refl

pub reading_read : (names : CourtNames) (cases : CasesView) (line : List ℕ) → WasRead (reading_of names cases line).name
unfolding reading_of
reading_read names cases line = by (lacks_field 3 (line_read most_clerks names line))
  where
    by : (third : Bool) → WasRead (cond third (named_if cases line (fields_read line) (case_in (fields_read line))) (record { text = line; name = None })).name
    by true = named_if_read cases line (fields_read line) (case_in (fields_read line)) (case_in_read (fields_read line))
    by false = tt

-- a line that isn't one too many says the row that it says
pub within_row : (kept : List (List ℕ)) (said : Line) (row : Row) → within kept said ≡ line.Row row → said ≡ line.Row row
within_row kept line.Blank row h = cc h
within_row kept (line.Fault cause) row h = cc h
within_row kept (line.Row r) row h = by (has_room kept || asks r.work) h
  where
    by : (answered : Bool) → cond answered (line.Row r) (line.Fault TooManyRows) ≡ line.Row row → line.Row r ≡ line.Row row
    by true h = h
    by false h = cc h

-- what a plain line leaves
module _ (under : Standing) (kept : List (List ℕ)) (plain : List ℕ) where
  none_left : (said : Line) → row_in said ≡ [] → left_of under kept (fields_read plain) said ≡ []
  none_left line.Blank none = refl
  none_left (line.Fault cause) none = refl
  none_left (line.Row row) none = cc none

  -- one that says no row leaves nothing
  pub plain_none : (said : Line) → within kept (line_read most_clerks (names_of under.court) plain) ≡ said → row_in said ≡ [] → plain_leaves under kept plain ≡ []
  unfolding plain_leaves
  plain_none said is none = by (has_room kept)
    where
      left : left_of under kept (fields_read plain) (within kept (line_read most_clerks (names_of under.court) plain)) ≡ []
      left = ap (left_of under kept (fields_read plain)) is ∙ none_left said none

      by : (room : Bool) → cond room (left_of under kept (fields_read plain) (within kept (line_read most_clerks (names_of under.court) plain))) [] ≡ []
      by true = left
      by false = refl

  -- none leaves anything where there is no room
  pub plain_full : has_room kept ≡ false → plain_leaves under kept plain ≡ []
  unfolding plain_leaves
  plain_full full = ap (λ (room : Bool). cond room (left_of under kept (fields_read plain) (within kept (line_read most_clerks (names_of under.court) plain))) []) full

  -- one that says a row leaves its entry where there is room
  pub plain_one : (row : Row) → within kept (line_read most_clerks (names_of under.court) plain) ≡ line.Row row → has_room kept ≡ true → plain_leaves under kept plain ≡ entry_of under kept (fields_read plain) row ∷ []
  unfolding plain_leaves
  plain_one row is room =
      ap (λ (r : Bool). cond r (left_of under kept (fields_read plain) (within kept (line_read most_clerks (names_of under.court) plain))) []) room
      ∙ ap (left_of under kept (fields_read plain)) is

-- what is made of a row leaves itself
pub leaves_itself : (under : Standing) (kept : List (List ℕ)) (fields : List (List ℕ)) (row : Row) → row_of most_clerks (names_of under.court) fields ≡ Ok row
    → kept_leaves under kept (entry_of under kept fields row) ≡ entry_of under kept fields row ∷ []
unfolding kept_leaves
leaves_itself under kept fields row spelled =
    ap (λ (l : Line). left_of under kept (fields_read (entry_of under kept fields row)) l) (says_its_row (names_of under.court) fields row (answer_to under kept row) spelled)
    ∙ ap (λ (f : List (List ℕ)). left_of under kept f (line.Row row)) (has_its_fields (names_of under.court) fields row (answer_to under kept row) spelled)

-- and with a name it follows
follows_named : (under : Standing) (kept : List (List ℕ)) (fields : List (List ℕ)) (row : Row) (name : Option NameView) → WasRead name → row_of most_clerks (names_of under.court) fields ≡ Ok row
    → follows under kept (name_line name ++ entry_of under kept fields row)
follows_named under kept fields row name was spelled =
    let whole = name_line name ++ entry_of under kept fields row in
    ap (λ (n : Option NameView). with_name n (kept_leaves under kept (after_name whole))) (its_name (names_of under.court) fields row (answer_to under kept row) spelled name was)
    ∙ ap (λ (e : List ℕ). with_name name (kept_leaves under kept e)) (past_its_name (names_of under.court) fields row (answer_to under kept row) spelled name was)
    ∙ ap (with_name name) (leaves_itself under kept fields row spelled)

-- the law
pub left_follows : WhatIsLeftFollows
unfolding leaves plain_leaves
left_follows under kept bytes entry h = by (has_room kept) (within kept (line_read most_clerks (names_of under.court) (reading_at under kept bytes).text)) refl h
  where
    by : (room : Bool) (l : Line) → within kept (line_read most_clerks (names_of under.court) (reading_at under kept bytes).text) ≡ l
        → with_name (reading_at under kept bytes).name (cond room (left_of under kept (fields_read (reading_at under kept bytes).text) l) []) ≡ entry ∷ [] → (note_in entry ≡ None) × follows under kept entry
    by false l same h = cc h
    by true line.Blank same h = cc h
    by true (line.Fault cause) same h = cc h
    by true (line.Row row) same h =
        let text = (reading_at under kept bytes).text in
        let name = (reading_at under kept bytes).name in
        let said = within_row kept (line_read most_clerks (names_of under.court) text) row same in
        let is_entry : name_line name ++ entry_of under kept (fields_read text) row ≡ entry = cc h in
        let spelled = says_row most_clerks (names_of under.court) text row said in (
          ap note_in (sym is_entry) ∙ is_no_note_named (names_of under.court) (fields_read text) row (answer_to under kept row) spelled name,
          subst (follows under kept) is_entry (follows_named under kept (fields_read text) row name (reading_read (names_of under.court) (cases_of under kept) bytes) spelled),
        )

-- The entry of a later court's file is read back: the file, and what it says of rows.
pub court_back : (said : List Said) (file entry : List ℕ) → All Fits said → entry ≡ ((court_mark ++ said_text said) ++ codes "\n") ++ file → (later_file entry ≡ Some file) × (said_in entry ≡ said)
unfolding remark_in said_in said_as
court_back said file entry fits is =
    let whole : entry ≡ (court_mark ++ said_text said) ++ 10 ∷ file = is ∙ append_assoc (court_mark ++ said_text said) (10 ∷ []) file in
    let first : lacks 10 (court_mark ++ said_text said) ≡ true = lacks-append 10 court_mark (said_text said) refl (text_lacks said fits) in (
      ap later_file whole ∙ ap (λ (rest : List ℕ). Some rest) (past_cut 10 (court_mark ++ said_text said) file first),
      ap said_in whole ∙ ap said_in (sym (entry_in_parts court_mark said file)) ∙ said_read court_mark said file refl refl fits,
    )
