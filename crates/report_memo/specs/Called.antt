-- What comes after how an entered period is entered: the sections that set such a period, and where the court's own are from, or else
-- its code.
use Rattle.std.specs.Prelude.{ℕ, ℤ, int_lt, ◌||◌, Bool, false, List, [], ◌∷◌, ◌++◌, Option, Some, None, codes, unwrap_or, if◌then◌else◌}
use Rattle.std.specs.Str.{bytes_eq}
use Rattle.std.specs.Option.{option_map_or}
use Rattle.court_clock.specs.Words.{day_of_text}
use Rattle.court_file_text.specs.Words.{NamedTextView, PeriodNamesView, text_named}
use Rattle.rule_periods.specs.declared.period.Period.{Period}
use Rattle.rule_periods.specs.declared.period.Period.TheVariants as period
use Rattle.row_fields.specs.declared.named.RuleBook.{RuleBook}
use Rattle.row_fields.specs.declared.named.RuleBook.TheVariants.{CivilRules, ForfeitureRules, SocialSecurityRules, AppellateRules, Title5, Title28, Title42}
use Rattle.row_fields.specs.Words.{NamedPeriodView, named_periods}
use Rattle.office_texts.specs.Words.{entered_text}

-- the other period of a section has this code
abbrev pub is_other : (code : List ℕ) → Option (List ℕ) → Bool
is_other code None = false
is_other code (Some other) = bytes_eq other code

-- a section sets a period with this code
unfoldable pub sets_period : (code : List ℕ) → NamedPeriodView → Bool
sets_period code p = bytes_eq p.text code || is_other code p.other

-- what stands before a section: those of the other books say themselves in which they are
abbrev pub book_words : RuleBook → List ℕ
book_words CivilRules = codes "Rule "
book_words ForfeitureRules = []
book_words SocialSecurityRules = []
book_words AppellateRules = []
book_words Title5 = []
book_words Title28 = []
book_words Title42 = []

-- the event lies before the day from which a section sets its period
abbrev pub is_older : (event : ℤ) → (since : List ℕ) → Bool
is_older event since = option_map_or (λ day. int_lt event day) (day_of_text since) false

-- ` (since 2018-12-01)`, if it does
abbrev pub since_words : (event : ℤ) → (since : List ℕ) → List ℕ
since_words event since = if is_older event since then codes " (since " ++ since ++ codes ")" else []

-- `Rule 33(b)(2)`, `28 U.S.C. 1446(b)(1)`, `Rule 62(a) (since 2018-12-01)`
unfoldable pub citation : (event : ℤ) → NamedPeriodView → List ℕ
citation event p = book_words p.book ++ p.section ++ since_words event p.since

-- where a period of the court's own is from, `LRCiv 7.2(c)`, or else its name
abbrev pub own_citation : PeriodNamesView → (name : List ℕ) → List ℕ
own_citation names name = unwrap_or (text_named names.cites name) name

-- those of these periods of the court's own that have this text, with `front` before the first one and a comma between two; `none` where
-- none has
unfoldable pub own_citations : PeriodNamesView → (front none code : List ℕ) → List NamedTextView → List ℕ
own_citations names front none code [] = none
own_citations names front none code (n ∷ texts) =
    if bytes_eq n.text code then front ++ own_citation names n.name ++ own_citations names (codes ", ") [] code texts
    else own_citations names front none code texts

-- those of these sections that set a period with this code, and then those of the court's own, likewise
unfoldable pub citations : PeriodNamesView → (event : ℤ) → (front none code : List ℕ) → List NamedPeriodView → List ℕ
citations names event front none code [] = own_citations names front none code names.texts
citations names event front none code (p ∷ periods) =
    if sets_period code p then front ++ citation event p ++ citations names event (codes ", ") [] code periods
    else citations names event front none code periods

-- `, as in Rule 50(b)`, or ` (72h/after/filing/event/plain)` where no section that is known sets such a period, and no rule of the court
unfoldable pub code_back : PeriodNamesView → (event : ℤ) → (code : List ℕ) → List ℕ
code_back names event code = citations names event (codes ", as in ") (codes " (" ++ code ++ codes ")") code named_periods

-- a period of the Rules has its section already
unfoldable pub period_back : PeriodNamesView → (event : ℤ) → Period → List ℕ
period_back names event (period.Rule rule) = []
period_back names event (period.Entered entered) = code_back names event (entered_text entered)
