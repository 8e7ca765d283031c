-- The sections of Rules and statutes that set a period which is entered, by their names (docs/law/RULES.md).
use Rattle.std.specs.Prelude.{◌≡◌, ℕ, ◌&&◌, nat_eq, not, Bool, true, false, List, [], ◌∷◌, codes, drop, find, length, Option, Some, None, option_map}
use Rattle.std.specs.List.{list_any, starts_with}
use Rattle.std.specs.Str.{bytes_eq}
use Rattle.row_fields.specs.declared.named.NamedPeriod.{NamedPeriod}
use Rattle.row_fields.specs.declared.named.RuleBook.{RuleBook}
use Rattle.row_fields.specs.declared.named.RuleBook.TheVariants.{CivilRules, ForfeitureRules, SocialSecurityRules, AppellateRules, Title5, Title28, Title42}
use Rattle.row_fields.specs.declared.said.Said.{Said}
use Rattle.row_fields.specs.declared.said.Said.TheVariants.{Unknown, Clear, Unclear}
use Rattle.row_fields.specs.Choices.{cited, rule_said}

-- a section: in which book it is, as it is cited, its number when it is folded, the code of its period, and the period as it is
-- entered, or the two that it sets, which have no code; and the day from which the section as it is cited sets them
pub record NamedPeriodView : Type 0 where
  pub book : RuleBook
  pub section : List ℕ
  pub number : List ℕ
  pub code : Option (List ℕ)
  pub text : List ℕ
  pub other : Option (List ℕ)
  pub since : List ℕ

abbrev pub one_since : (since : List ℕ) → RuleBook → (section number code text : List ℕ) → NamedPeriodView
one_since since book section number code text = record { book = book; section = section; number = number; code = Some code; text = text; other = None; since = since }

abbrev pub two_since : (since : List ℕ) → RuleBook → (section number text other : List ℕ) → NamedPeriodView
two_since since book section number text other = record { book = book; section = section; number = number; code = None; text = text; other = Some other; since = since }

-- most of the Rules' periods are as they are since the amendments of 2009, by which every day counts
abbrev pub one_period : RuleBook → (section number code text : List ℕ) → NamedPeriodView
one_period book section number code text = one_since (codes "2009-12-01") book section number code text

abbrev pub two_periods : RuleBook → (section number text other : List ℕ) → NamedPeriodView
two_periods book section number text other = two_since (codes "2009-12-01") book section number text other

abbrev pub period_view : NamedPeriod → NamedPeriodView
period_view p = record { book = p.book; section = p.section.now; number = p.number.now; code = option_map (λ t. t.now) p.code; text = p.text.now; other = option_map (λ t. t.now) p.other; since = p.since.now }

-- What comes before the number of a section, as people cite it, when it is folded. For the Federal Rules of Civil Procedure it
-- is nothing, `Rule`, `FRCP` or `Fed. R. Civ. P.`.
abbrev pub fronts : RuleBook → List (List ℕ)
fronts CivilRules = cited []
fronts ForfeitureRules =
    [] ∷ codes "rule" ∷ codes "supp" ∷ codes "suppr" ∷ codes "supprule" ∷ codes "supplementalrule" ∷ codes "fedrcivpsuppr" ∷ []
fronts SocialSecurityRules = codes "suppsocsec" ∷ codes "supprsocsec" ∷ codes "supprulesfor405g" ∷ codes "socsec" ∷ []
fronts AppellateRules = codes "frap" ∷ codes "fedrappp" ∷ []
fronts Title5 = codes "5usc" ∷ [] ∷ []
fronts Title28 = codes "28usc" ∷ [] ∷ []
fronts Title42 = codes "42usc" ∷ [] ∷ []

-- a word that is folded is this number after this front
unfoldable pub is_number_after : (front number word : List ℕ) → Bool
is_number_after front number word = starts_with nat_eq word front && bytes_eq (drop (length front) word) number

-- a word that is folded cites a section
unfoldable pub cites : (word : List ℕ) → NamedPeriodView → Bool
cites word p = list_any (λ front. is_number_after front p.number word) (fronts p.book)

-- The sections, as they are cited and by their numbers, with the code and the text of the period that each sets. Where two numbers are
-- next to one another a blank is between them, as when a field is folded. A section that sets two periods may have parts that set one
-- each.
unfoldable pub named_periods : List NamedPeriodView
named_periods =
    (two_periods CivilRules (codes "4(d)(1)(F)") (codes "4d1f") (codes "30d/after/service/event/plain") (codes "60d/after/service/event/plain")
    ∷ one_period CivilRules (codes "5.1(c)") (codes "5 1c") (codes "5.1c") (codes "60d/after/filing/event/plain")
    ∷ one_period CivilRules (codes "6(c)(1)") (codes "6c1") (codes "6c1") (codes "14d/before/service/event/plain")
    ∷ one_period CivilRules (codes "6(c)(2)") (codes "6c2") (codes "6c2") (codes "7d/before/service/event/plain")
    ∷ one_period CivilRules (codes "11(c)(2)") (codes "11c2") (codes "11c2") (codes "21d/after/filing/served/plain")
    ∷ one_period CivilRules (codes "12(a)(4)(A)") (codes "12a4a") (codes "12a4A") (codes "14d/after/service/event/plain")
    ∷ one_period CivilRules (codes "12(a)(4)(B)") (codes "12a4b") (codes "12a4B") (codes "14d/after/service/served/plain")
    ∷ one_period CivilRules (codes "12(e)") (codes "12e") (codes "12e") (codes "14d/after/service/event/plain")
    ∷ one_period CivilRules (codes "12(f)(2)") (codes "12f2") (codes "12f2") (codes "21d/after/filing/served/plain")
    ∷ one_period CivilRules (codes "14(a)(1)") (codes "14a1") (codes "14a1") (codes "14d/after/filing/event/plain")
    ∷ one_period CivilRules (codes "15(a)(1)(A)") (codes "15a1a") (codes "15a1A") (codes "21d/after/filing/event/plain")
    ∷ one_period CivilRules (codes "15(a)(1)(B)") (codes "15a1b") (codes "15a1B") (codes "21d/after/filing/served/plain")
    ∷ one_period CivilRules (codes "15(a)(3)") (codes "15a3") (codes "15a3") (codes "14d/after/service/served/plain")
    ∷ two_since (codes "2015-12-01") CivilRules (codes "16(b)(2)") (codes "16b2") (codes "90d/after/filing/event/plain") (codes "60d/after/filing/event/plain")
    ∷ two_since (codes "2018-12-01") CivilRules (codes "23(f)") (codes "23f") (codes "14d/after/filing/event/60b") (codes "45d/after/filing/event/60b")
    ∷ two_periods CivilRules (codes "25(a)(1)") (codes "25a1") (codes "90d/after/filing/served/plain") (codes "90d/after/filing/event/plain")
    ∷ one_period CivilRules (codes "26(a)(1)(C)") (codes "26a1c") (codes "26a1C") (codes "14d/after/service/event/plain")
    ∷ one_period CivilRules (codes "26(a)(1)(D)") (codes "26a1d") (codes "26a1D") (codes "30d/after/service/event/plain")
    ∷ one_since (codes "2010-12-01") CivilRules (codes "26(a)(2)(D)(i)") (codes "26a2di") (codes "26a2Di") (codes "90d/before/service/event/plain")
    ∷ one_since (codes "2010-12-01") CivilRules (codes "26(a)(2)(D)(ii)") (codes "26a2dii") (codes "26a2Dii") (codes "30d/after/service/event/plain")
    ∷ two_periods CivilRules (codes "26(a)(3)(B)") (codes "26a3b") (codes "30d/before/service/event/plain") (codes "14d/after/service/event/plain")
    ∷ one_since (codes "2015-12-01") CivilRules (codes "26(d)(2)") (codes "26d2") (codes "26d2") (codes "21d/after/service/event/plain")
    ∷ one_period CivilRules (codes "26(f)(1)") (codes "26f1") (codes "26f1") (codes "21d/before/service/event/plain")
    ∷ one_period CivilRules (codes "26(f)(2)") (codes "26f2") (codes "26f2") (codes "14d/after/filing/event/plain")
    ∷ one_period CivilRules (codes "27(a)(2)") (codes "27a2") (codes "27a2") (codes "21d/before/service/event/plain")
    ∷ one_period CivilRules (codes "30(e)(1)") (codes "30e1") (codes "30e1") (codes "30d/after/service/event/plain")
    ∷ two_periods CivilRules (codes "31(a)(5)") (codes "31a5") (codes "14d/after/service/served/plain") (codes "7d/after/service/served/plain")
    ∷ one_period CivilRules (codes "33(b)(2)") (codes "33b2") (codes "33b2") (codes "30d/after/service/served/plain")
    ∷ two_since (codes "2015-12-01") CivilRules (codes "34(b)(2)(A)") (codes "34b2a") (codes "30d/after/service/served/plain") (codes "30d/after/service/event/plain")
    ∷ one_period CivilRules (codes "36(a)(3)") (codes "36a3") (codes "36a3") (codes "30d/after/service/served/plain")
    ∷ two_periods CivilRules (codes "38(b)(1)") (codes "38b1") (codes "14d/after/service/served/plain") (codes "14d/after/service/event/plain")
    ∷ one_period CivilRules (codes "38(c)") (codes "38c") (codes "38c") (codes "14d/after/service/served/plain")
    ∷ one_since (codes "2013-12-01") CivilRules (codes "45(d)(2)(B)") (codes "45d2b") (codes "45d2B") (codes "14d/after/service/event/plain")
    ∷ one_period CivilRules (codes "50(b)") (codes "50b") (codes "50b") (codes "28d/after/filing/event/50b")
    ∷ one_period CivilRules (codes "50(d)") (codes "50d") (codes "50d") (codes "28d/after/filing/event/50d")
    ∷ one_period CivilRules (codes "52(b)") (codes "52b") (codes "52b") (codes "28d/after/filing/event/52b")
    ∷ one_period CivilRules (codes "53(f)(2)") (codes "53f2") (codes "53f2") (codes "21d/after/filing/served/plain")
    ∷ two_periods CivilRules (codes "54(d)(1)") (codes "54d1") (codes "14d/after/filing/event/plain") (codes "7d/after/service/event/plain")
    ∷ one_period CivilRules (codes "54(d)(2)(B)") (codes "54d2b") (codes "54d2B") (codes "14d/after/filing/event/plain")
    ∷ one_period CivilRules (codes "55(b)(2)") (codes "55b2") (codes "55b2") (codes "7d/before/service/event/plain")
    ∷ one_since (codes "2010-12-01") CivilRules (codes "56(b)") (codes "56b") (codes "56b") (codes "30d/after/filing/event/plain")
    ∷ one_period CivilRules (codes "58(c)(2)(B)") (codes "58c2b") (codes "58c2B") (codes "150d/after/filing/event/plain")
    ∷ one_period CivilRules (codes "59(c)") (codes "59c") (codes "59c") (codes "14d/after/filing/served/plain")
    ∷ one_period CivilRules (codes "59(d)") (codes "59d") (codes "59d") (codes "28d/after/filing/event/59d")
    ∷ one_since (codes "2018-12-01") CivilRules (codes "62(a)") (codes "62a") (codes "62a") (codes "30d/after/filing/event/plain")
    ∷ one_period CivilRules (codes "65(b)(2)") (codes "65b2") (codes "65b2") (codes "14d/after/filing/event/plain")
    ∷ one_period CivilRules (codes "65(b)(4)") (codes "65b4") (codes "65b4") (codes "2d/before/service/event/plain")
    ∷ two_periods CivilRules (codes "68(a)") (codes "68a") (codes "14d/before/service/event/plain") (codes "14d/after/service/served/plain")
    ∷ one_period CivilRules (codes "68(c)") (codes "68c") (codes "68c") (codes "14d/before/service/event/plain")
    ∷ one_period CivilRules (codes "71.1(e)(2)") (codes "71 1e2") (codes "71.1e2") (codes "21d/after/service/event/plain")
    ∷ one_period CivilRules (codes "72(a)") (codes "72a") (codes "72a") (codes "14d/after/filing/served/plain")
    ∷ one_period CivilRules (codes "72(b)(2)") (codes "72b2") (codes "72b2") (codes "14d/after/filing/served/plain")
    ∷ two_periods CivilRules (codes "81(c)(2)") (codes "81c2") (codes "21d/after/service/event/plain") (codes "7d/after/service/event/plain")
    ∷ one_period CivilRules (codes "81(c)(2)(A)") (codes "81c2a") (codes "81c2A") (codes "21d/after/service/event/plain")
    ∷ one_period CivilRules (codes "81(c)(2)(B)") (codes "81c2b") (codes "81c2B") (codes "21d/after/service/event/plain")
    ∷ one_period CivilRules (codes "81(c)(2)(C)") (codes "81c2c") (codes "81c2C") (codes "7d/after/service/event/plain")
    ∷ two_periods CivilRules (codes "81(c)(3)(B)") (codes "81c3b") (codes "14d/after/service/event/plain") (codes "14d/after/service/served/plain")
    ∷ one_period CivilRules (codes "81(c)(3)(B)(i)") (codes "81c3bi") (codes "81c3Bi") (codes "14d/after/service/event/plain")
    ∷ one_period CivilRules (codes "81(c)(3)(B)(ii)") (codes "81c3bii") (codes "81c3Bii") (codes "14d/after/service/served/plain")
    ∷ one_period ForfeitureRules (codes "Supp. G(4)(b)(ii)(B)") (codes "g4biib") (codes "G4biiB") (codes "35d/after/filing/event/plain")
    ∷ two_periods ForfeitureRules (codes "Supp. G(5)(a)(ii)(B)") (codes "g5aiib") (codes "30d/after/filing/event/plain") (codes "60d/after/filing/event/plain")
    ∷ one_period ForfeitureRules (codes "Supp. G(5)(b)") (codes "g5b") (codes "G5b") (codes "21d/after/filing/event/plain")
    ∷ one_period ForfeitureRules (codes "Supp. G(6)(b)") (codes "g6b") (codes "G6b") (codes "21d/after/service/served/plain")
    ∷ one_since (codes "2012-01-06") Title28 (codes "28 U.S.C. 1446(b)(1)") (codes "1446b1") (codes "1446b1") (codes "30d/after/filing/event/60b")
    ∷ one_since (codes "2012-01-06") Title28 (codes "28 U.S.C. 1446(b)(3)") (codes "1446b3") (codes "1446b3") (codes "30d/after/filing/event/60b")
    ∷ one_since (codes "1996-10-01") Title28 (codes "28 U.S.C. 1447(c)") (codes "1447c") (codes "1447c") (codes "30d/after/filing/event/60b")
    ∷ one_since (codes "1977-01-19") Title28 (codes "28 U.S.C. 1608(d)") (codes "1608d") (codes "1608d") (codes "60d/after/service/event/plain")
    ∷ one_since (codes "1975-02-19") Title5 (codes "5 U.S.C. 552(a)(4)(C)") (codes "552a4c") (codes "552a4C") (codes "30d/after/service/event/plain")
    ∷ one_since (codes "1940-01-01") Title42 (codes "42 U.S.C. 405(g)") (codes "405g") (codes "405g") (codes "60d/after/filing/event/60b")
    ∷ one_since (codes "2022-12-01") SocialSecurityRules (codes "Supp. Soc. Sec. 4") (codes "4") (codes "socsec4") (codes "60d/after/service/event/plain")
    ∷ one_since (codes "2022-12-01") SocialSecurityRules (codes "Supp. Soc. Sec. 6") (codes "6") (codes "socsec6") (codes "30d/after/filing/event/plain")
    ∷ one_since (codes "2022-12-01") SocialSecurityRules (codes "Supp. Soc. Sec. 7") (codes "7") (codes "socsec7") (codes "30d/after/filing/served/plain")
    ∷ one_since (codes "2022-12-01") SocialSecurityRules (codes "Supp. Soc. Sec. 8") (codes "8") (codes "socsec8") (codes "14d/after/filing/served/plain")
    ∷ two_periods AppellateRules (codes "FRAP 4(a)(1)") (codes "4a1") (codes "30d/after/filing/event/60b") (codes "60d/after/filing/event/60b")
    ∷ one_period AppellateRules (codes "FRAP 4(a)(1)(A)") (codes "4a1a") (codes "frap4a1A") (codes "30d/after/filing/event/60b")
    ∷ one_period AppellateRules (codes "FRAP 4(a)(1)(B)") (codes "4a1b") (codes "frap4a1B") (codes "60d/after/filing/event/60b")
    ∷ one_period AppellateRules (codes "FRAP 4(a)(3)") (codes "4a3") (codes "frap4a3") (codes "14d/after/filing/event/60b")
    ∷ two_periods AppellateRules (codes "FRAP 4(a)(4)") (codes "4a4") (codes "30d/after/filing/event/60b") (codes "60d/after/filing/event/60b")
    ∷ two_periods AppellateRules (codes "FRAP 4(a)(5)") (codes "4a5") (codes "30d/after/filing/event/60b") (codes "14d/after/filing/event/60b")
    ∷ [])

-- the section that a word cites, if it is one of these
unfoldable pub period_cited : List ℕ → Option NamedPeriodView
period_cited word = find (cites word) named_periods

-- the text of a section's period, or both
abbrev pub one_or_two : (text : List ℕ) → (other : Option (List ℕ)) → Said (List ℕ)
one_or_two text None = Clear text
one_or_two text (Some other) = Unclear text other

abbrev pub texts_said : NamedPeriodView → Said (List ℕ)
texts_said p = one_or_two p.text p.other

abbrev pub texts_if : Option NamedPeriodView → Said (List ℕ)
texts_if None = Unknown
texts_if (Some p) = texts_said p

-- the texts of the periods that the section sets which a word cites
unfoldable pub entered_said : List ℕ → Said (List ℕ)
entered_said word = texts_if (period_cited word)

abbrev pub or_entered : Said (List ℕ) → (word : List ℕ) → Said (List ℕ)
or_entered Unknown word = entered_said word
or_entered (Clear code) word = Clear code
or_entered (Unclear one other) word = Unclear one other

-- The period that a section sets: the code of a period of the Rules, or the text of one that is entered. A section that sets
-- two says both.
unfoldable pub section_said : List ℕ → Said (List ℕ)
section_said word = or_entered (rule_said word) word

-- a text is this code
abbrev pub is_code : (text : List ℕ) → (code : Option (List ℕ)) → Bool
is_code text None = false
is_code text (Some code) = bytes_eq text code

-- a text is the code of a section's period
unfoldable pub has_code : (text : List ℕ) → NamedPeriodView → Bool
has_code text p = is_code text p.code

-- the text of the period that has this code, if a section sets one that has it
unfoldable pub text_coded : (text : List ℕ) → Option (List ℕ)
text_coded text = option_map (λ (p : NamedPeriodView). p.text) (find (has_code text) named_periods)

-- one of these sections has this code
abbrev pub is_taken : Option (List ℕ) → List NamedPeriodView → Bool
is_taken None periods = false
is_taken (Some code) periods = list_any (has_code code) periods

-- no two of these sections have one code
unfoldable pub codes_differ : List NamedPeriodView → Bool
codes_differ [] = true
codes_differ (p ∷ periods) = not (is_taken p.code periods) && codes_differ periods

-- No two sections have one code, so that a code is read as the period of one section.
abbrev pub CodesNameSections : Type 0
CodesNameSections = codes_differ named_periods ≡ true
