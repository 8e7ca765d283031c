-- Fields that say one of a few words. Each word is folded: in small letters, with its letters and digits alone.
use Rattle.std.specs.Prelude.{ℕ, Bool, List, [], ◌∷◌, ◌++◌, codes, if◌then◌else◌}
use Rattle.std.specs.List.{list_any}
use Rattle.std.specs.Str.{bytes_eq}
use Rattle.row_fields.specs.declared.said.Said.{Said}
use Rattle.row_fields.specs.declared.said.Said.TheVariants.{Unknown, Clear, Unclear}

-- the word is one of these
abbrev pub is_one_of : List ℕ → List (List ℕ) → Bool
is_one_of word words = list_any (bytes_eq word) words

-- the kind of service: its letter in Rule 5(b)(2), or a word for it
unfoldable pub service_said : List ℕ → Said (List ℕ)
service_said word =
    if is_one_of word (codes "a" ∷ codes "hand" ∷ codes "byhand" ∷ codes "handdelivery" ∷ codes "personal" ∷ codes "personally" ∷ []) then Clear (codes "A")
    else if is_one_of word (codes "b" ∷ codes "left" ∷ codes "office" ∷ codes "dwelling" ∷ []) then Clear (codes "B")
    else if is_one_of word (codes "c" ∷ codes "mail" ∷ codes "bymail" ∷ codes "mailed" ∷ codes "usmail" ∷ []) then Clear (codes "C")
    else if is_one_of word (codes "d" ∷ codes "clerk" ∷ codes "withclerk" ∷ []) then Clear (codes "D")
    else if is_one_of word (codes "e" ∷ codes "ecf" ∷ codes "cmecf" ∷ codes "efiling" ∷ codes "electronic" ∷ codes "email" ∷ []) then Clear (codes "E")
    else if is_one_of word (codes "f" ∷ codes "other" ∷ codes "consent" ∷ []) then Clear (codes "F")
    else Unknown

-- how a paper reached the clerk
unfoldable pub means_said : List ℕ → Said (List ℕ)
means_said word =
    if is_one_of word (codes "electronic" ∷ codes "electronically" ∷ codes "e" ∷ codes "ecf" ∷ codes "cmecf" ∷ []) then Clear (codes "electronic")
    else if is_one_of word (codes "paper" ∷ codes "onpaper" ∷ codes "p" ∷ []) then Clear (codes "paper")
    else Unknown

-- whether something is so
unfoldable pub answer_said : List ℕ → Said (List ℕ)
answer_said word =
    if is_one_of word (codes "yes" ∷ codes "y" ∷ codes "true" ∷ []) then Clear (codes "yes")
    else if is_one_of word (codes "no" ∷ codes "n" ∷ codes "false" ∷ []) then Clear (codes "no")
    else Unknown

-- the list of holidays
unfoldable pub list_said : List ℕ → Said (List ℕ)
list_said word =
    if is_one_of word (codes "federal" ∷ codes "fed" ∷ []) then Clear (codes "federal")
    else if is_one_of word (codes "state" ∷ []) then Clear (codes "state")
    else Unknown

-- what has to be done in time
unfoldable pub act_said : List ℕ → Said (List ℕ)
act_said word =
    if is_one_of word (codes "filing" ∷ codes "file" ∷ codes "tofile" ∷ []) then Clear (codes "filing")
    else if is_one_of word (codes "service" ∷ codes "serve" ∷ codes "toserve" ∷ []) then Clear (codes "service")
    else Unknown

-- why a deadline is due no more
unfoldable pub why_said : List ℕ → Said (List ℕ)
why_said word =
    if is_one_of word (codes "moot" ∷ codes "mooted" ∷ []) then Clear (codes "moot")
    else if is_one_of word (codes "vacated" ∷ codes "vacate" ∷ []) then Clear (codes "vacated")
    else if is_one_of word (codes "stayed" ∷ codes "stay" ∷ []) then Clear (codes "stayed")
    else if is_one_of word (codes "suspended" ∷ codes "suspend" ∷ []) then Clear (codes "suspended")
    else if is_one_of word (codes "withdrawn" ∷ codes "withdrew" ∷ []) then Clear (codes "withdrawn")
    else Unknown

-- how a case was closed
unfoldable pub closing_said : List ℕ → Said (List ℕ)
closing_said word =
    if is_one_of word (codes "dismissed" ∷ codes "dismissal" ∷ codes "dismiss" ∷ []) then Clear (codes "dismissed")
    else if is_one_of word (codes "judgment" ∷ codes "judgement" ∷ []) then Clear (codes "judgment")
    else if is_one_of word (codes "settled" ∷ codes "settlement" ∷ codes "settle" ∷ []) then Clear (codes "settled")
    else if is_one_of word (codes "transferred" ∷ codes "transfer" ∷ []) then Clear (codes "transferred")
    else if is_one_of word (codes "remanded" ∷ codes "remand" ∷ []) then Clear (codes "remanded")
    else if is_one_of word (codes "otherwise" ∷ codes "other" ∷ []) then Clear (codes "otherwise")
    else Unknown

-- how a motion was ruled on
unfoldable pub ruling_said : List ℕ → Said (List ℕ)
ruling_said word =
    if is_one_of word (codes "granted" ∷ codes "grant" ∷ []) then Clear (codes "granted")
    else if is_one_of word (codes "denied" ∷ codes "deny" ∷ codes "denial" ∷ []) then Clear (codes "denied")
    else if is_one_of word (codes "inpart" ∷ codes "grantedinpart" ∷ codes "grantedinpartanddeniedinpart" ∷ []) then Clear (codes "in part")
    else if is_one_of word (codes "moot" ∷ codes "mooted" ∷ codes "deniedasmoot" ∷ []) then Clear (codes "moot")
    else if is_one_of word (codes "withdrawn" ∷ codes "withdrew" ∷ []) then Clear (codes "withdrawn")
    else if is_one_of word (codes "reserved" ∷ codes "reserve" ∷ codes "underadvisement" ∷ []) then Clear (codes "reserved")
    else Unknown

-- whether a deadline or a motion is meant
unfoldable pub counted_said : List ℕ → Said (List ℕ)
counted_said word =
    if is_one_of word (codes "deadline" ∷ codes "deadlines" ∷ []) then Clear (codes "deadline")
    else if is_one_of word (codes "motion" ∷ codes "motions" ∷ []) then Clear (codes "motion")
    else Unknown

-- a Rule's number, as people cite it: `4(m)`, `Rule 4(m)`, `FRCP 4(m)`, `Fed. R. Civ. P. 4(m)`
abbrev pub cited : List ℕ → List (List ℕ)
cited number = number ∷ (codes "rule" ++ number) ∷ (codes "frcp" ++ number) ∷ (codes "fedrcivp" ++ number) ∷ []

-- the code of the period that a Rule's number sets alone
unfoldable pub one_rule_said : List ℕ → Said (List ℕ)
one_rule_said number =
    if is_one_of number (cited (codes "4m")) then Clear (codes "4m")
    else if is_one_of number (cited (codes "12a1ai")) then Clear (codes "12a1Ai")
    else if is_one_of number (cited (codes "12a1aiius")) then Clear (codes "12a1Aii-us")
    else if is_one_of number (cited (codes "12a1aiiabroad")) then Clear (codes "12a1Aii-abroad")
    else if is_one_of number (cited (codes "12a1b")) then Clear (codes "12a1B")
    else if is_one_of number (cited (codes "12a1c")) then Clear (codes "12a1C")
    else if is_one_of number (cited (codes "12a2")) then Clear (codes "12a2")
    else if is_one_of number (cited (codes "12a3")) then Clear (codes "12a3")
    else if is_one_of number (cited (codes "59b")) then Clear (codes "59b")
    else if is_one_of number (cited (codes "59e")) then Clear (codes "59e")
    else Unknown

-- The code of a period of the Rules, from the Rule's number. 12(a)(1)(A)(ii) sets two: for a request sent within the
-- United States, and for one sent abroad.
unfoldable pub rule_said : List ℕ → Said (List ℕ)
rule_said number =
    if is_one_of number (cited (codes "12a1aii")) then Unclear (codes "12a1Aii-us") (codes "12a1Aii-abroad") else one_rule_said number
