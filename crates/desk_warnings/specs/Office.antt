-- A case that is opened by a number which differs from another's only by its office, as `3:26-cv-02011` from `2:26-cv-02011`.
use Rattle.std.specs.Prelude.{ℕ, List, [], ◌++◌, Option, Some, None, codes, find}
use Rattle.case_numbers.specs.declared.names.NamedCase.{NamedCase}
use Rattle.case_numbers.specs.Words.{NameView, same_but_office}
use Rattle.reason_notes.specs.Warnings.Words.{note}

-- the first of these cases whose number differs from a new one only so; no case has the new one itself
abbrev pub named_alike : List NamedCase → NameView → Option NamedCase
named_alike named name = find (λ (c : NamedCase). same_but_office c.name.key name.key) named

-- `case 2:26-cv-02011 differs only by its office`
abbrev pub alike_note : Option NamedCase → List ℕ
alike_note None = []
alike_note (Some c) = note None (codes "case " ++ c.name.shown ++ codes " differs only by its office")

-- on a row that opens a case by a new number
abbrev pub office_note : List NamedCase → Option NameView → List ℕ
office_note named None = []
office_note named (Some name) = alike_note (named_alike named name)
