-- What these definitions come to.
use Rattle.std.specs.Prelude.{◌≡◌, ◌⊎◌, ◌↔◌, ℕ, List, Option, Some, slice_get}
use Rattle.case_numbers.specs.Number.{CaseNumber, IsSameCase, IsSpelling, NameView, case_read, key_of, named}
use Rattle.case_numbers.specs.Cases.{CasesView, with_case}
use Rattle.case_numbers.specs.declared.names.NamedCase.{NamedCase}

-- A case number as it is shown is read as itself.
abbrev pub ShownIsReadBack : Type 0
ShownIsReadBack = (text : List ℕ) (name : NameView) → case_read text ≡ Some name → case_read name.shown ≡ Some name

-- In whichever form a case number is written, it is read as that number: no text is another number in another form.
abbrev pub SpellingsAreRead : Type 0
SpellingsAreRead = (text : List ℕ) (n : CaseNumber) → IsSpelling text n → case_read text ≡ Some (named n)

-- Two case numbers have one key exactly if they are of the same case.
abbrev pub KeysTellCasesApart : Type 0
KeysTellCasesApart = (a b : List ℕ) (m n : CaseNumber) → IsSpelling a m → IsSpelling b n → (key_of m ≡ key_of n) ↔ IsSameCase m n

-- no two named cases have the same number, and no two have the same key
abbrev pub AreApart : List NamedCase → Type 0
AreApart named = (i j : ℕ) (a b : NamedCase) → slice_get named i ≡ Some a → slice_get named j ≡ Some b → (a.number ≡ b.number) ⊎ (a.name.key ≡ b.name.key) → i ≡ j

-- However many cases are opened, their names stay apart.
abbrev pub NamesStayApart : Type 0
NamesStayApart = (cases : CasesView) (number : ℕ) (name : Option NameView) → AreApart cases.named → AreApart (with_case cases number name).named
