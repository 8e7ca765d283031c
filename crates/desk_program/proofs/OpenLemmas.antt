-- Why a docket isn't opened, where its entries make none.
use Rattle.std.proofs.Common.{◌≡◌, ℕ, List, [], refl, subst, sym}
use Rattle.desk_journal.specs.Words.{HasOpenFault, StandsFor}
use Rattle.desk_journal.specs.declared.fault.JournalFault.{JournalFault}
use Rattle.desk_journal.specs.declared.fault.JournalFault.TheVariants as journal
use Rattle.desk_entries.specs.declared.fault.HistoryFault.{HistoryFault}
use Rattle.desk_entries.specs.declared.fault.HistoryFault.TheVariants as history
use Rattle.desk_entries.specs.Words.{HasDocketFault}
use Rattle.desk_program.specs.declared.faults.opening.OpenFault.{OpenFault}
use Rattle.desk_program.specs.Desk.{IsUnopened}
use Rattle.desk_program.specs.Faults.{history_fault, unopened_journal}

history_unopened : (before after : ℕ) (file : List ℕ) (entries : List (List ℕ)) (fault : HistoryFault) → StandsFor file entries → HasDocketFault entries fault → IsUnopened before after file (history_fault fault)
history_unopened before after file entries history.NoCourt stands has = (entries, stands, has)
history_unopened before after file entries (history.Court number cause) stands has = (entries, stands, has)
history_unopened before after file entries (history.Strike number) stands has = (entries, stands, has)
history_unopened before after file entries (history.Other number) stands has = (entries, stands, has)
history_unopened before after file entries history.OutOfMemory stands has = tt

pub unopened_by_history : (before after : ℕ) (file : List ℕ) (entries : List (List ℕ)) (fault : HistoryFault) (made : OpenFault) → made ≡ history_fault fault → StandsFor file entries → HasDocketFault entries fault
    → IsUnopened before after file made
unopened_by_history before after file entries fault made is stands has = subst (IsUnopened before after file) (sym is) (history_unopened before after file entries fault stands has)

-- where its journal isn't opened
journal_unopened : (before after : ℕ) (file : List ℕ) (fault : JournalFault) → HasOpenFault before after file fault → IsUnopened before after file (unopened_journal fault)
journal_unopened before after file (journal.Damaged number) has = has
journal_unopened before after file journal.Older has = has
journal_unopened before after file journal.Full has = has
journal_unopened before after file journal.NoEntries has = ([], has, refl)
journal_unopened before after file journal.Taken has = absurd has
journal_unopened before after file journal.Changed has = has
journal_unopened before after file journal.Read has = has
journal_unopened before after file journal.Write has = has
journal_unopened before after file journal.Sync has = has
journal_unopened before after file journal.OutOfMemory has = tt

pub unopened_by_journal : (before after : ℕ) (file : List ℕ) (fault : JournalFault) (made : OpenFault) → made ≡ unopened_journal fault → HasOpenFault before after file fault → IsUnopened before after file made
unopened_by_journal before after file fault made is has = subst (IsUnopened before after file) (sym is) (journal_unopened before after file fault has)
