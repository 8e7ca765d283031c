-- How sessions of lines end, and what they promise.
use Rattle.std.proofs.Common.{◌≡◌, ◌∙◌, ℕ, Bool, false, List, [], ◌++◌, Some, Ok, Err, ap, sym, subst}
use Rattle.std.specs.Prelude.{◌<◌, ◌⊎◌, Option, Result, ⊤, IfErr, IfOk, OnOk}
use Rattle.sqlite_disk.specs.declared.Disk as disk
use Rattle.program_streams.specs.declared.watched.Watched.{Watched}
use Rattle.program_streams.specs.Words.{IsGiven, has_failed, watched}
use Rattle.desk_session.specs.declared.outcome.Tally.{Tally}
use Rattle.desk_session.specs.Words.{lines_of, told_to}
use Rattle.desk_register.specs.declared.standing.Standing.{Standing}
use Rattle.desk_warnings.specs.declared.register.HeldBack.{HeldBack}
use Rattle.desk_program.specs.declared.desk.Desk.{Desk as DeskOver}
use Rattle.desk_program.specs.Words.{KeepsDocket, KeepsTogether, answers_at, disk_under, held_at, leaves_at, standing_at}
use Rattle.desk_program.proofs.CallerLemmas.{answered_docket, none_promised}
use Rattle.desk_program.specs.declared.faults.desk.DeskFault.TheVariants.{Faulty}
use Rattle.docket.specs.declared.fault.Fault.{Fault}
use Rattle.docket.specs.declared.fault.Fault.TheVariants.{Desk}
use Rattle.docket.specs.Sessions.{PromisesLines, PromisesSession, WithTally}

-- with this tally all were taken, or the fault has it
pub with_tally : (IsSo : Tally → Type 0) (tally : Tally) (result : Result ⊤ Fault) → OnOk result ((tally.faults ≡ 0) × (tally.held ≡ 0)) → IfErr result (λ fault. (fault ≡ Desk (Faulty tally)) × ((0 < tally.faults) ⊎ (0 < tally.held))) → IsSo tally → WithTally IsSo result
with_tally IsSo tally (Ok done) none some so = (tally, none.0, none.1, so)
with_tally IsSo tally (Err fault) none some so = subst (λ (f : Fault). WithTally IsSo (Err f)) (sym some.0) (some.1, so)

-- nothing was read, kept or answered yet
pub nothing_promised : {D : Type 0} (g : disk.Ghosts D) (desk : DeskOver D) (before : Option (List ℕ)) (HasWritten : Type 0) → PromisesSession g (held_at desk) desk desk before before HasWritten
nothing_promised g desk before HasWritten = λ kept keeps. ([], none_promised g desk desk kept keeps [] before HasWritten)

-- rows are kept together, and a writer was given what is said of them
pub together_promised : {D W : Type 0} (g : disk.Ghosts D) (contents : W → Option (List ℕ)) (desk desk_after : DeskOver D) (keep_refused : Bool) (kept : List (List ℕ)) (rows none said : List ℕ) (writer writer_after : Watched W)
    → KeepsDocket g kept desk → none ≡ [] → KeepsTogether (standing_at desk) (held_at desk) keep_refused kept rows (Some none) (Some said) (λ entries. KeepsDocket g entries desk_after) → IsGiven contents writer writer_after said
    → PromisesLines (standing_at desk) (held_at desk) kept (contents (watched writer)) (contents (watched writer_after)) (has_failed writer_after ≡ false) (g.may_leave (disk_under desk_after))
together_promised g contents desk desk_after keep_refused kept rows none said writer writer_after keeps nothing all given =
    let told = told_to (leaves_at desk) (answers_at desk) kept (lines_of rows) in
    let same : said ≡ told = all.told ∙ ap (λ (l : List ℕ). l ++ told) nothing in
    (lines_of rows, answered_docket g desk desk_after kept keeps (lines_of rows) all.keeps contents writer writer_after (subst (IsGiven contents writer writer_after) same given))

-- what a desk promises is promised of the one that it was before something else was held back
pub held_promised : {D : Type 0} (g : disk.Ghosts D) (desk desk_held desk_after : DeskOver D) (held : HeldBack) (before after : Option (List ℕ)) (HasWritten : Type 0)
    → ((kept : List (List ℕ)) → KeepsDocket g kept desk → KeepsDocket g kept desk_held) → standing_at desk_held ≡ standing_at desk → held_at desk_held ≡ held
    → PromisesSession g (held_at desk_held) desk_held desk_after before after HasWritten → PromisesSession g held desk desk_after before after HasWritten
held_promised g desk desk_held desk_after held before after HasWritten keep same is promised = λ kept keeps.
    subst (λ (h : HeldBack). PromisesLines (standing_at desk) h kept before after HasWritten (g.may_leave (disk_under desk_after))) is
    (subst (λ (s : Standing). PromisesLines s (held_at desk_held) kept before after HasWritten (g.may_leave (disk_under desk_after))) same (promised kept (keep kept keeps)))

-- What is promised of a turn, whose answers are gathered in an empty text, and which leaves the disk of its desk.
pub turn_promised : {D : Type 0} (g : disk.Ghosts D) (desk desk_held desk_after : DeskOver D) (left : D) (held : HeldBack) (none said : List ℕ) (HasWritten : Type 0)
    → ((kept : List (List ℕ)) → KeepsDocket g kept desk → KeepsDocket g kept desk_held) → standing_at desk_held ≡ standing_at desk → held_at desk_held ≡ held → none ≡ [] → left ≡ disk_under desk_after
    → PromisesSession g (held_at desk_held) desk_held desk_after (Some none) (Some said) HasWritten
    → (kept : List (List ℕ)) → KeepsDocket g kept desk → PromisesLines (standing_at desk) held kept (Some []) (Some said) HasWritten (g.may_leave left)
turn_promised {D} g desk desk_held desk_after left held none said HasWritten keep same is nothing given promised kept keeps =
    let whole : PromisesSession g held desk desk_after (Some none) (Some said) HasWritten = held_promised g desk desk_held desk_after held (Some none) (Some said) HasWritten keep same is promised in
    subst (λ (d : D). PromisesLines (standing_at desk) held kept (Some []) (Some said) HasWritten (g.may_leave d)) (sym given)
    (subst (λ (l : List ℕ). PromisesLines (standing_at desk) held kept (Some l) (Some said) HasWritten (g.may_leave (disk_under desk_after))) nothing (whole kept keeps))

-- what follows of two things that are so of a value, if there is one
pub ok_both : {A E : Type 0} (r : Result A E) (P Q S : A → Type 0) → ((a : A) → P a → Q a → S a) → IfOk r P → IfOk r Q → IfOk r S
ok_both (Ok a) P Q S more h i = more a h i
ok_both (Err e) P Q S more h i = tt
