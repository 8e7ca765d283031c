-- What lawful rows are to a clerk.
use Rattle.std.proofs.Common.{List, get_or, find, sym, subst}
use Rattle.std.specs.List.{All}
use Rattle.std.specs.Option.{IsSomeAnd}
use Rattle.std.proofs.lemmas.List.Elements.{All-contains}
use Rattle.docket_rows.specs.declared.command.Command.{Command}
use Rattle.docket_rows.specs.Words.{CourtSetup, Rows, IsNoticed, KeepsNotice, AreSound, AreLawful, is_motion}
use Rattle.docket_laws.specs.Lawful.{docket_after, NoneIsBookedTwice, AllAreOnCourtDays, AllHaveNotice}
use Rattle.docket_laws.proofs.LawfulLemmas.ListLemmas.{found_of, found_stands}
use Rattle.docket_laws.proofs.LawfulLemmas.SeenLemmas.{motion_is}
use Rattle.docket_laws.proofs.LawfulLemmas.StepLemmas.{sound_docket, lawful_docket}

pub none_is_booked_twice : (setup : CourtSetup) (commands : List Command) → NoneIsBookedTwice (docket_after setup commands)
none_is_booked_twice setup commands = (lawful_docket setup commands).apart

pub all_are_on_court_days : (setup : CourtSetup) (commands : List Command) → AllAreOnCourtDays setup (docket_after setup commands)
all_are_on_court_days setup commands =
    let l = lawful_docket setup commands in
    λ k d within. (l.on_court_days k d within, l.within_hours k d within)

-- the motion of a hearing is docketed, and so its notice was looked at
motion_noticed : (setup : CourtSetup) (rows : Rows) → AreSound setup rows → AreLawful setup rows → AllHaveNotice rows
motion_noticed setup rows s l k d within =
    let h = get_or rows.hearings k d in
    let found = found_of (find (is_motion h.case h.motion) rows.motions) (s.hearings_of_motions k d within) in
    let m = found.value in
    let stands = found_stands (is_motion h.case h.motion) rows.motions m found.is in
    let is = motion_is h.case h.motion m stands.1 in
    let noticed = All-contains (λ x. All (KeepsNotice rows.days x) rows.hearings) rows.motions m l.noticed stands.0 k d within is.0 is.1 in
    subst (λ o. IsSomeAnd o (λ x. IsNoticed rows.days h.hearing.day x.need x.served h.hearing.notice)) (sym found.is) noticed

pub all_have_notice : (setup : CourtSetup) (commands : List Command) → AllHaveNotice (docket_after setup commands)
all_have_notice setup commands = motion_noticed setup (docket_after setup commands) (sound_docket setup commands) (lawful_docket setup commands)
