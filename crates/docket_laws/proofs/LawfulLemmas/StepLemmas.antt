-- Each command, refused or not, and each list of commands leaves rows sound and lawful.
use Rattle.std.proofs.Common.{◌≡◌, List, [], ◌∷◌, Option, Some, None, refl, arith}
use Rattle.std.specs.Option.{option_map_or}
use Rattle.docket_rows.specs.declared.command.Command.{Command}
use Rattle.docket_rows.specs.declared.command.Command.TheVariants.{OpenCase, Start, FileAct, Extend, Motion, Book, MoveHearing, Cancel, Holiday, Inaccessible, Fact}
use Rattle.docket_rows.specs.declared.refusal.Refusal.{Refusal}
use Rattle.rule_periods.specs.Words.{with_filing, with_grant}
use Rattle.docket_rows.specs.Words.{CourtSetup, Rows, AreSound, AreLawful, parts_of, opening_rows, refusal, rows_after, step, rows_from}
use Rattle.docket_laws.proofs.LawfulLemmas.CaseLemmas.{sound_open_case, lawful_open_case}
use Rattle.docket_laws.proofs.LawfulLemmas.DeadlineLemmas.{sound_start, sound_changed, lawful_deadlines}
use Rattle.docket_laws.proofs.LawfulLemmas.FactLemmas.{sound_fact, lawful_fact}
use Rattle.docket_laws.proofs.LawfulLemmas.MotionLemmas.{sound_motion, lawful_motion}
use Rattle.docket_laws.proofs.LawfulLemmas.HearingLemmas.{sound_without, lawful_without, movable, sound_placed, lawful_placed, sound_book, lawful_book}
use Rattle.docket_laws.proofs.LawfulLemmas.HolidayLemmas.{sound_holiday, lawful_holiday, sound_outage, lawful_outage}

-- before any command nothing is docketed
pub sound_opening : (setup : CourtSetup) → AreSound setup (opening_rows setup)
sound_opening setup = record {
  first_day = refl;
  last_day = refl;
  case_numbers = λ k d within. absurd (omega arith);
  case_once = λ i j d before within. absurd (omega arith);
  deadlines_of_cases = λ k d within. absurd (omega arith);
  deadlines_numbered = λ case. refl;
  motions_of_cases = λ k d within. absurd (omega arith);
  motions_numbered = λ case. refl;
  needs = λ k d within. absurd (omega arith);
  hearings_of_motions = λ k d within. absurd (omega arith);
  hearing_once = λ i j d before within. absurd (omega arith);
  hearings_settable = λ k d within. absurd (omega arith);
  facts_of_cases = λ k d within. absurd (omega arith);
}

pub lawful_opening : (setup : CourtSetup) → AreLawful setup (opening_rows setup)
lawful_opening setup = record {
  apart = λ i j d before within. absurd (omega arith);
  on_court_days = λ k d within. absurd (omega arith);
  within_hours = λ k d within. absurd (omega arith);
  noticed = λ k d within. absurd (omega arith);
}

-- after a command that isn't refused
pub sound_after : (setup : CourtSetup) (rows : Rows) (command : Command) → AreSound setup rows → refusal setup (parts_of rows) command ≡ None → AreSound setup (rows_after rows command)
sound_after setup rows (OpenCase case filed) s h = sound_open_case setup rows case filed s h
sound_after setup rows (Start case period event second service) s h = sound_start setup rows case period event second service s h
sound_after setup rows (FileAct case deadline filing) s h = sound_changed setup rows case deadline (λ row. with_filing row filing) s
sound_after setup rows (Extend case deadline request) s h = sound_changed setup rows case deadline (λ row. with_grant row request.grant) s
sound_after setup rows (Motion case served need) s h = sound_motion setup rows case served need s h
sound_after setup rows (Book setting) s h = sound_book setup rows setting s h
sound_after setup rows (MoveHearing setting) s h = sound_placed setup rows setting (movable setup rows setting h) s
sound_after setup rows (Cancel case motion) s h = sound_without setup rows case motion s
sound_after setup rows (Holiday day list) s h = sound_holiday setup rows day list s
sound_after setup rows (Inaccessible day from to) s h = sound_outage setup rows day from to s
sound_after setup rows (Fact case fact) s h = sound_fact setup rows case fact s h

pub lawful_after : (setup : CourtSetup) (rows : Rows) (command : Command) → AreSound setup rows → AreLawful setup rows → refusal setup (parts_of rows) command ≡ None → AreLawful setup (rows_after rows command)
lawful_after setup rows (OpenCase case filed) s l h = lawful_open_case setup rows case filed l
lawful_after setup rows (Start case period event second service) s l h = lawful_deadlines setup rows _ l
lawful_after setup rows (FileAct case deadline filing) s l h = lawful_deadlines setup rows _ l
lawful_after setup rows (Extend case deadline request) s l h = lawful_deadlines setup rows _ l
lawful_after setup rows (Motion case served need) s l h = lawful_motion setup rows case served need s l h
lawful_after setup rows (Book setting) s l h = lawful_book setup rows setting s l h
lawful_after setup rows (MoveHearing setting) s l h = lawful_placed setup rows setting (movable setup rows setting h) s l
lawful_after setup rows (Cancel case motion) s l h = lawful_without setup rows case motion l
lawful_after setup rows (Holiday day list) s l h = lawful_holiday setup rows day list s l h
lawful_after setup rows (Inaccessible day from to) s l h = lawful_outage setup rows day from to l
lawful_after setup rows (Fact case fact) s l h = lawful_fact setup rows case fact l

-- a refused command leaves the rows, and what holds of them
refused_or_made : (P : Rows → Type 0) (rows after : Rows) (o : Option Refusal) → P rows → (o ≡ None → P after) → P (option_map_or (λ r. rows) o after)
refused_or_made P rows after None held made = made refl
refused_or_made P rows after (Some r) held made = held

pub sound_step : (setup : CourtSetup) (rows : Rows) (command : Command) → AreSound setup rows → AreSound setup (step setup rows command).0
unfolding step
sound_step setup rows command s = refused_or_made (AreSound setup) rows (rows_after rows command) (refusal setup (parts_of rows) command) s (sound_after setup rows command s)

pub lawful_step : (setup : CourtSetup) (rows : Rows) (command : Command) → AreSound setup rows → AreLawful setup rows → AreLawful setup (step setup rows command).0
unfolding step
lawful_step setup rows command s l = refused_or_made (AreLawful setup) rows (rows_after rows command) (refusal setup (parts_of rows) command) l (lawful_after setup rows command s l)

-- after a list of commands
pub sound_from : (setup : CourtSetup) (rows : Rows) (commands : List Command) → AreSound setup rows → AreSound setup (rows_from setup rows commands)
unfolding rows_from
sound_from setup rows [] s = s
sound_from setup rows (c ∷ cs) s = sound_from setup (step setup rows c).0 cs (sound_step setup rows c s)

pub lawful_from : (setup : CourtSetup) (rows : Rows) (commands : List Command) → AreSound setup rows → AreLawful setup rows → AreLawful setup (rows_from setup rows commands)
unfolding rows_from
lawful_from setup rows [] s l = l
lawful_from setup rows (c ∷ cs) s l = lawful_from setup (step setup rows c).0 cs (sound_step setup rows c s) (lawful_step setup rows c s l)

-- and so of every docket, from the days of the court's file on
pub sound_docket : (setup : CourtSetup) (commands : List Command) → AreSound setup (rows_from setup (opening_rows setup) commands)
sound_docket setup commands = sound_from setup (opening_rows setup) commands (sound_opening setup)

pub lawful_docket : (setup : CourtSetup) (commands : List Command) → AreLawful setup (rows_from setup (opening_rows setup) commands)
lawful_docket setup commands = lawful_from setup (opening_rows setup) commands (sound_opening setup) (lawful_opening setup)
