-- The sheets of cases.
use Rattle.std.specs.Prelude.{ℤ, List, [], ◌∷◌, ◌++◌, Option, Some, None, map, codes}
use Rattle.json.specs.Json.{Json, string}
use Rattle.case_numbers.specs.declared.names.NamedCase.{NamedCase}
use Rattle.court_days.specs.Words.{CourtView}
use Rattle.docket_rows.specs.declared.fact.Assignment.{Assignment}
use Rattle.docket_rows.specs.declared.fact.Closure.{Closure}
use Rattle.docket_rows.specs.declared.sheet.Sheet.{Sheet}
use Rattle.docket_rows.specs.Words.{closing_word}
use Rattle.report_json.specs.Cases.{case_fields}
use Rattle.report_json.specs.Deadlines.{deadline_value}
use Rattle.report_json.specs.Motions.{motion_value}
use Rattle.report_json.specs.Names.{name_value}
use Rattle.report_json.specs.Times.{day_value}
use Rattle.report_json.specs.Values.{Field, array_of, field, object_of, or_null}

-- the fields of a case that is closed: since when, and how
abbrev pub closed_fields : Option Closure → List Field
closed_fields (Some c) = field (codes "closed") (day_value c.dated) ∷ field (codes "closing") (string (closing_word c.why)) ∷ []
closed_fields None = []

-- the fields of a case that is assigned: since when, who has it, and to whom it is referred
abbrev pub assigned_fields : CourtView → Option Assignment → List Field
assigned_fields court (Some a) =
    field (codes "assigned") (day_value a.dated)
    ∷ field (codes "judge") (name_value court.judges a.judge)
    ∷ field (codes "referred") (or_null (name_value court.judges) a.referred)
    ∷ []
assigned_fields court None = []

-- how a case stands: how it was closed, if it was, and who has it, if it was assigned
unfoldable pub standing_fields : CourtView → Option Closure → Option Assignment → List Field
standing_fields court closed assigned = closed_fields closed ++ assigned_fields court assigned

-- each of its deadlines and each of its motions, in order, which have these values
unfoldable pub lists_docketed : {D M : Type 0} → (D → Json) → (M → Json) → List D → List M → List Field
lists_docketed deadline motion deadlines motions =
    field (codes "deadlines") (array_of (map deadline deadlines))
    ∷ field (codes "motions") (array_of (map motion motions))
    ∷ []

-- when a case was filed, how it stands, its deadlines and its motions
unfoldable pub sheet_docketed : {D M : Type 0} → (D → Json) → (M → Json) → CourtView → (filed : ℤ) → Option Closure → Option Assignment → List D → List M → List Field
sheet_docketed deadline motion court filed closed assigned deadlines motions =
    field (codes "filed") (day_value filed) ∷ standing_fields court closed assigned ++ lists_docketed deadline motion deadlines motions

-- a case: its number, its name where it has one, and what is docketed in it
abbrev pub sheet_fields : CourtView → List NamedCase → Sheet → List Field
sheet_fields court named s = case_fields named s.case ++ sheet_docketed (deadline_value court.clock.zone) (motion_value court) court s.filed s.closed s.assigned s.deadlines s.motions

unfoldable pub sheet_value : CourtView → List NamedCase → Sheet → Json
sheet_value court named s = object_of (sheet_fields court named s)
