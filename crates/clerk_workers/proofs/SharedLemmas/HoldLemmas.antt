-- Lines that hold the answers of lists.
use Rattle.std.proofs.Common.{◌≡◌, ◌<◌, List, [], ◌∷◌, length, map, refl, arith}
use Rattle.court_days.specs.Words.{CourtView}
use Rattle.clerk_workers.specs.declared.answer.SharedReply.{SharedReply}
use Rattle.clerk_workers.specs.Words.{AllHold}
use Rattle.clerk_workers.specs.Shared.Lines.{HoldLines, HoldTexts, LinesView}

-- a list of some answers has a first one
pub first_of : (answers : List SharedReply) → 0 < length answers → (answer : SharedReply) × (others : List SharedReply) × (answers ≡ answer ∷ others)
first_of [] some = absurd (omega (arith, some))
first_of (answer ∷ answers) some = (answer, answers, refl)

-- the texts of all lines
pub texts_held : (court : CourtView) (lines : List LinesView) (lists : List (List SharedReply)) → AllHold (HoldLines court) lines lists → AllHold (HoldTexts court) (map (λ (each : LinesView). each.texts) lines) lists
texts_held court [] [] held = tt
texts_held court [] (answers ∷ lists) held = absurd held
texts_held court (each ∷ lines) [] held = absurd held
texts_held court (each ∷ lines) (answers ∷ lists) held = (held.0.held, texts_held court lines lists held.1)
