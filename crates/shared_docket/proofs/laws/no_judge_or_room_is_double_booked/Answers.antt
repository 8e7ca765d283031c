use Rattle.docket_laws.specs.Words.{NoneIsBookedTwice}
use Rattle.shared_docket.specs.Sequential.{commands_of, rows_of}
use Rattle.shared_docket.proofs.AlwaysLemmas.{holds}
use Rattle.shared_docket.proofs.laws.no_judge_or_room_is_double_booked.Goals as goal

pub returns : goal.returns
returns c =
    holds (λ setup history. NoneIsBookedTwice (rows_of setup history)) (λ setup history legal. c.no_judge_or_room_is_booked_twice.ensures setup (commands_of history))
