use Rattle.std.proofs.Common.{◌≡◌, pos, rules}
use Rattle.court_holidays.specs.States.Words.{on}
use Rattle.court_writing.proofs.writing.are_days_of.Goals as goal

pub returns : goal.returns
returns c =
    let first : c.args.days.now.from ≡ on 1 1 (pos c.args.from) = search rules in
    let last : c.args.days.now.to ≡ on 12 31 (pos c.args.to) = search rules in
    λ yes. record { first = first; last = last; listed = c.are_listed.ensures yes }
