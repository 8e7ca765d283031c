use Rattle.std.proofs.Common.{◌≡◌, subst, sym, rules}
use Rattle.std.specs.List.{AllPass}
use Rattle.desk_session.specs.Account.{account_text, is_printable}
use Rattle.desk_session.proofs.AccountLemmas.{account_is_printable}
use Rattle.desk_session.proofs.account.account_text.Goals as goal

pub returns-clause-printable : goal.returns-clause-printable
unfolding account_text
returns-clause-printable c =
    let is : c.extend_from_slice-3.new.self.items ≡ account_text c.args.status.now c.args.users.now c.args.host.now = search rules in
    subst (AllPass is_printable) (sym is) (account_is_printable c.args.status.now c.args.users.now c.args.host.now)
