use Rattle.docket_decisions.proofs.next.+unread_of_all.Given as goal

abbrev pub decreases-unread_of_all : goal.decreases-unread_of_all
decreases-unread_of_all l = l.count
