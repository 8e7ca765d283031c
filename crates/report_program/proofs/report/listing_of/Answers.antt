use Rattle.report_program.proofs.report.listing_of.Goals as goal

pub returns-in-Due : goal.returns-in-Due
returns-in-Due c = λ docketed holds. rw c.in-Due.is (c.due_text.ensures docketed holds)

pub returns-in-Week : goal.returns-in-Week
returns-in-Week c = λ docketed holds. rw c.in-Week.is (c.week_text.ensures docketed holds)

pub returns-in-Page : goal.returns-in-Page
returns-in-Page c = λ docketed holds. rw c.in-Page.is (c.page_text.ensures docketed holds)

pub returns-in-Ics : goal.returns-in-Ics
returns-in-Ics c = λ docketed holds. rw c.in-Ics.is (c.ics_text.ensures docketed holds)

pub returns-in-Sheet : goal.returns-in-Sheet
returns-in-Sheet c = λ docketed holds. rw c.in-Sheet.is (c.sheet_text.ensures docketed holds)

pub returns-in-Pending : goal.returns-in-Pending
returns-in-Pending c = λ docketed holds. rw c.in-Pending.is (c.pending_text.ensures docketed holds)

pub returns-in-Case : goal.returns-in-Case
returns-in-Case c = λ docketed holds. rw c.in-Case.is (c.case_text.ensures docketed holds)
