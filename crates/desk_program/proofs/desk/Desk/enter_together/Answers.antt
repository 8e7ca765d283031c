use Rattle.std.proofs.Common.{◌≡◌, ◌∙◌, Bool, List, ◌++◌, Ok, ap, length, map, refl, subst, sym}
use Rattle.std.specs.Prelude.{option_map, false}
use Rattle.std.proofs.lemmas.List.{length-map}
use Rattle.std.specs.Io.KnownBytes.{Appends}
use Rattle.desk_journal.specs.Words.{IsKept, disk_of}
use Rattle.desk_journal.proofs.CallerLemmas.{rest_kept}
use Rattle.desk_session.specs.Words.{IsPromised, IsServed, left_by, lines_of, numbered_lines, stopped_in, unmarked_lines}
use Rattle.desk_entries.specs.Words.{FaultyLine, IsReadyAt, fault_in, faults_of}
use Rattle.program_streams.specs.declared.watched.Watched.{Watched}
use Rattle.program_streams.specs.Words.{has_failed, watched}
use Rattle.desk_program.specs.Desk.{answers_at, held_at, leaves_at, standing_at}
use Rattle.desk_program.specs.Together.{faults_in, line_faults_text, stopped_text}
use Rattle.desk_program.proofs.DeskLemmas.{all_or_none_docket, kept_together, none_docket, none_promised, promised_docket}
use Rattle.desk_program.proofs.TogetherLemmas.{as_held, as_refused, listed_not_stopped, never_none, none_at_fault, says_listed, says_stopped, says_unserved, some_at_fault, stopped_no_faults, unserved_other}
use Rattle.desk_program.proofs.desk.Desk.enter_together.Goals as goal

-- want of memory while faults are looked for
pub returns-in-Err-clause-promised : goal.returns-in-Err-clause-promised
returns-in-Err-clause-promised g c = λ kept keeps faultless unstopped. none_promised g.D.Disk c.args.self.now c.args.self.now kept keeps (lines_of c.args.input.now) _ _

-- lines that have faults
pub returns-in-Err-list_faults-clause-crash : goal.returns-in-Err-list_faults-clause-crash
returns-in-Err-list_faults-clause-crash g c = λ kept keeps. none_docket g.D.Disk c.args.self.now c.args.self.now kept keeps (lines_of c.args.input.now)

pub returns-in-Err-list_faults-clause-refused : goal.returns-in-Err-list_faults-clause-refused
returns-in-Err-list_faults-clause-refused g c = λ kept count keeps is.
    let all : List FaultyLine = faults_in (standing_at c.args.self.now) (held_at c.args.self.now) kept c.args.input.now in
    let same : map fault_in c.deref.result.now ≡ all = ap (map fault_in) c.deref.ensures.value ∙ c.in-Ok.ensures kept keeps.docketed.stands ∙ ap (λ (m : Bool). faults_of (standing_at c.args.self.now) kept (unmarked_lines m (numbered_lines c.args.input.now))) c.are_marked-marked.ensures in
    let (many, some, listed) = c.in-Err-list_faults.ensures.some count is in
    record {
      listed = subst (λ (l : List FaultyLine). Appends (g.W.Write.contents (watched c.args.writer.now)) (g.W.Write.contents (watched c.list_faults.new.writer)) (line_faults_text l)) same listed;
      count_is = many ∙ sym (length-map c.deref.result.now fault_in) ∙ ap length same;
      some = some_at_fault c.deref.result.now all same some;
    }

pub returns-in-Err-list_faults-clause-stopped : goal.returns-in-Err-list_faults-clause-stopped
returns-in-Err-list_faults-clause-stopped g c = λ kept number keeps is. absurd ((listed_not_stopped _ _ c.in-Err-list_faults.ensures.fault.1).0 number (cc is))

pub returns-in-Err-list_faults-clause-held : goal.returns-in-Err-list_faults-clause-held
returns-in-Err-list_faults-clause-held g c = λ kept number keeps is. absurd ((listed_not_stopped _ _ c.in-Err-list_faults.ensures.fault.1).1 number (cc is))

pub returns-in-Err-list_faults-clause-says : goal.returns-in-Err-list_faults-clause-says
returns-in-Err-list_faults-clause-says g c = λ kept keeps. says_listed _ _ _ _ refl c.in-Err-list_faults.ensures.fault.1

pub returns-in-Err-list_faults-clause-promised : goal.returns-in-Err-list_faults-clause-promised
returns-in-Err-list_faults-clause-promised g c = λ kept keeps faultless unstopped.
    let same = ap (map fault_in) c.deref.ensures.value ∙ c.in-Ok.ensures kept keeps.docketed.stands ∙ ap (λ (m : Bool). faults_of (standing_at c.args.self.now) kept (unmarked_lines m (numbered_lines c.args.input.now))) c.are_marked-marked.ensures in
    absurd (some_at_fault c.deref.result.now _ same c.in-Err-list_faults.ensures.fault.0 faultless)

-- a last line with no end
pub returns-then-not-is_finished-clause-crash : goal.returns-then-not-is_finished-clause-crash
returns-then-not-is_finished-clause-crash g c = λ kept keeps. none_docket g.D.Disk c.args.self.now c.args.self.now kept keeps (lines_of c.args.input.now)

pub returns-then-not-is_finished-clause-promised : goal.returns-then-not-is_finished-clause-promised
returns-then-not-is_finished-clause-promised g c = λ kept keeps faultless unstopped.
    rw c.in-Ok-list_faults.ensures.none.1 (none_promised g.D.Disk c.args.self.now c.args.self.now kept keeps (lines_of c.args.input.now) _ _)

-- lines that are kept
pub returns-in-Ok-None-clause-kept : goal.returns-in-Ok-None-clause-kept
returns-in-Ok-None-clause-kept g c = λ kept keeps.
    let under = standing_at c.args.self.now in
    let none = none_at_fault c.deref.result.now _ (ap (map fault_in) c.deref.ensures.value ∙ c.in-Ok.ensures kept keeps.docketed.stands ∙ ap (λ (m : Bool). faults_of (standing_at c.args.self.now) kept (unmarked_lines m (numbered_lines c.args.input.now))) c.are_marked-marked.ensures) c.in-Ok-list_faults.ensures.none.0 in
    kept_together g.D.Disk c.args.self.now _ kept keeps refl c.args.keep_refused c.args.input.now _ _ none (c.is_finished.ensures.0 c.if-not-is_finished.false) (sym (c.in-Ok-None.ensures.stopped kept keeps.docketed.stands) ∙ ap (option_map stopped_in) c.in-Ok-None.field-0-is)
    (subst (λ (w : Watched g.row.W.Denot). IsServed (leaves_at c.args.self.now) (answers_at c.args.self.now) (λ entries. IsKept g.D.Disk entries c.serve_together.new.journal) (IsReadyAt under c.serve_together.new.register.register) kept (lines_of c.args.input.now) (g.W.Write.contents (watched w)) (g.W.Write.contents (watched c.serve_together.new.writer)))
    c.in-Ok-list_faults.ensures.none.1 (c.serve_together.ensures.served kept keeps.kept keeps.docketed.stands (c.in-Ok-None.is ∙ ap Ok c.in-Ok-None.field-0-is)))

pub returns-in-Ok-None-clause-crash : goal.returns-in-Ok-None-clause-crash
returns-in-Ok-None-clause-crash g c = λ kept keeps.
    all_or_none_docket g.D.Disk c.args.self.now c.args.self.now kept keeps (lines_of c.args.input.now) _ (c.serve_together.ensures.all_or_none kept keeps.kept keeps.docketed.stands)

pub returns-in-Ok-None-clause-unwritten : goal.returns-in-Ok-None-clause-unwritten
returns-in-Ok-None-clause-unwritten g c = λ kept keeps some. ap disk_of (c.serve_together.ensures.unwritten kept keeps.docketed.stands some)

pub returns-in-Ok-Some-clause-crash : goal.returns-in-Ok-Some-clause-crash
returns-in-Ok-Some-clause-crash g c = λ kept keeps.
    all_or_none_docket g.D.Disk c.args.self.now c.args.self.now kept keeps (lines_of c.args.input.now) _ (c.serve_together.ensures.all_or_none kept keeps.kept keeps.docketed.stands)

pub returns-in-Ok-Some-clause-unwritten : goal.returns-in-Ok-Some-clause-unwritten
returns-in-Ok-Some-clause-unwritten g c = λ kept keeps some. ap disk_of (c.serve_together.ensures.unwritten kept keeps.docketed.stands some)

pub returns-clause-crash : goal.returns-clause-crash
returns-clause-crash g c = λ kept keeps.
    all_or_none_docket g.D.Disk c.args.self.now c.args.self.now kept keeps (lines_of c.args.input.now) _ (c.serve_together.ensures.all_or_none kept keeps.kept keeps.docketed.stands)

pub returns-clause-unwritten : goal.returns-clause-unwritten
returns-clause-unwritten g c = λ kept keeps some. ap disk_of (c.serve_together.ensures.unwritten kept keeps.docketed.stands some)

pub returns-in-Ok-None-clause-promised : goal.returns-in-Ok-None-clause-promised
returns-in-Ok-None-clause-promised g c = λ kept keeps faultless unstopped.
    let under = standing_at c.args.self.now in
    promised_docket g.D.Disk c.args.self.now c.args.self.now kept keeps (lines_of c.args.input.now) _ _ _ _
    (subst (λ (w : Watched g.row.W.Denot). IsPromised (leaves_at c.args.self.now) (answers_at c.args.self.now) kept (lines_of c.args.input.now) (g.W.Write.contents (watched w)) (g.W.Write.contents (watched c.serve_together.new.writer)) (has_failed c.serve_together.new.writer ≡ false) (g.D.Disk.may_leave (disk_of c.serve_together.new.journal)))
    c.in-Ok-list_faults.ensures.none.1 (c.serve_together.ensures.promised kept keeps.kept keeps.docketed.stands))

pub returns-clause-promised : goal.returns-clause-promised
returns-clause-promised g c = λ kept keeps faultless unstopped.
    let under = standing_at c.args.self.now in
    promised_docket g.D.Disk c.args.self.now c.args.self.now kept keeps (lines_of c.args.input.now) _ _ _ _
    (subst (λ (w : Watched g.row.W.Denot). IsPromised (leaves_at c.args.self.now) (answers_at c.args.self.now) kept (lines_of c.args.input.now) (g.W.Write.contents (watched w)) (g.W.Write.contents (watched c.serve_together.new.writer)) (has_failed c.serve_together.new.writer ≡ false) (g.D.Disk.may_leave (disk_of c.serve_together.new.journal)))
    c.in-Ok-list_faults.ensures.none.1 (c.serve_together.ensures.promised kept keeps.kept keeps.docketed.stands))

-- a command that stops the list
pub returns-in-Ok-Some-clause-promised : goal.returns-in-Ok-Some-clause-promised
returns-in-Ok-Some-clause-promised g c = λ kept keeps faultless unstopped. absurd (never_none _ (stopped_in c.in-Ok-Some.line) (sym (c.in-Ok-Some.ensures.stopped kept keeps.docketed.stands) ∙ ap (option_map stopped_in) c.in-Ok-Some.field-0-is) unstopped)

pub returns-in-Ok-Some-clause-refused : goal.returns-in-Ok-Some-clause-refused
returns-in-Ok-Some-clause-refused g c = λ kept count keeps is. absurd (stopped_no_faults _ (stopped_in c.in-Ok-Some.line) count c.tell_stopped.ensures.fault (cc is))

pub returns-in-Ok-Some-clause-stopped : goal.returns-in-Ok-Some-clause-stopped
returns-in-Ok-Some-clause-stopped g c = λ kept number keeps is.
    let (number_is, held_is, made) = as_refused c.tell_stopped.result (stopped_in c.in-Ok-Some.line) number c.tell_stopped.ensures.fault (cc is) in
    record {
      line = stopped_in c.in-Ok-Some.line;
      first = sym (c.in-Ok-Some.ensures.stopped kept keeps.docketed.stands) ∙ ap (option_map stopped_in) c.in-Ok-Some.field-0-is;
      number_is = number_is;
      held_is = held_is;
      written = subst (λ (w : Watched g.row.W.Denot). Appends (g.W.Write.contents (watched w)) (g.W.Write.contents (watched c.tell_stopped.new.writer)) (stopped_text (stopped_in c.in-Ok-Some.line))) (c.in-Ok-Some.ensures.untold (λ e. cc e) ∙ c.in-Ok-list_faults.ensures.none.1) (c.tell_stopped.ensures.told made);
    }

pub returns-in-Ok-Some-clause-held : goal.returns-in-Ok-Some-clause-held
returns-in-Ok-Some-clause-held g c = λ kept number keeps is.
    let (number_is, held_is, made) = as_held c.tell_stopped.result (stopped_in c.in-Ok-Some.line) number c.tell_stopped.ensures.fault (cc is) in
    record {
      line = stopped_in c.in-Ok-Some.line;
      first = sym (c.in-Ok-Some.ensures.stopped kept keeps.docketed.stands) ∙ ap (option_map stopped_in) c.in-Ok-Some.field-0-is;
      number_is = number_is;
      held_is = held_is;
      written = subst (λ (w : Watched g.row.W.Denot). Appends (g.W.Write.contents (watched w)) (g.W.Write.contents (watched c.tell_stopped.new.writer)) (stopped_text (stopped_in c.in-Ok-Some.line))) (c.in-Ok-Some.ensures.untold (λ e. cc e) ∙ c.in-Ok-list_faults.ensures.none.1) (c.tell_stopped.ensures.told made);
    }

pub returns-in-Ok-Some-clause-says : goal.returns-in-Ok-Some-clause-says
returns-in-Ok-Some-clause-says g c = λ kept keeps.
    says_stopped _ _ _ (stopped_in c.in-Ok-Some.line) (ap disk_of (c.serve_together.ensures.unwritten kept keeps.docketed.stands (never_none _ (stopped_in c.in-Ok-Some.line) (sym (c.in-Ok-Some.ensures.stopped kept keeps.docketed.stands) ∙ ap (option_map stopped_in) c.in-Ok-Some.field-0-is)))) c.tell_stopped.ensures.fault

-- lines that can't be served
pub returns-clause-refused : goal.returns-clause-refused
returns-clause-refused g c = λ kept count keeps is. absurd ((unserved_other c.in-Err-serve_together.fault _ c.together_fault.ensures).0 count (cc is))

pub returns-clause-stopped : goal.returns-clause-stopped
returns-clause-stopped g c = λ kept number keeps is. absurd ((unserved_other c.in-Err-serve_together.fault _ c.together_fault.ensures).1 number (cc is))

pub returns-clause-held : goal.returns-clause-held
returns-clause-held g c = λ kept number keeps is. absurd ((unserved_other c.in-Err-serve_together.fault _ c.together_fault.ensures).2 number (cc is))

pub returns-clause-says : goal.returns-clause-says
returns-clause-says g c = λ kept keeps.
    rw c.together_fault.ensures
    (says_unserved _ _ _ c.args.input.now c.in-Err-serve_together.fault c.in-Err-serve_together.ensures.fault
    (λ long. ap disk_of (c.serve_together.ensures.long (cc (c.in-Err-serve_together.is, long))))
    (λ write file may. rest_kept g.D.Disk c.serve_together.new.journal (kept ++ left_by (leaves_at c.args.self.now) kept (lines_of c.args.input.now)) (c.serve_together.ensures.unanswered kept keeps.kept keeps.docketed.stands (cc (c.in-Err-serve_together.is, write))) file may))
