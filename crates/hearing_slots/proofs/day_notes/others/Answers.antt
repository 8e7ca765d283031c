use Rattle.std.proofs.Common.{◌≡◌, ◌∙◌, ap, not, sym, rules}
use Rattle.std.specs.List.{filter}
use Rattle.std.proofs.lemmas.Fn.{filter_same}
use Rattle.hearing_slots.specs.declared.day_notes.NotedDay.{NotedDay}
use Rattle.hearing_slots.specs.Inside.DayNotes.{is_noted}
use Rattle.hearing_slots.proofs.Finds.{filter_absent}
use Rattle.hearing_slots.proofs.day_notes.others.Goals as goal

pub returns-then-is_none : goal.returns-then-is_none
returns-then-is_none c =
    let copied : c.extend_from_slice.new.self.items ≡ c.args.notes.now = search rules in
    copied ∙ sym (filter_absent (is_noted c.args.case c.args.motion) c.args.notes.now (search rules))

pub returns : goal.returns
returns c =
    let kept = λ (n : NotedDay). not (is_noted c.args.case c.args.motion n) in
    let copied : c.extend_from_slice.new.self.items ≡ c.args.notes.now = search rules in
    filter_same _ kept _ (λ x b f' k. search rules) _ _ c.retain.ensures.filtered ∙ ap (filter kept) copied
