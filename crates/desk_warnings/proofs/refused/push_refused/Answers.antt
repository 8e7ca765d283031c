use Rattle.std.proofs.Common.{◌≡◌, ◌∙◌, ◌++◌, ℕ, List, ap, string_bytes}
use Rattle.std.proofs.lemmas.Result.{on_ok_weaker}
use Rattle.court_clock.specs.Words.{ClockView}
use Rattle.docket_rows.specs.declared.refusal.Refusal.{Refusal}
use Rattle.docket_rows.specs.Words.{CourtSetup}
use Rattle.docket_core.specs.Words.{parts_held}
use Rattle.desk_numbers.specs.Words.{numbered_refusal}
use Rattle.reason_refusals.specs.Commands.Words.{why_refused}
use Rattle.desk_warnings.specs.Instead.{instead}
use Rattle.desk_warnings.specs.Warnings.{called_in, if_refused, refused_line}
use Rattle.desk_warnings.proofs.WarningLemmas.{four_parts}
use Rattle.desk_warnings.proofs.refused.push_refused.Goals as goal

pub returns : goal.returns
unfolding if_refused
returns c = λ setup.
    let court = c.args.court.now in
    let moved = c.args.moved.now in
    let named = c.args.cases.now.named in
    let parts = parts_held c.args.docket.now in
    let asked = c.args.asked.now in
    let command = c.args.command.now in
    let refusal = c.args.refusal.now in
    let text = string_bytes c.args.text.now in
    let numbered : c.number_refusal-numbered.result ≡ numbered_refusal moved refusal = c.number_refusal-numbered.ensures in
    let line =
    c.in_ok-push_refused_line.ensures
    ∙ ap (λ (k : ClockView). text ++ refused_line k named c.number_refusal-numbered.result) c.clock.ensures
    ∙ ap (λ (r : Refusal). text ++ refused_line court.clock named r) numbered in
    let called = c.as_str.ensures.value ∙ c.in_ok-called.ensures ∙ ap (λ (r : Refusal). called_in named asked r) numbered in
    let why = c.in_ok-push_why_refused.ensures setup ∙ ap (λ (l : List ℕ). string_bytes c.push_refused_line.new.text ++ why_refused court parts command l refusal) called in
    on_ok_weaker c.push_instead.result
    (λ told. four_parts text (string_bytes c.push_refused_line.new.text) (string_bytes c.push_why_refused.new.text) (string_bytes c.push_kept.new.text) (string_bytes c.push_instead.new.text) _ _ _ _
    line why (c.in_ok-push_kept.ensures setup) (told ∙ ap (λ (s : CourtSetup). string_bytes c.push_kept.new.text ++ instead s parts command refusal) setup))
    c.push_instead.ensures
