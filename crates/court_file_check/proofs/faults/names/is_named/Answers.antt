use Rattle.std.proofs.Common.{◌∙◌, ap, sym, ◌||◌, string_bytes}
use Rattle.std.specs.Str.{bytes_eq}
use Rattle.court_file_check.proofs.AnyLemmas.{name_more}
use Rattle.court_file_check.proofs.faults.names.is_named.Goals as goal

pub loop-name-preserved : goal.loop-name-preserved
loop-name-preserved c =
    c.is_same_or-found.ensures
    ∙ ap (λ t. c.loop-name.found || bytes_eq c.args.text.now t) c.as_str.ensures.value
    ∙ ap (λ b. b || bytes_eq c.args.text.now (string_bytes c.name-item.result)) c.loop-name.invariant
    ∙ sym (name_more (bytes_eq c.args.text.now) c.args.names.now c.loop-name.name-index c.name-item.result c.loop-name-test.true c.name-item.is)
