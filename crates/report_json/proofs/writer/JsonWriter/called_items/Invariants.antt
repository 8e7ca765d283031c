use Rattle.std.proofs.Common.{◌≡◌, ◌++◌, drop}
use Rattle.std.specs.List.{flat_map}
use Rattle.json.specs.Tree.{json_tokens}
use Rattle.report_json.proofs.writer.JsonWriter.called_items.Given as goal

-- the items so far, and those that are left, are all
abbrev pub invariant-loop-item : goal.invariant-loop-item
invariant-loop-item g l = l.self ++ flat_map (λ x. json_tokens (g.T.ToCalled.value l.court l.labels l.case x)) (drop l.item-index l.items) ≡ l.fn.self ++ flat_map (λ x. json_tokens (g.T.ToCalled.value l.court l.labels l.case x)) l.items
