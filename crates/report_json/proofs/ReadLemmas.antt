-- What is written of a value reads back as that value.
use Rattle.std.proofs.Common.{◌≡◌, ◌∙◌, ◌≤◌, [], Some, option_and_then, ap, sym, append-nil}
use Rattle.json.specs.Json.{Json, document, if_last, max_depth, value}
use Rattle.json.specs.Lex.{tokens}
use Rattle.json.specs.Print.{print}
use Rattle.json.specs.Tree.{depth, json_tokens}
use Rattle.json.proofs.Printed.Trees.{value-json_tokens}

-- where the text of the tokens of a value reads back as these tokens, and the value doesn't nest too deep
pub document_reads : (j : Json) → depth j ≤ max_depth → tokens (print (json_tokens j)) ≡ json_tokens j → document (print (json_tokens j)) ≡ Some j
document_reads j shallow reads =
    ap (option_and_then (λ p. if_last p.0 p.1)) (ap (value max_depth) (reads ∙ sym (append-nil (json_tokens j))) ∙ value-json_tokens j max_depth [] shallow)
