use Rattle.std.proofs.Common.{◌∙◌, ◌++◌, ◌∷◌, [], ℕ, List, ap, codes}
use Rattle.std.proofs.lemmas.Result.{on_ok_weaker}
use Rattle.json.specs.Json.{string}
use Rattle.json.specs.Token.{Token}
use Rattle.json.specs.Tree.{json_tokens}
use Rattle.desk_program.specs.LogJson.{amount_json, bytes_json, case_json, row_answer, row_line, time_json}
use Rattle.desk_program.proofs.LogJsonLemmas.{members_six}
use Rattle.desk_program.proofs.log_json.put_row.Goals as goal

pub returns : goal.returns
returns c =
    on_ok_weaker c.put_bytes-2.result
    (λ last. (
      members_six c.args.out.now.tokens c.put_text.new.out.tokens c.put_number.new.out.tokens c.put_stamp.new.out.tokens c.put_case.new.out.tokens c.put_bytes.new.out.tokens c.put_bytes-2.new.out.tokens
          (Token.key (codes "kind") ∷ json_tokens (string (codes "row"))) (Token.key (codes "row") ∷ json_tokens (amount_json c.args.number)) (Token.key (codes "time") ∷ json_tokens (time_json c.args.time))
          (Token.key (codes "account") ∷ json_tokens (bytes_json c.args.account.now)) (Token.key (codes "case") ∷ json_tokens (case_json c.args.case)) (Token.key (codes "line") ∷ json_tokens (bytes_json (row_line c.args.entry.now))) (Token.key (codes "answer") ∷ json_tokens (bytes_json (row_answer c.args.entry.now))) (Token.end_object ∷ [])
          c.in_ok-put_text.ensures.0 c.in_ok-put_number.ensures.0 c.in_ok-put_stamp.ensures.0 c.in_ok-put_case.ensures.0
          (c.in_ok-put_bytes.ensures.0 ∙ ap (λ (l : List ℕ). c.put_case.new.out.tokens ++ Token.key (codes "line") ∷ json_tokens (bytes_json l)) c.row_line.ensures)
          (last.0 ∙ ap (λ (l : List ℕ). c.put_bytes.new.out.tokens ++ Token.key (codes "answer") ∷ json_tokens (bytes_json l)) c.row_answer.ensures),
      last.1 ∙ c.in_ok-put_bytes.ensures.1 ∙ c.in_ok-put_case.ensures.1 ∙ c.in_ok-put_stamp.ensures.1 ∙ c.in_ok-put_number.ensures.1 ∙ c.in_ok-put_text.ensures.1,
    )) c.put_bytes-2.ensures
