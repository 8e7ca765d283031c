use Rattle.std.proofs.Common.{◌∙◌, ◌++◌, ◌∷◌, [], ℕ, List, ap, codes}
use Rattle.std.proofs.lemmas.Result.{on_ok_weaker}
use Rattle.json.specs.Json.{string}
use Rattle.json.specs.Token.{Token}
use Rattle.json.specs.Tree.{json_tokens}
use Rattle.desk_numbers.specs.Strikes.Words.{remark_in}
use Rattle.desk_program.specs.LogText.{without_end}
use Rattle.desk_program.specs.LogJson.{amount_json, bytes_json, case_json, time_json}
use Rattle.desk_program.proofs.LogJsonLemmas.{members_five}
use Rattle.desk_program.proofs.log_json.put_correction.Goals as goal

pub returns : goal.returns
returns c =
    on_ok_weaker c.put_bytes.result
    (λ last. (
      members_five c.args.out.now.tokens c.put_text.new.out.tokens c.put_number.new.out.tokens c.put_stamp.new.out.tokens c.put_case.new.out.tokens c.put_bytes.new.out.tokens
          (Token.key (codes "kind") ∷ json_tokens (string c.args.word.now)) (Token.key (codes "row") ∷ json_tokens (amount_json c.args.row)) (Token.key (codes "time") ∷ json_tokens (time_json c.args.time))
          (Token.key (codes "account") ∷ json_tokens (bytes_json c.args.account.now)) (Token.key (codes "case") ∷ json_tokens (case_json c.args.case)) (Token.key (codes "remark") ∷ json_tokens (bytes_json (without_end (remark_in c.args.entry.now)))) (Token.end_object ∷ [])
          c.in_ok-put_text.ensures.0 (c.in_ok-put_number.ensures.0 ∙ ap (λ (n : ℕ). c.put_text.new.out.tokens ++ Token.key (codes "row") ∷ json_tokens (amount_json n)) c.from.ensures)
          c.in_ok-put_stamp.ensures.0 c.in_ok-put_case.ensures.0 (last.0 ∙ ap (λ (l : List ℕ). c.put_case.new.out.tokens ++ Token.key (codes "remark") ∷ json_tokens (bytes_json l)) (c.without_end.ensures ∙ ap without_end c.remark_in.ensures)),
      last.1 ∙ c.in_ok-put_case.ensures.1 ∙ c.in_ok-put_stamp.ensures.1 ∙ c.in_ok-put_number.ensures.1 ∙ c.in_ok-put_text.ensures.1,
    )) c.put_bytes.ensures
