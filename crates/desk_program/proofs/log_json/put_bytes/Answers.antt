use Rattle.std.proofs.Common.{◌∙◌, ap}
use Rattle.std.proofs.lemmas.Result.{on_ok_weaker}
use Rattle.json.specs.Token.{Token}
use Rattle.json.specs.Tree.{json_tokens}
use Rattle.desk_program.specs.LogJson.{bytes_json}
use Rattle.desk_program.proofs.LogJsonLemmas.{member_is, no_text_is, text_is}
use Rattle.desk_program.proofs.log_json.put_bytes.Goals as goal

pub returns-in-Ok : goal.returns-in-Ok
returns-in-Ok c =
    on_ok_weaker c.string.result
    (λ next. (
      member_is c.args.out.now.tokens c.key.new.self.tokens c.string.new.self.tokens c.args.name.now (Token.string c.in-Ok.text.now) (bytes_json c.args.bytes.now) c.in_ok-key.ensures.ok next
          (ap json_tokens (text_is c.in-Ok.text.now c.args.bytes.now c.in-Ok.ensures.cases.0 c.in-Ok.ensures.cases.1)),
      c.string.ensures.room.0 ∙ c.key.ensures.room.0,
    )) c.string.ensures.ok

pub returns-in-Err : goal.returns-in-Err
returns-in-Err c =
    on_ok_weaker c.null.result
    (λ next. (
      member_is c.args.out.now.tokens c.key.new.self.tokens c.null.new.self.tokens c.args.name.now Token.null (bytes_json c.args.bytes.now) c.in_ok-key.ensures.ok next (ap json_tokens (no_text_is c.args.bytes.now c.in-Err.ensures.cases.0)),
      c.null.ensures.room.0 ∙ c.key.ensures.room.0,
    )) c.null.ensures.ok
