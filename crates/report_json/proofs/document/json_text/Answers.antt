use Rattle.std.proofs.Common.{◌≡◌, ◌∙◌, ◌++◌, ◌∷◌, [], ap, rules, subst}
use Rattle.std.specs.Str.{IsUtf8}
use Rattle.json.specs.Lex.{tokens}
use Rattle.json.specs.Print.{print}
use Rattle.json.specs.Tree.{json_tokens}
use Rattle.report_json.specs.Document.{document_value}
use Rattle.report_json.proofs.DocketDepth.{document_within}
use Rattle.report_json.proofs.ReadLemmas.{document_reads}
use Rattle.report_json.proofs.document.json_text.Goals as goal

pub returns : goal.returns
returns c =
    let sheets = c.in_ok-_sheets._sheets.items in
    let value = document_value c.args.court.now c.args.labels.now c.args.choice.now c.args.rows.now sheets in
    let written : c.push_document.new.out ≡ json_tokens value = rw c.new-out.ensures at c.in_ok-_sheets.ensures.object in
    let reads : tokens (print (json_tokens value)) ≡ json_tokens value = subst (λ ts. tokens (print ts) ≡ ts) written c.into_text-text.ensures.reads_back in
    let pushed : c.push.new.self.items ≡ c.into_text-text.result.items ++ 10 ∷ [] = search rules in
    record {
      sheets = sheets;
      explained = c.in_ok-_sheets.ensures.sheets;
      json = record {
        line = pushed ∙ ap (λ t. t ++ 10 ∷ []) (c.into_text-text.ensures.text ∙ ap print written);
        reads = document_reads value (document_within c.args.court.now c.args.labels.now c.args.choice.now c.args.rows.now sheets) reads;
        utf8 = subst (λ ts. IsUtf8 (print ts)) written c.into_text-text.ensures.utf8;
      };
    }
