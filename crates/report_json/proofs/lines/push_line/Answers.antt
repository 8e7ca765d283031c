use Rattle.std.proofs.Common.{◌≡◌, subst}
use Rattle.std.specs.Str.{IsUtf8}
use Rattle.json.specs.Lex.{tokens}
use Rattle.json.specs.Print.{print}
use Rattle.json.specs.Tree.{json_tokens}
use Rattle.report_json.specs.Answers.{answered_value}
use Rattle.report_json.proofs.DocketDepth.{answered_reads_within}
use Rattle.report_json.proofs.ReadLemmas.{document_reads}
use Rattle.report_json.proofs.lines.push_line.Goals as goal

pub returns-clause-read : goal.returns-clause-read
returns-clause-read c =
    let value = answered_value c.args.court.now c.args.labels.now.cases c.args.answered.now in
    let written : c.write.new.out ≡ json_tokens value = rw c.new-out.ensures at c.in_ok-write.ensures in
    let reads : tokens (print (json_tokens value)) ≡ json_tokens value = subst (λ ts. tokens (print ts) ≡ ts) written c.into_text-line.ensures.reads_back in
    record {
      reads = document_reads value (answered_reads_within c.args.court.now c.args.labels.now.cases c.args.answered.now) reads;
      utf8 = subst (λ ts. IsUtf8 (print ts)) written c.into_text-line.ensures.utf8;
    }
