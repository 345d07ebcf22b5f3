use Rattle.es_host.specs.Files.{file_of}
use Rattle.es_rules_plain.proofs.ClausesLemmas.{said_more}
use Rattle.es_rules_plain.proofs.no_duplicate_case.judge_switch.Goals as goal

pub loop-index-preserved : goal.loop-index-preserved
loop-index-preserved c = record {
  seen = c.in_ok-judge_clause.ensures.seen;
  found = said_more (file_of c.args.ctx.now) c.args.switch c.loop-index.index c.args.findings.now.items c.loop-index.findings.items c.judge_clause.new.findings.items
      c.loop-index.invariant.found c.in_ok-judge_clause.ensures.found;
  inside = λ fits. c.in_ok-judge_clause.ensures.inside (c.loop-index.invariant.inside fits);
}
