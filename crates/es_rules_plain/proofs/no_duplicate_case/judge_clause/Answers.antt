use Rattle.std.proofs.Common.{ap}
use Rattle.std.specs.Prelude.{option_map}
use Rattle.es_tree.specs.Around.{joined}
use Rattle.es_host.specs.Files.{file_of}
use Rattle.es_rules_plain.specs.NoDuplicateCase.{has, texts_of}
use Rattle.es_rules_plain.proofs.ClausesLemmas.{seen_more, seen_none}
use Rattle.es_rules_plain.proofs.no_duplicate_case.judge_clause.Goals as goal

pub returns-in_default-clause-seen : goal.returns-in_default-clause-seen
returns-in_default-clause-seen c texts =
    seen_none (file_of c.args.ctx.now) c.args.switch c.args.index (texts_of texts) (has c.args.seen.now texts) (ap joined c.in_default.ensures) (c.requires.seen texts)

pub returns-in_ok-report-clause-seen : goal.returns-in_ok-report-clause-seen
returns-in_ok-report-clause-seen c texts =
    seen_more (file_of c.args.ctx.now) c.args.switch c.args.index c.in-Some.clause (option_map texts_of c.in_ok-texts.texts) (texts_of texts)
    (has c.args.seen.now texts) (has c.is_seen.new.seen texts) (ap joined c.in-Some.ensures) c.in_ok-texts.ensures (c.requires.seen texts) (c.in_ok-is_seen.ensures.more texts)

pub returns-else-branch-clause-seen : goal.returns-else-branch-clause-seen
returns-else-branch-clause-seen c texts =
    seen_more (file_of c.args.ctx.now) c.args.switch c.args.index c.in-Some.clause (option_map texts_of c.in_ok-texts.texts) (texts_of texts)
    (has c.args.seen.now texts) (has c.is_seen.new.seen texts) (ap joined c.in-Some.ensures) c.in_ok-texts.ensures (c.requires.seen texts) (c.in_ok-is_seen.ensures.more texts)
