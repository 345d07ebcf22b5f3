use Rattle.es_rules_plain.proofs.SeenLemmas.{more, told}
use Rattle.es_rules_plain.proofs.no_duplicate_case.see.Goals as goal

pub returns-clause-told : goal.returns-clause-told
returns-clause-told c = told c.args.seen.now c.args.texts c.in_ok-added.added c.in_ok-added.ensures.added

pub returns-clause-more : goal.returns-clause-more
returns-clause-more c other = more c.args.seen.now c.insert.new.self c.args.texts other (c.in_ok-added.ensures.updates.0 other)
