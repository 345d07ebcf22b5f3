use Rattle.es_grammar.specs.declared.draft.Draft.{Draft}
use Rattle.es_grammar.specs.declared.draft.Outcome.TheVariants.{Read}
use Rattle.std.proofs.Common.{◌≡◌}
use Rattle.es_grammar.specs.Drafts.{empty, joined}
use Rattle.es_grammar.specs.Parts.{finish}
use Rattle.es_parser.proofs.ReadingLemmas.{if_ok, joined_empty}
use Rattle.es_parser.proofs.nodes.made_alone.Goals as goal

pub returns : goal.returns
returns c =
    if_ok
    (λ all. (seed : Draft) (parts : Draft) → joined seed parts ≡ c.args.draft → all ≡ finish c.args.makes seed (Read parts c.args.end))
    (λ all. all ≡ finish c.args.makes empty (Read c.args.draft c.args.end)) c.made_of.result
    (λ all is. is empty c.args.draft (joined_empty c.args.draft))
    c.made_of.ensures
