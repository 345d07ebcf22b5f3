use Rattle.std.proofs.Common.{◌∙◌, sym, ap}
use Rattle.std.specs.Prelude.{slice_get}
use Rattle.std.specs.Option.{unwrap_or}
use Rattle.es_parser.specs.TextCodes.{key_of, text_codes}
use Rattle.es_parser.proofs.TextCodesLemmas.{no_code}
use Rattle.es_parser.proofs.TextSetsLemmas.{spelled_read}
use Rattle.es_parser.proofs.text_sets.text_code.Goals as goal

pub returns-then-reads-clause-some : goal.returns-then-reads-clause-some
returns-then-reads-clause-some c =
    (spelled_read c.args.context c.args.kind c.args.text.now c.code_at-code.result).0 (sym c.reads.ensures ∙ c.if-reads.true)

pub returns-else-reads-clause-none : goal.returns-else-reads-clause-none
returns-else-reads-clause-none c =
    no_code c.args.context c.args.kind c.args.text.now c.code_at-code.result
    (c.code_at-code.ensures ∙ ap (λ codes. unwrap_or (slice_get codes c.key_of.result) 255) c.text_codes.ensures ∙ ap (λ key. unwrap_or (slice_get text_codes key) 255) c.key_of.ensures)
    (sym c.reads.ensures ∙ c.if-reads.false)
