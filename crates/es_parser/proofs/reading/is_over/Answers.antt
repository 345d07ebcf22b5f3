use Rattle.std.proofs.Common.{◌∙◌, List, ℕ, map, subst, sym}
use Rattle.es_grammar.specs.declared.draft.Draft.{Draft}
use Rattle.es_grammar.specs.declared.draft.Outcome.TheVariants.{Not}
use Rattle.es_grammar.specs.Reading.{ReadsChoice}
use Rattle.es_grammar.specs.Rules.{row}
use Rattle.es_parser.proofs.FrontsLemmas.{on_true, told}
use Rattle.es_parser.proofs.ReadingLemmas.{can_in}
use Rattle.es_parser.proofs.reading.is_over.Goals as goal

pub returns-clause-over : goal.returns-clause-over
returns-clause-over g c =
    told c.are_missing.result (λ so. record {
      reads = subst (λ (text : List ℕ). (seed : Draft) → ReadsChoice text (map row c.args.rows.now) c.args.spot seed Not)
          (c.can_begin_among.ensures.same ∙ c.terminals_at-set.ensures.same) (on_true c.are_missing.result c.are_missing.ensures so);
      never = λ can. c.if-can_begin_among.ensures.none (can_in (sym c.terminals_at-set.ensures.same) (sym c.requires.rows) can);
    })
