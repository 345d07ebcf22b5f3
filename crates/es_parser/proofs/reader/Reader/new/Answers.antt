use Rattle.std.proofs.Common.{ℕ, List, Some, None, Option, ap, length, arith}
use Rattle.std.specs.Prelude.{IsNone}
use Rattle.es_text.specs.Texts.{text_bytes}
use Rattle.es_parser.specs.declared.reader.KeptTerminals.{KeptTerminals}
use Rattle.es_parser.specs.declared.reader.Refusal.{Refusal}
use Rattle.es_parser.specs.declared.reader.KeptOutcome.{KeptOutcome}
use Rattle.es_parser.specs.Kept.{IsKeptOutcome, IsKeptSet, IsRefused}
use Rattle.es_parser.proofs.reader.Reader.new.Goals as goal

no_set : (text : List ℕ) (kept : Option KeptTerminals) → IsNone kept → IsKeptSet text kept
no_set text None h = tt
no_set text (Some kept) h = absurd (cc)

no_refusal : (text : List ℕ) (kept : Option Refusal) → IsNone kept → IsRefused text kept
no_refusal text None h = tt
no_refusal text (Some kept) h = absurd (cc)

no_outcome : (text : List ℕ) (kept : Option KeptOutcome) → IsNone kept → IsKeptOutcome text kept
no_outcome text None h = tt
no_outcome text (Some kept) h = absurd (cc)

pub invariant_of-result : goal.invariant_of-result
invariant_of-result c =
    let text = text_bytes c.args.source.now in (
      λ k d low. absurd (omega (arith, low, ap length c.new.ensures.items)),
      λ k d low. no_set text _ (c.in_ok-terminals.ensures k d low),
      λ k d low. no_refusal text _ (c.in_ok-refusals.ensures k d low),
      λ k d low. no_outcome text _ (c.in_ok-outcomes.ensures k d low),
    )
