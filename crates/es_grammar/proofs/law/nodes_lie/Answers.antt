use Rattle.std.proofs.lemmas.Str.{IsCharBoundary-start}
use Rattle.es_grammar.proofs.DraftsLemmas.{Laws, lies-empty}
use Rattle.es_grammar.proofs.WithinLemmas.{ends-lie, lies-items, lies-reads}
use Rattle.es_grammar.proofs.law.nodes_lie.Goals as goal

pub returns-clause-nodes : goal.returns-clause-nodes
returns-clause-nodes c =
    let laws : Laws = record {
      parts = c.parts_lie.ensures;
      tokens = c.tokens_lie.ensures.tokens;
      offsets = c.tokens_lie.ensures.first_offsets;
      bare = c.parts_pass.ensures.bare;
      child = c.parts_pass.ensures.child;
      attribute = c.parts_pass.ensures.attribute;
    } in
    λ text symbol spot draft end utf8 boundary reads. lies-reads text utf8 laws boundary reads

pub returns-clause-answers : goal.returns-clause-answers
returns-clause-answers c =
    let laws : Laws = record {
      parts = c.parts_lie.ensures;
      tokens = c.tokens_lie.ensures.tokens;
      offsets = c.tokens_lie.ensures.first_offsets;
      bare = c.parts_pass.ensures.bare;
      child = c.parts_pass.ensures.child;
      attribute = c.parts_pass.ensures.attribute;
    } in
    λ text source answer utf8 reads. lies-items text utf8 laws (lies-empty text utf8 laws 0 (IsCharBoundary-start text utf8)) reads

pub returns-clause-ends : goal.returns-clause-ends
returns-clause-ends c = λ text from tokens to between. ends-lie text from tokens to between
