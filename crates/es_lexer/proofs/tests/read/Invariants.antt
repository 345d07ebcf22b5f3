use Rattle.std.specs.Prelude.{All}
use Rattle.std.specs.Str.{IsCharBoundary}
use Rattle.es_text.specs.Texts.{text_bytes}
use Rattle.es_lexer.proofs.tests.read.Given as goal

abbrev pub invariant-loop-turn : goal.invariant-loop-turn
invariant-loop-turn g l = record {
  place : IsCharBoundary (text_bytes l.source) l.at;
  ends : All (λ token. IsCharBoundary (text_bytes l.source) token.span.end) l.tokens.items;
}
