use Rattle.std.proofs.Common.{◌≡◌, ◌++◌, drop}
use Rattle.std.specs.Str.{IsCharBoundary}
use Rattle.es_text.specs.Tokens.{comments_between}
use Rattle.es_lexer.proofs.comment.comments.Given as goal

abbrev pub invariant-loop-token : goal.invariant-loop-token
invariant-loop-token l = record {
  place : IsCharBoundary l.text l.offset;
  items : l.comments.items ++ comments_between l.text l.offset (drop l.token-index l.tokens) ≡ comments_between l.text 0 l.tokens;
}
