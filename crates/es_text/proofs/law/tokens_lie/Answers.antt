use Rattle.es_text.proofs.CommentsLemmas.{comments-lie}
use Rattle.es_text.proofs.WithinLemmas.{first_offset-lies, token-within}
use Rattle.es_text.proofs.law.tokens_lie.Goals as goal

pub returns-clause-tokens : goal.returns-clause-tokens
returns-clause-tokens c = λ text at m found utf8 boundary is. token-within text at utf8 boundary m found is

pub returns-clause-comments : goal.returns-clause-comments
returns-clause-comments c = λ text at tokens utf8 boundary ends. comments-lie text at tokens utf8 boundary ends

pub returns-clause-first_offsets : goal.returns-clause-first_offsets
returns-clause-first_offsets c = λ text at utf8 boundary. first_offset-lies text at utf8 boundary
