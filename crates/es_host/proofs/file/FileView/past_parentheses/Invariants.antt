use Rattle.std.proofs.Common.{◌≡◌, take, None}
use Rattle.std.specs.Prelude.{codes, find, not}
use Rattle.es_host.specs.Files.{file_in}
use Rattle.es_host.specs.TokensAround.{is_token}
use Rattle.es_host.proofs.file.FileView.past_parentheses.Given as goal

abbrev pub invariant-loop-token : goal.invariant-loop-token
invariant-loop-token l = find (λ token. not (is_token (file_in l.self) (codes ")") token)) (take l.token-index l.token-items) ≡ None
