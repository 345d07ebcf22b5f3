use Rattle.std.proofs.Common.{◌≡◌, map, take}
use Rattle.es_host.specs.Files.{file_in}
use Rattle.es_rules_plain.specs.NoDuplicateCase.{text_of, texts_of}
use Rattle.es_rules_plain.proofs.no_duplicate_case.texts_in.Given as goal

abbrev pub invariant-loop-token : goal.invariant-loop-token
invariant-loop-token l = texts_of l.texts ≡ map (text_of (file_in l.file)) (take l.token-index l.token-items)
