use Rattle.es_config.specs.Reading.{glob_at}
use Rattle.es_config.proofs.WalksLemmas.{InArray}
use Rattle.es_config.proofs.file_globs.globs_in.Given as goal

abbrev pub invariant-loop-index : goal.invariant-loop-index
invariant-loop-index l = InArray glob_at l.values l.index l.globs
