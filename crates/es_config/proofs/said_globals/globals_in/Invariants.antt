use Rattle.es_config.specs.Reading.{global_at}
use Rattle.es_config.proofs.WalksLemmas.{InObject}
use Rattle.es_config.proofs.said_globals.globals_in.Given as goal

abbrev pub invariant-loop-key : goal.invariant-loop-key
invariant-loop-key l = InObject global_at l.members.entries l.key-iterator l.globals
