use Rattle.std.proofs.Common.{◌≡◌, map}
use Rattle.es_lint.specs.Messages.{message_of}
use Rattle.es_lint.proofs.message.messages_of.Given as goal

abbrev pub invariant-loop-report : goal.invariant-loop-report
invariant-loop-report l = l.messages.items ≡ map (message_of l.source.characters) l.yielded
