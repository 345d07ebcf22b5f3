use Rattle.std.proofs.Common.{◌≡◌, ◌++◌, take}
use Rattle.es_text.specs.Texts.{text_bytes}
use Rattle.es_lint.specs.Bad.{unknown_in}
use Rattle.es_lint.proofs.bad.add_unknown.Given as goal

abbrev pub invariant-loop-entry : goal.invariant-loop-entry
invariant-loop-entry l =
    l.reports.items ≡ l.initial.reports.items ++ unknown_in l.ids (text_bytes l.source) l.span (take l.entry-index l.entries)
