-- no-debugger: a DebuggerStatement.
use Rattle.std.specs.Prelude.{[], ◌∷◌, None, codes}
use Rattle.es_tree.specs.declared.kind.TheConstants.{DEBUGGER_STATEMENT}
use Rattle.es_host.specs.Files.{rows_in}
use Rattle.es_host.specs.Nodes.{SimpleNodeMeaning, found, span_at}

abbrev pub no_debugger : SimpleNodeMeaning
no_debugger = record {
  id = codes "no-debugger";
  kinds = DEBUGGER_STATEMENT ∷ [];
  finds = λ file node. found (span_at (rows_in file) node) (codes "Unexpected 'debugger' statement.") None ∷ [];
}
