-- no-extra-semi: an EmptyStatement whose parent isn't a loop, `if`, `with` or label. The fix removes it.
use Rattle.std.specs.Prelude.{ℕ, List, [], ◌∷◌, Some, codes, if◌then◌else◌}
use Rattle.es_text.specs.declared.finding.Fix.{Fix}
use Rattle.es_text.specs.declared.span.Span.{Span}
use Rattle.es_tree.specs.declared.kind.TheConstants.{DO_WHILE_STATEMENT, EMPTY_STATEMENT, FOR_IN_STATEMENT, FOR_OF_STATEMENT, FOR_STATEMENT, IF_STATEMENT, LABELED_STATEMENT, WHILE_STATEMENT, WITH_STATEMENT}
use Rattle.es_tree.specs.Around.{is_among}
use Rattle.es_host.specs.Files.{rows_in}
use Rattle.es_host.specs.Nodes.{SimpleNodeMeaning, found, parent_kind, span_at}

unfoldable pub unnecessary : List ℕ
unnecessary = codes "Unnecessary semicolon."

-- the kinds that have a statement as their body
abbrev pub with_body : List ℕ
with_body =
    DO_WHILE_STATEMENT ∷ FOR_IN_STATEMENT ∷ FOR_OF_STATEMENT ∷ FOR_STATEMENT ∷ WHILE_STATEMENT
    ∷ IF_STATEMENT ∷ WITH_STATEMENT ∷ LABELED_STATEMENT ∷ []

abbrev pub removed : Span → Fix
removed span = record { span = span; text = [] }

abbrev pub no_extra_semi : SimpleNodeMeaning
no_extra_semi = record {
  id = codes "no-extra-semi";
  kinds = EMPTY_STATEMENT ∷ [];
  finds = λ file node.
      if is_among with_body (parent_kind (rows_in file) node) then []
      else found (span_at (rows_in file) node) unnecessary (Some (removed (span_at (rows_in file) node))) ∷ [];
}
