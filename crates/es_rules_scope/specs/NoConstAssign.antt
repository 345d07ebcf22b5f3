-- no-const-assign: a reference that writes a `const` elsewhere than where it is declared (ECMA-262, 9.1.1.1.5).
use Rattle.std.specs.Prelude.{ℕ, Bool, false, true, not, ◌&&◌, List, [], ◌∷◌, codes, if◌then◌else◌, slice_get}
use Rattle.std.specs.List.{flat_map}
use Rattle.std.specs.Option.{option_map_or}
use Rattle.es_text.specs.declared.finding.Finding.{Finding}
use Rattle.es_scopes.specs.declared.binding.DeclarationKind.{DeclarationKind}
use Rattle.es_scopes.specs.declared.binding.DeclarationKind.TheVariants.{Const}
use Rattle.es_scopes.specs.declared.uses.Reference.{Reference}
use Rattle.es_scopes.specs.Declarations.{with_some}
use Rattle.es_scopes.specs.Variables.{Named}
use Rattle.es_host.specs.Files.{File}
use Rattle.es_host.specs.Nodes.{SimpleFileMeaning}
use Rattle.es_rules_scope.specs.Marks.{has}
use Rattle.es_rules_scope.specs.Names.{said_of_name}

abbrev pub is_const : DeclarationKind → Bool
is_const Const = true
is_const other = false

-- the variable is a `const`, and the node isn't where it is declared
abbrev pub is_const_beyond : ℕ → Named → Bool
is_const_beyond node v = is_const v.kind && not (has v.nodes node)

abbrev pub is_reassigned : List Named → Reference → Bool
is_reassigned variables r = r.write && option_map_or (is_const_beyond r.node) (with_some r.variable (slice_get variables)) false

abbrev pub said_of : File → Reference → List Finding
said_of file r =
    if is_reassigned file.scopes.variables r then said_of_name file r.node (codes "' is constant.") ∷ [] else []

abbrev pub no_const_assign : SimpleFileMeaning
no_const_assign = record { id = codes "no-const-assign"; finds = λ file. flat_map (said_of file) file.scopes.references }
