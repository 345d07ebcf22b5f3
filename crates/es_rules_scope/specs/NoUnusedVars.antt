-- no-unused-vars: a variable of a declarator, a function, a class or an import that no reference reads, and that isn't
-- exported. What writes it, as its declarator may, doesn't use it; `x++` and `x += 1` read, too. A class that is used
-- inside of itself alone is unused, since that uses the name that it knows itself by.
use Rattle.std.specs.Prelude.{ℕ, Bool, false, true, not, ◌&&◌, ◌||◌, List, [], ◌∷◌, length, codes, if◌then◌else◌, slice_get}
use Rattle.std.specs.List.{flat_map, list_any, range_with_len}
use Rattle.std.specs.Option.{option_map_or}
use Rattle.es_text.specs.declared.finding.Finding.{Finding}
use Rattle.es_scopes.specs.declared.binding.DeclarationKind.{DeclarationKind}
use Rattle.es_scopes.specs.declared.binding.DeclarationKind.TheVariants.{Var, Let, Const, Function, Class, Import, Param, Catch, Arguments, Own}
use Rattle.es_scopes.specs.declared.uses.Reference.{Reference}
use Rattle.es_scopes.specs.Declarations.{some_list}
use Rattle.es_scopes.specs.Variables.{Named}
use Rattle.es_host.specs.Files.{File, rows_in}
use Rattle.es_host.specs.Nodes.{SimpleFileMeaning}
use Rattle.es_rules_scope.specs.Exports.{is_exported, listed}
use Rattle.es_rules_scope.specs.Marks.{has}
use Rattle.es_rules_scope.specs.Names.{said_of_name}

-- variables of this kind are looked at
abbrev pub is_watched : DeclarationKind → Bool
is_watched Var = true
is_watched Let = true
is_watched Const = true
is_watched Function = true
is_watched Class = true
is_watched Import = true
is_watched Param = false
is_watched Catch = false
is_watched Arguments = false
is_watched Own = false

abbrev pub read_by : Reference → List ℕ
read_by r = if r.read then some_list r.variable else []

abbrev pub written_by : Reference → List ℕ
written_by r = if r.write then some_list r.variable else []

abbrev pub written_at : Reference → List ℕ
written_at r = if r.write then r.node ∷ [] else []

-- the variables that references read
abbrev pub read : File → List ℕ
read file = flat_map read_by file.scopes.references

-- the variables that references write
abbrev pub written : File → List ℕ
written file = flat_map written_by file.scopes.references

-- the Identifiers that are written
abbrev pub writing : File → List ℕ
writing file = flat_map written_at file.scopes.references

-- the variable at this index is looked at, not read and not exported
abbrev pub is_unused : File → ℕ → Named → Bool
is_unused file index v =
    is_watched v.kind
    && (not (has (read file) index) && (not (has (listed file) index) && not (list_any (is_exported (rows_in file)) v.nodes)))

-- a reference writes it, or its declarator does, from where its name may resolve to another variable
abbrev pub is_assigned : File → ℕ → Named → Bool
is_assigned file index v = has (written file) index || list_any (has (writing file)) v.nodes

-- what is said of the first of its names
abbrev pub said_of_first : File → List ℕ → List ℕ → List Finding
said_of_first file rest [] = []
said_of_first file rest (first ∷ nodes) = said_of_name file first rest ∷ []

abbrev pub said_of : File → ℕ → Named → List Finding
said_of file index v =
    if is_unused file index v
    then (if is_assigned file index v
    then said_of_first file (codes "' is assigned a value but never used.") v.nodes
    else said_of_first file (codes "' is defined but never used.") v.nodes)
    else []

-- what is said of the one of these variables at this index
abbrev pub said_in : File → List Named → ℕ → List Finding
said_in file variables index = option_map_or (said_of file index) (slice_get variables index) []

abbrev pub said_at : File → ℕ → List Finding
said_at file index = said_in file file.scopes.variables index

abbrev pub no_unused_vars : SimpleFileMeaning
no_unused_vars = record {
  id = codes "no-unused-vars";
  finds = λ file. flat_map (said_at file) (range_with_len 0 (length file.scopes.variables));
}
