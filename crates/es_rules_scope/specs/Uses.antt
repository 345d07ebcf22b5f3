-- The marks of the variables and Identifiers of a file, as the code fills them.
use Rattle.es_host.specs.Files.{File}
use Rattle.es_rules_scope.specs.declared.no_unused_vars.Uses.{Uses}
use Rattle.es_rules_scope.specs.Exports.{listed}
use Rattle.es_rules_scope.specs.Marks.{AreMarked}
use Rattle.es_rules_scope.specs.NoUnusedVars.{read, writing, written}

pub record AreUses (file : File) (uses : Uses) : Type 0 where
  pub read : AreMarked (read file) uses.read.items
  pub listed : AreMarked (listed file) uses.listed.items
  pub written : AreMarked (written file) uses.written.items
  pub writing : AreMarked (writing file) uses.writing.items
