-- What directives say together.
use Rattle.std.specs.Prelude.{◌++◌}
use Rattle.es_messages.specs.declared.directive.DirectiveList.{DirectiveList}

-- each list of the first, and behind it that of the second
abbrev pub joined : DirectiveList → DirectiveList → DirectiveList
joined first second = record {
  marks = first.marks ++ second.marks;
  entries = first.entries ++ second.entries;
  bad = first.bad ++ second.bad;
  globals = first.globals ++ second.globals;
}
