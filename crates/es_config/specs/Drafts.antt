-- What is set while entries are laid over each other.
use Rattle.std.specs.Prelude.{map}
use Rattle.es_config.specs.declared.laying.Draft.{Draft}
use Rattle.es_settings.specs.Settings.{Settings, setting_of}

abbrev pub set_in : Draft → Settings
set_in draft = record {
  source_type = draft.source_type;
  globals = draft.globals.items;
  inline = draft.inline;
  unused = draft.unused;
  rules = map setting_of draft.rules.items;
}
