use Rattle.std.proofs.Common.{◌≡◌, take}
use Rattle.es_settings.specs.Settings.{options_of}
use Rattle.es_settings.proofs.file_config.copy_options.Given as goal

abbrev pub invariant-loop-option : goal.invariant-loop-option
invariant-loop-option l = options_of l.copies.items ≡ options_of (take l.option-index l.options)
