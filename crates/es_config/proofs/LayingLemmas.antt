-- Changes of settings.
use Rattle.std.proofs.Common.{◌≡◌, ◌∙◌, ◌<◌, List, length, map, slice_index_or, slice_set, ap, sym}
use Rattle.std.proofs.lemmas.List.{get_or-map, map-set}
use Rattle.es_settings.specs.declared.file_config.RuleSetting.{RuleSetting}
use Rattle.es_config.specs.Entries.{Change}
use Rattle.es_config.specs.Laying.{changed, with_change}
use Rattle.es_settings.specs.Settings.{unset}
use Rattle.es_settings.specs.Settings.{setting_of}

pub one_changed : (rules : List RuleSetting) (change : Change) (before rule : RuleSetting)
    → change.place < length rules → before ≡ slice_index_or rules change.place before
    → setting_of rule ≡ changed (setting_of before) change
    → map setting_of (slice_set rules change.place rule) ≡ with_change (map setting_of rules) change
one_changed rules change before rule within is made =
    map-set setting_of rules change.place rule
    ∙ ap (slice_set (map setting_of rules) change.place)
    (made ∙ ap (λ setting. changed setting change) (ap setting_of is ∙ sym (get_or-map setting_of rules change.place before unset within)))
