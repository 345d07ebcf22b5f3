-- The reports of one more rule.
use Rattle.std.proofs.Common.{◌≡◌, ◌∙◌, ℕ, ◌<◌, List, slice_index_or, length, map, ap, sym}
use Rattle.es_settings.specs.declared.file_config.RuleSetting.{RuleSetting}
use Rattle.es_settings.specs.Settings.{options_of}
use Rattle.es_host.specs.declared.file.FileView.{FileView}
use Rattle.es_host.proofs.MeaningsLemmas.{here-set, meaning-here}
use Rattle.es_host.specs.Files.{file_in}
use Rattle.es_host.specs.Meanings.{Meaning, meaning_at, options_at, setting_at}
use Rattle.es_host.specs.Reports.{reports_at, said_at}

-- the reports of the rule at a place, by the rule and its setting as the host keeps them
pub reports-here : {R : Type 0} (meaning : R → Meaning) (view : FileView) (meanings : List Meaning) (rules : List R) (i : ℕ) (r : R) (s : RuleSetting)
    → map meaning rules ≡ meanings → i < length rules → r ≡ slice_index_or rules i r → i < length view.config.now.rules → s ≡ slice_index_or view.config.now.rules i s
    → reports_at meanings (file_in view) i ≡ said_at (meaning r).id i s.severity ((meaning r).says (file_in view) (options_of s.options))
reports-here meaning view meanings rules i r s same within is set is_set =
    ap (λ (m : Meaning). said_at m.id i (setting_at (file_in view) i).severity (m.says (file_in view) (options_at (file_in view) i)))
    (ap (λ ms. meaning_at ms i) (sym same) ∙ meaning-here meaning rules i r within ∙ ap meaning (sym is))
    ∙ ap (λ setting. said_at (meaning r).id i setting.severity ((meaning r).says (file_in view) setting.options)) (here-set view i s set is_set)
