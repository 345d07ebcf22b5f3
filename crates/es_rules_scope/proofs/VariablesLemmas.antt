-- Variables that aren't there.
use Rattle.std.proofs.Common.{◌≡◌, ◌∙◌, ℕ, zero, suc, List, [], ◌∷◌, ◌++◌, Some, None, append-nil, map, refl, ap, sym}
use Rattle.std.specs.Prelude.{slice_get}
use Rattle.std.specs.Option.{option_map_or}
use Rattle.es_text.specs.declared.finding.Finding.{Finding}
use Rattle.es_scopes.specs.declared.variable.Variable.{Variable}
use Rattle.es_scopes.specs.Variables.{Named, seen}
use Rattle.es_host.specs.Files.{File}
use Rattle.es_rules_scope.specs.NoUnusedVars.{said_in, said_of}

none_seen : (variables : List Variable) (index : ℕ) → slice_get variables index ≡ None → slice_get (map seen variables) index ≡ None
none_seen [] index none = refl
none_seen (v ∷ variables) zero none = absurd (cc)
none_seen (v ∷ variables) (suc index) none = none_seen variables index none

-- nothing is said of them
pub none_said : (file : File) (variables : List Variable) (index : ℕ) (findings : List Finding) → slice_get variables index ≡ None
    → findings ≡ findings ++ said_in file (map seen variables) index
none_said file variables index findings none =
    sym (ap (λ found. findings ++ option_map_or (said_of file index) found []) (none_seen variables index none) ∙ append-nil findings)
