-- What `read` tells of changes that are fine.
use Rattle.std.proofs.Common.{List, length}
use Rattle.std.specs.Prelude.{IfOk, Result}
use Rattle.std.proofs.lemmas.Result.{IfOk-weaker}
use Rattle.es_config.specs.declared.fault.ConfigFault.{ConfigFault}
use Rattle.es_config.specs.Configurations.{AreTakenChanges, Configuration}
use Rattle.es_config.specs.Entries.{Layer, layers_of}
use Rattle.es_config.specs.Reading.{AreFine, HaveNoFloats, KnownRules}

taken : (rules : KnownRules) (layers : List Layer) → AreFine rules layers → AreTakenChanges rules.verdict (length rules.ids) layers
taken rules layers fine = λ k layer inside. λ i change within. (fine k layer inside i change within).taken

no_floats : (rules : KnownRules) (layers : List Layer) → AreFine rules layers → HaveNoFloats layers
no_floats rules layers fine = λ k layer inside. λ i change within. (fine k layer inside i change within).exact

pub fine_taken : (rules : KnownRules) (r : Result Configuration ConfigFault) → IfOk r (λ config. AreFine rules (layers_of config.entries)) →
    IfOk r (λ config. AreTakenChanges rules.verdict (length rules.ids) (layers_of config.entries))
fine_taken rules r fine = IfOk-weaker r (λ config. AreFine rules (layers_of config.entries)) (λ config. AreTakenChanges rules.verdict (length rules.ids) (layers_of config.entries))
    (λ config. taken rules (layers_of config.entries)) fine

pub fine_floats : (rules : KnownRules) (r : Result Configuration ConfigFault) → IfOk r (λ config. AreFine rules (layers_of config.entries)) →
    IfOk r (λ config. HaveNoFloats (layers_of config.entries))
fine_floats rules r fine = IfOk-weaker r (λ config. AreFine rules (layers_of config.entries)) (λ config. HaveNoFloats (layers_of config.entries))
    (λ config. no_floats rules (layers_of config.entries)) fine
