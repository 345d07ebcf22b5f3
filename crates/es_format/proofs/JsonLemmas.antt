-- What is told of files holds no floating-point number, and lists of values grow by one.
use Rattle.std.proofs.Common.{◌≡◌, ℕ, ◌+◌, ◌<◌, Bool, true, false, ◌||◌, List, [], ◌∷◌, ◌++◌, length, map, take, get_or, refl, ap, ◌∙◌}
use Rattle.std.proofs.lemmas.List.{map-append, take_more}
use Rattle.std.specs.Prelude.{Option, None, Some}
use Rattle.serde_json.specs.Data.{Data}
use Rattle.serde_json.specs.View.{items_of}
use Rattle.serde_json.specs.Written.{has_float, items_have_float, members_have_float}
use Rattle.es_format.specs.MessageData.{message_data, message_members, rule_data}
use Rattle.es_messages.specs.declared.message.FileResult.{FileResult}
use Rattle.es_messages.specs.declared.message.Message.{Message}
use Rattle.es_messages.specs.declared.message.UnitFix.{UnitFix}
use Rattle.es_format.specs.Json.{messages_data, result_data, result_members, results_data}
use Rattle.es_format.specs.Stylish.{Named}

no_float-rule : (rule : Option (List ℕ)) → has_float (rule_data rule) ≡ false
no_float-rule None = refl
no_float-rule (Some rule) = refl

no_float-members : (message : Message) (fatal : Bool) (fix : Option UnitFix)
    → members_have_float (message_members message fatal fix) ≡ false
no_float-members message false None = ap (λ b. b || false) (no_float-rule message.rule)
no_float-members message false (Some fix) = ap (λ b. b || false) (no_float-rule message.rule)
no_float-members message true None = ap (λ b. b || false) (no_float-rule message.rule)
no_float-members message true (Some fix) = ap (λ b. b || false) (no_float-rule message.rule)

no_float-message : (message : Message) → has_float (message_data message) ≡ false
no_float-message message = no_float-members message message.fatal message.fix

no_float-items : {A : Type 0} (f : A → Data) → ((a : A) → has_float (f a) ≡ false) → (list : List A)
    → items_have_float (items_of (map f list)) ≡ false
no_float-items f each [] = refl
no_float-items f each (a ∷ list) = ap (λ b. b || items_have_float (items_of (map f list))) (each a) ∙ no_float-items f each list

no_float-messages : (messages : List Message) → has_float (messages_data messages) ≡ false
no_float-messages messages = no_float-items message_data no_float-message messages

no_float-result : (name : List ℕ) (result : FileResult) (output : Option (List ℕ))
    → members_have_float (result_members name result output) ≡ false
no_float-result name result None =
    ap (λ b. b || (has_float (messages_data result.suppressed) || false)) (no_float-messages result.messages)
    ∙ ap (λ b. b || false) (no_float-messages result.suppressed)
no_float-result name result (Some output) =
    ap (λ b. b || (has_float (messages_data result.suppressed) || false)) (no_float-messages result.messages)
    ∙ ap (λ b. b || false) (no_float-messages result.suppressed)

pub no_float-results : (results : List Named) → has_float (results_data results) ≡ false
no_float-results results =
    no_float-items result_data (λ (named : Named). no_float-result named.0 named.1 named.1.output) results

-- a list of values, and one more
pub map-step : {A B : Type 0} (f : A → B) (items : List A) (i : ℕ) (item : A) → i < length items
    → map f (take (i + 1) items) ≡ map f (take i items) ++ f (get_or items i item) ∷ []
map-step f items i item within =
    ap (map f) (take_more items i item within) ∙ map-append f (take i items) (get_or items i item ∷ [])
