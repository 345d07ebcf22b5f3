-- What contracts see of a kit.
use Rattle.std.specs.Prelude.{◌≡◌, ℕ, All, List, [], map, refl}
use Rattle.std.specs.Coded.{Coded, code_by, coded×, coded_list, coded_ℕ}
use Rattle.es_settings.specs.declared.verdict.Verdict.TheVariants.{Fine}
use Rattle.es_host.specs.Meanings.{Meaning}

-- its rules in their order, and how often they were made to listen
pub record KitOf (R : Type 0) : Type 0 where
  pub rules : List R
  pub lints : ℕ

-- a kit is stored as the pair of both
abbrev pub kit_code : {R : Type 0} → Coded R → Coded (KitOf R)
kit_code {R} code =
    code_by (List R × ℕ) (coded× (coded_list code) coded_ℕ) (λ kit. (kit.rules, kit.lints)) (λ both. record { rules = both.0; lints = both.1 }) (λ _. refl)

-- what the rules of a kit mean, in their order
abbrev pub meanings_of : {R : Type 0} → (R → Meaning) → KitOf R → List Meaning
meanings_of meaning kit = map meaning kit.rules

-- each rule can do without options
abbrev pub NeedsNoOptions : {R : Type 0} → (R → Meaning) → KitOf R → Type 0
NeedsNoOptions meaning kit = All (λ (m : Meaning). m.verdict [] ≡ Fine) (meanings_of meaning kit)
