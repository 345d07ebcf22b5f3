-- What a run makes of its kits.
use Rattle.std.specs.Prelude.{◌≡◌, ℕ, ◌≤◌, List, [], ◌∷◌, map}
use Rattle.es_host.specs.Kits.{KitOf, meanings_of}
use Rattle.es_host.specs.Meanings.{Meaning}
use Rattle.es_lint.specs.Results.{more}

-- what the rules of the first kit mean
abbrev pub first_meanings : {R : Type 0} → (R → Meaning) → List (KitOf R) → List Meaning
first_meanings meaning [] = []
first_meanings meaning (kit ∷ kits) = meanings_of meaning kit

-- what this is of the rules of each kit, one by one
abbrev pub of_rules : {R X : Type 0} → (R → X) → List (KitOf R) → List (List X)
of_rules meaning kits = map (λ kit. map meaning kit.rules) kits

-- how often each kit was made to listen
abbrev pub lints_of : {R : Type 0} → List (KitOf R) → List ℕ
lints_of kits = map (λ kit. kit.lints) kits

-- the first kit listened so often more, up to the last value of a count
abbrev pub first_heard : ℕ → List ℕ → List ℕ
first_heard times [] = []
first_heard times (first ∷ rest) = more times first ∷ rest

-- the first kit listened so often at most, and no other did
pub record HeardAtMost (most : ℕ) (before now : List ℕ) : Type 0 where
  pub times : ℕ
  pub few : times ≤ most
  pub first : now ≡ first_heard times before
