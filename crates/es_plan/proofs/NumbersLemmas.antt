-- Decimal numbers.
use Rattle.std.proofs.Common.{◌≡◌, ℕ, ◌<◌, ◌≤◌, List, true, Some, None, length, rules, arith}
use Rattle.std.specs.Str.{all_ascii_digits}
use Rattle.std.specs.Str.Parse.{digits_value}
use Rattle.es_plan.specs.Numbers.{number_of}

pub is_number : (most : ℕ) (text : List ℕ) → all_ascii_digits text ≡ true → 0 < length text → digits_value 10 text ≤ most
    → Some (digits_value 10 text) ≡ number_of most text
is_number most text digits some within = grind (arith, rules)

pub is_too_great : (most : ℕ) (text : List ℕ) → most < digits_value 10 text → None ≡ number_of most text
is_too_great most text over = grind (arith, rules)

pub is_none : (most : ℕ) (text : List ℕ) → most < 4294967296 → ((0 < length text) × (digits_value 10 text < 4294967296) → ⊥)
    → None ≡ number_of most text
is_none most text small isnt = grind (arith, rules)

-- the number isn't more than `most`
pub within : (most : ℕ) (text : List ℕ) (n : ℕ) → number_of most text ≡ Some n → n ≤ most
within most text n is = grind (arith, rules, is)
