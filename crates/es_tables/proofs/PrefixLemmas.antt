-- Texts in the order of their bytes, and the prefixes of a text among them.
use Rattle.std.proofs.Common.{◌≡◌, ◌≢◌, ℕ, ◌≤◌, Bool, true, false, List, [], ◌∷◌, length, nat_eq, slice_get, refl, arith}
use Rattle.std.specs.declared.cmp.Ordering.TheVariants.{Less}
use Rattle.std.specs.Ordering.{nat_cmp, is_gt}
use Rattle.std.specs.Cmp.Lexicographic.{slice_cmp}
use Rattle.std.specs.List.{starts_with}
use Rattle.std.specs.Option.{option_eq}
use Rattle.std.proofs.lemmas.Bool.Decides.{nat_tests}

-- a prefix comes no later than the text
pub prefix_not_after : (text bytes : List ℕ) → starts_with nat_eq bytes text ≡ true → is_gt (slice_cmp nat_cmp text bytes) ≡ false
prefix_not_after [] [] prefix = refl
prefix_not_after [] (b ∷ bytes) prefix = refl
prefix_not_after (t ∷ text) [] prefix = grind arith
prefix_not_after (t ∷ text) (b ∷ bytes) prefix = grind (arith, nat_tests, prefix_not_after text bytes)

-- of two prefixes of a text, the earlier is no longer than the later
pub earlier_is_shorter : (text later bytes : List ℕ) → slice_cmp nat_cmp text later ≡ Less
    → starts_with nat_eq bytes text ≡ true → starts_with nat_eq bytes later ≡ true → length text ≤ length later
earlier_is_shorter [] later bytes earlier prefix other = grind arith
earlier_is_shorter (t ∷ text) [] bytes earlier prefix other = grind arith
earlier_is_shorter (t ∷ text) (l ∷ later) [] earlier prefix other = grind arith
earlier_is_shorter (t ∷ text) (l ∷ later) (b ∷ bytes) earlier prefix other =
    grind (arith, nat_tests, earlier_is_shorter text later bytes)

abbrev pub begins_like : List ℕ → List ℕ → Bool
begins_like text bytes = option_eq nat_eq (slice_get text 0) (slice_get bytes 0)

-- a prefix begins with the text's first byte
pub prefix_begins_like : (text bytes : List ℕ) → text ≢ [] → starts_with nat_eq bytes text ≡ true → begins_like text bytes ≡ true
prefix_begins_like [] bytes filled prefix = absurd (filled refl)
prefix_begins_like (t ∷ text) [] filled prefix = grind arith
prefix_begins_like (t ∷ text) (b ∷ bytes) filled prefix = grind (arith, nat_tests)

-- before one that comes before the bytes and begins otherwise, none is a prefix of them
pub no_prefix_before : (text later bytes : List ℕ) → slice_cmp nat_cmp text later ≡ Less → is_gt (slice_cmp nat_cmp later bytes) ≡ false
    → begins_like later bytes ≡ false → text ≢ [] → starts_with nat_eq bytes text ≡ false
no_prefix_before [] later bytes earlier before other filled = absurd (filled refl)
no_prefix_before (t ∷ text) [] bytes earlier before other filled = grind arith
no_prefix_before (t ∷ text) (l ∷ later) [] earlier before other filled = grind arith
no_prefix_before (t ∷ text) (l ∷ later) (b ∷ bytes) earlier before other filled = grind (arith, nat_tests)
