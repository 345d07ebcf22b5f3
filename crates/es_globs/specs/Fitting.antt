-- Lists of items that elements fit. A wide item takes any number of elements, also none, and another
-- one takes one element.
use Rattle.std.specs.Prelude.{Bool, true, false, ◌&&◌, List, [], ◌∷◌, Option, None, Some, if◌then◌else◌}
use Rattle.std.specs.List.{list_any}

-- what is left of a list behind each number of its elements
abbrev pub suffixes : {B : Type 0} → List B → List (List B)
suffixes [] = [] ∷ []
suffixes (b ∷ bs) = (b ∷ bs) ∷ suffixes bs

abbrev pub is_none_left : {B : Type 0} → List B → Bool
is_none_left [] = true
is_none_left (b ∷ bs) = false

-- the first element passes, and what follows it does
abbrev pub first_and_rest : {B : Type 0} → (B → Bool) → (List B → Bool) → List B → Bool
first_and_rest first rest [] = false
first_and_rest first rest (b ∷ bs) = first b && rest bs

-- the items take all of the elements, in order
abbrev pub fits : {A B : Type 0} → (A → Bool) → (A → B → Bool) → List A → List B → Bool
fits wide takes [] bs = is_none_left bs
fits wide takes (a ∷ items) bs =
    if wide a then list_any (fits wide takes items) (suffixes bs)
    else first_and_rest (takes a) (fits wide takes items) bs

-- no item is left, or the first one is wide
abbrev pub begins_wide : {A : Type 0} → (A → Bool) → List A → Bool
begins_wide wide [] = true
begins_wide wide (a ∷ items) = wide a

-- what is left of the elements where each item took one
abbrev pub behind : {A B : Type 0} → (A → B → Bool) → List A → List B → Option (List B)
behind takes [] bs = Some bs
behind takes (a ∷ items) [] = None
behind takes (a ∷ items) (b ∷ bs) = if takes a b then behind takes items bs else None

-- the same, where nothing may be left behind the last items
abbrev pub only_whole : {B : Type 0} → Bool → Option (List B) → Option (List B)
only_whole last None = None
only_whole last (Some []) = Some []
only_whole last (Some (b ∷ bs)) = if last then None else Some (b ∷ bs)

abbrev pub or_else : {X : Type 0} → Option X → Option X → Option X
or_else None other = other
or_else (Some x) other = Some x

-- what is left where the items took elements as early as they can
abbrev pub earliest : {A B : Type 0} → (A → B → Bool) → List A → Bool → List B → Option (List B)
earliest takes items last [] = only_whole last (behind takes items [])
earliest takes items last (b ∷ bs) =
    or_else (only_whole last (behind takes items (b ∷ bs))) (earliest takes items last bs)
