-- Each production says what is left of the characters.
use Rattle.std.proofs.Common.{ℕ, Bool, true, false, List, [], ◌∷◌, length, nat_lt, if◌then◌else◌}
use Rattle.std.specs.Prelude.{Option, Some, None, ◌==◌}
use Rattle.std.specs.Option.{option_and_then, option_map, unwrap_or}
use Rattle.es_text.specs.Productions.{just, longer, longest_of, one_of, optional, repeated, sequence}
use Rattle.es_text.proofs.RestLemmas.{IsSuffix, Follows, Takes, suffix-all, suffix-further, suffix-if, suffix-many, suffix-next}

pub follows-if : (b : Bool) (cs : List ℕ) (o p : Option (List ℕ)) → Follows cs o → Follows cs p → Follows cs (if b then o else p)
follows-if true cs o p one other = one
follows-if false cs o p one other = other

pub follows-further : (cs ds : List ℕ) (o : Option (List ℕ)) → IsSuffix cs ds → Follows ds o → Follows cs o
follows-further cs ds None left follows = tt
follows-further cs ds (Some es) left follows = suffix-further cs ds es left follows

-- behind the first character
pub follows-next : (c : ℕ) (cs : List ℕ) (o : Option (List ℕ)) → Follows cs o → Follows (c ∷ cs) o
follows-next c cs o follows = follows-further (c ∷ cs) cs o (suffix-next c cs) follows

pub follows-and_then : (f : List ℕ → Option (List ℕ)) → Takes f → (cs : List ℕ) (o : Option (List ℕ)) → Follows cs o → Follows cs (option_and_then f o)
follows-and_then f takes cs None follows = tt
follows-and_then f takes cs (Some ds) follows = follows-further cs ds (f ds) follows (takes ds)

pub follows-map : (f : List ℕ → List ℕ) → ((ds : List ℕ) → IsSuffix ds (f ds)) → (cs : List ℕ) (o : Option (List ℕ)) → Follows cs o → Follows cs (option_map f o)
follows-map f more cs None follows = tt
follows-map f more cs (Some ds) follows = suffix-further cs ds (f ds) follows (more ds)

pub takes-one_of : (class : ℕ → Bool) → Takes (one_of class)
takes-one_of class [] = tt
takes-one_of class (c ∷ cs) = follows-if (class c) (c ∷ cs) (Some cs) None (suffix-next c cs) tt

pub takes-just : (x : ℕ) → Takes (just x)
takes-just x cs = takes-one_of (λ c. c == x) cs

-- each of these says what is left
abbrev pub AllTake : List (List ℕ → Option (List ℕ)) → Type 0
AllTake [] = Unit {0}
AllTake (part ∷ parts) = Takes part × AllTake parts

pub takes-sequence : (parts : List (List ℕ → Option (List ℕ))) → AllTake parts → Takes (sequence parts)
takes-sequence [] all cs = suffix-all cs
takes-sequence (part ∷ parts) all cs =
    follows-and_then (sequence parts) (takes-sequence parts all.1) cs (part cs) (all.0 cs)

suffix-unwrap : (cs : List ℕ) (o : Option (List ℕ)) → Follows cs o → IsSuffix cs (unwrap_or o cs)
suffix-unwrap cs None follows = suffix-all cs
suffix-unwrap cs (Some ds) follows = follows

pub takes-optional : (part : List ℕ → Option (List ℕ)) → Takes part → Takes (optional part)
takes-optional part takes cs = suffix-unwrap cs (part cs) (takes cs)

pub takes-repeated : (part : List ℕ → Option (List ℕ)) → Takes part → Takes (repeated part)
takes-repeated part takes cs = suffix-many part takes cs

follows-longer : (cs : List ℕ) (o p : Option (List ℕ)) → Follows cs o → Follows cs p → Follows cs (longer o p)
follows-longer cs None p one other = other
follows-longer cs (Some ds) None one other = one
follows-longer cs (Some ds) (Some es) one other = suffix-if (nat_lt (length es) (length ds)) cs es ds other one

pub takes-longest_of : (choices : List (List ℕ → Option (List ℕ))) → AllTake choices → Takes (longest_of choices)
takes-longest_of [] all cs = tt
takes-longest_of (choice ∷ choices) all cs =
    follows-longer cs (choice cs) (longest_of choices cs) (all.0 cs) (takes-longest_of choices all.1 cs)
