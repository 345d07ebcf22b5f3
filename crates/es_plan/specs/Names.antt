-- Names of files, as bytes of UTF-8.
use Rattle.std.specs.Prelude.{ℕ, Bool, false, not, ◌==◌, ◌-◌, ◌||◌, List, [], ◌∷◌, ◌++◌, Option, None, Some, codes, fold, if◌then◌else◌, length, slice_get, slice_index, take}
use Rattle.std.specs.List.{join_by, list_any, slice_split}
use Rattle.std.specs.Str.{bytes_eq}

abbrev pub Text : Type 0
Text = List ℕ

-- it begins with a slash
abbrev pub is_absolute : Text → Bool
is_absolute name = slice_index name 0 == 47

-- what stands between the slashes
abbrev pub parts_of : Text → List Text
parts_of name = slice_split (λ byte. byte == 47) name

-- a part that a `..` behind it takes back
abbrev pub leads_down : Option Text → Bool
leads_down None = false
leads_down (Some part) = not (bytes_eq part (codes ".."))

-- a `..` behind the parts: it takes back the last one, and is dropped at the root
abbrev pub climbed : Bool → List Text → List Text
climbed absolute parts =
    if leads_down (slice_get parts (length parts - 1)) then take (length parts - 1) parts
    else (if absolute then parts else parts ++ codes ".." ∷ [])

-- one part more behind the parts: empty ones and `.` are dropped
abbrev pub with_part : Bool → List Text → Text → List Text
with_part absolute parts part =
    if bytes_eq part [] || bytes_eq part (codes ".") then parts
    else (if bytes_eq part (codes "..") then climbed absolute parts else parts ++ part ∷ [])

abbrev pub kept_parts : Bool → List Text → List Text
kept_parts absolute parts = fold (with_part absolute) [] parts

abbrev pub joined : List Text → Text
joined parts = join_by (λ part. part) (codes "/") parts

-- a relative name of no parts is `.`
abbrev pub written : Bool → List Text → Text
written absolute parts =
    if absolute then codes "/" ++ joined parts else (if length parts == 0 then codes "." else joined parts)

abbrev pub normalised : Text → Text
normalised name = written (is_absolute name) (kept_parts (is_absolute name) (parts_of name))

-- one name more, where it isn't there
abbrev pub with_name : List Text → Text → List Text
with_name names name = if list_any (bytes_eq name) names then names else names ++ name ∷ []

-- each name once, at its first place
abbrev pub each_once : List Text → List Text
each_once names = fold with_name [] names
