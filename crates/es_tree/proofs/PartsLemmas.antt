-- Parts of an array that grows.
use Rattle.std.proofs.Common.{◌≡◌, ◌∙◌, ◌-◌, ◌≤◌, List, [], ◌∷◌, ◌++◌, length, take, drop, All, arith, refl, ap, length-append, length-drop}
use Rattle.std.proofs.Math.Seq.{drop-append_seam, take-length}
use Rattle.std.proofs.lemmas.List.{drop-append-le, take-append-le, length-take, map-append}
use Rattle.std.proofs.lemmas.List.Elements.{All-head, All-tail}
use Rattle.es_tree.specs.declared.part.Part.{Part}
use Rattle.es_tree.specs.Parts.{IsPart, part_of, parts_of}

-- a part stays in the array, and stays as it is
pub IsPart-append : {A : Type 0} (items more : List A) (part : Part) → IsPart (length items) part → IsPart (length (items ++ more)) part
IsPart-append items more part is = record { ordered = is.ordered; within = omega (arith, length-append items more) }

pub part_of-append : {A : Type 0} (items more : List A) (part : Part) → IsPart (length items) part → part_of (items ++ more) part ≡ part_of items part
part_of-append items more part is =
    let before : part.start ≤ length items = omega arith in
    let room : part.end - part.start ≤ length (drop part.start items) = omega (arith, length-drop part.start items) in
    ap (take (part.end - part.start)) (drop-append-le part.start items more before) ∙ take-append-le (part.end - part.start) (drop part.start items) more room

-- what was put at the end is the last part
pub part_of-end : {A : Type 0} (items more : List A) (part : Part) → part.start ≡ length items → part.end ≡ length (items ++ more) → part_of (items ++ more) part ≡ more
part_of-end items more part start end =
    let long : part.end - part.start ≡ length more = omega (arith, length-append items more) in
    rw (long, start, drop-append_seam items more) (take-length more)

pub IsPart-end : {A : Type 0} (items more : List A) (part : Part) → part.start ≡ length items → part.end ≡ length (items ++ more) → IsPart (length (items ++ more)) part
IsPart-end items more part start end = record { ordered = omega (arith, length-append items more); within = omega (arith, end) }

pub length-part_of : {A : Type 0} (items : List A) (part : Part) → IsPart (length items) part → length (part_of items part) ≡ part.end - part.start
length-part_of items part is =
    omega (arith, is.ordered, is.within, length-take (part.end - part.start) (drop part.start items), length-drop part.start items)

pub parts_of-append : {A : Type 0} (items more : List A) (parts : List Part) → All (IsPart (length items)) parts → parts_of (items ++ more) parts ≡ parts_of items parts
parts_of-append items more [] are = refl
parts_of-append items more (part ∷ rest) are =
    rw (part_of-append items more part (All-head (IsPart (length items)) part rest are))
    (ap (λ lists. part_of items part ∷ lists) (parts_of-append items more rest (All-tail (IsPart (length items)) part rest are)))

-- the lists, with the one that was put at the end
pub parts_of-push : {A : Type 0} (items more : List A) (parts : List Part) (part : Part) → All (IsPart (length items)) parts
    → part.start ≡ length items → part.end ≡ length (items ++ more) → parts_of (items ++ more) (parts ++ part ∷ []) ≡ parts_of items parts ++ more ∷ []
parts_of-push items more parts part are start end =
    map-append (part_of (items ++ more)) parts (part ∷ [])
    ∙ rw (part_of-end items more part start end) (ap (λ lists. lists ++ more ∷ []) (parts_of-append items more parts are))
