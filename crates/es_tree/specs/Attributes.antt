-- The attributes of nodes, as a list of fields with their values, with one entry a field.
use Rattle.std.specs.Prelude.{ℕ, ◌==◌, List, [], ◌∷◌, Option, Some, None, if◌then◌else◌}
use Rattle.std.specs.Str.{chars}
use Rattle.es_tree.specs.declared.attribute.Attribute.{Attribute}
use Rattle.es_tree.specs.declared.attribute.Attribute.TheVariants.{Absent, Flag, Words, Length}
use Rattle.es_tree.specs.declared.shape.AttributeValue.{AttributeValue}
use Rattle.es_tree.specs.declared.shape.AttributeValue.TheVariants as kept
use Rattle.es_tree.specs.declared.shape.SetAttribute.{SetAttribute}

-- the value, if it is one that an attribute can have
abbrev pub value_in : Attribute → Option AttributeValue
value_in Absent = None
value_in (Flag flag) = Some (kept.Flag flag)
value_in (Words words) = Some (kept.Words (chars words.now))
value_in (Length length) = None

-- the length, if it is one
abbrev pub length_in : Attribute → Option ℕ
length_in Absent = None
length_in (Flag flag) = None
length_in (Words words) = None
length_in (Length length) = Some length

-- the attributes, in which this field has this value: in place of an earlier one, else at the end
abbrev pub attributes_with : List SetAttribute → ℕ → AttributeValue → List SetAttribute
attributes_with [] field value = record { field = field; value = value } ∷ []
attributes_with (given ∷ rest) field value =
    if given.field == field then record { field = field; value = value } ∷ rest else given ∷ attributes_with rest field value
