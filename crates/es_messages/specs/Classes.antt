-- Classes of characters that comments are taken apart by.
use Rattle.std.specs.Prelude.{ℕ, Bool, not, ◌||◌, ◌==◌}
use Rattle.es_text.specs.Characters.{hyphen, is_line_terminator, is_white_space}
use Rattle.es_messages.specs.declared.character.Class.{Class}
use Rattle.es_messages.specs.declared.character.Class.TheVariants.{Blank, Hyphen, NoBlank, NoColon, NoComma, NoSeparator, Separator}

-- ECMA-262, 12.2 and 12.3: in comments line terminators count as white space
abbrev pub is_blank : ℕ → Bool
is_blank c = is_white_space c || is_line_terminator c

abbrev pub is_colon : ℕ → Bool
is_colon c = c == 58

abbrev pub is_comma : ℕ → Bool
is_comma c = c == 44

abbrev pub is_hyphen : ℕ → Bool
is_hyphen c = c == hyphen

-- what stands between the names of global variables
abbrev pub is_separator : ℕ → Bool
is_separator c = is_comma c || is_blank c

abbrev pub is_in : Class → ℕ → Bool
is_in Blank c = is_blank c
is_in NoBlank c = not (is_blank c)
is_in NoColon c = not (is_colon c)
is_in NoComma c = not (is_comma c)
is_in Hyphen c = is_hyphen c
is_in Separator c = is_separator c
is_in NoSeparator c = not (is_separator c)
