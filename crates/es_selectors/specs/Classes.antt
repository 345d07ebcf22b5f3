-- The classes of characters that the reader goes over.
use Rattle.std.specs.Prelude.{ℕ, Bool}
use Rattle.es_text.specs.Characters.{is_decimal, is_white_space}
use Rattle.es_selectors.specs.declared.lexical.Class.{Class}
use Rattle.es_selectors.specs.declared.lexical.Class.TheVariants.{NamePart, Blank, Bare, Digit}
use Rattle.es_selectors.specs.Lexical.{is_bare, is_name_part}

abbrev pub is_in : Class → ℕ → Bool
is_in NamePart c = is_name_part c
is_in Blank c = is_white_space c
is_in Bare c = is_bare c
is_in Digit c = is_decimal c
