-- The classes that scans go over.
use Rattle.std.specs.Prelude.{ℕ, Bool, ◌&&◌, ◌||◌, ◌==◌, nat_le}
use Rattle.es_text.specs.Characters.{is_part, is_in_line, is_decimal, is_octal, is_binary, is_hex, is_letter_e, is_sign}
use Rattle.es_lexer.specs.declared.class.Class.{Class}
use Rattle.es_lexer.specs.declared.class.Class.TheVariants.{Part, InLine, Decimal, Octal, Binary, Hex, LetterE, Sign}

abbrev pub is_in : Class → ℕ → Bool
is_in Part c = is_part c
is_in InLine c = is_in_line c
is_in Decimal c = is_decimal c
is_in Octal c = is_octal c
is_in Binary c = is_binary c
is_in Hex c = is_hex c
is_in Sign c = is_sign c
is_in LetterE c = is_letter_e c

-- white space beyond ASCII
abbrev pub is_wide_space : ℕ → Bool
is_wide_space c =
    c == 0xA0 || c == 0xFEFF || c == 0x1680 || (nat_le 0x2000 c && nat_le c 0x200A)
    || c == 0x202F || c == 0x205F || c == 0x3000
