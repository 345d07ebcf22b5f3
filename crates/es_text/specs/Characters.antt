-- Classes of characters, and the names of those that tokens are told by.
use Rattle.std.specs.Prelude.{ℕ, Bool, not, ◌&&◌, ◌||◌, ◌==◌, nat_le}
use Rattle.unicode_ident.specs.Ident.{is_xid_start, is_xid_continue}

abbrev pub line_feed : ℕ
line_feed = 10

abbrev pub carriage_return : ℕ
carriage_return = 13

abbrev pub exclamation_mark : ℕ
exclamation_mark = 33

abbrev pub quotation_mark : ℕ
quotation_mark = 34

abbrev pub number_sign : ℕ
number_sign = 35

abbrev pub dollar_sign : ℕ
dollar_sign = 36

abbrev pub apostrophe : ℕ
apostrophe = 39

abbrev pub asterisk : ℕ
asterisk = 42

abbrev pub plus_sign : ℕ
plus_sign = 43

abbrev pub hyphen : ℕ
hyphen = 45

abbrev pub full_stop : ℕ
full_stop = 46

abbrev pub slash : ℕ
slash = 47

abbrev pub zero_digit : ℕ
zero_digit = 48

abbrev pub left_bracket : ℕ
left_bracket = 91

abbrev pub backslash : ℕ
backslash = 92

abbrev pub right_bracket : ℕ
right_bracket = 93

abbrev pub low_line : ℕ
low_line = 95

abbrev pub backtick : ℕ
backtick = 96

abbrev pub left_brace : ℕ
left_brace = 123

abbrev pub right_brace : ℕ
right_brace = 125

-- ECMA-262, 12.2: TAB, VT, FF, U+FEFF and the space separators
unfoldable pub is_white_space : ℕ → Bool
is_white_space c =
    (c == 9 || c == 11 || c == 12 || c == 0xFEFF)
    || (c == 32 || c == 0xA0 || c == 0x1680 || (nat_le 0x2000 c && nat_le c 0x200A)
    || c == 0x202F || c == 0x205F || c == 0x3000)

-- 12.3: LF, CR, U+2028 and U+2029
abbrev pub is_line_terminator : ℕ → Bool
is_line_terminator c = (c == line_feed || c == carriage_return) || (c == 0x2028 || c == 0x2029)

abbrev pub is_in_line : ℕ → Bool
is_in_line c = not (is_line_terminator c)

-- 12.6.1: what begins a name, and what goes on in it. The last two of a part are ZWNJ and ZWJ
unfoldable pub is_start : ℕ → Bool
is_start c = is_xid_start c || (c == dollar_sign || c == low_line)

unfoldable pub is_part : ℕ → Bool
is_part c = is_xid_continue c || (c == dollar_sign || c == 0x200C || c == 0x200D)

-- 12.8.3: digits
abbrev pub is_decimal : ℕ → Bool
is_decimal c = nat_le 48 c && nat_le c 57

abbrev pub is_nonzero : ℕ → Bool
is_nonzero c = nat_le 49 c && nat_le c 57

abbrev pub is_octal : ℕ → Bool
is_octal c = nat_le 48 c && nat_le c 55

abbrev pub is_eight_or_nine : ℕ → Bool
is_eight_or_nine c = nat_le 56 c && nat_le c 57

abbrev pub is_binary : ℕ → Bool
is_binary c = nat_le 48 c && nat_le c 49

abbrev pub is_hex : ℕ → Bool
is_hex c = is_decimal c || (nat_le 65 c && nat_le c 70) || (nat_le 97 c && nat_le c 102)

abbrev pub is_sign : ℕ → Bool
is_sign c = c == plus_sign || c == hyphen

-- the letters that tell a base, the exponent and a whole number, the first three in either case
abbrev pub is_letter_x : ℕ → Bool
is_letter_x c = c == 120 || c == 88

abbrev pub is_letter_o : ℕ → Bool
is_letter_o c = c == 111 || c == 79

abbrev pub is_letter_b : ℕ → Bool
is_letter_b c = c == 98 || c == 66

abbrev pub is_letter_e : ℕ → Bool
is_letter_e c = c == 101 || c == 69

abbrev pub letter_n : ℕ
letter_n = 110
