-- The words of selectors: each takes as much of the text as it can from the front, and says what follows.
use Rattle.std.specs.Prelude.{ℕ, ◌+◌, ◌-◌, ◌*◌, ◌==◌, Bool, true, false, not, ◌&&◌, ◌||◌, nat_le, min, List, [], ◌∷◌, length, Option, Some, None, codes, fold, if◌then◌else◌, option_and_then, option_map, take}
use Rattle.std.specs.List.{list_all, list_any}
use Rattle.es_text.specs.Characters.{apostrophe, backslash, dollar_sign, exclamation_mark, is_decimal, is_white_space, low_line, quotation_mark, right_bracket, slash, zero_digit}
use Rattle.es_text.specs.Rest.{begins, drop_while}

-- what was read, and what follows it
abbrev pub Read : Type 0 → Type 0
Read A = Option (A × List ℕ)

-- `:`, `=`, `<`, `>` and `~`
abbrev pub colon : ℕ
colon = 58

abbrev pub equals_sign : ℕ
equals_sign = 61

abbrev pub less_than : ℕ
less_than = 60

abbrev pub greater_than : ℕ
greater_than = 62

abbrev pub tilde : ℕ
tilde = 126

-- the letters of ASCII
abbrev pub is_capital : ℕ → Bool
is_capital c = nat_le 65 c && nat_le c 90

abbrev pub is_small : ℕ → Bool
is_small c = nat_le 97 c && nat_le c 122

-- ASCII letters, digits, `_` and `$`
abbrev pub is_name_part : ℕ → Bool
is_name_part c = is_decimal c || is_capital c || is_small c || c == low_line || c == dollar_sign

-- what stands in front of what follows
abbrev pub in_front : List ℕ → List ℕ → List ℕ
in_front behind cs = take (length cs - length behind) cs

-- as many characters of the class as there are, one at least
abbrev pub run_of : (ℕ → Bool) → List ℕ → Read (List ℕ)
run_of class cs =
    if begins class cs then Some (in_front (drop_while class cs) cs, drop_while class cs) else None

abbrev pub name : List ℕ → Read (List ℕ)
name cs = run_of is_name_part cs

-- behind as much white space as there is
abbrev pub past_blanks : List ℕ → List ℕ
past_blanks cs = drop_while is_white_space cs

-- behind this word
abbrev pub after : List ℕ → List ℕ → Option (List ℕ)
after [] cs = Some cs
after (w ∷ word) [] = None
after (w ∷ word) (c ∷ cs) = if c == w then after word cs else None

abbrev pub just : {A : Type 0} → A → List ℕ → Read A
just value rest = Some (value, rest)

abbrev pub just_before : {A : Type 0} → A → List ℕ → A × List ℕ
just_before value rest = (value, rest)

-- what the first of these words that stands there goes on with
abbrev pub go_on : {A : Type 0} → Read A → (List ℕ → Read A) → Option (List ℕ) → Read A
go_on other further None = other
go_on other further (Some behind) = further behind

abbrev pub first_of : {A : Type 0} → List (List ℕ × (List ℕ → Read A)) → List ℕ → Read A
first_of [] cs = None
first_of (choice ∷ choices) cs = go_on (first_of choices cs) choice.1 (after choice.0 cs)

-- No list of a tree that has numbers is as long: a greater number compares with all lengths as this one
abbrev pub greatest_number : ℕ
greatest_number = 0xFFFF_FFFF

abbrev pub with_digit : ℕ → ℕ → ℕ
with_digit number digit = min greatest_number (10 * number + (digit - zero_digit))

-- the number that the digits spell in decimal, or the greatest one
abbrev pub number_of : List ℕ → ℕ
number_of digits = fold with_digit 0 digits

-- the decimal number that the whole text is
abbrev pub decimal_of : List ℕ → Option ℕ
decimal_of cs = if length cs == 0 then None else if list_all is_decimal cs then Some (number_of cs) else None

abbrev pub number : List ℕ → Read ℕ
number cs = option_map (λ read. (number_of read.0, read.1)) (run_of is_decimal cs)

-- a decimal number in parentheses, behind the one that opens
abbrev pub closed : {A : Type 0} → A × List ℕ → Read A
closed read = option_map (just_before read.0) (after (codes ")") (past_blanks read.1))

abbrev pub number_in_parentheses : List ℕ → Read ℕ
number_in_parentheses cs = option_and_then closed (number (past_blanks cs))

abbrev pub with_front : ℕ → List ℕ × List ℕ → List ℕ × List ℕ
with_front c read = (c ∷ read.0, read.1)

-- behind the quote that begins a text in quotes, in which `\` takes the next character as it is
abbrev pub quoted_from : ℕ → Bool → List ℕ → Read (List ℕ)
quoted_from quote escaped [] = None
quoted_from quote true (c ∷ cs) = option_map (with_front c) (quoted_from quote false cs)
quoted_from quote false (c ∷ cs) =
    if c == quote then Some ([], cs)
    else if c == backslash then quoted_from quote true cs
    else option_map (with_front c) (quoted_from quote false cs)

abbrev pub is_quote : ℕ → Bool
is_quote c = c == quotation_mark || c == apostrophe

-- a character of a bare value
abbrev pub is_bare : ℕ → Bool
is_bare c =
    not (is_white_space c || is_quote c
    || c == right_bracket || c == equals_sign || c == exclamation_mark || c == less_than || c == greater_than)

-- a regular expression, which isn't read as a value, nor is `type(..)`
abbrev pub is_slashed : List ℕ → Bool
is_slashed [] = false
is_slashed (c ∷ cs) = c == slash && list_any (λ d. d == slash) cs

abbrev pub is_some : Option (List ℕ) → Bool
is_some None = false
is_some (Some rest) = true

abbrev pub is_refused : List ℕ → Bool
is_refused run = is_some (after (codes "type(") run) || is_slashed run

abbrev pub if_taken : List ℕ × List ℕ → Read (List ℕ)
if_taken read = if is_refused read.0 then None else Some read

-- a bare run
abbrev pub bare : List ℕ → Read (List ℕ)
bare cs = option_and_then if_taken (run_of is_bare cs)

-- a text in quotes, or a bare run
abbrev pub value : List ℕ → Read (List ℕ)
value [] = bare []
value (c ∷ cs) = if is_quote c then quoted_from c false cs else bare (c ∷ cs)
