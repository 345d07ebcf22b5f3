-- The tokens of a text. ECMA-262 (13th edition), 12.5 to 12.8: a token is read in a mode, which the
-- grammar fixes, as it does the standard's goal symbols.
use Rattle.std.specs.Prelude.{ℕ, List, [], ◌∷◌, ◌++◌, drop, length, ◌||◌, ◌&&◌, ◌==◌, Option, Some, None, if◌then◌else◌}
use Rattle.std.specs.Option.{option_map, option_or}
use Rattle.es_text.specs.declared.token.LexMode.{LexMode}
use Rattle.es_text.specs.declared.token.LexMode.TheVariants as mode
use Rattle.es_text.specs.declared.token.Token.{Token}
use Rattle.es_text.specs.declared.token.TokenKind.{TokenKind}
use Rattle.es_text.specs.declared.token.TokenKind.TheVariants as kind
use Rattle.es_text.specs.declared.token.Comment.{Comment}
use Rattle.es_text.specs.Rest.{rest, offset_of, begins_with, many, tail, drop_while}
use Rattle.es_text.specs.Characters.{is_line_terminator, is_part, is_start, apostrophe, asterisk, backslash, backtick, carriage_return, dollar_sign, left_brace, left_bracket, line_feed, number_sign, quotation_mark, right_brace, right_bracket, slash}
use Rattle.es_text.specs.Skipped.{Piece, skipped, behind_all, hold_line, comments_among}
use Rattle.es_text.specs.Productions.{just}
use Rattle.es_text.specs.Numbers.{after_number}
use Rattle.es_text.specs.Punctuators.{longest, punctuator_code}

-- the kind of a token, and what follows it
pub record Form : Type 0 where
  pub kind : TokenKind
  pub behind : List ℕ

abbrev pub of_kind : TokenKind → Option (List ℕ) → Option Form
of_kind k behind = option_map (λ cs. record { kind = k; behind = cs }) behind

-- 12.6.1, without escapes, and by XID_Start and XID_Continue in place of ID_Start and ID_Continue: a
-- start, then parts
abbrev pub name : List ℕ → Option (List ℕ)
name [] = None
name (c ∷ cs) = if is_start c then Some (drop_while is_part cs) else None

-- 12.6: `#` and a name directly behind it
abbrev pub private_name : List ℕ → Option (List ℕ)
private_name [] = None
private_name (c ∷ cs) = if c == number_sign then name cs else None

-- what a backslash takes with it: one character, or CR LF
unfoldable pub escaped : List ℕ → Option (List ℕ)
escaped [] = None
escaped (c ∷ cs) = Some (if c == carriage_return && begins_with line_feed cs then tail cs else cs)

-- 12.8.4: a character of a text in these quotes, which may be U+2028 or U+2029, but no other line end
unfoldable pub text_character : ℕ → List ℕ → Option (List ℕ)
text_character quote [] = None
text_character quote (c ∷ cs) =
    if c == backslash then escaped cs
    else if c == quote || (c == line_feed || c == carriage_return) then None
    else Some cs

-- behind the quote that begins a text: characters, and the quote
abbrev pub after_text : ℕ → List ℕ → Option (List ℕ)
after_text quote cs = just quote (many (text_character quote) cs)

unfoldable pub string : List ℕ → Option (List ℕ)
string [] = None
string (c ∷ cs) = if c == quotation_mark || c == apostrophe then after_text c cs else None

-- 12.8.5: what a backslash takes with it in a regular expression
unfoldable pub escaped_in_line : List ℕ → Option (List ℕ)
escaped_in_line [] = None
escaped_in_line (c ∷ cs) = if is_line_terminator c then None else Some cs

-- a character of a class
unfoldable pub class_character : List ℕ → Option (List ℕ)
class_character [] = None
class_character (c ∷ cs) =
    if c == backslash then escaped_in_line cs
    else if c == right_bracket || is_line_terminator c then None
    else Some cs

-- behind the bracket that begins a class
abbrev pub after_class : List ℕ → Option (List ℕ)
after_class cs = just right_bracket (many class_character cs)

-- a character of a body, or a class
unfoldable pub body_character : List ℕ → Option (List ℕ)
body_character [] = None
body_character (c ∷ cs) =
    if c == backslash then escaped_in_line cs
    else if c == left_bracket then after_class cs
    else if c == slash || is_line_terminator c then None
    else Some cs

-- behind the slash that begins a regular expression: a body that isn't empty and doesn't begin with
-- `*`, the slash, and parts
unfoldable pub after_regexp : List ℕ → Option (List ℕ)
after_regexp cs =
    if begins_with slash cs || begins_with asterisk cs then None
    else option_map (drop_while is_part) (just slash (many body_character cs))

unfoldable pub regular_expression : List ℕ → Option (List ℕ)
regular_expression [] = None
regular_expression (c ∷ cs) = if c == slash then after_regexp cs else None

-- 12.8.6: what ends a template or a part of it, which is then of one of these kinds
unfoldable pub template_end : TokenKind → TokenKind → List ℕ → Option Form
template_end closed opened [] = None
template_end closed opened (c ∷ cs) =
    if c == backtick then Some (record { kind = closed; behind = cs })
    else if c == dollar_sign && begins_with left_brace cs
    then Some (record { kind = opened; behind = tail cs })
    else None

-- a character of a template, which a backslash makes of every one
unfoldable pub template_character : List ℕ → Option (List ℕ)
template_character [] = None
template_character (c ∷ cs) =
    if c == backslash then escaped cs
    else if c == backtick || (c == dollar_sign && begins_with left_brace cs) then None
    else Some cs

-- behind a backtick, or a brace where a template goes on
abbrev pub after_template : TokenKind → TokenKind → List ℕ → Option Form
after_template closed opened cs = template_end closed opened (many template_character cs)

unfoldable pub template : List ℕ → Option Form
template [] = None
template (c ∷ cs) = if c == backtick then after_template kind.Full kind.Head cs else None

unfoldable pub template_tail : List ℕ → Option Form
template_tail [] = None
template_tail (c ∷ cs) = if c == right_brace then after_template kind.Tail kind.Middle cs else None

-- 12.7: the longest punctuator
unfoldable pub punctuator : List ℕ → Option Form
punctuator cs =
    option_map
    (λ text. record { kind = kind.Punctuator (punctuator_code text); behind = drop (length text) cs })
    (longest cs)

-- 12, its goal symbols: a slash begins a regular expression, or else a punctuator; a brace goes on with
-- a template, or else is a punctuator
unfoldable pub by_mode : LexMode → List ℕ → Option Form
by_mode mode.Division cs = punctuator cs
by_mode mode.RegExp cs =
    if begins_with slash cs then of_kind kind.RegExp (regular_expression cs) else punctuator cs
by_mode mode.TemplateTail cs =
    if begins_with right_brace cs then template_tail cs else punctuator cs

-- The form with which the characters begin, at its greatest length. Two forms begin alike only where
-- a number begins with a point, and the number is the longer one
unfoldable pub form : LexMode → List ℕ → Option Form
form m [] = Some (record { kind = kind.End; behind = [] })
form m (c ∷ cs) =
    option_or (of_kind kind.Word (name (c ∷ cs)))
    (option_or (of_kind kind.Private (private_name (c ∷ cs)))
    (option_or (of_kind kind.Number (after_number (c ∷ cs)))
    (option_or (of_kind kind.Text (string (c ∷ cs)))
    (option_or (template (c ∷ cs)) (by_mode m (c ∷ cs))))))

-- what is skipped from this offset of a text on, and what follows it
abbrev pub skipped_at : List ℕ → ℕ → List Piece
skipped_at text at = skipped (at == 0) (rest text at)

abbrev pub behind_skipped : List ℕ → ℕ → List ℕ
behind_skipped text at = behind_all (rest text at) (skipped_at text at)

-- the first offset behind what is skipped
abbrev pub first_offset : List ℕ → ℕ → ℕ
first_offset text at = offset_of text (behind_skipped text at)

-- the token that is read from this offset of a text on, or None where no form fits
unfoldable pub token : List ℕ → ℕ → LexMode → Option Token
token text at m =
    option_map
    (λ f. record {
      kind = f.kind;
      span = record { start = first_offset text at; end = offset_of text f.behind };
      line_before = hold_line (skipped_at text at);
    })
    (form m (behind_skipped text at))

-- the comments before the first of these tokens, which is read from this offset on, and between
-- them
abbrev pub comments_between : List ℕ → ℕ → List Token → List Comment
comments_between text at [] = []
comments_between text at (t ∷ ts) =
    comments_among text (rest text at) (skipped_at text at) ++ comments_between text t.span.end ts
