-- What the code answers, with what follows in place of the cursor.
use Rattle.std.specs.Prelude.{ℕ, List, Option}
use Rattle.std.specs.Option.{option_or}
use Rattle.es_text.specs.declared.token.TokenKind.TheVariants as kind
use Rattle.es_text.specs.Numbers.{after_number}
use Rattle.es_text.specs.Tokens as tokens
use Rattle.es_lexer.specs.Cursors.{rest_of}
use Rattle.es_lexer.specs.declared.form.Form.{Form}

abbrev pub form_of : Form → tokens.Form
form_of form = record { kind = form.kind; behind = rest_of form.end }

-- a number, or a punctuator where none stands
abbrev pub number_or_punctuator : List ℕ → Option tokens.Form
number_or_punctuator cs = option_or (tokens.of_kind kind.Number (after_number cs)) (tokens.punctuator cs)
