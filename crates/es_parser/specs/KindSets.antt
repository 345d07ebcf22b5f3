-- The sets of the terminals that read tokens by their kinds.
use Rattle.std.specs.Prelude.{◌==◌, ◌&&◌, ◌||◌, ℕ, Bool, true, false, Option, Some, None, nat_lt, not}
use Rattle.es_text.specs.declared.token.TokenKind.{TokenKind}
use Rattle.es_text.specs.declared.token.TokenKind.TheVariants as kind
use Rattle.es_grammar.specs.declared.context.Context.{Context}

-- those that read a token of this kind where `/` and `}` are punctuators; a reserved word is no name
unfoldable pub kind_set : TokenKind → Bool → ℕ
kind_set kind.Word false = 3
kind_set kind.Word true = 1
kind_set kind.Private reserved = 4
kind_set (kind.Punctuator code) reserved = 0
kind_set kind.Number reserved = 8
kind_set kind.Text reserved = 16
kind_set kind.RegExp reserved = 0
kind_set kind.Full reserved = 64
kind_set kind.Head reserved = 128
kind_set kind.Middle reserved = 0
kind_set kind.Tail reserved = 0
kind_set kind.End reserved = 0

-- the word with this code among the texts of single tokens is reserved: from 57 on they are the keywords,
-- and behind these stands `await`
unfoldable pub is_reserved_code : Context → Option ℕ → Bool
is_reserved_code context None = false
is_reserved_code context (Some code) =
    (not (nat_lt code 57) && nat_lt code 95) || (code == 95 && (context.in_module || context.await_operator))

-- the punctuators `/` and `/=`, where a regular expression may stand in another mode
unfoldable pub is_slash : TokenKind → Bool
is_slash (kind.Punctuator code) = (code == 21) || (code == 45)
is_slash other = false
