-- The words of the grammar of ECMA-262, in the order in which their codes count them.
use Rattle.std.specs.Prelude.{ℕ, List, [], ◌∷◌, map, codes}

-- the reserved words (12.6.2), with `let`, which strict code reserves, and without `await`, which is
-- reserved in some places alone
abbrev pub keyword_words : List (List ℕ)
keyword_words =
    map codes ("break" ∷ "case" ∷ "catch" ∷ "class" ∷ "const" ∷ "continue" ∷ "debugger" ∷ "default" ∷ "delete"
    ∷ "do" ∷ "else" ∷ "enum" ∷ "export" ∷ "extends" ∷ "false" ∷ "finally" ∷ "for" ∷ "function"
    ∷ "if" ∷ "import" ∷ "in" ∷ "instanceof" ∷ "let" ∷ "new" ∷ "null" ∷ "return" ∷ "super"
    ∷ "switch" ∷ "this" ∷ "throw" ∷ "true" ∷ "try" ∷ "typeof" ∷ "var" ∷ "void" ∷ "while" ∷ "with"
    ∷ "yield" ∷ [])

-- the punctuators (12.7)
abbrev pub punctuator_words : List (List ℕ)
punctuator_words =
    map codes ("{" ∷ "}" ∷ "(" ∷ ")" ∷ "[" ∷ "]" ∷ "." ∷ "..." ∷ ";" ∷ "," ∷ "<" ∷ ">" ∷ "<=" ∷ ">=" ∷ "=="
    ∷ "!=" ∷ "===" ∷ "!==" ∷ "+" ∷ "-" ∷ "*" ∷ "/" ∷ "%" ∷ "**" ∷ "++" ∷ "--" ∷ "<<" ∷ ">>" ∷ ">>>"
    ∷ "&" ∷ "|" ∷ "^" ∷ "!" ∷ "~" ∷ "&&" ∷ "||" ∷ "??" ∷ "?" ∷ "?." ∷ ":" ∷ "=" ∷ "=>" ∷ "+="
    ∷ "-=" ∷ "*=" ∷ "/=" ∷ "%=" ∷ "**=" ∷ "<<=" ∷ ">>=" ∷ ">>>=" ∷ "&=" ∷ "|=" ∷ "^=" ∷ "&&="
    ∷ "||=" ∷ "??=" ∷ [])
