-- What is left behind a token.
use Rattle.std.proofs.Common.{ℕ, Bool, true, false, List, [], ◌∷◌, drop, length, if◌then◌else◌}
use Rattle.std.specs.Prelude.{Option, Some, None, ◌||◌, ◌&&◌, ◌==◌}
use Rattle.std.specs.Option.{option_map, option_or}
use Rattle.es_text.specs.declared.token.LexMode.{LexMode}
use Rattle.es_text.specs.declared.token.LexMode.TheVariants as mode
use Rattle.es_text.specs.declared.token.TokenKind.{TokenKind}
use Rattle.es_text.specs.declared.token.TokenKind.TheVariants as kind
use Rattle.es_text.specs.Rest.{begins_with, drop_while, many, tail}
use Rattle.es_text.specs.Characters.{is_line_terminator, is_part, is_start, apostrophe, asterisk, backslash, backtick, carriage_return, dollar_sign, left_brace, left_bracket, line_feed, number_sign, quotation_mark, right_brace, right_bracket, slash}
use Rattle.es_text.specs.Productions.{just}
use Rattle.es_text.specs.Numbers.{after_number}
use Rattle.es_text.specs.Punctuators.{longest, punctuator_code}
use Rattle.es_text.specs.Tokens.{Form, after_class, after_regexp, after_template, after_text, body_character, by_mode, class_character, escaped, escaped_in_line, form, name, of_kind, private_name, punctuator, regular_expression, string, template, template_character, template_end, template_tail, text_character}
use Rattle.es_text.proofs.RestLemmas.{IsSuffix, Follows, Takes, suffix-all, suffix-behind, suffix-drop, suffix-drop_while, suffix-further, suffix-if, suffix-many, suffix-next, suffix-tail}
use Rattle.es_text.proofs.ProductionsLemmas.{follows-further, follows-if, follows-map, follows-next, takes-just}
use Rattle.es_text.proofs.NumbersLemmas.{takes-after_number}

takes-name : Takes name
takes-name [] = tt
takes-name (c ∷ cs) =
    follows-if (is_start c) (c ∷ cs) (Some (drop_while is_part cs)) None
    (suffix-behind c cs (drop_while is_part cs) (suffix-drop_while is_part cs)) tt

takes-private_name : Takes private_name
takes-private_name [] = tt
takes-private_name (c ∷ cs) = follows-if (c == number_sign) (c ∷ cs) (name cs) None (follows-next c cs (name cs) (takes-name cs)) tt

takes-escaped : Takes escaped
unfolding escaped
takes-escaped [] = tt
takes-escaped (c ∷ cs) =
    suffix-behind c cs (if c == carriage_return && begins_with line_feed cs then tail cs else cs)
    (suffix-if (c == carriage_return && begins_with line_feed cs) cs (tail cs) cs (suffix-tail cs) (suffix-all cs))

-- what a backslash takes, or else what the rest says
follows-backslash : (escape : List ℕ → Option (List ℕ)) → Takes escape → (c : ℕ) (cs : List ℕ) (o : Option (List ℕ)) → Follows (c ∷ cs) o
    → Follows (c ∷ cs) (if c == backslash then escape cs else o)
follows-backslash escape takes c cs o other =
    follows-if (c == backslash) (c ∷ cs) (escape cs) o (follows-next c cs (escape cs) (takes cs)) other

-- nothing, or the character
follows-unless : (b : Bool) (c : ℕ) (cs : List ℕ) → Follows (c ∷ cs) (if b then None else Some cs)
follows-unless b c cs = follows-if b (c ∷ cs) None (Some cs) tt (suffix-next c cs)

takes-text_character : (quote : ℕ) → Takes (text_character quote)
unfolding text_character
takes-text_character quote [] = tt
takes-text_character quote (c ∷ cs) =
    follows-backslash escaped takes-escaped c cs (if c == quote || (c == line_feed || c == carriage_return) then None else Some cs)
    (follows-unless (c == quote || (c == line_feed || c == carriage_return)) c cs)

-- items, and the character that ends them
takes-many_just : (item : List ℕ → Option (List ℕ)) → Takes item → (x : ℕ) → Takes (λ cs. just x (many item cs))
takes-many_just item takes x cs = follows-further cs (many item cs) (just x (many item cs)) (suffix-many item takes cs) (takes-just x (many item cs))

takes-string : Takes string
unfolding string
takes-string [] = tt
takes-string (c ∷ cs) =
    follows-if (c == quotation_mark || c == apostrophe) (c ∷ cs) (after_text c cs) None
    (follows-next c cs (after_text c cs) (takes-many_just (text_character c) (takes-text_character c) c cs)) tt

takes-escaped_in_line : Takes escaped_in_line
unfolding escaped_in_line
takes-escaped_in_line [] = tt
takes-escaped_in_line (c ∷ cs) = follows-unless (is_line_terminator c) c cs

takes-class_character : Takes class_character
unfolding class_character
takes-class_character [] = tt
takes-class_character (c ∷ cs) =
    follows-backslash escaped_in_line takes-escaped_in_line c cs (if c == right_bracket || is_line_terminator c then None else Some cs)
    (follows-unless (c == right_bracket || is_line_terminator c) c cs)

takes-body_character : Takes body_character
unfolding body_character
takes-body_character [] = tt
takes-body_character (c ∷ cs) =
    follows-backslash escaped_in_line takes-escaped_in_line c cs
    (if c == left_bracket then after_class cs
    else if c == slash || is_line_terminator c then None
    else Some cs)
    (follows-if (c == left_bracket) (c ∷ cs) (after_class cs) (if c == slash || is_line_terminator c then None else Some cs)
    (follows-next c cs (after_class cs) (takes-many_just class_character takes-class_character right_bracket cs))
    (follows-unless (c == slash || is_line_terminator c) c cs))

takes-after_regexp : Takes after_regexp
unfolding after_regexp
takes-after_regexp cs =
    follows-if (begins_with slash cs || begins_with asterisk cs) cs None (option_map (drop_while is_part) (just slash (many body_character cs)))
    tt
    (follows-map (drop_while is_part) (suffix-drop_while is_part) cs (just slash (many body_character cs))
    (takes-many_just body_character takes-body_character slash cs))

takes-regular_expression : Takes regular_expression
unfolding regular_expression
takes-regular_expression [] = tt
takes-regular_expression (c ∷ cs) =
    follows-if (c == slash) (c ∷ cs) (after_regexp cs) None (follows-next c cs (after_regexp cs) (takes-after_regexp cs)) tt

-- what follows the form, if there is one, is left of what was there
abbrev pub FormFollows : List ℕ → Option Form → Type 0
FormFollows cs None = Unit {0}
FormFollows cs (Some found) = IsSuffix cs found.behind

form-if : (b : Bool) (cs : List ℕ) (o p : Option Form) → FormFollows cs o → FormFollows cs p → FormFollows cs (if b then o else p)
form-if true cs o p one other = one
form-if false cs o p one other = other

form-or : (cs : List ℕ) (o p : Option Form) → FormFollows cs o → FormFollows cs p → FormFollows cs (option_or o p)
form-or cs None p one other = other
form-or cs (Some found) p one other = one

form-further : (cs ds : List ℕ) (o : Option Form) → IsSuffix cs ds → FormFollows ds o → FormFollows cs o
form-further cs ds None left follows = tt
form-further cs ds (Some found) left follows = suffix-further cs ds found.behind left follows

form-next : (c : ℕ) (cs : List ℕ) (o : Option Form) → FormFollows cs o → FormFollows (c ∷ cs) o
form-next c cs o follows = form-further (c ∷ cs) cs o (suffix-next c cs) follows

form-of_kind : (k : TokenKind) (cs : List ℕ) (o : Option (List ℕ)) → Follows cs o → FormFollows cs (of_kind k o)
form-of_kind k cs None follows = tt
form-of_kind k cs (Some ds) follows = follows

form-template_end : (closed opened : TokenKind) (cs : List ℕ) → FormFollows cs (template_end closed opened cs)
unfolding template_end
form-template_end closed opened [] = tt
form-template_end closed opened (c ∷ cs) =
    form-if (c == backtick) (c ∷ cs) (Some (record { kind = closed; behind = cs }))
    (if c == dollar_sign && begins_with left_brace cs then Some (record { kind = opened; behind = tail cs }) else None)
    (suffix-next c cs)
    (form-if (c == dollar_sign && begins_with left_brace cs) (c ∷ cs) (Some (record { kind = opened; behind = tail cs })) None
    (suffix-behind c cs (tail cs) (suffix-tail cs)) tt)

takes-template_character : Takes template_character
unfolding template_character
takes-template_character [] = tt
takes-template_character (c ∷ cs) =
    follows-backslash escaped takes-escaped c cs (if c == backtick || (c == dollar_sign && begins_with left_brace cs) then None else Some cs)
    (follows-unless (c == backtick || (c == dollar_sign && begins_with left_brace cs)) c cs)

form-after_template : (closed opened : TokenKind) (cs : List ℕ) → FormFollows cs (after_template closed opened cs)
form-after_template closed opened cs =
    form-further cs (many template_character cs) (template_end closed opened (many template_character cs))
    (suffix-many template_character takes-template_character cs) (form-template_end closed opened (many template_character cs))

form-template : (cs : List ℕ) → FormFollows cs (template cs)
unfolding template
form-template [] = tt
form-template (c ∷ cs) =
    form-if (c == backtick) (c ∷ cs) (after_template kind.Full kind.Head cs) None
    (form-next c cs (after_template kind.Full kind.Head cs) (form-after_template kind.Full kind.Head cs)) tt

form-template_tail : (cs : List ℕ) → FormFollows cs (template_tail cs)
unfolding template_tail
form-template_tail [] = tt
form-template_tail (c ∷ cs) =
    form-if (c == right_brace) (c ∷ cs) (after_template kind.Tail kind.Middle cs) None
    (form-next c cs (after_template kind.Tail kind.Middle cs) (form-after_template kind.Tail kind.Middle cs)) tt

form-longest : (cs : List ℕ) (o : Option (List ℕ))
    → FormFollows cs (option_map (λ text. record { kind = kind.Punctuator (punctuator_code text); behind = drop (length text) cs }) o)
form-longest cs None = tt
form-longest cs (Some text) = suffix-drop (length text) cs

form-punctuator : (cs : List ℕ) → FormFollows cs (punctuator cs)
unfolding punctuator
form-punctuator cs = form-longest cs (longest cs)

form-by_mode : (m : LexMode) (cs : List ℕ) → FormFollows cs (by_mode m cs)
unfolding by_mode
form-by_mode mode.Division cs = form-punctuator cs
form-by_mode mode.RegExp cs =
    form-if (begins_with slash cs) cs (of_kind kind.RegExp (regular_expression cs)) (punctuator cs)
    (form-of_kind kind.RegExp cs (regular_expression cs) (takes-regular_expression cs)) (form-punctuator cs)
form-by_mode mode.TemplateTail cs =
    form-if (begins_with right_brace cs) cs (template_tail cs) (punctuator cs) (form-template_tail cs) (form-punctuator cs)

pub form-follows : (m : LexMode) (cs : List ℕ) → FormFollows cs (form m cs)
unfolding form
form-follows m [] = suffix-all []
form-follows m (c ∷ cs) =
    let all = c ∷ cs in
    let ended = form-or all (template all) (by_mode m all) (form-template all) (form-by_mode m all) in
    let texts = form-or all (of_kind kind.Text (string all)) _ (form-of_kind kind.Text all (string all) (takes-string all)) ended in
    let numbers = form-or all (of_kind kind.Number (after_number all)) _ (form-of_kind kind.Number all (after_number all) (takes-after_number all)) texts in
    let privates = form-or all (of_kind kind.Private (private_name all)) _ (form-of_kind kind.Private all (private_name all) (takes-private_name all)) numbers in
    form-or all (of_kind kind.Word (name all)) _ (form-of_kind kind.Word all (name all) (takes-name all)) privates
