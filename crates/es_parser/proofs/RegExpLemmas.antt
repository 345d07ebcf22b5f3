-- Where a regular expression may stand: where the next token begins with a slash.
use Rattle.std.proofs.Common.{◌≡◌, ◌∙◌, ℕ, List, [], ◌∷◌, length, Bool, true, false, Option, Some, None, refl, sym, ap, subst, eqb-true}
use Rattle.std.specs.Prelude.{◌==◌, ◌&&◌, cond, drop, if◌then◌else◌, is_some, nat_eq}
use Rattle.std.specs.Option.{option_map, option_or}
use Rattle.es_text.specs.declared.token.LexMode.TheVariants as mode
use Rattle.es_text.specs.declared.token.Token.{Token}
use Rattle.es_text.specs.declared.token.TokenKind.{TokenKind}
use Rattle.es_text.specs.declared.token.TokenKind.TheVariants as kind
use Rattle.es_text.specs.Characters.{backtick, dollar_sign, left_brace, slash}
use Rattle.es_text.specs.Numbers.{after_number}
use Rattle.es_text.specs.Punctuators.{longest, longest_text, punctuator_code}
use Rattle.es_text.specs.Rest.{begins_with, many, offset_of, tail}
use Rattle.es_text.specs.Skipped.{hold_line}
use Rattle.es_text.specs.Tokens.{Form, behind_skipped, by_mode, first_offset, form, name, of_kind, private_name, punctuator, regular_expression, skipped_at, string, template, template_character, template_end, token}
use Rattle.es_grammar.specs.declared.context.Context.{Context}
use Rattle.es_grammar.specs.declared.part.Terminal.TheVariants as t
use Rattle.es_grammar.specs.Terminals.{kind_index, mode_of, read_by, reads_kind, same_kind, terminal_at}
use Rattle.es_parser.specs.KindSets.{is_slash}
use Rattle.es_parser.specs.Kept.{plain_at}

-- whether a form is that of a regular expression
is_regexp : Option Form → Bool
is_regexp None = false
is_regexp (Some f) = same_kind f.kind kind.RegExp

-- where the one is no slash, the other is no regular expression
Apart : Option Form → Option Form → Type 0
Apart one other = (f : Form) → one ≡ Some f → is_slash f.kind ≡ false → is_regexp other ≡ false

apart_or : (o one other : Option Form) → is_regexp o ≡ false → Apart one other → Apart (option_or o one) (option_or o other)
unfolding Apart
apart_or None one other none apart = apart
apart_or (Some g) one other none apart = λ f is plain. none

no_regexp : (k : TokenKind) (o : Option (List ℕ)) → same_kind k kind.RegExp ≡ false → is_regexp (of_kind k o) ≡ false
unfolding is_regexp
no_regexp k None apart = refl
no_regexp k (Some cs) apart = apart

no_end : (cs : List ℕ) → is_regexp (template_end kind.Full kind.Head cs) ≡ false
unfolding is_regexp kind_index template_end
no_end [] = refl
no_end (c ∷ cs) = by_test (c == backtick) (c == dollar_sign && begins_with left_brace cs)
  where
    by_test : (a b : Bool) →
        is_regexp (if a then Some (record { kind = kind.Full; behind = cs }) else if b then Some (record { kind = kind.Head; behind = tail cs }) else None) ≡ false
    by_test true b = refl
    by_test false true = refl
    by_test false false = refl

no_template : (cs : List ℕ) → is_regexp (template cs) ≡ false
unfolding is_regexp template
no_template [] = refl
no_template (c ∷ cs) = by_test (c == backtick)
  where
    by_test : (a : Bool) → is_regexp (if a then template_end kind.Full kind.Head (many template_character cs) else None) ≡ false
    by_test true = no_end (many template_character cs)
    by_test false = refl

no_punctuator : (cs : List ℕ) → is_regexp (punctuator cs) ≡ false
unfolding is_regexp kind_index punctuator
no_punctuator cs = by_text (longest cs)
  where
    by_text : (o : Option (List ℕ)) →
        is_regexp (option_map (λ text. record { kind = kind.Punctuator (punctuator_code text); behind = drop (length text) cs }) o) ≡ false
    by_text None = refl
    by_text (Some text) = refl

-- the punctuators that begin with a slash
slashes : Bool → Option (List ℕ)
slashes true = Some (47 ∷ 61 ∷ [])
slashes false = Some (47 ∷ [])

-- of the two, `/=` fits where the second character is `=`
longer_slash : Bool → Option (List ℕ)
longer_slash b = longest_text ((47 ∷ []) ∷ cond ((b && true) && true) ((47 ∷ 61 ∷ []) ∷ []) [])

longer_is : (b : Bool) → longer_slash b ≡ slashes b
unfolding longer_slash slashes
longer_is true = refl
longer_is false = refl

longest_slash : (e : ℕ) (es : List ℕ) → longest (47 ∷ e ∷ es) ≡ longer_slash (nat_eq 61 e)
unfolding longest longer_slash
longest_slash e es = refl

slash_there : (cs : List ℕ) → (b : Bool) × (longest (47 ∷ cs) ≡ slashes b)
unfolding longest slashes
slash_there [] = (false, refl)
slash_there (e ∷ es) = (nat_eq 61 e, longest_slash e es ∙ longer_is (nat_eq 61 e))

slash_kind : (cs : List ℕ) (b : Bool) (f : Form) →
    option_map (λ text. record { kind = kind.Punctuator (punctuator_code text); behind = drop (length text) cs }) (slashes b) ≡ Some f → is_slash f.kind ≡ true
unfolding is_slash punctuator_code slashes
slash_kind cs true f is = let same : record { kind = kind.Punctuator 45; behind = drop 2 cs } ≡ f = (cc) in subst (λ g. is_slash g.kind ≡ true) same refl
slash_kind cs false f is = let same : record { kind = kind.Punctuator 21; behind = drop 1 cs } ≡ f = (cc) in subst (λ g. is_slash g.kind ≡ true) same refl

by_slash : (c : ℕ) (cs : List ℕ) (b : Bool) → (c == slash) ≡ b →
    Apart (punctuator (c ∷ cs)) (if b then of_kind kind.RegExp (regular_expression (c ∷ cs)) else punctuator (c ∷ cs))
unfolding Apart punctuator
by_slash c cs false e = λ f is plain. no_punctuator (c ∷ cs)
by_slash c cs true e = λ f is plain. absurd (clash f is plain)
  where
    clash : (f : Form) → punctuator (c ∷ cs) ≡ Some f → is_slash f.kind ≡ false → ⊥
    clash f is plain =
        let first : c ≡ 47 = eqb-true c 47 e in
        let there = slash_there cs in
        let text : longest (c ∷ cs) ≡ slashes there.0 = ap (λ k. longest (k ∷ cs)) first ∙ there.1 in
        let yes = slash_kind (c ∷ cs) there.0 f
        (ap (option_map (λ text. record { kind = kind.Punctuator (punctuator_code text); behind = drop (length text) (c ∷ cs) })) (sym text) ∙ is) in
        cc

by_forms : (cs : List ℕ) → Apart (form mode.Division cs) (form mode.RegExp cs)
unfolding Apart by_mode form is_regexp kind_index
by_forms [] = λ f is plain. refl
by_forms (c ∷ cs) =
    apart_or (of_kind kind.Word (name (c ∷ cs))) _ _ (no_regexp kind.Word (name (c ∷ cs)) refl)
    (apart_or (of_kind kind.Private (private_name (c ∷ cs))) _ _ (no_regexp kind.Private (private_name (c ∷ cs)) refl)
    (apart_or (of_kind kind.Number (after_number (c ∷ cs))) _ _ (no_regexp kind.Number (after_number (c ∷ cs)) refl)
    (apart_or (of_kind kind.Text (string (c ∷ cs))) _ _ (no_regexp kind.Text (string (c ∷ cs)) refl)
    (apart_or (template (c ∷ cs)) _ _ (no_template (c ∷ cs)) (by_slash c cs (c == slash) refl)))))

module _ (text : List ℕ) (context : Context) (at : ℕ) where
  token_of : Form → Token
  token_of f = record {
    kind = f.kind;
    span = record { start = first_offset text at; end = offset_of text f.behind };
    line_before = hold_line (skipped_at text at);
  }

  form_of : (o : Option Form) (found : Token) → option_map token_of o ≡ Some found → (f : Form) × (o ≡ Some f) × (f.kind ≡ found.kind)
  unfolding token_of
  form_of None found is = absurd (cc)
  form_of (Some f) found is = let same : token_of f ≡ found = (cc) in (f, refl, ap (λ one. one.kind) same)

  not_read : (o : Option Form) → is_regexp o ≡ false → is_some (read_by text context t.RegExp (option_map token_of o)) ≡ false
  unfolding is_regexp reads_kind token_of
  not_read None plain = refl
  not_read (Some f) plain = ap (λ so. is_some (if so then Some (token_of f) else None)) plain

  pub no_slash : (found : Token) → token text at mode.Division ≡ Some found → is_slash found.kind ≡ false →
      false ≡ is_some (plain_at text context t.RegExp at)
  unfolding mode_of terminal_at token token_of Apart
  no_slash found is plain =
      let first = form_of (form mode.Division (behind_skipped text at)) found is in
      sym (not_read (form mode.RegExp (behind_skipped text at))
      (by_forms (behind_skipped text at) first.0 first.1 (ap is_slash first.2 ∙ plain)))
