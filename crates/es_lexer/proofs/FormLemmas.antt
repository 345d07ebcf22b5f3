-- Which form begins with a character.
use Rattle.std.proofs.Common.{◌≡◌, ℕ, ⊎_elim, List, [], ◌∷◌, true, false, refl, ap, ◌∙◌, sym}
use Rattle.std.specs.Prelude.{Option, Some, None, ◌⊎◌, ◌==◌}
use Rattle.std.specs.Option.{option_or}
use Rattle.es_text.specs.declared.token.LexMode.{LexMode}
use Rattle.es_text.specs.declared.token.LexMode.TheVariants.{Division, RegExp, TemplateTail}
use Rattle.es_text.specs.declared.token.TokenKind.TheVariants as kind
use Rattle.es_text.specs.Rest.{drop_while}
use Rattle.es_text.specs.Characters.{is_start, is_part}
use Rattle.es_text.specs.Numbers.{after_number}
use Rattle.es_text.specs.Punctuators.{longest}
use Rattle.es_lexer.proofs.NumberLemmas.{at_other}
use Rattle.es_text.specs.Tokens.{Form, after_template, after_text, by_mode, form, name, of_kind, punctuator, string, template}

or_none : (f : Option Form) → option_or f None ≡ f
or_none None = refl
or_none (Some f) = refl

by_no_mode : (m : LexMode) (c : ℕ) (cs : List ℕ) → (c == 47) ≡ false → (c == 125) ≡ false → by_mode m (c ∷ cs) ≡ punctuator (c ∷ cs)
unfolding by_mode
by_no_mode Division c cs slash brace = refl
by_no_mode RegExp c cs slash brace = rw slash refl
by_no_mode TemplateTail c cs slash brace = rw brace refl

-- no punctuator begins with these
hash_none : (cs : List ℕ) → punctuator (35 ∷ cs) ≡ None
unfolding punctuator longest
hash_none cs = refl

double_none : (cs : List ℕ) → punctuator (34 ∷ cs) ≡ None
unfolding punctuator longest
double_none cs = refl

single_none : (cs : List ℕ) → punctuator (39 ∷ cs) ≡ None
unfolding punctuator longest
single_none cs = refl

backtick_none : (cs : List ℕ) → punctuator (96 ∷ cs) ≡ None
unfolding punctuator longest
backtick_none cs = refl

at_name : (m : LexMode) (c : ℕ) (cs : List ℕ) → is_start c ≡ true → form m (c ∷ cs) ≡ Some (record { kind = kind.Word; behind = drop_while is_part cs })
unfolding form
at_name m c cs starts = rw starts refl

at_hash : (m : LexMode) (cs : List ℕ) → is_start 35 ≡ false → form m (35 ∷ cs) ≡ of_kind kind.Private (name cs)
unfolding form string template
at_hash m cs other = rw (other, at_other 35 cs refl refl, by_no_mode m 35 cs refl refl, hash_none cs) (or_none (of_kind kind.Private (name cs)))

at_double : (m : LexMode) (cs : List ℕ) → is_start 34 ≡ false → form m (34 ∷ cs) ≡ of_kind kind.Text (after_text 34 cs)
unfolding form string template
at_double m cs other = rw (other, at_other 34 cs refl refl, by_no_mode m 34 cs refl refl, double_none cs) (or_none (of_kind kind.Text (after_text 34 cs)))

at_single : (m : LexMode) (cs : List ℕ) → is_start 39 ≡ false → form m (39 ∷ cs) ≡ of_kind kind.Text (after_text 39 cs)
unfolding form string template
at_single m cs other = rw (other, at_other 39 cs refl refl, by_no_mode m 39 cs refl refl, single_none cs) (or_none (of_kind kind.Text (after_text 39 cs)))

at_backtick : (m : LexMode) (cs : List ℕ) → is_start 96 ≡ false → form m (96 ∷ cs) ≡ after_template kind.Full kind.Head cs
unfolding form string template
at_backtick m cs other = rw (other, at_other 96 cs refl refl, by_no_mode m 96 cs refl refl, backtick_none cs) (or_none (after_template kind.Full kind.Head cs))

at_slash : (m : LexMode) (cs : List ℕ) → is_start 47 ≡ false → form m (47 ∷ cs) ≡ by_mode m (47 ∷ cs)
unfolding form string template
at_slash m cs other = rw (other, at_other 47 cs refl refl) refl

at_brace : (m : LexMode) (cs : List ℕ) → is_start 125 ≡ false → form m (125 ∷ cs) ≡ by_mode m (125 ∷ cs)
unfolding form string template
at_brace m cs other = rw (other, at_other 125 cs refl refl) refl

nothing_at_end : (m : LexMode) → Some (record { kind = kind.End; behind = [] }) ≡ form m []
unfolding form
nothing_at_end m = refl

-- the same of the characters from a cursor on
pub form_end : (m : LexMode) (all : List ℕ) → all ≡ [] → Some (record { kind = kind.End; behind = all }) ≡ form m all
form_end m all is = rw is (nothing_at_end m)

pub form_name : (m : LexMode) (c : ℕ) (cs all behind : List ℕ) → all ≡ c ∷ cs → is_start c ≡ true → behind ≡ drop_while is_part cs
    → Some (record { kind = kind.Word; behind = behind }) ≡ form m all
form_name m c cs all behind is starts parts =
    ap (λ b. Some (record { kind = kind.Word; behind = b })) parts ∙ sym (at_name m c cs starts) ∙ ap (form m) (sym is)

pub form_hash : (m : LexMode) (c : ℕ) (cs all : List ℕ) → all ≡ c ∷ cs → c ≡ 35 → is_start c ≡ false → of_kind kind.Private (name cs) ≡ form m all
form_hash m c cs all is same other =
    sym (at_hash m cs (ap is_start (sym same) ∙ other)) ∙ ap (λ d. form m (d ∷ cs)) (sym same) ∙ ap (form m) (sym is)

pub form_double : (m : LexMode) (c : ℕ) (cs all : List ℕ) → all ≡ c ∷ cs → c ≡ 34 → is_start c ≡ false → of_kind kind.Text (after_text c cs) ≡ form m all
form_double m c cs all is same other =
    ap (λ d. of_kind kind.Text (after_text d cs)) same
    ∙ sym (at_double m cs (ap is_start (sym same) ∙ other)) ∙ ap (λ d. form m (d ∷ cs)) (sym same) ∙ ap (form m) (sym is)

pub form_single : (m : LexMode) (c : ℕ) (cs all : List ℕ) → all ≡ c ∷ cs → c ≡ 39 → is_start c ≡ false → of_kind kind.Text (after_text c cs) ≡ form m all
form_single m c cs all is same other =
    ap (λ d. of_kind kind.Text (after_text d cs)) same
    ∙ sym (at_single m cs (ap is_start (sym same) ∙ other)) ∙ ap (λ d. form m (d ∷ cs)) (sym same) ∙ ap (form m) (sym is)

pub form_backtick : (m : LexMode) (c : ℕ) (cs all : List ℕ) → all ≡ c ∷ cs → c ≡ 96 → is_start c ≡ false → after_template kind.Full kind.Head cs ≡ form m all
form_backtick m c cs all is same other =
    sym (at_backtick m cs (ap is_start (sym same) ∙ other)) ∙ ap (λ d. form m (d ∷ cs)) (sym same) ∙ ap (form m) (sym is)

pub form_slash : (m : LexMode) (c : ℕ) (cs all : List ℕ) → all ≡ c ∷ cs → c ≡ 47 → is_start c ≡ false → by_mode m all ≡ form m all
form_slash m c cs all is same other =
    let whole : all ≡ 47 ∷ cs = is ∙ ap (λ d. d ∷ cs) same in
    rw whole (sym (at_slash m cs (ap is_start (sym same) ∙ other)))

pub form_brace : (m : LexMode) (c : ℕ) (cs all : List ℕ) → all ≡ c ∷ cs → c ≡ 125 → is_start c ≡ false → by_mode m all ≡ form m all
form_brace m c cs all is same other =
    let whole : all ≡ 125 ∷ cs = is ∙ ap (λ d. d ∷ cs) same in
    rw whole (sym (at_brace m cs (ap is_start (sym same) ∙ other)))

pub form_other : (m : LexMode) (c : ℕ) (cs all : List ℕ) → all ≡ c ∷ cs → is_start c ≡ false
    → (c == 35) ≡ false → (c == 34) ≡ false → (c == 39) ≡ false → (c == 96) ≡ false → (c == 47) ≡ false → (c == 125) ≡ false
    → option_or (of_kind kind.Number (after_number all)) (punctuator all) ≡ form m all
unfolding form string template
form_other m c cs all is other hash double single backtick slash brace =
    rw (is, other, hash, double, single, backtick, by_no_mode m c cs slash brace) refl

pub form_quote : (m : LexMode) (c : ℕ) (cs all : List ℕ) → all ≡ c ∷ cs → (c ≡ 34) ⊎ (c ≡ 39) → is_start c ≡ false → of_kind kind.Text (after_text c cs) ≡ form m all
form_quote m c cs all is quote other =
    ⊎_elim (λ double. form_double m c cs all is double other) (λ single. form_single m c cs all is single other) quote
