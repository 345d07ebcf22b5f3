-- What follows a part of a selector's text is no longer than the text.
use Rattle.std.proofs.Common.{◌≡◌, ℕ, ◌<◌, ◌≤◌, ◌+◌, Bool, true, false, List, [], ◌∷◌, length, cond, refl, ap, sym, ◌∙◌, arith}
use Rattle.std.specs.Prelude.{Option, Some, None, codes, option_and_then, option_map, ◌==◌, unwrap_or}
use Rattle.es_text.specs.Characters.{backslash, is_decimal, is_white_space}
use Rattle.es_text.specs.Rest.{begins, drop_while}
use Rattle.es_selectors.specs.declared.selector.Atom.{Atom, roll-Atom}
use Rattle.es_selectors.specs.declared.selector.Atom.TheOpen.{Atom-F}
use Rattle.es_selectors.specs.declared.selector.Combinator.{Combinator}
use Rattle.es_selectors.specs.declared.selector.Combinator.TheVariants.{Child, Later, Next}
use Rattle.es_selectors.specs.declared.selector.Comparison.{Comparison}
use Rattle.es_selectors.specs.declared.selector.Condition.{Condition}
use Rattle.es_selectors.specs.declared.selector.Condition.TheVariants.{IsThere, Is, IsNot, Compares}
use Rattle.es_selectors.specs.declared.word.Nest.{Nest}
use Rattle.es_selectors.specs.declared.word.Word.{Word}
use Rattle.es_selectors.specs.declared.word.Word.TheVariants as word
use Rattle.es_selectors.specs.Lexical.{Read, after, bare, closed, go_on, if_taken, in_front, is_bare, is_name_part, is_quote, just, just_before, name, number, number_in_parentheses, past_blanks, quoted_from, run_of, value, with_front}
use Rattle.es_selectors.specs.Spelling.{SpellsNames, bracketed, bracketed_number, bracketed_value, combinator, combinator_or, compared, comparison, condition, descendant, field, field_of, field_or_field_of, inner_field, kind_atom, length_test, more_names, nest_at, nest_word, nth_child, nth_last_child, one_name, plain_atom, plain_word, with_atom, with_condition, with_value, word_among, word_at, words}

pub some_same : {A : Type 0} {x y : A} → Some x ≡ Some y → x ≡ y
some_same e = cc

-- ---- for each way in which parts are joined: no longer than so many characters
pub and_then_le : {A B : Type 0} (n : ℕ) (o : Read A) (f : A × List ℕ → Read B) (b : B × List ℕ) →
    ((a : A × List ℕ) → o ≡ Some a → length a.1 ≤ n) → ((a : A × List ℕ) (x : B × List ℕ) → f a ≡ Some x → length x.1 ≤ length a.1) →
    option_and_then f o ≡ Some b → length b.1 ≤ n
and_then_le n None f b first further e = cc
and_then_le n (Some a) f b first further e = let p = first a refl in let q = further a b e in omega arith

pub map_le : {A B : Type 0} (n : ℕ) (o : Read A) (g : A × List ℕ → B × List ℕ) (b : B × List ℕ) →
    ((a : A × List ℕ) → o ≡ Some a → length a.1 ≤ n) → ((a : A × List ℕ) → (g a).1 ≡ a.1) → option_map g o ≡ Some b → length b.1 ≤ n
map_le n None g b first same e = cc
map_le {A} {B} n (Some a) g b first same e =
    let p = first a refl in
    let q : a.1 ≡ b.1 = sym (same a) ∙ ap (λ (r : B × List ℕ). r.1) (some_same e) in
    omega (arith, ap length q)

pub map_less : {A B : Type 0} (n : ℕ) (o : Read A) (g : A × List ℕ → B × List ℕ) (b : B × List ℕ) →
    ((a : A × List ℕ) → o ≡ Some a → length a.1 < n) → ((a : A × List ℕ) → (g a).1 ≡ a.1) → option_map g o ≡ Some b → length b.1 < n
map_less n None g b first same e = cc
map_less {A} {B} n (Some a) g b first same e =
    let p = first a refl in
    let q : a.1 ≡ b.1 = sym (same a) ∙ ap (λ (r : B × List ℕ). r.1) (some_same e) in
    omega (arith, ap length q)

pub go_on_le : {A : Type 0} (n : ℕ) (other : Read A) (further : List ℕ → Read A) (o : Option (List ℕ)) (x : A × List ℕ) →
    (other ≡ Some x → length x.1 ≤ n) → ((behind : List ℕ) → o ≡ Some behind → length behind ≤ n) →
    ((behind : List ℕ) → further behind ≡ Some x → length x.1 ≤ length behind) → go_on other further o ≡ Some x → length x.1 ≤ n
go_on_le n other further None x else_le there then_le e = else_le e
go_on_le n other further (Some behind) x else_le there then_le e = let p = there behind refl in let q = then_le behind e in omega arith

just_le : {A : Type 0} (value : A) (cs : List ℕ) (x : A × List ℕ) → just value cs ≡ Some x → length x.1 ≤ length cs
just_le {A} value cs x e = omega (arith, ap (λ (r : A × List ℕ). length r.1) (some_same e))

-- ---- words
pub while_le : (class : ℕ → Bool) (cs : List ℕ) → length (drop_while class cs) ≤ length cs
while_le class [] = omega arith
while_le class (c ∷ cs) =
    let least = while_le class cs in
    elim (class c) as (λ b. length (cond b (drop_while class cs) (c ∷ cs)) ≤ length (c ∷ cs)) [
      | true ↦ omega (arith, least)
      | false ↦ omega arith
    ]

pub blanks_le : (cs : List ℕ) → length (past_blanks cs) ≤ length cs
blanks_le cs = while_le is_white_space cs

while_less : (class : ℕ → Bool) (cs : List ℕ) → begins class cs ≡ true → length (drop_while class cs) < length cs
while_less class [] h = cc
while_less class (c ∷ cs) h = let least = while_le class cs in rw h (omega (arith, least))

run_less : (class : ℕ → Bool) (cs : List ℕ) (x : List ℕ × List ℕ) → run_of class cs ≡ Some x → length x.1 < length cs
run_less class cs x e =
    elim (begins class cs) as (λ b. begins class cs ≡ b → cond b (Some (in_front (drop_while class cs) cs, drop_while class cs)) None ≡ Some x → length x.1 < length cs) [
      | true ↦ λ yes is. let less = while_less class cs yes in omega (arith, ap (λ (r : List ℕ × List ℕ). length r.1) (some_same is))
      | false ↦ λ no is. cc
    ] refl e

pub name_less : (cs : List ℕ) (x : List ℕ × List ℕ) → name cs ≡ Some x → length x.1 < length cs
name_less cs x e = run_less is_name_part cs x e

pub after_is : (word cs behind : List ℕ) → after word cs ≡ Some behind → length behind + length word ≡ length cs
after_is [] cs behind e = omega (arith, ap length (some_same e))
after_is (w ∷ word) [] behind e = cc
after_is (w ∷ word) (c ∷ cs) behind e =
    elim (c == w) as (λ b. cond b (after word cs) None ≡ Some behind → length behind + length (w ∷ word) ≡ length (c ∷ cs)) [
      | true ↦ λ is. let rest = after_is word cs behind is in omega arith
      | false ↦ λ is. cc
    ] e

pub after_le : (word cs behind : List ℕ) → after word cs ≡ Some behind → length behind ≤ length cs
after_le word cs behind e = let p = after_is word cs behind e in omega arith

number_le : (cs : List ℕ) (x : ℕ × List ℕ) → number cs ≡ Some x → length x.1 ≤ length cs
number_le cs x e = map_le (length cs) (run_of is_decimal cs) _ x (λ a is. let p = run_less is_decimal cs a is in omega arith) (λ a. refl) e

-- behind a word and white space, before it or not
behind_word : (word cs behind : List ℕ) → after word (past_blanks cs) ≡ Some behind → length behind ≤ length cs
behind_word word cs behind e = let p = after_le word (past_blanks cs) behind e in let q = blanks_le cs in omega arith

pub option_list_le : {A : Type 0} (value : A) (n : ℕ) (o : Option (List ℕ)) (x : A × List ℕ) →
    ((behind : List ℕ) → o ≡ Some behind → length behind ≤ n) → option_map (just_before value) o ≡ Some x → length x.1 ≤ n
option_list_le value n None x there e = cc
option_list_le {A} value n (Some behind) x there e =
    let p = there behind refl in omega (arith, ap (λ (r : A × List ℕ). length r.1) (some_same e))

pub closed_le : {A : Type 0} (read : A × List ℕ) (x : A × List ℕ) → closed read ≡ Some x → length x.1 ≤ length read.1
closed_le read x e = option_list_le read.0 (length read.1) (after (codes ")") (past_blanks read.1)) x (λ b is. behind_word (codes ")") read.1 b is) e

bracketed_le : {A : Type 0} (read : A × List ℕ) (x : A × List ℕ) → bracketed read ≡ Some x → length x.1 ≤ length read.1
bracketed_le read x e = option_list_le read.0 (length read.1) (after (codes "]") read.1) x (λ b is. after_le (codes "]") read.1 b is) e

parentheses_le : (cs : List ℕ) (x : ℕ × List ℕ) → number_in_parentheses cs ≡ Some x → length x.1 ≤ length cs
parentheses_le cs x e =
    and_then_le (length cs) (number (past_blanks cs)) closed x
    (λ a is. let p = number_le (past_blanks cs) a is in let q = blanks_le cs in omega arith) (λ a y is. closed_le a y is) e

-- ---- values and conditions
quoted_le : (quote : ℕ) (escaped : Bool) (cs : List ℕ) (x : List ℕ × List ℕ) → quoted_from quote escaped cs ≡ Some x → length x.1 ≤ length cs
quoted_le quote escaped [] x e = cc
quoted_le quote true (c ∷ cs) x e =
    map_le (length (c ∷ cs)) (quoted_from quote false cs) (with_front c) x (λ a is. let p = quoted_le quote false cs a is in omega arith) (λ a. refl) e
quoted_le quote false (c ∷ cs) x e =
    elim (c == quote) as (λ b. cond b (Some ([], cs)) (cond (c == backslash) (quoted_from quote true cs) (option_map (with_front c) (quoted_from quote false cs))) ≡ Some x → length x.1 ≤ length (c ∷ cs)) [
      | true ↦ λ is. omega (arith, ap (λ (r : List ℕ × List ℕ). length r.1) (some_same is))
      | false ↦ λ other. elim (c == backslash) as (λ b. cond b (quoted_from quote true cs) (option_map (with_front c) (quoted_from quote false cs)) ≡ Some x → length x.1 ≤ length (c ∷ cs)) [
        | true ↦ λ is. let p = quoted_le quote true cs x is in omega arith
        | false ↦ λ is. map_le (length (c ∷ cs)) (quoted_from quote false cs) (with_front c) x (λ a found. let p = quoted_le quote false cs a found in omega arith) (λ a. refl) is
      ] other
    ] e

taken_le : (a x : List ℕ × List ℕ) → if_taken a ≡ Some x → length x.1 ≤ length a.1
taken_le a x e = at (if_taken a) refl e
  where
    at : (o : Read (List ℕ)) → if_taken a ≡ o → o ≡ Some x → length x.1 ≤ length a.1
    at None is f = cc
    at (Some y) is f = grind arith

bare_le : (cs : List ℕ) (x : List ℕ × List ℕ) → bare cs ≡ Some x → length x.1 ≤ length cs
bare_le cs x e = and_then_le (length cs) (run_of is_bare cs) if_taken x (λ a is. let p = run_less is_bare cs a is in omega arith) taken_le e

value_le : (cs : List ℕ) (x : List ℕ × List ℕ) → value cs ≡ Some x → length x.1 ≤ length cs
value_le [] x e = bare_le [] x e
value_le (c ∷ cs) x e =
    elim (is_quote c) as (λ b. cond b (quoted_from c false cs) (bare (c ∷ cs)) ≡ Some x → length x.1 ≤ length (c ∷ cs)) [
      | true ↦ λ is. let p = quoted_le c false cs x is in omega arith
      | false ↦ λ is. bare_le (c ∷ cs) x is
    ] e

with_value_le : (k : List ℕ → Condition) (cs : List ℕ) (x : Condition × List ℕ) → with_value k cs ≡ Some x → length x.1 ≤ length cs
with_value_le k cs x e =
    map_le (length cs) (bracketed_value cs) (with_condition k) x
    (λ a is. and_then_le (length cs) (value (past_blanks cs)) bracketed a
    (λ b there. let p = value_le (past_blanks cs) b there in let q = blanks_le cs in omega arith) (λ b y there. bracketed_le b y there) is)
    (λ a. refl) e

comparison_le : (cs : List ℕ) (x : Comparison × List ℕ) → comparison cs ≡ Some x → length x.1 ≤ length cs
comparison_le cs x e =
    go_on_le (length cs) _ _ (after (codes "<=") cs) x
    (λ is. go_on_le (length cs) _ _ (after (codes "<") cs) x
    (λ is2. go_on_le (length cs) _ _ (after (codes ">=") cs) x
    (λ is3. go_on_le (length cs) _ _ (after (codes ">") cs) x (λ is4. cc) (after_le (codes ">") cs) (λ b f. just_le _ b x f) is3)
    (after_le (codes ">=") cs) (λ b f. just_le _ b x f) is2)
    (after_le (codes "<") cs) (λ b f. just_le _ b x f) is)
    (after_le (codes "<=") cs) (λ b f. just_le _ b x f) e

length_test_le : (cs : List ℕ) (x : Condition × List ℕ) → length_test cs ≡ Some x → length x.1 ≤ length cs
length_test_le cs x e =
    and_then_le (length cs) (comparison cs) _ x (λ a is. comparison_le cs a is)
    (λ a y is. map_le (length a.1) (bracketed_number a.1) (with_condition (Compares a.0)) y
    (λ b there. and_then_le (length a.1) (number (past_blanks a.1)) bracketed b
    (λ d found. let p = number_le (past_blanks a.1) d found in let q = blanks_le a.1 in omega arith) (λ d z found. bracketed_le d z found) there)
    (λ b. refl) is) e

compared_le : (cs : List ℕ) (x : Condition × List ℕ) → compared cs ≡ Some x → length x.1 ≤ length cs
compared_le cs x e =
    go_on_le (length cs) _ (with_value Is) (after (codes "=") cs) x
    (λ is. go_on_le (length cs) (length_test cs) (with_value IsNot) (after (codes "!=") cs) x (length_test_le cs x)
    (after_le (codes "!=") cs) (λ b f. with_value_le IsNot b x f) is)
    (after_le (codes "=") cs) (λ b f. with_value_le Is b x f) e

pub condition_le : (cs : List ℕ) (x : Condition × List ℕ) → condition cs ≡ Some x → length x.1 ≤ length cs
condition_le cs x e =
    go_on_le (length cs) (compared (past_blanks cs)) (just IsThere) (after (codes "]") cs) x
    (λ is. let p = compared_le (past_blanks cs) x is in let q = blanks_le cs in omega arith)
    (after_le (codes "]") cs) (λ b f. just_le IsThere b x f) e

pub names_less : {cs : List ℕ} {names : List (List ℕ)} {rest : List ℕ} → SpellsNames cs names rest → length rest < length cs
names_less {cs} (one_name {one = one} {rest = rest} e d) = name_less cs (one, rest) e
names_less {cs} (more_names {one = one} {behind = behind} {next = next} e d further) =
    let p = name_less cs (one, behind) e in let q = after_le (codes ".") behind next d in let r = names_less further in omega arith

-- ---- atoms
word_le : (rows : List (List ℕ × Word)) (cs : List ℕ) (x : Word × List ℕ) → word_among rows cs ≡ Some x → length x.1 ≤ length cs
word_le [] cs x e = cc
word_le (row ∷ rows) cs x e =
    go_on_le (length cs) (word_among rows cs) (just row.1) (after row.0 cs) x (word_le rows cs x) (after_le row.0 cs) (λ b f. just_le row.1 b x f) e

word_at_le : (cs : List ℕ) (x : Word × List ℕ) → word_at cs ≡ Some x → length x.1 ≤ length cs
unfolding word_at
word_at_le cs x e = word_le words cs x e

plain_word_le : (w : Word) (rest : List ℕ) (x : Atom × List ℕ) → plain_word (w, rest) ≡ Some x → length x.1 ≤ length rest
plain_word_le (word.Group g) rest x e = omega (arith, ap (λ (r : Atom × List ℕ). length r.1) (some_same e))
plain_word_le word.FirstChild rest x e = omega (arith, ap (λ (r : Atom × List ℕ). length r.1) (some_same e))
plain_word_le word.LastChild rest x e = omega (arith, ap (λ (r : Atom × List ℕ). length r.1) (some_same e))
plain_word_le word.NthChild rest x e = map_le (length rest) (number_in_parentheses rest) (with_atom nth_child) x (parentheses_le rest) (λ a. refl) e
plain_word_le word.NthLastChild rest x e = map_le (length rest) (number_in_parentheses rest) (with_atom nth_last_child) x (parentheses_le rest) (λ a. refl) e
plain_word_le (word.Nest n) rest x e = cc

nest_word_le : (w : Word) (rest : List ℕ) (x : Nest × List ℕ) → nest_word (w, rest) ≡ Some x → length x.1 ≤ length rest
nest_word_le (word.Nest n) rest x e = omega (arith, ap (λ (r : Nest × List ℕ). length r.1) (some_same e))
nest_word_le (word.Group g) rest x e = cc
nest_word_le word.FirstChild rest x e = cc
nest_word_le word.LastChild rest x e = cc
nest_word_le word.NthChild rest x e = cc
nest_word_le word.NthLastChild rest x e = cc

field_le : (cs : List ℕ) (x : Atom × List ℕ) → field cs ≡ Some x → length x.1 ≤ length cs
field_le cs x e = at (name cs) refl e
  where
    inner : (outer : List ℕ × List ℕ) (o : Read (List ℕ)) → inner_field outer.1 ≡ o → (plain : Atom) →
        length (unwrap_or (option_map (field_of outer.0) o) (plain, outer.1)).1 ≤ length outer.1
    inner outer None is plain = omega arith
    inner outer (Some read) is plain =
        and_then_list (length outer.1) (after (codes ".") outer.1) read (after_le (codes ".") outer.1) is
      where
        and_then_list : (n : ℕ) (o : Option (List ℕ)) (y : List ℕ × List ℕ) → ((b : List ℕ) → o ≡ Some b → length b ≤ n) →
            option_and_then name o ≡ Some y → length y.1 ≤ n
        and_then_list n None y there f = cc
        and_then_list n (Some b) y there f = let p = there b refl in let q = name_less b y f in omega arith

    at : (o : Read (List ℕ)) → name cs ≡ o → option_map field_or_field_of o ≡ Some x → length x.1 ≤ length cs
    at None is f = cc
    at (Some outer) is f =
        let p = name_less cs outer is in
        let q = inner outer (inner_field outer.1) refl (roll-Atom (Atom-F.Field outer.0)) in
        omega (arith, q, ap (λ (r : Atom × List ℕ). length r.1) (some_same f))

pub plain_less : (cs : List ℕ) (x : Atom × List ℕ) → plain_atom cs ≡ Some x → length x.1 < length cs
unfolding plain_atom
plain_less [] x e = cc
plain_less (c ∷ cs) x e =
    let named : Read Atom = option_map kind_atom (name (c ∷ cs)) in
    let worded : Read Atom = option_and_then plain_word (word_at cs) in
    elim (c == 42) as (λ b. cond b (Some (roll-Atom Atom-F.Any, cs)) (cond (c == 46) (field cs) (cond (c == 58) worded named)) ≡ Some x → length x.1 < length (c ∷ cs)) [
      | true ↦ λ is. omega (arith, ap (λ (r : Atom × List ℕ). length r.1) (some_same is))
      | false ↦ λ other. elim (c == 46) as (λ b. cond b (field cs) (cond (c == 58) worded named) ≡ Some x → length x.1 < length (c ∷ cs)) [
        | true ↦ λ is. let p = field_le cs x is in omega arith
        | false ↦ λ third. elim (c == 58) as (λ b. cond b worded named ≡ Some x → length x.1 < length (c ∷ cs)) [
          | true ↦ λ is. let p = and_then_le (length cs) (word_at cs) plain_word x (word_at_le cs) (λ a y f. plain_word_le a.0 a.1 y f) is in omega arith
          | false ↦ λ is. map_less (length (c ∷ cs)) (name (c ∷ cs)) kind_atom x (name_less (c ∷ cs)) (λ a. refl) is
        ] third
      ] other
    ] e

pub nest_less : (cs : List ℕ) (x : Nest × List ℕ) → nest_at cs ≡ Some x → length x.1 < length cs
unfolding nest_at
nest_less [] x e = cc
nest_less (c ∷ cs) x e =
    elim (c == 58) as (λ b. cond b (option_and_then nest_word (word_at cs)) None ≡ Some x → length x.1 < length (c ∷ cs)) [
      | true ↦ λ is. let p = and_then_le (length cs) (word_at cs) nest_word x (word_at_le cs) (λ a y f. nest_word_le a.0 a.1 y f) is in omega arith
      | false ↦ λ is. cc
    ] e

combinator_or_le : (other : Read Combinator) (cs : List ℕ) (n : ℕ) (x : Combinator × List ℕ) → length cs ≤ n →
    (other ≡ Some x → length x.1 ≤ n) → combinator_or other cs ≡ Some x → length x.1 ≤ n
combinator_or_le other [] n x low there e = there e
combinator_or_le other (c ∷ cs) n x low there e =
    let least = blanks_le cs in
    elim (c == 62) as (λ b. cond b (Some (Child, past_blanks cs)) (cond (c == 43) (Some (Next, past_blanks cs)) (cond (c == 126) (Some (Later, past_blanks cs)) other)) ≡ Some x → length x.1 ≤ n) [
      | true ↦ λ is. omega (arith, ap (λ (r : Combinator × List ℕ). length r.1) (some_same is))
      | false ↦ λ second. elim (c == 43) as (λ b. cond b (Some (Next, past_blanks cs)) (cond (c == 126) (Some (Later, past_blanks cs)) other) ≡ Some x → length x.1 ≤ n) [
        | true ↦ λ is. omega (arith, ap (λ (r : Combinator × List ℕ). length r.1) (some_same is))
        | false ↦ λ third. elim (c == 126) as (λ b. cond b (Some (Later, past_blanks cs)) other ≡ Some x → length x.1 ≤ n) [
          | true ↦ λ is. omega (arith, ap (λ (r : Combinator × List ℕ). length r.1) (some_same is))
          | false ↦ λ is. there is
        ] third
      ] second
    ] e

pub combinator_le : (cs : List ℕ) (x : Combinator × List ℕ) → combinator cs ≡ Some x → length x.1 ≤ length cs
unfolding combinator
combinator_le cs x e =
    let least = blanks_le cs in
    combinator_or_le (descendant cs) (past_blanks cs) (length cs) x least (λ is. at is) e
  where
    at : descendant cs ≡ Some x → length x.1 ≤ length cs
    at is = let low = blanks_le cs in grind arith
