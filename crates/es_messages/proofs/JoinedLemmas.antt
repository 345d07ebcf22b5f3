-- What directives say together.
use Rattle.std.proofs.Common.{◌≡◌, ◌∙◌, ℕ, Bool, true, false, cond, List, [], ◌∷◌, ◌++◌, append-nil, append_assoc, map, take, refl, sym, ap, Option, None, Some}
use Rattle.std.specs.List.{cons_option, filter, filter_map, position_or_len}
use Rattle.std.specs.Option.{is_none}
use Rattle.es_text.specs.Texts.{Text, text_bytes}
use Rattle.es_text.specs.declared.span.Span.{Span}
use Rattle.es_text.specs.declared.token.Comment.{Comment}
use Rattle.es_settings.specs.declared.global_use.GlobalUse.{GlobalUse}
use Rattle.es_messages.specs.declared.comment.Directive.{Directive}
use Rattle.es_messages.specs.declared.comment.Directive.TheVariants.{Disabling, DisablingLine, DisablingNextLine, Enabling, Setting, Globals}
use Rattle.es_messages.specs.declared.directive.BadEntry.{BadEntry}
use Rattle.es_messages.specs.declared.directive.DirectiveList.{DirectiveList}
use Rattle.es_messages.specs.declared.directive.Entry.{Entry}
use Rattle.es_messages.specs.declared.directive.Mark.{Mark}
use Rattle.es_messages.specs.Directives.{bad_of, behind_word, directive_of, directives, empty_list, entry_of, first_word, global_of, globals_of, mark_of, marks_of, said, said_in, says, settings_of, text_of}
use Rattle.es_messages.specs.Joined.{joined}
use Rattle.es_messages.specs.Classes.{is_blank}
use Rattle.es_messages.specs.Stretches.{Characters, behind}

made : List Mark → List Entry → List BadEntry → List (List ℕ × GlobalUse) → DirectiveList
made marks entries bad globals = record { marks = marks; entries = entries; bad = bad; globals = globals }

same_lists : (a b : DirectiveList) → a.marks ≡ b.marks → a.entries ≡ b.entries → a.bad ≡ b.bad → a.globals ≡ b.globals → a ≡ b
unfolding made
same_lists a b marks entries bad globals =
    ap (λ xs. made xs a.entries a.bad a.globals) marks
    ∙ ap (λ xs. made b.marks xs a.bad a.globals) entries
    ∙ ap (λ xs. made b.marks b.entries xs a.globals) bad
    ∙ ap (λ xs. made b.marks b.entries b.bad xs) globals

pub joined_empty : (a : DirectiveList) → joined a empty_list ≡ a
joined_empty a =
    same_lists (joined a empty_list) a (append-nil a.marks) (append-nil a.entries) (append-nil a.bad) (append-nil a.globals)

pub joined_assoc : (a b c : DirectiveList) → joined (joined a b) c ≡ joined a (joined b c)
joined_assoc a b c =
    same_lists (joined (joined a b) c) (joined a (joined b c)) (append_assoc a.marks b.marks c.marks) (append_assoc a.entries b.entries c.entries)
    (append_assoc a.bad b.bad c.bad) (append_assoc a.globals b.globals c.globals)

globals_cons : (span : Span) (part : List ℕ) (parts : List (List ℕ)) → globals_of span (part ∷ parts) ≡ joined (globals_of span (part ∷ [])) (globals_of span parts)
globals_cons span part parts = cases (global_of part)
  where
    cases : (found : Option (List ℕ × GlobalUse))
        → record empty_list {
          globals = cons_option found (filter_map global_of parts);
          bad = map (bad_of span) (cond (is_none found) (part ∷ filter (λ part. is_none (global_of part)) parts) (filter (λ part. is_none (global_of part)) parts));
        }
        ≡ joined (record empty_list { globals = cons_option found []; bad = map (bad_of span) (cond (is_none found) (part ∷ []) []) }) (globals_of span parts)
    cases None = refl
    cases (Some found) = refl

-- one more part
pub globals_more : (before : DirectiveList) (span : Span) (part : List ℕ) (parts : List (List ℕ)) → joined (joined before (globals_of span (part ∷ []))) (globals_of span parts) ≡ joined before (globals_of span (part ∷ parts))
globals_more before span part parts =
    joined_assoc before (globals_of span (part ∷ [])) (globals_of span parts) ∙ ap (joined before) (sym (globals_cons span part parts))

settings_cons : (span : Span) (part : Characters) (parts : List Characters) → settings_of span (part ∷ parts) ≡ joined (settings_of span (part ∷ [])) (settings_of span parts)
settings_cons span part parts = cases (entry_of part)
  where
    cases : (found : Option Entry)
        → record empty_list {
          entries = cons_option found (filter_map entry_of parts);
          bad = map (λ one. bad_of span one.list) (cond (is_none found) (part ∷ filter (λ one. is_none (entry_of one)) parts) (filter (λ one. is_none (entry_of one)) parts));
        }
        ≡ joined (record empty_list { entries = cons_option found []; bad = map (λ one. bad_of span one.list) (cond (is_none found) (part ∷ []) []) }) (settings_of span parts)
    cases None = refl
    cases (Some found) = refl

pub settings_more : (before : DirectiveList) (span : Span) (part : Characters) (parts : List Characters) → joined (joined before (settings_of span (part ∷ []))) (settings_of span parts) ≡ joined before (settings_of span (part ∷ parts))
settings_more before span part parts =
    joined_assoc before (settings_of span (part ∷ [])) (settings_of span parts) ∙ ap (joined before) (sym (settings_cons span part parts))

-- one more comment
pub directives_more : (before : DirectiveList) (text : Text) (comment : Comment) (comments : List Comment) → joined (joined before (said text comment)) (directives text comments) ≡ joined before (directives text (comment ∷ comments))
directives_more before text comment comments = joined_assoc before (said text comment) (directives text comments)

-- a directive of the other kinds is a mark
pub says_mark : (characters : List ℕ) (span : Span) (rest : Characters) (directive : Directive) → (directive ≡ Setting → ⊥) → (directive ≡ Globals → ⊥) → says characters span rest directive ≡ marks_of (mark_of characters span rest directive)
says_mark characters span rest Disabling a b = refl
says_mark characters span rest Enabling a b = refl
says_mark characters span rest DisablingLine a b = refl
says_mark characters span rest DisablingNextLine a b = refl
says_mark characters span rest Setting a b = absurd (a refl)
says_mark characters span rest Globals a b = absurd (b refl)

module _ (text : Text) (comment : Comment) (inner : Characters) (n : ℕ) (is : inner ≡ text_of (text_bytes text) comment) (here : n ≡ position_or_len is_blank inner.list) where
  found_same : (found : Option Directive) → found ≡ directive_of comment.block (take n inner.list) → found ≡ directive_of comment.block (first_word (text_of (text_bytes text) comment))
  found_same found told =
      told ∙ ap (λ k. directive_of comment.block (take k inner.list)) here ∙ ap (λ part. directive_of comment.block (first_word part)) is

  -- what a comment with a directive says
  pub said_some : (directive : Directive) (rest : Characters) → Some directive ≡ directive_of comment.block (take n inner.list) → rest ≡ behind n inner → says text.characters comment.span rest directive ≡ said text comment
  said_some directive rest told rest-is =
      ap (λ rest. says text.characters comment.span rest directive) (rest-is ∙ ap (λ k. behind k inner) here ∙ ap behind_word is)
      ∙ ap (said_in text.characters comment.span (text_of (text_bytes text) comment)) (found_same (Some directive) told)

  -- and one without says nothing
  pub said_none : None ≡ directive_of comment.block (take n inner.list) → empty_list ≡ said text comment
  said_none told = ap (said_in text.characters comment.span (text_of (text_bytes text) comment)) (found_same None told)
