-- What an ignore list says, and which names are outside.
use Rattle.std.proofs.Common.{◌≡◌, ◌∙◌, ℕ, ◌+◌, ◌<◌, ◌&&◌, ◌||◌, ◌==◌, List, [], ◌∷◌, ◌++◌, drop, length, slice_index_or, cond, refl, ap, sym, subst, inl, inr}
use Rattle.std.specs.Prelude.{Bool, true, false, not, codes}
use Rattle.std.specs.List.{flat_map}
use Rattle.std.specs.Str.{bytes_eq}
use Rattle.std.proofs.lemmas.Bool.{cases_eq, ne_eqb}
use Rattle.std.proofs.lemmas.List.{drop_more}
use Rattle.std.proofs.lemmas.List.Elements.{filter-append}
use Rattle.es_text.specs.Characters.{full_stop, slash}
use Rattle.es_globs.specs.Fitting.{is_none_left}
use Rattle.es_globs.specs.Globs.{Patterns, plain_matches}
use Rattle.es_globs.specs.Patterns.{is_slash, up_to_slash}
use Rattle.es_config.specs.Entries.{Layer, layer_of, layers_of}
use Rattle.es_config.specs.declared.entry.Entry.{Entry}
use Rattle.es_config.specs.Standing.{deciding, general_ignores, is_outside, last_says}

says_append : (before : Bool) (globs more : List Patterns) → last_says before (globs ++ more) ≡ last_says (last_says before globs) more
says_append before [] more = refl
says_append before (glob ∷ globs) more = says_append (not glob.negated) globs more

-- with one more entry in front
pub one_more_says : (name : List ℕ) (said : Bool) (layer : Layer) (layers : List Layer)
    → last_says (last_says said (deciding name (general_ignores layer))) (deciding name (flat_map general_ignores layers))
    ≡ last_says said (deciding name (flat_map general_ignores (layer ∷ layers)))
one_more_says name said layer layers =
    sym (says_append said (deciding name (general_ignores layer)) (deciding name (flat_map general_ignores layers)))
    ∙ ap (last_says said) (sym (filter-append (λ glob. plain_matches glob name) (general_ignores layer) (flat_map general_ignores layers)))

-- one more turn over the entries
pub one_more_turn : (name : List ℕ) (said then_said all : Bool) (entries : List Entry) (i : ℕ) (entry : Entry) (ignores : List Patterns)
    → i < length entries → entry ≡ slice_index_or entries i entry
    → ignores ≡ general_ignores (layer_of entry) → then_said ≡ last_says said (deciding name ignores)
    → last_says said (deciding name (flat_map general_ignores (layers_of (drop i entries)))) ≡ all
    → last_says then_said (deciding name (flat_map general_ignores (layers_of (drop (i + 1) entries)))) ≡ all
one_more_turn name said then_said all entries i entry ignores within is own then_is so_far =
    ap (λ b. last_says b (deciding name (flat_map general_ignores (layers_of (drop (i + 1) entries)))))
    (then_is ∙ ap (λ globs. last_says said (deciding name globs)) own)
    ∙ one_more_says name said (layer_of entry) (layers_of (drop (i + 1) entries))
    ∙ ap (λ es. last_says said (deciding name (flat_map general_ignores (layers_of es))))
    (sym (drop_more entries i entry within ∙ ap (λ e. e ∷ drop (i + 1) entries) (sym is)))
    ∙ so_far

-- where a name begins with another character than `.`
pub outside_other : (c : ℕ) (cs : List ℕ) → (c == full_stop) ≡ false → is_outside (c ∷ cs) ≡ (c == slash)
outside_other c cs other = cases (is_slash c)
  where
    cases : (b : Bool) → (is_none_left (cond b [] (c ∷ up_to_slash cs)) || bytes_eq (cond b [] (c ∷ up_to_slash cs)) (codes "..")) ≡ b
    cases true = refl
    cases false = ap (λ b. b && bytes_eq (up_to_slash cs) (codes ".")) other

-- and where with one
pub outside_dot : is_outside (full_stop ∷ []) ≡ false
outside_dot = refl

eq_nothing : (cs : List ℕ) → bytes_eq cs [] ≡ is_none_left cs
eq_nothing [] = refl
eq_nothing (c ∷ cs) = refl

pub outside_dots : (c : ℕ) (cs : List ℕ) → is_outside (full_stop ∷ c ∷ cs) ≡ ((c == full_stop) && is_none_left (up_to_slash cs))
outside_dots c cs =
    elim (cases_eq c slash) [
      | inl is ↦ subst (λ d. is_outside (full_stop ∷ d ∷ cs) ≡ ((d == full_stop) && is_none_left (up_to_slash cs))) (sym is) refl
      | inr other ↦
          subst (λ b. bytes_eq (cond b [] (c ∷ up_to_slash cs)) (codes ".") ≡ ((c == full_stop) && is_none_left (up_to_slash cs)))
          (sym (ne_eqb c slash other)) (ap (λ b. (c == full_stop) && b) (eq_nothing (up_to_slash cs)))
    ]
