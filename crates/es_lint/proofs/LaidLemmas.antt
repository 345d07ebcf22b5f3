-- What comments lay over what is set fits the rules still, and the ids of rules.
use Rattle.std.proofs.Common.{◌≡◌, ◌∙◌, ℕ, zero, suc, ◌+◌, ◌<◌, List, [], ◌∷◌, ◌++◌, length, map, take, slice_index_or, ap, refl, sym}
use Rattle.std.specs.Prelude.{Option, Some, None, option_map, slice_get, unwrap_or}
use Rattle.std.proofs.lemmas.List.{take_more}
use Rattle.std.proofs.lemmas.Option.{slice_get-map, slice_get-get_or, slice_get_within}
use Rattle.es_settings.specs.Settings.{unset}
use Rattle.es_settings.specs.Settings.{Setting}
use Rattle.es_host.specs.Files.{File, IsWhole}
use Rattle.es_host.specs.Meanings.{Fits, Meaning, meaning_at}
use Rattle.es_messages.specs.declared.directive.DirectiveList.{DirectiveList}
use Rattle.es_messages.specs.declared.directive.Entry.{Entry}
use Rattle.es_lint.specs.Laid.{rules_under}
use Rattle.es_lint.specs.Lintings.{FitsKit, file_under, ids_of}

module _ (entries : List Entry) where
  length-rules : (ids : List (List ℕ)) (settings : List Setting) → length (rules_under entries ids settings) ≡ length settings
  length-rules [] settings = refl
  length-rules (id ∷ ids) [] = refl
  length-rules (id ∷ ids) (setting ∷ settings) = ap suc (length-rules ids settings)

  -- each rule keeps its options
  same_options : (ids : List (List ℕ)) (settings : List Setting) (place : ℕ)
      → (unwrap_or (slice_get (rules_under entries ids settings) place) unset).options ≡ (unwrap_or (slice_get settings place) unset).options
  same_options [] settings place = refl
  same_options (id ∷ ids) [] place = refl
  same_options (id ∷ ids) (setting ∷ settings) zero = refl
  same_options (id ∷ ids) (setting ∷ settings) (suc place) = same_options ids settings place

pub fits_under : (meanings : List Meaning) (list : DirectiveList) (ids : List (List ℕ)) (file : File)
    → FitsKit meanings file.settings → Fits meanings (file_under list ids file)
fits_under meanings list ids file fits = record {
  count = length-rules list.entries ids file.settings.rules ∙ fits.count;
  fine = λ place within.
      ap (meaning_at meanings place).verdict (same_options list.entries ids file.settings.rules place) ∙ fits.fine place within;
}

-- one more member of a list
take_one : {X : Type 0} (xs : List X) (i : ℕ) (x : X) → slice_get xs i ≡ Some x → take i xs ++ x ∷ [] ≡ take (i + 1) xs
take_one {X} xs i x is =
    let within : i < length xs = slice_get_within xs i x is in
    let same : Some (slice_index_or xs i x) ≡ Some x = sym (slice_get-get_or xs i x within) ∙ is in
    sym (take_more xs i x within ∙ ap (λ y. take i xs ++ y ∷ []) (some_is same))
  where
    some_is : {a b : X} → Some a ≡ Some b → a ≡ b
    some_is h = cc

both_maps : {X Y Z : Type 0} (f : Y → Z) (g : X → Y) (one : Option X) → option_map f (option_map g one) ≡ option_map (λ x. f (g x)) one
both_maps f g None = refl
both_maps f g (Some x) = refl

-- the id of one more rule
pub one_more_id : {R : Type 0} (meaning : R → Meaning) (rules : List R) (place : ℕ) (id : List ℕ)
    → option_map (λ rule. (meaning rule).id) (slice_get rules place) ≡ Some id
    → take place (ids_of (map meaning rules)) ++ id ∷ [] ≡ take (place + 1) (ids_of (map meaning rules))
one_more_id meaning rules place id is =
    take_one (ids_of (map meaning rules)) place id
    (slice_get-map (λ (m : Meaning). m.id) (map meaning rules) place
    ∙ ap (option_map (λ (m : Meaning). m.id)) (slice_get-map meaning rules place)
    ∙ both_maps (λ (m : Meaning). m.id) meaning (slice_get rules place)
    ∙ is)

-- a whole file is whole with other settings, if it is read as before
pub whole_under : (list : DirectiveList) (ids : List (List ℕ)) (file : File) → IsWhole file → IsWhole (file_under list ids file)
whole_under list ids file whole = record {
  parsed = whole.parsed;
  scopes = whole.scopes;
  spans = whole.spans;
  variables = whole.variables;
  references = whole.references;
}
