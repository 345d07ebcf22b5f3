-- Declarations by their scopes.
use Rattle.std.proofs.Common.{◌≡◌, ◌∙◌, ℕ, zero, suc, ◌+◌, ◌<◌, ◌≤◌, List, [], ◌∷◌, ◌++◌, length, map, append_assoc, append-nil, Bool, true, false, refl, ap, sym, arith, eq-eqb}
use Rattle.std.specs.Prelude.{◌==◌, if◌then◌else◌}
use Rattle.std.specs.List.{range_with_len}
use Rattle.std.proofs.lemmas.Bool.{ne_eqb}
use Rattle.std.proofs.lemmas.List.Elements.{filter-append}
use Rattle.es_text.specs.Lists.{pushed_at}
use Rattle.es_scopes.specs.declared.declarations.Declaration.{Declaration}
use Rattle.es_scopes.specs.Declarations.{by_scope, declared_in}
use Rattle.es_scopes.specs.Gathering.{put_all}

-- nothing joins a list that isn't there
pub pushed_at-beyond : {A : Type 0} (lists : List (List A)) (at : ℕ) (item : A) → length lists ≤ at → pushed_at lists at item ≡ lists
pushed_at-beyond [] at item least = refl
pushed_at-beyond (list ∷ lists) zero item least = absurd (omega (arith, least))
pushed_at-beyond (list ∷ lists) (suc at) item least =
    ap (λ rest. list ∷ rest) (pushed_at-beyond lists at item (omega (arith, least)))

pub put_all-append : (lists : List (List Declaration)) (ds es : List Declaration) → put_all lists (ds ++ es) ≡ put_all (put_all lists ds) es
put_all-append lists [] es = refl
put_all-append lists (d ∷ ds) es = put_all-append (pushed_at lists d.scope d) ds es

declared_same : (ds : List Declaration) (d : Declaration) (scope : ℕ) → d.scope ≡ scope → declared_in ds scope ++ d ∷ [] ≡ declared_in (ds ++ d ∷ []) scope
declared_same ds d scope is =
    let passes : (d.scope == scope) ≡ true = eq-eqb d.scope scope is in
    sym (filter-append (λ e. e.scope == scope) ds (d ∷ [])
    ∙ ap (λ (b : Bool). declared_in ds scope ++ (if b then d ∷ [] else [])) passes)

declared_other : (ds : List Declaration) (d : Declaration) (scope : ℕ) → (d.scope ≡ scope → ⊥) → declared_in ds scope ≡ declared_in (ds ++ d ∷ []) scope
declared_other ds d scope never =
    let fails : (d.scope == scope) ≡ false = ne_eqb d.scope scope never in
    sym (filter-append (λ e. e.scope == scope) ds (d ∷ [])
    ∙ ap (λ (b : Bool). declared_in ds scope ++ (if b then d ∷ [] else [])) fails ∙ append-nil (declared_in ds scope))

declared_past : (ds : List Declaration) (d : Declaration) (first count : ℕ) → d.scope < first
    → map (declared_in ds) (range_with_len first count) ≡ map (declared_in (ds ++ d ∷ [])) (range_with_len first count)
declared_past ds d first zero less = refl
declared_past ds d first (suc count) less =
    ap (λ l. l ∷ map (declared_in ds) (range_with_len (first + 1) count)) (declared_other ds d first (λ is. omega (arith, is, less)))
    ∙ ap (λ rest. declared_in (ds ++ d ∷ []) first ∷ rest) (declared_past ds d (first + 1) count (omega (arith, less)))

pushed_from : (ds : List Declaration) (d : Declaration) (first count at : ℕ) → d.scope ≡ first + at
    → pushed_at (map (declared_in ds) (range_with_len first count)) at d ≡ map (declared_in (ds ++ d ∷ [])) (range_with_len first count)
pushed_from ds d first zero at is = refl
pushed_from ds d first (suc count) zero is =
    ap (λ l. l ∷ map (declared_in ds) (range_with_len (first + 1) count)) (declared_same ds d first (omega (arith, is)))
    ∙ ap (λ rest. declared_in (ds ++ d ∷ []) first ∷ rest) (declared_past ds d (first + 1) count (omega (arith, is)))
pushed_from ds d first (suc count) (suc at) is =
    ap (λ l. l ∷ pushed_at (map (declared_in ds) (range_with_len (first + 1) count)) at d) (declared_other ds d first (λ same. omega (arith, is, same)))
    ∙ ap (λ rest. declared_in (ds ++ d ∷ []) first ∷ rest) (pushed_from ds d (first + 1) count at (omega (arith, is)))

-- what joins the lists by scope one after another is in them
pub put_all-by_scope : (count : ℕ) (ds es : List Declaration) → put_all (by_scope count ds) es ≡ by_scope count (ds ++ es)
put_all-by_scope count ds [] = ap (by_scope count) (sym (append-nil ds))
put_all-by_scope count ds (e ∷ es) =
    ap (λ lists. put_all lists es) (pushed_from ds e 0 count e.scope (omega arith))
    ∙ put_all-by_scope count (ds ++ e ∷ []) es
    ∙ ap (by_scope count) (append_assoc ds (e ∷ []) es)
