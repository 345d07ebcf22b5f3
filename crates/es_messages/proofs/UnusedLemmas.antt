-- Marks that are of no use, as the code finds them.
use Rattle.std.proofs.Common.{◌≡◌, ◌∙◌, ℕ, suc, ◌+◌, ◌-◌, ◌<◌, ◌≤◌, Bool, true, false, not, ◌&&◌, ◌||◌, ◌==◌, cond, List, [], ◌∷◌, ◌++◌, drop, length, map, slice_index_or, refl, sym, ap, subst, arith, Option, None, Some, ⊎_elim}
use Rattle.std.specs.List.{All, AllByRecursion, filter, list_any}
use Rattle.std.proofs.lemmas.Bool.{cases_lt}
use Rattle.std.proofs.lemmas.Bool.Decides.{nat_tests}
use Rattle.std.proofs.lemmas.List.{drop_more, get_or-drop, length-drop}
use Rattle.std.proofs.lemmas.List.Elements.{recursion_from_All}
use Rattle.std.proofs.lemmas.List.Folds.{list_any_at}
use Rattle.es_text.specs.declared.finding.Report.{Report}
use Rattle.es_text.specs.declared.finding.Severity.{Severity}
use Rattle.es_messages.specs.declared.directive.Mark.{Mark}
use Rattle.es_messages.specs.declared.directive.MarkKind.{MarkKind}
use Rattle.es_messages.specs.declared.directive.MarkKind.TheVariants.{Disable, Enable, Line}
use Rattle.es_messages.specs.declared.unused.Standing.{Standing}
use Rattle.es_messages.specs.Standings.{IsLast, Stands, is_use_at, is_used_at, report_of, told_at, told_each, told_of}
use Rattle.es_messages.specs.Suppression.{covers_on, governs, is_disable, is_enable, is_for_line, is_of, is_use, is_used, line_of, lists, once_behind, stops, unused_of, unused_report, uses_of}

one_told : (report : Option (List ℕ) → Report) (used : Bool) (rule : Option (List ℕ)) (kept : List (Option (List ℕ))) → cond used [] (report rule ∷ []) ++ map report kept ≡ map report (cond (not used) (rule ∷ kept) kept)
one_told report true rule kept = refl
one_told report false rule kept = refl

module _ (standings : List Standing) (place : ℕ) (severity : Severity) (mark : Mark) where
  abbrev is_unused : Option (List ℕ) → Bool
  is_unused rule = not (is_used_at standings place mark rule)

  told_step : (stood : Bool) (rule : List ℕ) (rest : List (List ℕ))
      → cond stood [] (told_at standings place severity mark (Some rule)) ++ map (unused_report severity mark) (filter is_unused (map Some rest))
      ≡ map (unused_report severity mark) (filter is_unused (map Some (cond stood rest (rule ∷ rest))))
  told_step true rule rest = refl
  told_step false rule rest =
      one_told (unused_report severity mark) (is_used_at standings place mark (Some rule)) (Some rule) (filter is_unused (map Some rest))

  -- what is told of the rules of a mark, one after the other
  pub each_told : (earlier rules : List (List ℕ)) → told_each standings place severity mark earlier rules ≡ map (unused_report severity mark) (filter is_unused (map Some (once_behind earlier rules)))
  each_told earlier [] = refl
  each_told earlier (rule ∷ rules) =
      ap (λ rest. cond (lists earlier rule) [] (told_at standings place severity mark (Some rule)) ++ rest) (each_told (earlier ++ rule ∷ []) rules)
      ∙ told_step (lists earlier rule) rule (once_behind (earlier ++ rule ∷ []) rules)

  -- what is told of a mark that isn't Enable and lists rules
  pub told_listed : is_enable mark.kind ≡ false → (length mark.rules == 0) ≡ false → told_each standings place severity mark [] mark.rules ≡ told_of standings place severity mark
  told_listed other some =
      each_told [] mark.rules
      ∙ ap (λ uses. map (unused_report severity mark) (filter is_unused uses))
      (sym (ap (λ b. cond b [] (cond (length mark.rules == 0) (None ∷ []) (map Some (once_behind [] mark.rules)))) other
      ∙ ap (λ b. cond b (None ∷ []) (map Some (once_behind [] mark.rules))) some))

-- where a mark governs the report, it is the last one exactly where none behind it does
module _ (line : ℕ) (report : Report) (marks : List Mark) (last : ℕ) (is_last : IsLast line report marks last) where
  governs_behind : (n index : ℕ) (mark : Mark) → n ≤ index → index < length marks → governs line report (slice_index_or marks index mark) ≡ true → list_any (governs line report) (drop n marks) ≡ true
  governs_behind n index mark low within here =
      let inside : index - n < length (drop n marks) = omega (arith, length-drop n marks) in
      let e : n + (index - n) ≡ index = omega arith in
      list_any_at (governs line report) (drop n marks) (index - n) mark inside
      (ap (governs line report) (get_or-drop n marks (index - n) mark ∙ ap (λ k. slice_index_or marks k mark) e) ∙ here)

  clash : true ≡ false → (a b : Bool) → a ≡ b
  clash e a b = cc

  pub last_here : (index : ℕ) (mark : Mark) → index < length marks → mark ≡ slice_index_or marks index mark → governs line report mark ≡ true → (last == index + 1) ≡ not (list_any (governs line report) (drop (index + 1) marks))
  last_here index mark within here yes' =
      ⊎_elim
      (λ (before : last < index + 1).
      let low : last ≤ index = omega arith in
      clash (sym (governs_behind last index mark low within (ap (governs line report) (sym here) ∙ yes')) ∙ is_last.none_behind) _ _)
      (λ (least : index + 1 ≤ last).
      ⊎_elim
      (λ (beyond : index + 1 < last).
      let here_is : governs line report (slice_index_or marks (last - 1) mark) ≡ true = is_last.here (last - 1) mark (omega arith) in
      let inside : last - 1 < length marks = omega (arith, is_last.within) in
      let any : list_any (governs line report) (drop (index + 1) marks) ≡ true = governs_behind (index + 1) (last - 1) mark (omega arith) inside here_is in
      let other : (last == index + 1) ≡ false = grind (arith, nat_tests) in
      other ∙ sym (ap not any))
      (λ (most : last ≤ index + 1).
      let same : last ≡ index + 1 = omega arith in
      let equal : (last == index + 1) ≡ true = grind (arith, nat_tests) in
      equal ∙ sym (ap (λ n. not (list_any (governs line report) (drop n marks))) (sym same) ∙ ap not is_last.none_behind))
      (cases_lt (index + 1) last))
      (cases_lt last (index + 1))

and_same : (a b c : Bool) → (a ≡ true → b ≡ c) → (a && b) ≡ (a && c)
and_same true b c same = same refl
and_same false b c same = refl

module _ (characters : List ℕ) (marks : List Mark) (index : ℕ) (mark : Mark) (rule : Option (List ℕ)) (within : index < length marks) (here : mark ≡ slice_index_or marks index mark) where
  abbrev later : List Mark
  later = drop (index + 1) marks

  kind_same : (kind : MarkKind) → mark.kind ≡ kind → (standing : Standing) → Stands characters marks standing → covers_on standing.line mark (report_of standing) ≡ true
      → (is_for_line kind || (is_disable kind && standing.last == index + 1)) ≡ (is_for_line kind || (is_disable kind && not (list_any (governs standing.line (report_of standing)) later)))
  kind_same Enable is standing stands reached = refl
  kind_same (Line of) is standing stands reached = refl
  kind_same Disable is standing stands reached =
      last_here standing.line (report_of standing) marks standing.last stands.last index mark within here
      (ap (λ kind. not (is_for_line kind) && covers_on standing.line mark (report_of standing)) is ∙ reached)

  use_same : (standing : Standing) → Stands characters marks standing → is_use_at (index + 1) mark rule standing ≡ is_use characters mark later rule (report_of standing)
  use_same standing stands =
      ap (λ b. b && is_of rule (report_of standing))
      (and_same (covers_on standing.line mark (report_of standing)) _ _ (kind_same mark.kind refl standing stands)
      ∙ ap (λ line. stops line (report_of standing) mark later) stands.line)

  uses_same : (standings : List Standing) → AllByRecursion (Stands characters marks) standings → is_used_at standings (index + 1) mark rule ≡ is_used characters mark later (map report_of standings) rule
  uses_same [] all = refl
  uses_same (standing ∷ standings) all =
      ap (λ b. b || is_used_at standings (index + 1) mark rule) (use_same standing all.0)
      ∙ ap (λ b. is_use characters mark later rule (report_of standing) || b) (uses_same standings all.1)

  pub used_same : (standings : List Standing) (reports : List Report) → map report_of standings ≡ reports → All (Stands characters marks) standings → is_used_at standings (index + 1) mark rule ≡ is_used characters mark later reports rule
  used_same standings reports are all =
      uses_same standings (recursion_from_All (Stands characters marks) standings all) ∙ ap (λ reports. is_used characters mark later reports rule) are

same_kept : (p q : Option (List ℕ) → Bool) → ((rule : Option (List ℕ)) → p rule ≡ q rule) → (rules : List (Option (List ℕ))) → filter (λ rule. not (p rule)) rules ≡ filter (λ rule. not (q rule)) rules
same_kept p q same [] = refl
same_kept p q same (rule ∷ rules) =
    ap (λ b. cond (not b) (rule ∷ filter (λ rule. not (p rule)) rules) (filter (λ rule. not (p rule)) rules)) (same rule)
    ∙ ap (λ kept. cond (not (q rule)) (rule ∷ kept) kept) (same_kept p q same rules)

-- what is told of a mark
pub told_same : (characters : List ℕ) (marks : List Mark) (index : ℕ) (mark : Mark) (severity : Severity) (standings : List Standing) (reports : List Report) → index < length marks → mark ≡ slice_index_or marks index mark → map report_of standings ≡ reports → All (Stands characters marks) standings → told_of standings (index + 1) severity mark ≡ unused_of characters reports severity mark (drop (index + 1) marks)
told_same characters marks index mark severity standings reports within here are all =
    ap (map (unused_report severity mark))
    (same_kept (is_used_at standings (index + 1) mark) (is_used characters mark (drop (index + 1) marks) reports)
    (λ rule. used_same characters marks index mark rule within here standings reports are all) (uses_of mark))
