-- What linting gives of the parts of a run, one by one.
use Rattle.std.proofs.Common.{◌≡◌, ◌∙◌, ℕ, zero, suc, ◌+◌, ◌*◌, ◌≤◌, List, [], ◌∷◌, ◌++◌, ap, arith, length, length-append, map, mul-le-mul_left, mul-suc, refl, subst, sym}
use Rattle.std.proofs.lemmas.List.{map-append}
use Rattle.std.proofs.lemmas.List.Elements.{filter-append}
use Rattle.std.specs.List.{filter}
use Rattle.std.specs.Prelude.{Vec}
use Rattle.std.specs.declared.alloc.Global.{Global}
use Rattle.es_text.specs.Texts.{text_of}
use Rattle.es_settings.specs.declared.file_config.FileConfig.{FileConfig}
use Rattle.es_settings.specs.declared.mode.Mode.{Mode}
use Rattle.es_settings.specs.Settings.{Settings, settings_of}
use Rattle.es_host.specs.Meanings.{Meaning}
use Rattle.es_messages.specs.declared.message.FileResult.{FileResult}
use Rattle.es_lint.specs.Results as results
use Rattle.es_lint.specs.Results.{AtMost, IsLinted, more, result_of}
use Rattle.es_format.specs.Stylish.{Named}
use Rattle.es_run.specs.declared.gathering.Part.{Part}
use Rattle.es_run.specs.declared.gathering.Part.TheVariants as parts
use Rattle.es_run.specs.Gathering as gathering
use Rattle.es_run.specs.Linting.{ComeToAll, ComesTo, is_source, linted_count}
use Rattle.es_run.specs.Stages.{AreLinted, IsLintedAs, ListenAtMost, ListensAtMost, named_part_in, part_count, part_in}

-- ---- how often a kit listens

-- more and more again
more_more : (first then count : ℕ) → more then (more first count) ≡ more (first + then) count
more_more zero then count = let sum : then ≡ zero + then = omega arith in ap (λ n. more n count) sum
more_more (suc first) zero count = let sum : suc first ≡ suc first + zero = omega arith in ap (λ n. more n count) sum
more_more (suc first) (suc then) count =
    let sum : suc first + suc then ≡ suc (first + suc then) = omega arith in
    subst (λ n. more (suc then) (more (suc first) count) ≡ more n count) (sym sum) (omega arith)

at_most_then : (times later before between now : ℕ) → AtMost times before between → AtMost later between now → AtMost (times + later) before now
at_most_then times later before between now one other =
    let few : one.heard ≤ times = one.few in
    let few' : other.heard ≤ later = other.few in
    record {
      heard = one.heard + other.heard;
      few = omega (arith, few, few');
      lints = other.lints ∙ ap (more other.heard) one.lints ∙ more_more one.heard other.heard before;
    }

at_most_more : (times most before now : ℕ) → times ≤ most → AtMost times before now → AtMost most before now
at_most_more times most before now le one =
    let few : one.heard ≤ times = one.few in
    record { heard = one.heard; few = omega (arith, few, le); lints = one.lints }

pub never : (times count : ℕ) → AtMost times count count
never times count = record { heard = 0; few = omega arith; lints = refl }

-- ---- one part

module _ (meanings : List Meaning) (mode : Mode) where
  of_source : (settings : Settings) (bytes : List ℕ) (before now : ℕ) (told : FileResult) →
      IsLinted meanings settings mode bytes before told now →
      IsLintedAs meanings mode (gathering.source settings bytes) before told now
  of_source settings bytes before now told linted = record {
    heard = linted.fixed.heard;
    comes = (linted.fixed, linted.gives.gives, linted.told, refl);
    only = λ other times comes.
        let same = linted.gives.only comes.0 comes.1 in
        (comes.2 ∙ ap (result_of (text_of bytes).marked) same ∙ sym linted.told, comes.3 ∙ ap (λ fixed. fixed.heard) same);
    lints = linted.lints;
  }

  -- a file that is linted
  pub source_linted : (config : FileConfig) (bytes : Vec ℕ Global) (slice : List ℕ) (part : Part) (before now : ℕ) (told : FileResult) →
      part ≡ parts.Source config bytes → slice ≡ bytes.items → IsLinted meanings (settings_of config) mode slice before told now →
      IsLintedAs meanings mode (part_in part) before told now
  source_linted config bytes slice part before now told is same linted =
      subst (λ (p : Part). IsLintedAs meanings mode (part_in p) before told now) (sym is)
      (of_source (settings_of config) bytes.items before now told
      (subst (λ (b : List ℕ). IsLinted meanings (settings_of config) mode b before told now) same linted))

  of_listening : (settings : Settings) (bytes : List ℕ) (before now : ℕ) →
      results.ListensAtMost meanings settings mode bytes before now → ListensAtMost meanings mode (gathering.source settings bytes) before now
  of_listening settings bytes before now law told heard comes =
      subst (λ times. AtMost times before now) (sym comes.3) (law comes.0 comes.1)

  -- and how often the rules listen for it at most
  pub source_listens : (config : FileConfig) (bytes : Vec ℕ Global) (slice : List ℕ) (part : Part) (before now : ℕ) →
      part ≡ parts.Source config bytes → slice ≡ bytes.items → results.ListensAtMost meanings (settings_of config) mode slice before now →
      ListensAtMost meanings mode (part_in part) before now
  source_listens config bytes slice part before now is same law =
      subst (λ (p : Part). ListensAtMost meanings mode (part_in p) before now) (sym is)
      (of_listening (settings_of config) bytes.items before now
      (subst (λ (b : List ℕ). results.ListensAtMost meanings (settings_of config) mode b before now) same law))

  -- ---- all parts

  -- one part more
  come_more : (done : List gathering.NamedPart) (one : gathering.NamedPart) (told : List Named) (result : FileResult) (first times : ℕ) →
      ComeToAll meanings mode done told first → ComesTo meanings mode one.1 result times →
      ComeToAll meanings mode (done ++ one ∷ []) (told ++ (one.0, result) ∷ []) (first + times)
  come_more [] one told result first times come comes =
      let none : first ≡ 0 = come.1 in
      let sum : first + times ≡ times + 0 = omega (arith, none) in
      (result, times, comes, ([], 0, (refl, refl), ap (λ (list : List Named). list ++ (one.0, result) ∷ []) come.0, sum))
  come_more (part ∷ done) one told result first times come comes =
      let later = come.3 in
      let sum : first ≡ come.1 + later.1 = later.4 in
      let sum' : first + times ≡ come.1 + (later.1 + times) = omega (arith, sum) in (
        come.0,
        come.1,
        come.2,
        (
          later.0 ++ (one.0, result) ∷ [],
          later.1 + times,
          come_more done one later.0 result later.1 times later.2 comes,
          ap (λ (list : List Named). list ++ (one.0, result) ∷ []) later.3,
          sum',
        ),
      )

  -- what first parts come to and what later ones come to
  record Halves (done later : List gathering.NamedPart) (told : List Named) (heard : ℕ) : Type 0 where
    first : List Named
    second : List Named
    times : ℕ
    rest : ℕ
    come : ComeToAll meanings mode done first times
    follow : ComeToAll meanings mode later second rest
    all : told ≡ first ++ second
    sum : heard ≡ times + rest

  halves : (done later : List gathering.NamedPart) (told : List Named) (heard : ℕ) → ComeToAll meanings mode (done ++ later) told heard →
      Halves done later told heard
  halves [] later told heard come = record {
    first = [];
    second = told;
    times = 0;
    rest = heard;
    come = (refl, refl);
    follow = come;
    all = refl;
    sum = omega arith;
  }
  halves (part ∷ done) later told heard come =
      let after = come.3 in
      let found = halves done later after.0 after.1 after.2 in
      let sum : heard ≡ come.1 + after.1 = after.4 in
      let sum' : after.1 ≡ found.times + found.rest = found.sum in
      record {
        first = (part.0, come.0) ∷ found.first;
        second = found.second;
        times = come.1 + found.times;
        rest = found.rest;
        come = (come.0, come.1, come.2, (found.first, found.times, found.come, refl, refl));
        follow = found.follow;
        all = after.3 ∙ ap (λ (list : List Named). (part.0, come.0) ∷ list) found.all;
        sum = omega (arith, sum, sum');
      }

  -- no part
  pub none_linted : (count : ℕ) → AreLinted meanings mode [] count [] count
  none_linted count = record { heard = 0; come = (refl, refl); only = λ others times come. come; lints = refl }

  -- one part more
  pub one_linted : (done : List gathering.NamedPart) (one : gathering.NamedPart) (told : List Named) (result : FileResult) (before between now : ℕ) →
      AreLinted meanings mode done before told between → IsLintedAs meanings mode one.1 between result now →
      AreLinted meanings mode (done ++ one ∷ []) before (told ++ (one.0, result) ∷ []) now
  one_linted done one told result before between now linted last = record {
    heard = linted.heard + last.heard;
    come = come_more done one told result linted.heard last.heard linted.come last.comes;
    only = λ others times come.
        let found = halves done (one ∷ []) others times come in
        let first = linted.only found.first found.times found.come in
        let follow = found.follow in
        let after = follow.3 in
        let second = last.only follow.0 follow.1 follow.2 in
        let same : found.times ≡ linted.heard = first.1 in
        let same' : follow.1 ≡ last.heard = second.1 in
        let nothing : after.1 ≡ 0 = after.2.1 in
        let sum : found.rest ≡ follow.1 + after.1 = after.4 in
        let total : times ≡ found.times + found.rest = found.sum in (
          found.all ∙ ap (λ (list : List Named). list ++ found.second) first.0
              ∙ ap (λ (list : List Named). told ++ list)
              (after.3 ∙ ap (λ (list : List Named). (one.0, follow.0) ∷ list) after.2.0 ∙ ap (λ (r : FileResult). (one.0, r) ∷ []) second.0),
          omega (arith, same, same', nothing, sum, total),
        );
    lints = last.lints ∙ ap (more last.heard) linted.lints ∙ more_more linted.heard last.heard before;
  }

  -- where first ones were linted
  pub some_listen : (all done later : List gathering.NamedPart) (told : List Named) (before now : ℕ) → all ≡ done ++ later →
      AreLinted meanings mode done before told now → ListenAtMost meanings mode all before now
  some_listen all done later told before now is linted results heard come =
      let found = halves done later results heard (subst (λ list. ComeToAll meanings mode list results heard) is come) in
      let same : found.times ≡ linted.heard = (linted.only found.first found.times found.come).1 in
      let total : heard ≡ found.times + found.rest = found.sum in
      record { heard = linted.heard; few = omega (arith, same, total); lints = linted.lints }

  -- and one more, as far as it came
  pub one_listens : (all done : List gathering.NamedPart) (one : gathering.NamedPart) (later : List gathering.NamedPart) (told : List Named)
      (before between now : ℕ) → all ≡ done ++ one ∷ later → AreLinted meanings mode done before told between →
      ListensAtMost meanings mode one.1 between now → ListenAtMost meanings mode all before now
  one_listens all done one later told before between now is linted law results heard come =
      let found = halves done (one ∷ later) results heard (subst (λ list. ComeToAll meanings mode list results heard) is come) in
      let same : found.times ≡ linted.heard = (linted.only found.first found.times found.come).1 in
      let follow = found.follow in
      let total : heard ≡ found.times + found.rest = found.sum in
      let sum : found.rest ≡ follow.1 + follow.3.1 = follow.3.4 in
      at_most_more (linted.heard + follow.1) heard before now (omega (arith, same, total, sum))
      (at_most_then linted.heard follow.1 before between now (record { heard = linted.heard; few = omega arith; lints = linted.lints })
      (law follow.0 follow.1 follow.2))

-- ---- counts over parts

-- so often for each of them
pub most_some : {X : Type 0} (most : ℕ) (all done later : List X) (before now : ℕ) → all ≡ done ++ later →
    AtMost (most * length done) before now → AtMost (most * length all) before now
most_some most all done later before now is few =
    let sum : length all ≡ length done + length later = ap length is ∙ length-append done later in
    at_most_more (most * length done) (most * length all) before now
    (let le : length done ≤ length all = omega (arith, sum) in mul-le-mul_left most le) few

pub most_one : {X : Type 0} (most : ℕ) (all done : List X) (one : X) (later : List X) (before between now : ℕ) → all ≡ done ++ one ∷ later →
    AtMost (most * length done) before between → AtMost most between now → AtMost (most * length all) before now
most_one most all done one later before between now is few last =
    let sum : length all ≡ length done + suc (length later) = ap length is ∙ length-append done (one ∷ later) in
    let step : most * suc (length done) ≡ most * length done + most = mul-suc most (length done) in
    at_most_more (most * length done + most) (most * length all) before now
    (let le : suc (length done) ≤ length all = omega (arith, sum) in subst (λ n. n ≤ most * length all) step (mul-le-mul_left most le))
    (at_most_then (most * length done) most before between now few last)

count_append : (first second : List gathering.NamedPart) → linted_count (first ++ second) ≡ linted_count first + linted_count second
count_append first second = ap length (filter-append is_source first second) ∙ length-append (filter is_source first) (filter is_source second)

counted : (name : List ℕ) (part : Part) → linted_count (named_part_in (name, part) ∷ []) ≡ part_count part
counted name (parts.Source config bytes) = refl
counted name (parts.LeftOut text) = refl

-- how many are linted of first ones, of one more and of the others
pub count_parts : (all done : List (List ℕ × Part)) (one : List ℕ × Part) (later : List (List ℕ × Part)) → all ≡ done ++ one ∷ later →
    linted_count (map named_part_in all)
    ≡ linted_count (map named_part_in done) + (part_count one.1 + linted_count (map named_part_in later))
count_parts all done one later is =
    ap (λ list. linted_count (map named_part_in list)) is ∙ ap linted_count (map-append named_part_in done (one ∷ later))
    ∙ count_append (map named_part_in done) (map named_part_in (one ∷ later))
    ∙ ap (λ n. linted_count (map named_part_in done) + n)
    (count_append (named_part_in one ∷ []) (map named_part_in later)
    ∙ ap (λ n. n + linted_count (map named_part_in later)) (counted one.0 one.1))

-- ---- one turn of a loop over parts

listed_parts : (all done rest : List (List ℕ × Part)) (one : List ℕ × Part) (next : List (List ℕ × Part)) → all ≡ done ++ rest → rest ≡ one ∷ next →
    map named_part_in all ≡ map named_part_in done ++ named_part_in one ∷ map named_part_in next
listed_parts all done rest one next is left =
    ap (map named_part_in) (is ∙ ap (λ list. done ++ list) left) ∙ map-append named_part_in done (one ∷ next)

module _ (meanings met : List Meaning) (same : met ≡ meanings) (mode : Mode) (done : List (List ℕ × Part)) (one : List ℕ × Part)
    (told : List Named) (before between now : ℕ) (linted : AreLinted meanings mode (map named_part_in done) before told between) where
  pub turn_linted : (more : List Named) (result : FileResult) → more ≡ told ++ (one.0, result) ∷ [] →
      IsLintedAs met mode (part_in one.1) between result now →
      AreLinted meanings mode (map named_part_in (done ++ one ∷ [])) before more now
  turn_linted more result pushed last =
      subst (λ (list : List Named). AreLinted meanings mode (map named_part_in (done ++ one ∷ [])) before list now) (sym pushed)
      (subst (λ list. AreLinted meanings mode list before (told ++ (one.0, result) ∷ []) now) (sym (map-append named_part_in done (one ∷ [])))
      (one_linted meanings mode (map named_part_in done) (named_part_in one) told result before between now linted
      (subst (λ (m : List Meaning). IsLintedAs m mode (part_in one.1) between result now) same last)))

  pub turn_listens : (all rest next : List (List ℕ × Part)) → all ≡ done ++ rest → rest ≡ one ∷ next →
      ListensAtMost met mode (part_in one.1) between now → ListenAtMost meanings mode (map named_part_in all) before now
  turn_listens all rest next is left law =
      one_listens meanings mode (map named_part_in all) (map named_part_in done) (named_part_in one) (map named_part_in next) told before between now
      (listed_parts all done rest one next is left) linted
      (subst (λ (m : List Meaning). ListensAtMost m mode (part_in one.1) between now) same law)

pub turn_counted : (done : List (List ℕ × Part)) (one : List ℕ × Part) (before between now : ℕ) →
    between ≡ before + linted_count (map named_part_in done) → now ≡ between + part_count one.1 →
    now ≡ before + linted_count (map named_part_in (done ++ one ∷ []))
turn_counted done one before between now is last =
    let sum = count_parts (done ++ one ∷ []) done one [] refl in
    omega (arith, is, last, sum)
