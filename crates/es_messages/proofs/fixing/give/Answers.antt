use Rattle.std.proofs.Common.{◌≡◌, ◌∙◌, ◌<◌, ◌≤◌, length, map, ap, sym, subst, string_bytes, []}
use Rattle.std.specs.Option.{MatchOption}
use Rattle.std.specs.Str.{encode_utf8_all}
use Rattle.std.proofs.lemmas.Str.{encodes-chars}
use Rattle.es_text.specs.SourceFaults.{most_bytes}
use Rattle.es_messages.specs.Fixes.{Tells, left, made, replaced}
use Rattle.es_messages.specs.NumberedFixes.{seen}
use Rattle.es_messages.proofs.fixing.give.Goals as goal

pub returns-in_ok-flags-in-Some : goal.returns-in_ok-flags-in-Some
returns-in_ok-flags-in-Some c =
    let bytes = replaced c.args.text.now 0 (map seen c.args.taken.now) in
    let told : (length bytes ≤ most_bytes) × (string_bytes c.in-Some.made ≡ bytes) =
    subst (λ found. MatchOption found (most_bytes < length bytes) (λ text. (length bytes ≤ most_bytes) × (string_bytes text ≡ bytes))) c.in-Some.is c.in_ok-made.ensures in
    made told.0
    (ap encode_utf8_all c.in_ok-new-in-Some.ensures ∙ encodes-chars c.as_str.result.now c.as_str.utf8 ∙ (c.as_str.ensures.value ∙ told.1))
    (subst (Tells (map seen c.args.taken.now) c.args.count) (sym c.from_vec.ensures) c.in_ok-flags-in-Some.ensures)

pub returns-in_ok-flags-in-None : goal.returns-in_ok-flags-in-None
returns-in_ok-flags-in-None c =
    let bytes = replaced c.args.text.now 0 (map seen c.args.taken.now) in
    let told : most_bytes < length bytes =
    subst (λ found. MatchOption found (most_bytes < length bytes) (λ text. (length bytes ≤ most_bytes) × (string_bytes text ≡ bytes))) c.in-None.is c.in_ok-made.ensures in
    left told
    (ap encode_utf8_all c.in_ok-new-in-None.ensures ∙ encodes-chars c.args.text.now c.utf8.text)
    (subst (Tells [] c.args.count) (sym c.from_vec-in-None.ensures) c.in_ok-flags-in-None.ensures)
