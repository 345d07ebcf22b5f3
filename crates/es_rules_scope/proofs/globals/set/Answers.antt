use Rattle.std.proofs.Common.{◌≡◌, ◌∙◌, ap, encode_utf8_all}
use Rattle.std.specs.HashMap.{get_by_text}
use Rattle.std.specs.Map.{update}
use Rattle.std.specs.Prelude.{Some}
use Rattle.std.specs.Str.{bytes_eq}
use Rattle.std.specs.String.{string_bytes}
use Rattle.std.proofs.lemmas.Map.Text.{hash_map_updates_text}
use Rattle.es_rules_scope.proofs.globals.set.Goals as goal

pub returns : goal.returns
returns c = λ other.
    let old = c.args.table.now in
    let key : string_bytes c.in_ok-from_str.field-0 ≡ encode_utf8_all c.args.name.now = c.in_ok-from_str.ensures.ok ∙ c.as_str.ensures.bytes in
    hash_map_updates_text (string_bytes c.in_ok-from_str.field-0) old c.insert.new.self (Some c.args.global) c.in_ok-insert.ensures.updates other
    ∙ ap (λ k. update bytes_eq (get_by_text old) k (Some c.args.global) other) key
