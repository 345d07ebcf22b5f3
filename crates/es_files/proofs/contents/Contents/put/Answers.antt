use Rattle.std.proofs.Common.{ap, ◌∙◌}
use Rattle.std.specs.Prelude.{string_bytes}
use Rattle.std.specs.FinMap as map
use Rattle.es_files.specs.Seen.{held_of}
use Rattle.es_files.proofs.SeenLemmas.{held_of-insert}
use Rattle.es_files.proofs.contents.Contents.put.Goals as goal

pub returns-clause-ok : goal.returns-clause-ok
returns-clause-ok c =
    let held = held_of c.self.inside.files.entries in
    held_of-insert c.self.inside.files c.insert.new.self (string_bytes c.in_ok-key.key) c.in_ok-copy.copy c.in_ok-insert.ensures.updates
    ∙ ap (λ name. map.insert held name c.in_ok-copy.copy.items) c.in_ok-key.ensures.ok
    ∙ ap (λ bytes. map.insert held c.args.name.now bytes) c.in_ok-copy.ensures.items
    ∙ ap (λ before. map.insert before c.args.name.now c.args.bytes.now) c.self.view_is
