use Rattle.std.proofs.Common.{Some, sym, ap, ◌∙◌}
use Rattle.std.specs.Prelude.{option_map}
use Rattle.std.specs.FinMap as map
use Rattle.es_files.proofs.SeenLemmas.{get-held_of}
use Rattle.es_files.proofs.contents.Contents.get.Goals as goal

pub returns-in-Some : goal.returns-in-Some
returns-in-Some c =
    ap Some c.as_slice.ensures.value ∙ ap (option_map (λ bytes. bytes.items)) c.in-Some.ensures.value
    ∙ sym (get-held_of c.self.inside.files c.args.name.now) ∙ ap (λ held. map.get held c.args.name.now) c.self.view_is

pub returns-in-None : goal.returns-in-None
returns-in-None c =
    ap (option_map (λ bytes. bytes.items)) c.in-None.ensures.value
    ∙ sym (get-held_of c.self.inside.files c.args.name.now) ∙ ap (λ held. map.get held c.args.name.now) c.self.view_is
