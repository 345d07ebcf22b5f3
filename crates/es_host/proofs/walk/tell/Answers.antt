use Rattle.std.proofs.Common.{◌≡◌, ◌∙◌, true, [], ap, sym}
use Rattle.es_host.proofs.LawfulLemmas.{hears-asked}
use Rattle.es_host.specs.Files.{file_of, rows_in}
use Rattle.es_host.specs.Lawful.{hears}
use Rattle.es_host.specs.Walk.{moment}
use Rattle.es_host.proofs.walk.tell.Goals as goal

pub on_node-requires-clause-asked : goal.on_node-requires-clause-asked
on_node-requires-clause-asked g c = λ options events heard.
    let rows = rows_in (file_of c.args.ctx.now) in
    let is : hears rows ((g.R.Rule.meaning c.args.rule.now).interest options) (moment c.args.leaves [] c.args.node) c.args.which ≡ true =
    ap (λ interest. hears rows interest (moment c.args.leaves [] c.args.node) c.args.which) (sym (c.interest.ensures (file_of c.args.ctx.now) options events heard))
    ∙ sym (c.hears.ensures []) ∙ c.if-hears.true in
    hears-asked rows ((g.R.Rule.meaning c.args.rule.now).interest options) (moment c.args.leaves [] c.args.node) c.args.which is
