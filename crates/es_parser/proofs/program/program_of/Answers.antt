use Rattle.std.proofs.Common.{◌≡◌, ◌∙◌, ap, List, ◌++◌, ◌∷◌, [], length, arith}
use Rattle.es_grammar.specs.declared.draft.Setting.{Setting}
use Rattle.es_text.specs.Texts.{text_bytes}
use Rattle.es_parser.proofs.ProgramLemmas.{program_is, program_low}
use Rattle.es_parser.proofs.program.program_of.Goals as goal

pub unreachable-requires : goal.unreachable-requires
unreachable-requires c =
    let high = rw c.in-None.is at c.in_ok-node-2.ensures.high in
    let low = program_low c.heights.ensures.bare c.heights.ensures.attribute c.heights.ensures.within c.args.items (record { start = 0; end = length c.text.result.now }) c.push.new.self c.requires c.in_ok-children.ensures c.in_ok-node.ensures in
    omega (arith, high, low)

pub returns-clause-program : goal.returns-clause-program
returns-clause-program c =
    let made = rw c.in-Some.is at c.in_ok-node-2.ensures.low in
    let settings : c.push.new.self ≡ c.in_ok-words.field-0 ∷ [] =
    c.in_ok-push.ensures.ok ∙ ap (λ (xs : List Setting). xs ++ c.in_ok-words.field-0 ∷ []) c.new-settings.ensures in
    program_is (text_bytes c.args.source.now) c.args.source_type c.args.items c.text.ensures.bytes c.in_ok-children.ensures c.source_words.ensures c.in_ok-words.ensures settings c.in_ok-node.ensures made
