use Rattle.std.proofs.Common.{refl}
use Rattle.es_text.specs.Texts.{text_bytes}
use Rattle.es_grammar.specs.Trees as reading
use Rattle.es_parser.specs.Parsing.{deep, unread}
use Rattle.es_parser.proofs.ParsingLemmas.{ends_lie, judged_fault, judged_parsed, judged_place, judged_spans, place_lies, spans_lie}
use Rattle.es_parser.proofs.parser.parse.Goals as goal

pub parsed-requires-clause-ends : goal.parsed-requires-clause-ends
parsed-requires-clause-ends g c =
    let reads = rw c.in-Whole.is at c.in_ok-tree.ensures.reads in
    ends_lie c.nodes_lie.ensures.answers c.nodes_lie.ensures.ends (text_bytes c.args.source.now) c.args.source_type c.in-Whole.tree c.in-Whole.tokens c.text-text.utf8 c.text-text.ensures.bytes reads

pub returns-in-Unread-clause-fault : goal.returns-in-Unread-clause-fault
returns-in-Unread-clause-fault g c =
    let reads = rw c.in-Unread.is at c.in_ok-tree.ensures.reads in unread c.in-Unread.at reads refl

pub returns-in-Unread-clause-place : goal.returns-in-Unread-clause-place
returns-in-Unread-clause-place g c =
    let reads = rw c.in-Unread.is at c.in_ok-tree.ensures.reads in
    place_lies c.nodes_lie.ensures.answers (text_bytes c.args.source.now) c.args.source_type (reading.Unread c.in-Unread.at) c.text-text.utf8 c.text-text.ensures.bytes reads

pub returns-in-TooDeep-clause-fault : goal.returns-in-TooDeep-clause-fault
returns-in-TooDeep-clause-fault g c =
    let reads = rw c.in-TooDeep.is at c.in_ok-tree.ensures.reads in deep c.in-TooDeep.at reads refl

pub returns-in-TooDeep-clause-place : goal.returns-in-TooDeep-clause-place
returns-in-TooDeep-clause-place g c =
    let reads = rw c.in-TooDeep.is at c.in_ok-tree.ensures.reads in
    place_lies c.nodes_lie.ensures.answers (text_bytes c.args.source.now) c.args.source_type (reading.TooDeep c.in-TooDeep.at) c.text-text.utf8 c.text-text.ensures.bytes reads

pub returns-in_ok-parsed-in-Whole-clause-parsed : goal.returns-in_ok-parsed-in-Whole-clause-parsed
returns-in_ok-parsed-in-Whole-clause-parsed g c =
    let reads = rw c.in-Whole.is at c.in_ok-tree.ensures.reads in
    let made = c.in_ok-parsed-in-Whole.ensures in
    judged_parsed (text_bytes c.args.source.now) c.args.source_type c.in-Whole.tree c.in-Whole.tokens c.in_ok-parsed-in-Whole.parsed c.without_errors.result reads made.tree made.tokens made.comments c.without_errors.ensures.same c.without_errors.ensures.none

pub returns-in_ok-parsed-in-Whole-clause-fault : goal.returns-in_ok-parsed-in-Whole-clause-fault
returns-in_ok-parsed-in-Whole-clause-fault g c =
    let reads = rw c.in-Whole.is at c.in_ok-tree.ensures.reads in
    judged_fault (text_bytes c.args.source.now) c.args.source_type c.in-Whole.tree c.in-Whole.tokens c.in_ok-parsed-in-Whole.parsed.tree c.without_errors.result reads c.in_ok-parsed-in-Whole.ensures.tree c.without_errors.ensures.first

pub returns-in_ok-parsed-in-Whole-clause-spans : goal.returns-in_ok-parsed-in-Whole-clause-spans
returns-in_ok-parsed-in-Whole-clause-spans g c =
    let reads = rw c.in-Whole.is at c.in_ok-tree.ensures.reads in
    let lie = spans_lie c.nodes_lie.ensures.answers c.parts_pass.ensures.rows (text_bytes c.args.source.now) c.args.source_type c.in-Whole.tree c.in-Whole.tokens c.text-text.utf8 c.text-text.ensures.bytes reads c.in_ok-parsed-in-Whole.ensures.tree in
    judged_spans (text_bytes c.args.source.now) c.in_ok-parsed-in-Whole.parsed c.without_errors.result lie c.without_errors.ensures.same

pub returns-in_ok-parsed-in-Whole-clause-place : goal.returns-in_ok-parsed-in-Whole-clause-place
returns-in_ok-parsed-in-Whole-clause-place g c =
    let reads = rw c.in-Whole.is at c.in_ok-tree.ensures.reads in
    let lie = spans_lie c.nodes_lie.ensures.answers c.parts_pass.ensures.rows (text_bytes c.args.source.now) c.args.source_type c.in-Whole.tree c.in-Whole.tokens c.text-text.utf8 c.text-text.ensures.bytes reads c.in_ok-parsed-in-Whole.ensures.tree in
    judged_place c.parts_lie.ensures (text_bytes c.args.source.now) c.args.source_type c.in_ok-parsed-in-Whole.parsed.tree c.without_errors.result lie c.without_errors.ensures.first
