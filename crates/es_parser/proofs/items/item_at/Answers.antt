use Rattle.std.proofs.Common.{◌∙◌, sym, arith}
use Rattle.std.proofs.lemmas.Bool.{lt-ltb, le-ltb}
use Rattle.es_grammar.specs.declared.draft.Outcome.TheVariants.{Not, Deep, Read}
use Rattle.es_grammar.specs.Trees.{at_end, item_of, item_spot, nothing_read, too_deep, too_high, unread}
use Rattle.es_parser.proofs.ProgramLemmas.{ends_there, item_read, read_there}
use Rattle.es_parser.proofs.items.item_at.Goals as goal

pub returns-in-Some-clause-item : goal.returns-in-Some-clause-item
returns-in-Some-clause-item g c = λ draft. at_end c.in-Some.ensures.found c.in-Some.ensures.end

pub returns-in-Not-clause-item : goal.returns-in-Not-clause-item
returns-in-Not-clause-item g c =
    let text = c.args.reader.now in
    let reads = read_there text (item_of c.args.source_type) (item_spot c.args.source_type c.args.at) Not c.in_default.ensures.same c.item_of.ensures c.item_spot-spot.ensures c.in-Not.is c.in_ok-read.ensures.reads in
    λ draft. unread c.in_default.ensures.none reads

pub returns-in-Deep-clause-item : goal.returns-in-Deep-clause-item
returns-in-Deep-clause-item g c =
    let text = c.args.reader.now in
    let reads = read_there text (item_of c.args.source_type) (item_spot c.args.source_type c.args.at) Deep c.in_default.ensures.same c.item_of.ensures c.item_spot-spot.ensures c.in-Deep.is c.in_ok-read.ensures.reads in
    λ draft. too_deep c.in_default.ensures.none reads

pub returns-then-end-at-clause-item : goal.returns-then-end-at-clause-item
returns-then-end-at-clause-item g c =
    let text = c.args.reader.now in
    let reads = read_there text (item_of c.args.source_type) (item_spot c.args.source_type c.args.at) (Read c.in-Read.item c.in-Read.end) c.in_default.ensures.same c.item_of.ensures c.item_spot-spot.ensures c.in-Read.is c.in_ok-read.ensures.reads in
    λ draft. nothing_read c.in_default.ensures.none reads (le-ltb c.args.at c.in-Read.end c.if-end-at.true)

pub returns-then-is_low-clause-item : goal.returns-then-is_low-clause-item
returns-then-is_low-clause-item g c =
    let text = c.args.reader.now in
    let reads = read_there text (item_of c.args.source_type) (item_spot c.args.source_type c.args.at) (Read c.in-Read.item c.in-Read.end) c.in_default.ensures.same c.item_of.ensures c.item_spot-spot.ensures c.in-Read.is c.in_ok-read.ensures.reads in (
      item_read c.in_default.ensures.none reads (lt-ltb c.args.at c.in-Read.end c.if-end-at.false) (sym c.is_low.ensures ∙ c.if-is_low.true),
      omega arith,
      ends_there text (Read c.in-Read.item c.in-Read.end) c.in_default.ensures.same c.in-Read.is c.in_ok-read.ensures.ends,
      sym c.is_low.ensures ∙ c.if-is_low.true,
    )

pub returns-else-is_low-clause-item : goal.returns-else-is_low-clause-item
returns-else-is_low-clause-item g c =
    let text = c.args.reader.now in
    let reads = read_there text (item_of c.args.source_type) (item_spot c.args.source_type c.args.at) (Read c.in-Read.item c.in-Read.end) c.in_default.ensures.same c.item_of.ensures c.item_spot-spot.ensures c.in-Read.is c.in_ok-read.ensures.reads in
    λ draft. too_high c.in_default.ensures.none reads (lt-ltb c.args.at c.in-Read.end c.if-end-at.false) (sym c.is_low.ensures ∙ c.if-is_low.false)
