use Rattle.std.proofs.Common.{◌≡◌, ◌∙◌, ℕ, ◌-◌, List, drop, length, take, sym, Some}
use Rattle.std.proofs.lemmas.List.{take_rest}
use Rattle.es_globs.specs.Reading.{piece_at}
use Rattle.es_globs.proofs.ReadingLemmas.{read_more}
use Rattle.es_globs.proofs.reading.pieces_of.Goals as goal

pub loop-rest-preserved : goal.loop-rest-preserved
loop-rest-preserved c =
    let behind : List ℕ = take (length c.loop-rest.rest.now - 1) (drop 1 c.loop-rest.rest.now) in
    let found : Some c.in-Some.taken ≡ piece_at c.c-item.result behind = sym c.in-Some.is ∙ c.in_ok-taken.ensures.value in
    read_more c.loop-rest.pieces c.push.new.self c.loop-rest.rest.now behind c.c-item.result c.c-item.result c.in-Some.taken c.in-len1-up.len_at_least c.c-item.is (take_rest c.loop-rest.rest.now 1) found c.in_ok-push.ensures.ok
    ∙ c.loop-rest.invariant
