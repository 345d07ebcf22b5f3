use Rattle.std.proofs.Common.{ℕ, List, subst}
use Rattle.es_lexer.specs.Longest.{HasNone, IsLongest}
use Rattle.es_lexer.proofs.punctuator.row_at.Goals as goal

pub returns-in-Some-clause-longest : goal.returns-in-Some-clause-longest
returns-in-Some-clause-longest c =
    let row = c.in-Some.row.now in
    subst (λ (bytes : List ℕ). IsLongest bytes row.code row.text.now) c.as_bytes.ensures.value
    (record {
      at = (c.punctuators-table.ensures.words row.text.now row.code).1 c.in-Some.ensures.row;
      begins = c.in-Some.ensures.longest.prefix;
      most = λ j w at begins. c.in-Some.ensures.longest.longest w j ((c.punctuators-table.ensures.words w j).0 at) begins;
    })

pub returns-in-None-clause-none : goal.returns-in-None-clause-none
returns-in-None-clause-none c =
    subst HasNone c.as_bytes.ensures.value
    (λ k word at prefix. c.in-None.ensures.missing word k ((c.punctuators-table.ensures.words word k).0 at) prefix)
