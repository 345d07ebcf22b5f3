-- A rule as the program keeps it, without where it lies in memory.
use Rattle.std.specs.Prelude.{Bool, true, false, map}
use Rattle.es_grammar.specs.declared.part.Alternative.{Alternative}
use Rattle.es_grammar.specs.declared.part.Rule.{Rule}
use Rattle.es_grammar.specs.declared.part.Rule.TheVariants as rule
use Rattle.es_grammar.specs.declared.part.Turns.{Turns as KeptTurns}
use Rattle.es_grammar.specs.Forms.{Row, Turns, Form, Choice, More, Commas, Behind}

abbrev pub row : Alternative → Row
row kept = record { makes = kept.makes; parts = kept.parts.now }

abbrev pub turns : Bool → KeptTurns → Turns
turns taking kept =
    record { conditions = kept.conditions.now; rows = map row kept.rows.now; many = kept.many; taking = taking }

abbrev pub seen : Rule → Form
seen (rule.Choice rows) = Choice (map row rows.now)
seen (rule.More kept) = More (turns false kept)
seen (rule.Commas rows) = Commas (map row rows.now)
seen (rule.Behind head kept) = Behind head (turns true kept)
