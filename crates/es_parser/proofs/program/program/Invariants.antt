use Rattle.std.proofs.Common.{◌≡◌, true, ◌-◌, length}
use Rattle.std.specs.Str.{IsCharBoundary}
use Rattle.es_text.specs.Texts.{text_bytes}
use Rattle.es_grammar.specs.Drafts.{empty}
use Rattle.es_grammar.specs.Trees.{Answer, ReadsItems, is_low}
use Rattle.es_parser.proofs.program.program.Given as goal

-- whatever is read from here on is read from the beginning
abbrev pub invariant-loop-draft : goal.invariant-loop-draft
invariant-loop-draft g l = record {
  same : l.reader ≡ text_bytes l.source;
  boundary : IsCharBoundary (text_bytes l.source) l.at;
  low : is_low l.draft ≡ true;
  reads : (answer : Answer) → ReadsItems (text_bytes l.source) l.source_type l.at l.draft answer → ReadsItems (text_bytes l.source) l.source_type 0 empty answer;
}

abbrev pub decreases-loop-draft : goal.decreases-loop-draft
decreases-loop-draft g l = length (text_bytes l.source) - l.at
