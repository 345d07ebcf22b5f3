use Rattle.std.proofs.Common.{◌≡◌, ◌≤◌, ◌++◌, drop, length, map, string_bytes}
use Rattle.std.specs.Str.{IsCharBoundary}
use Rattle.es_text.specs.SourceFaults.{most_bytes}
use Rattle.es_messages.specs.Fixes.{replaced}
use Rattle.es_messages.specs.NumberedFixes.{CanReplace, seen}
use Rattle.es_messages.proofs.fixing.replace.Given as goal

abbrev pub invariant-loop-one : goal.invariant-loop-one
invariant-loop-one l = record {
  short : length (string_bytes l.made) ≤ most_bytes;
  boundary : IsCharBoundary l.text l.at;
  rest : CanReplace l.text l.at (map seen (drop l.one-index l.taken));
  value : string_bytes l.made ++ replaced l.text l.at (map seen (drop l.one-index l.taken))
      ≡ replaced l.text 0 (map seen l.taken);
}
