use Rattle.std.proofs.Common.{◌≡◌}
use Rattle.std.specs.Prelude.{codes, ◌&&◌, ◌||◌}
use Rattle.serde_json.specs.View.{members_view}
use Rattle.es_config.specs.Reading.{has_key, has_only, stands_alone}
use Rattle.es_config.proofs.reading.stands_alone.Given as goal

abbrev pub invariant-loop-key : goal.invariant-loop-key
invariant-loop-key l =
    stands_alone (members_view l.members.entries)
    ≡ ((l.ignores || has_key (codes "ignores") (members_view l.key-iterator)) && has_only (codes "ignores") (codes "name") (members_view l.key-iterator))
