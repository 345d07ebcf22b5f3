use Rattle.std.proofs.Common.{rules, ◌∙◌, ◌++◌, Err, ap}
use Rattle.std.proofs.lemmas.List.Elements.{All-rest}
use Rattle.es_run.specs.Stages.{IsPrepared}
use Rattle.es_run.proofs.EndingLemmas.{first_of_all, half_is, turn_written, write_failed, write_memoryless}
use Rattle.es_run.proofs.GatheringLemmas.{listed_more}
use Rattle.es_run.proofs.ending.write_files.Goals as goal

pub returns-in-Err-Failed-clause-stopped : goal.returns-in-Err-Failed-clause-stopped
returns-in-Err-Failed-clause-stopped g c =
    let unwritten = c.in-Err-Failed.is ∙ ap Err c.in-Err-Failed.field-0-is in
    write_failed c.args.config.now c.args.writes.items _ _ _ _ _ _ c.in-Some.file c.as_str-in-Err-Failed.result.now c.loop-file.invariant.quiet
    (first_of_all (IsPrepared c.args.config.now) c.in-Some.file c.next.new.self.rest.items c.loop-file.file-iterator.rest.items (search rules)
    c.loop-file.invariant.prepared)
    c.as_str-in-Err-Failed.ensures.value
    (half_is c.args.writes.items c.loop-file.yielded c.in-Some.file _ _ _ c.loop-file.invariant.written c.as_str.result.now c.as_bytes.result.now
    c.as_str.ensures.bytes (c.as_bytes.ensures.value ∙ c.as_str-in-loop-file.ensures.bytes) c.next.new.self.rest.items
    (c.loop-file.invariant.listed ∙ ap (λ list. c.loop-file.yielded ++ list) (search rules)) (c.write.ensures.failed unwritten)
    (c.write.ensures.part unwritten))
    c.tell.ensures.status c.tell.ensures.told

pub returns-in-Err-NoMemory-clause-stopped : goal.returns-in-Err-NoMemory-clause-stopped
returns-in-Err-NoMemory-clause-stopped g c =
    write_memoryless c.args.config.now c.args.writes.items _ _ (g.E.Sink.state c.args.err.now) (g.E.Sink.state c.args.err.now)
    (g.E.Sink.state c.no_memory.new.err) c.no_memory.result c.loop-file.yielded c.loop-file.file-iterator.rest.items _
    c.loop-file.invariant.listed c.loop-file.invariant.written
    (c.write.ensures.no_memory (c.in-Err-NoMemory.is ∙ ap Err c.in-Err-NoMemory.field-0-is)) c.no_memory.ensures

pub loop-file-preserved-in-Ok : goal.loop-file-preserved-in-Ok
loop-file-preserved-in-Ok g c = record {
  written =
      turn_written c.args.writes.items c.loop-file.yielded c.in-Some.file _ _ _ c.loop-file.invariant.written c.as_str.result.now
      c.as_bytes.result.now c.as_str.ensures.bytes (c.as_bytes.ensures.value ∙ c.as_str-in-loop-file.ensures.bytes) c.in-Ok.ensures.ok;
  quiet = c.loop-file.invariant.quiet;
  prepared =
      All-rest (IsPrepared c.args.config.now) c.in-Some.file c.next.new.self.rest.items c.loop-file.file-iterator.rest.items (search rules)
      c.loop-file.invariant.prepared;
  listed =
      listed_more c.args.writes.items c.loop-file.yielded c.loop-file.file-iterator.rest.items c.next.new.self.rest.items c.in-Some.file
      c.loop-file.invariant.listed (search rules);
}

pub loop-file-preserved : goal.loop-file-preserved
loop-file-preserved g c = record {
  written =
      turn_written c.args.writes.items c.loop-file.yielded c.in-Some.file _ _ _ c.loop-file.invariant.written c.as_str.result.now
      c.as_bytes.result.now c.as_str.ensures.bytes (c.as_bytes.ensures.value ∙ c.as_str-in-loop-file.ensures.bytes) c.in-Ok.ensures.ok;
  quiet = c.loop-file.invariant.quiet;
  prepared =
      All-rest (IsPrepared c.args.config.now) c.in-Some.file c.next.new.self.rest.items c.loop-file.file-iterator.rest.items (search rules)
      c.loop-file.invariant.prepared;
  listed =
      listed_more c.args.writes.items c.loop-file.yielded c.loop-file.file-iterator.rest.items c.next.new.self.rest.items c.in-Some.file
      c.loop-file.invariant.listed (search rules);
}
