-- What the work leaves is what the line has done: source and sink were handed out for it, and came back.
use Rattle.std.proofs.Common.{rules}
use Rattle.rist_words.specs.Shown.{shown}
use Rattle.run_files.specs.Ready.{IsReady}
use Rattle.run_files.proofs.filing.work_over_files.Goals as goal

pub returns-clause-ran : goal.returns-clause-ran
returns-clause-ran g c fresh unopened memory =
    record {
      source = c.in-Ok.source;
      spent = c.work-source.result.source;
      sink = c.in-Ok-sink.sink;
      filled = c.work-source.result.sink;
      took_source = search rules;
      gave_source = search rules;
      took_sink = search rules;
      gave_sink = search rules;
      fresh = search rules;
      work = search rules;
      read = search rules;
      write = search rules;
      random = λ e.
          let still : IsReady g.H.Host.tells (g.H.Host.shelf c.sink.new.self) (shown c.args.line.now) = search rules in
          let failed = c.work-source.ensures.random still e in
          record { words = failed.words; drawn = failed.drawn; took = search rules; gave = search rules; rose = failed.rose };
    }
