use Rattle.std.proofs.Common.{rules, take}
use Rattle.run_print.proofs.drilling.write_summary.Goals as goal

pub returns-clause-printed : goal.returns-clause-printed
returns-clause-printed g c = λ tells fine. record {
  sink = c.in-Ok-sink.sink;
  filled = c.put_text-status.new.sink;
  took = search rules;
  gave = search rules;
  fresh = search rules;
  text = take c.in-Ok.length c.summarize.new.out;
  holds = c.in-Ok.ensures.summary;
  whole = c.put_text-status.ensures.whole;
  part = c.put_text-status.ensures.part;
  write = c.put_text-status.ensures.write;
}
