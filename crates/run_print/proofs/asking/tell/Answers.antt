use Rattle.std.proofs.Common.{ap, map, rules}
use Rattle.std.specs.List.{concat}
use Rattle.rist_help.specs.Help.{answer_of}
use Rattle.run_print.proofs.asking.tell.Goals as goal

pub returns-clause-printed : goal.returns-clause-printed
unfolding answer_of
returns-clause-printed g c = λ tells fine. record {
  sink = c.in-Ok.sink;
  filled = c.put_pieces-status.new.sink;
  took = search rules;
  gave = search rules;
  fresh = search rules;
  text = concat (map (λ piece. piece.now) c.pieces.result.now);
  holds = ap concat c.pieces.ensures;
  whole = c.put_pieces-status.ensures.whole;
  part = c.put_pieces-status.ensures.part;
  write = c.put_pieces-status.ensures.write;
}
