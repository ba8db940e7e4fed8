use Rattle.std.proofs.Common.{◌≡◌, ◌≤◌, ◌-◌, ◌++◌, take, length}
use Rattle.std.specs.Option.{option_map}
use Rattle.pass_words.specs.Line.{behind_line, line_of}
use Rattle.pass_words.proofs.line.first_line.Given as goal

abbrev pub invariant-loop-octet : goal.invariant-loop-octet
invariant-loop-octet g l = record {
  within : l.count ≤ 129;
  whole : length l.line ≡ 129;
  line : option_map line_of (g.S.Source.remaining l.fn.source)
      ≡ option_map (λ rest. take l.count l.line ++ line_of rest) (g.S.Source.remaining l.source);
  behind : option_map behind_line (g.S.Source.remaining l.fn.source) ≡ option_map behind_line (g.S.Source.remaining l.source);
  faults : g.S.Source.faults l.source ≡ g.S.Source.faults l.fn.source;
}

abbrev pub decreases-loop-octet : goal.decreases-loop-octet
decreases-loop-octet g l = 129 - l.count
