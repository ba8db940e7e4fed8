use Rattle.host_text.proofs.PartLemmas.{none_value, some_value}
use Rattle.host_text.proofs.parts.digits_value.Goals as goal

pub returns : goal.returns
returns c = record {
  some = rw c.ok.ensures.value (some_value c.args.text.now c.parse.result c.parse.ensures.value.0 c.requires.digits);
  none = rw c.ok.ensures.value (none_value c.args.text.now c.parse.result c.parse.ensures.value.0 c.requires.digits);
}
