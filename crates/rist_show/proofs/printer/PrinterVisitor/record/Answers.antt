-- A line that is put is the record's.
use Rattle.std.proofs.Common.{◌∙◌}
use Rattle.capture_file.specs.Heads.{record_of}
use Rattle.rist_show.proofs.LineLemmas.{line_is, wrote, wrote_part, wrote_nothing, on_ok, on_err}
use Rattle.rist_show.proofs.printer.PrinterVisitor.record.Goals as goal

pub returns-in-Ok-clause-sink : goal.returns-in-Ok-clause-sink
returns-in-Ok-clause-sink g c = on_ok c.put_line.result _ _ (λ put done seen.
    wrote c.args.self.now.opener done (record_of c.args.head.now c.args.octets.now) _ _ _
    (c.as_slice.ensures.value ∙ c.in-Ok.ensures.value ∙ line_is c.args.self.now.opener (record_of c.args.head.now c.args.octets.now) c.take-item.result c.take-item.ensures.value)
    put) c.put_line.ensures.ok

pub returns-in-Ok-clause-part : goal.returns-in-Ok-clause-part
returns-in-Ok-clause-part g c = on_err c.put_line.result _ _ (λ put done seen.
    wrote_part c.args.self.now.opener done (record_of c.args.head.now c.args.octets.now) _ _ _
    (c.as_slice.ensures.value ∙ c.in-Ok.ensures.value ∙ line_is c.args.self.now.opener (record_of c.args.head.now c.args.octets.now) c.take-item.result c.take-item.ensures.value)
    put) c.put_line.ensures.err

pub returns-in-Err-clause-part : goal.returns-in-Err-clause-part
returns-in-Err-clause-part g c = λ done seen. wrote_nothing c.args.self.now.opener done (record_of c.args.head.now c.args.octets.now) _
