-- One place more was told.
use Rattle.std.proofs.Common.{◌∙◌}
use Rattle.fan_desk.proofs.figures.tell_row.Goals as goal

pub loop-v-preserved : goal.loop-v-preserved
loop-v-preserved g c =
    let kept = c.loop-v.invariant.kept in
    let same = c.tell.ensures in
    record {
      kept = record {
        reads_are = same.reads ∙ kept.reads_are;
        ends_are = same.ends ∙ kept.ends_are;
        peers = λ channel. same.peers channel ∙ kept.peers channel;
      };
      taken = same.taken ∙ c.loop-v.invariant.taken;
      faults = same.faults ∙ c.loop-v.invariant.faults;
    }
