-- One place more was written, or a part of it.
use Rattle.std.proofs.Common.{◌≡◌, ◌++◌, option_map, ◌∙◌, subst}
use Rattle.rist_ends.proofs.SteppingLemmas.{on_err_always}
use Rattle.rist_desk.specs.Sending.{written}
use Rattle.rist_desk.specs.Links.{SentPart}
use Rattle.rist_fan.specs.declared.flow.Came.{Came}
use Rattle.fan_desk.specs.Made.{outs_of_came}
use Rattle.fan_desk.proofs.WriteLemmas.{wrote_more, wrote_part}
use Rattle.fan_desk.proofs.sending.send_each.Goals as goal

pub returns-in_err-send_came-clause-err : goal.returns-in_err-send_came-clause-err
returns-in_err-send_came-clause-err g c =
    let link = c.args.link.now in
    let knows = g.L.Link.knows link in
    let now = g.L.Link.knows c.loop-v.link in
    let came = c.args.came.now in
    let here = c.index-came-v.result in
    let before = g.L.Link.taken c.loop-v.link in
    let after = g.L.Link.taken c.send_came.new.link in
    on_err_always c.from_residual.result _
    (wrote_part knows now came c.loop-v.v here (g.L.Link.taken link) before after c.loop-v-test.true c.loop-v.invariant.kept.peers c.loop-v.invariant.taken
    (subst (λ (x : Came). SentPart now (outs_of_came x) before after) c.index-came-v.is c.in_err-send_came.ensures.err))

pub loop-v-preserved : goal.loop-v-preserved
loop-v-preserved g c =
    let link = c.args.link.now in
    let knows = g.L.Link.knows link in
    let now = g.L.Link.knows c.loop-v.link in
    let came = c.args.came.now in
    let here = c.index-came-v.result in
    let before = g.L.Link.taken c.loop-v.link in
    let after = g.L.Link.taken c.send_came.new.link in
    let kept = c.loop-v.invariant.kept in
    let same = c.in_ok-send_came.ensures.same in
    record {
      kept = record {
        reads_are = same.reads_are ∙ kept.reads_are;
        ends_are = same.ends_are ∙ kept.ends_are;
        peers = λ channel. same.peers channel ∙ kept.peers channel;
      };
      faults = c.in_ok-send_came.ensures.cause ∙ c.loop-v.invariant.faults;
      taken = wrote_more knows now came c.loop-v.v here (g.L.Link.taken link) before after c.loop-v-test.true kept.peers c.loop-v.invariant.taken
          (subst (λ (x : Came). after ≡ option_map (λ t. t ++ written now (outs_of_came x)) before) c.index-came-v.is c.in_ok-send_came.ensures.ok);
    }
