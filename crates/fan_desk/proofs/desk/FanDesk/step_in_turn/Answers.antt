-- The pass is still that of its link, and knows where a place has ended.
use Rattle.std.proofs.Common.{◌∙◌}
use Rattle.turn_lock.specs.Passes.{Stepped}
use Rattle.fan_desk.specs.declared.told.FanTold.{FanTold}
use Rattle.fan_desk.specs.Rows.{Answers, row_added}
use Rattle.fan_desk.proofs.KnowLemmas.{knows_more}
use Rattle.fan_desk.proofs.OwnLemmas.{cut_seen, ended_stays, still_of}
use Rattle.fan_desk.proofs.desk.FanDesk.step_in_turn.Goals as goal

pub returns : goal.returns
returns g c =
    let ask : FanTold = record { place = c.args.place; told = c.args.told.now } in
    let was = c.args.came.now.items in
    let is = c.step.new.room.items in
    let old = c.args.pass.now in
    let new = c.step.new.pass in
    let s = c.step.ensures.stepped in
    let stepped : Stepped row_added (Answers g.N.FanOrigin.given) old new ask was is tt =
    record { since = s.since; seen = s.seen; own = s.own; number_same = s.number_same; left = s.left; answered = s.answered.rows } in
    record {
      room = s.answered.rows.places ∙ c.requires.room;
      own = still_of c.args.self.now g.N.FanOrigin.given ask was is old new c.requires.own c.step.ensures.own stepped;
      stepped = stepped;
      figured = record { since = s.since; seen = s.seen; own = s.own; number_same = s.number_same; left = s.left; answered = s.answered };
      ends = knows_more g.N.FanOrigin.given g.N.FanOrigin.places ask was is old new stepped (s.answered.rows.places ∙ c.requires.room);
      failed = ended_stays g.N.FanOrigin.given ask was is old new stepped;
      broken = cut_seen g.N.FanOrigin.given ask was is old new stepped;
    }
