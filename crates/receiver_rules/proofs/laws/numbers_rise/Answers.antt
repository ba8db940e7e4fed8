use Rattle.receiver_rules.proofs.HistoryLemmas.{playouts_rise, playout_joined, played_out_grows}
use Rattle.receiver_rules.proofs.laws.numbers_rise.Goals as goal

pub returns-clause-strictly : goal.returns-clause-strictly
returns-clause-strictly c = playouts_rise

pub returns-clause-joined : goal.returns-clause-joined
returns-clause-joined c = playout_joined

pub returns-clause-behind : goal.returns-clause-behind
returns-clause-behind c = played_out_grows
