-- What the calls of the system's host say beside what any host tells.
use Rattle.outside_host.proofs.SilentLemmas.{nothing_told}
use Rattle.outside_host.proofs.real_host.RealHostHost.TheImpl.Goals as goal

pub source-tells : goal.source-tells
source-tells g x x' x'' x3 x4 c = record { ok = λ told. nothing_told told; err = λ told. nothing_told told; same = λ told. nothing_told told; cause = c.ensures.cause }

pub sink-tells : goal.sink-tells
sink-tells g x x' x'' x3 x4 c = record { ok = λ told. nothing_told told; fresh = c.ensures.fresh; err = λ told. nothing_told told; same = λ told. nothing_told told; cause = c.ensures.cause }

pub back_source-tells : goal.back_source-tells
back_source-tells g x x' x'' x3 x4 c = record { state = λ told. nothing_told told; same = λ told. nothing_told told; cause = c.ensures.cause }

pub link-tells : goal.link-tells
link-tells g x x' x'' x3 x4 c = record { ok = λ told. nothing_told told; fresh = c.ensures.fresh; peers = c.ensures.peers; within = λ told. nothing_told told; err = λ told. nothing_told told; same = λ told. nothing_told told; cause = c.ensures.cause }

pub clock-tells : goal.clock-tells
clock-tells g x x' x'' x3 x4 c = record { ok = λ told. nothing_told told; next = λ told. nothing_told told; within = λ told. nothing_told told; err = λ told. nothing_told told; err_next = λ told. nothing_told told; same = λ told. nothing_told told; cause = c.ensures.cause }

pub entropy-tells : goal.entropy-tells
entropy-tells g x x' x'' x3 x4 c = record { ok = λ told. nothing_told told; next = λ told. nothing_told told; within = λ told. nothing_told told; err = λ told. nothing_told told; err_next = λ told. nothing_told told; same = λ told. nothing_told told; cause = c.ensures.cause }

pub record-tells : goal.record-tells
record-tells g x x' x'' x3 x4 c = record { same = λ told. nothing_told told; cause = c.ensures.cause }

pub statistics-tells : goal.statistics-tells
statistics-tells g x x' x'' x3 x4 c = record { same = λ told. nothing_told told; cause = c.ensures.cause }
