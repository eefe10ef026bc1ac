use native.Mathlib.Omega.{arith}
use lib.ListN.{length}
use Rattle.counting.specs.Lists.{at}
use Rattle.queues.proofs.QueueGrowth.{placed-start}
use Rattle.queues.proofs.queue.Queue.start.Goals as goal

pub returns-clause-placed : goal.returns-clause-placed
returns-clause-placed c =
    let old = c.args.self.now in
    let a = at c.args.division.now c.args.s in
    let clear = c.fill.ensures in
    rw c.from.ensures
    (λ w small. placed-start w a (length old.flags) old.sites c.fill.new.self small (omega arith)
    (omega (arith, clear.len, c.requires.1)) (clear.after (λ y e. e)))
