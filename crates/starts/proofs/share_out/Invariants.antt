use lib.ListN.{length}
use Rattle.shares.specs.Rounds.{round_share}
use Rattle.starts.proofs.ListedShares.{Sharing}
use Rattle.starts.proofs.share_out.Given as goal

abbrev pub invariant-loop-i : goal.invariant-loop-i
invariant-loop-i l = Sharing (round_share l.n (length l.sites)) l.m l.sites l.shares l.i
