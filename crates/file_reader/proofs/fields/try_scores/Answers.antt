use mathlib.Core.Path.{◌∙◌}
use Prim.Native.Nat.{◌+◌, ◌*◌, ◌≤◌}
use native.Mathlib.Omega.{arith}
use lib.ListN.{length}
use borrow.Author.Tests.{le-ltb}
use Rattle.counting.proofs.Refusals.{skip}
use Rattle.file_reader.proofs.Tries.{scores-read}
use Rattle.file_reader.proofs.fields.try_scores.Goals as goal

pub returns : goal.returns
returns c =
    let a = c.args in
    let there : 2 + 2 * a.m ≤ length a.rest.now = omega arith in
    skip _ 12 _ _ (le-ltb _ _ there) (c.try_table.ensures ∙ scores-read a.m a.rest.now)
