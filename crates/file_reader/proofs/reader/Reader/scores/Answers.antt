use native.Mathlib.Omega.{arith}
use Rattle.file_reader.proofs.Whole.{past-scores}
use Rattle.file_reader.proofs.reader.Reader.scores.Goals as goal

pub overflow_mul-m : goal.overflow_mul-m
overflow_mul-m c = omega (arith, past-scores _ _ c.args.m c.requires c.in_ok-next.ensures.right-number)

pub overflow_add-m : goal.overflow_add-m
overflow_add-m c = omega (arith, past-scores _ _ c.args.m c.requires c.in_ok-next.ensures.right-number)

pub past-requires : goal.past-requires
past-requires c = past-scores _ _ c.args.m c.requires c.in_ok-next.ensures.right-number
