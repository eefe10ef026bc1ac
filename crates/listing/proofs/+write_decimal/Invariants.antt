use Rattle.listing.proofs.+write_decimal.Given as goal

-- the number, whose tenth is less
abbrev pub decreases-write_decimal : goal.decreases-write_decimal
decreases-write_decimal l = l.x
