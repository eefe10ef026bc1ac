-- The words for the table that the tie pass goes by: its values, its prices, and the divisions that fit it.
-- Assumes nothing.
use Rattle.std.specs.Prelude.{ℕ, List, length}
use Rattle.counting.specs.Lists.{at, cell}
use Rattle.queues.specs.declared.price_table.PriceTable.{PriceTable}
use Rattle.queues.specs.Queue.{PricedTable}

-- the value of a site for a street
abbrev pub value_of : PriceTable → ℕ → ℕ → ℕ
value_of table = cell table.values.now (length table.shares.now)

-- the price of a site
abbrev pub price_of : PriceTable → ℕ → ℕ
price_of table = at table.prices.now

-- a division that the table is for
abbrev pub Fits : PriceTable → List ℕ → Type 0
Fits table D = PricedTable table.values.now table.prices.now D (length table.shares.now)
