-- The words for the queue as it is kept: what its places are, with the table that the pass goes by.
-- Assumes nothing.
use Rattle.std.specs.Prelude.{ℕ, ◌+◌, ◌≡◌, true, List, length, set}
use Rattle.queues.specs.declared.price_table.PriceTable.{PriceTable}
use Rattle.queues.specs.declared.queue.Queue.{Queue}
use Rattle.queues.specs.Priced.{value_of, price_of}
use Rattle.queues.specs.Queue.{Grown, Growing}

-- the queue of s, of which the first i places have been looked at with all streets
abbrev pub GrownTo : PriceTable → List ℕ → ℕ → Queue → ℕ → Type 0
GrownTo table D s q i = Grown (value_of table) (price_of table) D s (length table.shares.now) q.count q.sites q.streets q.nexts q.flags i

-- and the place i with the streets from u on
abbrev pub GrowingTo : PriceTable → List ℕ → ℕ → Queue → ℕ → ℕ → Type 0
GrowingTo table D s q i u = Growing (value_of table) (price_of table) D s (length table.shares.now) q.count q.sites q.streets q.nexts q.flags i u

-- the queue r is q with one place more, which has a street, a next place and a site
pub record Pushed (q r : Queue) (street next site : ℕ) : Type 0 where
  pub streets : r.streets ≡ set q.streets q.count street
  pub nexts : r.nexts ≡ set q.nexts q.count next
  pub sites : r.sites ≡ set q.sites q.count site
  pub flags : r.flags ≡ set q.flags site true
  pub count : r.count ≡ q.count + 1
