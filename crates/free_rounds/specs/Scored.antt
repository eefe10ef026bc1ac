-- What a table by site says of the streets and the sites.
-- Assumes nothing.
use Rattle.std.specs.Prelude.{ℕ, ◌*◌}
use Rattle.tables.specs.Tables.{site_value}
use Rattle.free_rounds.specs.declared.table.Table.{Table}
use Rattle.free_rounds.specs.Weighed.{weight_of}

-- the score of a site for a street
abbrev pub scored : Table → ℕ → ℕ → ℕ
scored t s a = site_value t.values.now t.n s a

-- what the site counts for the street: its score times the street's weight
abbrev pub counted : Table → ℕ → ℕ → ℕ
counted t s a = weight_of t.weights s * scored t s a
