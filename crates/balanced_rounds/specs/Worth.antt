-- The worth of a site by its line.
-- Assumes nothing.
use Rattle.std.specs.Prelude.{Bool, false, List, ℕ, get_or}
use Rattle.counting.specs.Words.{◌unless◌}
use Rattle.counting.specs.Lists.{sum}
use Rattle.survey.specs.Rows.{row_at}
use Rattle.tables.specs.Tables.{value_in}
use Rattle.balanced_rounds.specs.declared.table.Table.{Table}
use Rattle.balanced_rounds.specs.Lines.{picked}

-- the summed value of the first q streets of the line that are free, 0 where the site is chosen
abbrev pub line_worth : Table → List ℕ → List Bool → ℕ → ℕ → ℕ
line_worth t division flags q a =
    sum (λ s. value_in t.values.now t.m s a) (picked (row_at t.n t.orders.now a) q division) unless get_or flags a false
