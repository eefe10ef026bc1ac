-- A table of 256 flags, one for each byte, in place of a scan of a list of bytes.
-- Assumes nothing.
use Rattle.std.specs.Prelude.{ℕ, ◌<◌, ◌≡◌, Bool, false, List, length, get_or}
use Rattle.counting.specs.Lists.{has}

-- the flag of each byte says whether it stands in the list
pub record Flags (flags : List Bool) (list : List ℕ) : Type 0 where
  pub size : length flags ≡ 256
  pub right : (x : ℕ) → x < 256 → get_or flags x false ≡ has x list
