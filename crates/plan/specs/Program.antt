-- What the program does to its streams, which the contract of `run` cites.
-- Assumes nothing.
use Rattle.std.specs.Prelude.{ℕ, ◌<◌, List, All, Option, IfSome}
use Rattle.std.specs.Io.KnownBytes.{Appends}
use Rattle.printing.specs.Texts.{printed}

-- where the whole input is known, and each number of it is a byte, what is printed for it was written
abbrev pub PrintsFile : Option (List ℕ) → Option (List ℕ) → Option (List ℕ) → Type 0
PrintsFile input old new = IfSome input (λ file. All (λ x. x < 256) file → Appends old new (printed file))
