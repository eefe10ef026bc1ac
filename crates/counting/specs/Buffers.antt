-- The words for what is written into a buffer.
-- Assumes nothing.
use Rattle.std.specs.Prelude.{ℕ, zero, suc, ◌+◌, ◌≤◌, ◌<◌, ◌≡◌, List, [], ◌∷◌, ◌++◌, length, take, drop}
use Rattle.counting.specs.Lists.{at}

-- the lists f 0, f 1, .., f (n - 1), one behind the other
unfoldable pub joined : ℕ → (ℕ → List ℕ) → List ℕ
joined zero f = []
joined (suc n) f = joined n f ++ f n

-- the numbers f 0, f 1, .., f (n - 1)
abbrev pub list_of : ℕ → (ℕ → ℕ) → List ℕ
list_of n f = joined n (λ i. f i ∷ [])

-- a buffer with new bytes laid over it from an index on
unfoldable pub laid : List ℕ → ℕ → List ℕ → List ℕ
laid buffer i new = take i buffer ++ new ++ drop (i + length new) buffer

-- bytes are laid over a buffer from the index i on, all of them fit, and `next` is the index behind them: what every function gives that
-- writes a part of a text or of a file
pub record Written (before : List ℕ) (i : ℕ) (bytes after : List ℕ) (next : ℕ) : Type 0 where
  pub room : i + length bytes ≤ length before
  pub right : after ≡ laid before i bytes
  pub behind : next ≡ i + length bytes

-- what a lent buffer holds after a call: the new bytes where its refusal number is 0, else what it held
abbrev pub after : ℕ → List ℕ → List ℕ → List ℕ
after zero new old = new
after (suc x) new old = old

-- a list whose first n numbers have each become f of the index and of what it was
pub record Mapped (f : ℕ → ℕ → ℕ) (before after : List ℕ) (n : ℕ) : Type 0 where
  pub size : length after ≡ length before
  pub done : (i : ℕ) → i < n → at after i ≡ f i (at before i)
  pub rest : (i : ℕ) → n ≤ i → at after i ≡ at before i
