-- The choice that every plan makes: the greatest worth, and of equals the lowest number.
-- Assumes nothing.
use Rattle.std.specs.Prelude.{ℕ, zero, suc, Bool, cond, not, ◌&&◌, List, ltb}
use Rattle.counting.specs.Words.{◌when◌}
use Rattle.counting.specs.Lists.{has}

-- the lowest of 0, 1, .., m at which f is greatest, and f there
unfoldable pub seek : (ℕ → ℕ) → ℕ → ℕ × ℕ
seek f zero = (0, f 0)
seek f (suc m) =
    let r : ℕ × ℕ = seek f m in
    let y : ℕ = f (suc m) in
    let z : ℕ × ℕ = (suc m, y) in
    cond (ltb r.1 y) z r

-- 0 where a number does not pass the test, and 1 more than its worth where it does
abbrev pub worth_or_none : (ℕ → Bool) → (ℕ → ℕ) → ℕ → ℕ
worth_or_none test worth a = let w : ℕ = suc (worth a) in w when test a

-- of the numbers up to m that pass the test the one of greatest worth, the lowest of equals; 0 where none passes or only 0 does
unfoldable pub greatest : (ℕ → Bool) → (ℕ → ℕ) → ℕ → ℕ
unfolding seek ◌when◌
greatest test worth m = (seek (worth_or_none test worth) m).0

-- whether a number is a site that is not chosen yet
abbrev pub unchosen : List ℕ → ℕ → Bool
unchosen chosen a = ltb 0 a && not (has a chosen)
