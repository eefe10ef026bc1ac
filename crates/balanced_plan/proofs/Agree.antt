-- The rounds go by the values of the n streets and the sites up to m, and by how the keys compare for them, alone: what an engine's tables need.
-- Assumes nothing.
use mathlib.Core.Path.{◌≡◌, refl, ap, ◌∙◌}
use mathlib.Core.Bool.{Bool, true, cond}
use mathlib.Core.List.{List, [], ◌∷◌, ◌++◌}
use Prim.Native.Nat.{ℕ, zero, suc, ◌≤◌, ◌<◌}
use native.Mathlib.Nat.{le_antisymm}
use native.Mathlib.Omega.{arith}
use lib.Dec.{ltb}
use lib.ListN.{length, take}
use Rattle.counting.specs.Lists.{has, sum}
use Rattle.counting.specs.Greatest.{unchosen}
use Rattle.counting.proofs.Membership.{has-head, has-tail, sum-le}
use Rattle.counting.proofs.Greatest.{greatest-le, greatest-same}
use Rattle.balanced_plan.specs.Falling.{CompareAlike}
use Rattle.balanced_plan.specs.Rounds.{State, insert, ordered, free, lot, give, worth, choice, taken, rounds}
use Rattle.counting.proofs.Listed.{has-take}
use Rattle.balanced_plan.proofs.Ordered.{ordered-street}
use Rattle.balanced_plan.proofs.RoundShares.{rounds-length}

-- keys that compare alike put a street into a line at the same place
insert-alike : (key lock : ℕ → ℕ) (s : ℕ) (line : List ℕ)
    → ((t : ℕ) → has t line ≡ true → ltb (key s) (key t) ≡ ltb (lock s) (lock t)) → insert key s line ≡ insert lock s line
insert-alike key lock s [] same = refl
insert-alike key lock s (t ∷ line) same =
    rw (same t (has-head t line), insert-alike key lock s line (λ u h. same u (has-tail u t line h))) refl

-- keys that compare alike for the first n streets order them alike
pub ordered-alike : (key lock : ℕ → ℕ) (test : ℕ → Bool) (n : ℕ)
    → ((s t : ℕ) → s < n → t < n → ltb (key s) (key t) ≡ ltb (lock s) (lock t)) → ordered key test n ≡ ordered lock test n
unfolding ordered
ordered-alike key lock test zero same = refl
ordered-alike key lock test (suc n) same =
    let line : List ℕ = ordered lock test n in
    let near : (s : ℕ) → has s line ≡ true → ltb (key n) (key s) ≡ ltb (lock n) (lock s) =
    λ s h. let (l, y) = ordered-street lock test n s h in same n s (omega arith) (omega arith) in
    ap (λ (L : List ℕ). cond (test n) (insert key n L) L) (ordered-alike key lock test n (λ s t l h. same s t (omega arith) (omega arith)))
    ∙ ap (λ (L : List ℕ). cond (test n) L line) (insert-alike key lock n line near)

-- keys that agree do
pub ordered-agree : (key lock : ℕ → ℕ) (test : ℕ → Bool) (n : ℕ) → ((s : ℕ) → s < n → key s ≡ lock s) → ordered key test n ≡ ordered lock test n
ordered-agree key lock test n same = ordered-alike key lock test n (λ s t l h. rw (same s l, same t h) refl)

module _ (v w key lock : ℕ → ℕ → ℕ) (n m : ℕ) (values : (s a : ℕ) → s < n → a ≤ m → v s a ≡ w s a)
    (keys : CompareAlike key lock n m) where
  module _ (q : ℕ) (division : List ℕ) (size : length division ≡ n) where
    -- a site takes the same streets
    lot-alike : (a : ℕ) → a ≤ m → lot key q division a ≡ lot lock q division a
    lot-alike a l =
        ap (take q) (ordered-alike (key a) (lock a) (free division) (length division) (λ s t h i. keys a s t l (omega arith) (omega arith)))

    -- a street that a site takes is one of the first n
    lot-street : (a s : ℕ) → has s (lot lock q division a) ≡ true → s < n
    lot-street a s h =
        let line : List ℕ = ordered (lock a) (free division) (length division) in
        rw size at (ordered-street (lock a) (free division) (length division) s (has-take q s line h)).0

    -- a site is worth the same
    worth-alike : (a : ℕ) → a ≤ m → worth v key q division a ≡ worth w lock q division a
    worth-alike a l =
        let streets : List ℕ = lot lock q division a in
        let near : (s : ℕ) → has s streets ≡ true → v s a ≡ w s a = λ s h. values s a (lot-street a s h) l in
        ap (sum (λ s. v s a)) (lot-alike a l)
        ∙ le_antisymm (sum-le (λ s. v s a) (λ s. w s a) streets (λ s h. omega (arith, near s h)))
        (sum-le (λ s. w s a) (λ s. v s a) streets (λ s h. omega (arith, near s h)))

  -- the choice of a round is the same
  choice-alike : (q : ℕ) (state : State) → length state.division ≡ n → choice v key m q state ≡ choice w lock m q state
  choice-alike q state size =
      greatest-same (unchosen state.chosen) (unchosen state.chosen) (worth v key q state.division) (worth w lock q state.division) m
      (λ a l. refl) (λ a l y. worth-alike q state.division size a l)

  -- so is the state after a round
  taken-alike : (q : ℕ) (state : State) → length state.division ≡ n
      → taken key q state (choice v key m q state) ≡ taken lock q state (choice w lock m q state)
  taken-alike q state size =
      let a : ℕ = choice w lock m q state in
      let high : a ≤ m = greatest-le (unchosen state.chosen) (worth w lock q state.division) m in
      ap (taken key q state) (choice-alike q state size)
      ∙ ap (λ (streets : List ℕ). record { chosen = state.chosen ++ (a ∷ []); division = give a streets state.division })
      (lot-alike q state.division size a high)

-- values that agree and keys that compare alike for the n streets and the sites up to m give the same rounds
pub rounds-alike : (v w key lock : ℕ → ℕ → ℕ) (n m : ℕ) (q : ℕ → ℕ) → ((s a : ℕ) → s < n → a ≤ m → v s a ≡ w s a)
    → CompareAlike key lock n m → (k : ℕ) → rounds v key n m q k ≡ rounds w lock n m q k
unfolding rounds
rounds-alike v w key lock n m q values keys zero = refl
rounds-alike v w key lock n m q values keys (suc k) =
    taken-alike v w key lock n m values keys (q k) (rounds v key n m q k) (rounds-length v key n m q k)
    ∙ ap (λ (state : State). taken lock (q k) state (choice w lock m (q k) state)) (rounds-alike v w key lock n m q values keys k)

-- keys that agree compare alike
pub rounds-agree : (v w key lock : ℕ → ℕ → ℕ) (n m : ℕ) (q : ℕ → ℕ) → ((s a : ℕ) → s < n → a ≤ m → v s a ≡ w s a)
    → ((a s : ℕ) → a ≤ m → s < n → key a s ≡ lock a s) → (k : ℕ) → rounds v key n m q k ≡ rounds w lock n m q k
rounds-agree v w key lock n m q values keys k = rounds-alike v w key lock n m q values (λ a s t l i j. rw (keys a s l i, keys a t l j) refl) k
