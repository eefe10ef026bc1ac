-- One layer of the search for a chain that gains, a round of Bellman-Ford over sites: a site's price rises to the most that a street's move to it
-- brings, the price of the street's own site included. Only a site that has a share rises. v is the value, d the prices before, D the streets' sites.
-- Assumes nothing.
use Rattle.std.specs.Prelude.{ℕ, ◌+◌, ◌*◌, ◌≤◌, ◌<◌, ◌≡◌, List, length}
use Rattle.counting.specs.Bounds.{most_streets, most_width, most_value, most_price}
use Rattle.counting.specs.Lists.{at}
use Rattle.pairs.specs.Moves.{even}

-- prices, values and a division that a layer can be made of
pub record Layerable (before values division : List ℕ) : Type 0 where
  pub size : length values ≡ length division * length before
  pub sites : (s : ℕ) → s < length division → at division s < length before
  pub small : (i : ℕ) → at values i ≤ most_value
  pub low : (a : ℕ) → at before a ≤ most_price

-- buffers and shares that fit it, for w sites and n streets
pub record Fitting (w n : ℕ) (after via shares : List ℕ) : Type 0 where
  pub after-fits : length after ≡ w
  pub via-fits : length via ≡ w
  pub shares-fit : length shares ≡ w
  pub few : n ≤ most_streets
  pub few-sites : w ≤ most_width

-- a site b of a share after a layer: its price p, and the street t that raised it, n where none did
pub record Site (v : ℕ → ℕ → ℕ) (d D : ℕ → ℕ) (share n b p t : ℕ) : Type 0 where
  pub keeps : d b ≤ p
  pub covers : 0 < share → (s : ℕ) → s < n → d (D s) + v s b ≤ p + v s (D s)
  pub within : t ≤ n
  pub by : t < n → p + v t (D t) ≡ d (D t) + v t b
  pub rose : t < n → d b < p
  pub held : t < n → 0 < share
  pub same : n ≤ t → p ≡ d b

-- all sites after a layer
abbrev pub Layer : (ℕ → ℕ → ℕ) → (ℕ → ℕ) → (ℕ → ℕ) → (ℕ → ℕ) → ℕ → ℕ → (ℕ → ℕ) → (ℕ → ℕ) → Type 0
Layer v d D c n w e t = (b : ℕ) → b < w → Site v d D (c b) n b (e b) (t b)

-- a site while the streets of the sites below `seen` have been looked at
pub record Lift (v : ℕ → ℕ → ℕ) (d D : ℕ → ℕ) (share seen n b p t : ℕ) : Type 0 where
  pub keeps : d b ≤ p
  pub covers : 0 < share → (s : ℕ) → s < n → D s < seen → d (D s) + v s b ≤ p + v s (D s)
  pub within : t ≤ n
  pub by : t < n → p + v t (D t) ≡ d (D t) + v t b
  pub rose : t < n → d b < p
  pub held : t < n → 0 < share
  pub same : n ≤ t → p ≡ d b

-- all sites then
abbrev pub Lifts : (ℕ → ℕ → ℕ) → (ℕ → ℕ) → (ℕ → ℕ) → (ℕ → ℕ) → ℕ → ℕ → ℕ → (ℕ → ℕ) → (ℕ → ℕ) → Type 0
Lifts v d D c seen n w e t = (b : ℕ) → b < w → Lift v d D (c b) seen n b (e b) (t b)

-- the greater of a site's price and what one move more brings, which must be more to win and is counted from `even`
pub record Taking (p t share x u p' t' : ℕ) : Type 0 where
  pub up : 0 < share → p + even < x → p' + even ≡ x
  pub up-street : 0 < share → p + even < x → t' ≡ u
  pub keep : x ≤ p + even → p' ≡ p
  pub keep-street : x ≤ p + even → t' ≡ t
  pub none : share ≡ 0 → p' ≡ p
  pub none-street : share ≡ 0 → t' ≡ t

-- in the middle of a site's turn: the sites below b have seen its streets
pub record Relaxing (v : ℕ → ℕ → ℕ) (d D c : ℕ → ℕ) (a n w b : ℕ) (e t : ℕ → ℕ) : Type 0 where
  pub done : Lifts v d D c (a + 1) n b e t
  pub rest : (k : ℕ) → b ≤ k → k < w → Lift v d D (c k) a n k (e k) (t k)
