-- Laws of the loop that numbers the sites: site 0 has the number 0, a site without a share gets none, one with a share gets the next.
-- Assumes nothing.
use mathlib.Core.Path.{◌≡◌, refl, sym, ◌∙◌}
use mathlib.Core.Logic.{by_cases}
use mathlib.Core.List.{List}
use Prim.Native.Nat.{ℕ, ◌+◌, ◌≤◌, ◌<◌}
use native.Mathlib.Decide.{ℕ_discrete}
use native.Mathlib.Omega.{arith}
use borrow.Author.Count.{below_more}
use lib.ListN.{length, take, set, length-set}
use lib.Seq.{length-take-le, get_or-take, get_or-set_same, get_or-set_other}
use Rattle.counting.specs.Lists.{at}
use Rattle.compact.specs.Numbered.{Numbered}

module _ {shares sites numbers few : List ℕ} where
  -- site 0 has no share, and the number 0
  pub numbered-start : (at sites 0 ≡ 0) × (at numbers 0 ≡ 0) × (at few 0 ≡ 0) → at shares 0 ≡ 0 → Numbered shares sites numbers few 1 1
  numbered-start (e, f, g) nobody =
      record {
        some = omega arith;
        front = e;
        fewer = omega arith;
        site = λ j l. rw (at_zero j l, e) (omega arith);
        shared = λ j l. rw (at_zero j l, e) (g ∙ sym nobody);
        back = λ j l. rw (at_zero j l, e) f;
        rises = λ i j l h. absurd (omega arith);
        number = λ b l h. absurd (omega (arith, rw (at_zero b l) at h));
      }
    where
      at_zero : (j : ℕ) → j < 1 → j ≡ 0
      at_zero j l = omega arith

  module _ {a k : ℕ} (h : Numbered shares sites numbers few a k) where
    -- a site without a share
    pub numbered-skip : at shares a ≡ 0 → Numbered shares sites numbers few (a + 1) k
    numbered-skip e =
        record {
          some = h.some;
          front = h.front;
          fewer = omega (arith, h.fewer);
          site = λ j l. omega (arith, h.site j l);
          shared = h.shared;
          back = h.back;
          rises = h.rises;
          number = below_more (λ b. 0 < at shares b → (at numbers b < k) × (at sites (at numbers b) ≡ b)) a h.number (λ l. absurd (omega arith));
        }

    -- the shares by the numbers are the front of their buffer
    pub numbered-front : k ≤ length few → Numbered shares sites numbers (take k few) a (length (take k few))
    numbered-front l =
        rw (length-take-le k few l) (record {
          some = h.some;
          front = h.front;
          fewer = h.fewer;
          site = h.site;
          shared = λ j m. get_or-take k few j 0 m ∙ h.shared j m;
          back = h.back;
          rises = h.rises;
          number = h.number;
        })

    -- a site with a share: it is stored at k, its number and its share with it, and all before stays
    module _ (sites-fit : a < length sites) (numbers_fit : a < length numbers) (few-fit : a < length few) where
      old-site : (j : ℕ) → j < k → at (set sites k a) j ≡ at sites j
      old-site j m = get_or-set_other sites k j a 0 (λ q. omega arith)

      new-site : at (set sites k a) k ≡ a
      new-site = get_or-set_same sites k a 0 (omega (arith, h.fewer))

      old-number : (b : ℕ) → b < a → at (set numbers a k) b ≡ at numbers b
      old-number b m = get_or-set_other numbers a b k 0 (λ q. omega arith)

      new-number : at (set numbers a k) a ≡ k
      new-number = get_or-set_same numbers a k 0 numbers_fit

      old-share : (j : ℕ) → j < k → at (set few k (at shares a)) j ≡ at few j
      old-share j m = get_or-set_other few k j (at shares a) 0 (λ q. omega arith)

      new-share : at (set few k (at shares a)) k ≡ at shares a
      new-share = get_or-set_same few k (at shares a) 0 (omega (arith, h.fewer))

      -- the new site is above the others
      low : (i j : ℕ) → i < j → j < k + 1 → at (set sites k a) i < at (set sites k a) j
      low i j less m =
          by_cases (ℕ_discrete j k) (λ q. rw (q, new-site, old-site i (omega arith)) (h.site i (omega arith)))
          (λ d. rw (old-site i (omega arith), old-site j (omega arith)) (h.rises i j less (omega arith)))

      -- the site has the next number
      pub numbered_more : Numbered shares (set sites k a) (set numbers a k) (set few k (at shares a)) (a + 1) (k + 1)
      numbered_more =
          record {
            some = omega arith;
            front = old-site 0 h.some ∙ h.front;
            fewer = omega (arith, h.fewer);
            site = below_more (λ j. at (set sites k a) j < a + 1) k (λ j m. rw (old-site j m) (omega (arith, h.site j m))) (rw new-site (omega arith));
            shared = below_more (λ j. at (set few k (at shares a)) j ≡ at shares (at (set sites k a) j)) k
                (λ j m. rw (old-site j m, old-share j m) (h.shared j m)) (rw (new-site, new-share) refl);
            back = below_more (λ j. at (set numbers a k) (at (set sites k a) j) ≡ j) k
                (λ j m. rw (old-site j m, old-number (at sites j) (h.site j m)) (h.back j m)) (rw (new-site, new-number) refl);
            rises = low;
            number = below_more (λ b. 0 < at shares b → (at (set numbers a k) b < k + 1) × (at (set sites k a) (at (set numbers a k) b) ≡ b)) a
                (λ b m s. let (u, e) = h.number b m s in rw (old-number b m, old-site (at numbers b) u) (omega arith, e))
                (λ s. rw (new-number, new-site) (omega arith, refl));
          }

-- what the loop has come to at the site a: the buffers are as long as they were, and the sites before a are numbered
pub record Kept (shares : List ℕ) (p q r : ℕ) (sites numbers few : List ℕ) (a k : ℕ) : Type 0 where
  pub sites-size : length sites ≡ p
  pub numbers-size : length numbers ≡ q
  pub few-size : length few ≡ r
  pub numbered : Numbered shares sites numbers few a k

module _ {shares : List ℕ} {p q r : ℕ} {sites numbers few : List ℕ} {a k : ℕ} (h : Kept shares p q r sites numbers few a k) where
  -- a turn at a site with a share
  pub kept_more : a < p → a < q → a < r → {S N F : List ℕ} {j : ℕ} → S ≡ set sites k a → N ≡ set numbers a k → F ≡ set few k (at shares a) → j ≡ k + 1
      → Kept shares p q r S N F (a + 1) j
  kept_more l m n e f g i =
      rw (e, f, g, i) (record {
        sites-size = length-set sites k a ∙ h.sites-size;
        numbers-size = length-set numbers a k ∙ h.numbers-size;
        few-size = length-set few k (at shares a) ∙ h.few-size;
        numbered = numbered_more h.numbered (omega (arith, h.sites-size)) (omega (arith, h.numbers-size)) (omega (arith, h.few-size));
      })

  -- a turn at a site without one
  pub kept-skip : at shares a ≡ 0 → {S N F : List ℕ} {j : ℕ} → S ≡ sites → N ≡ numbers → F ≡ few → j ≡ k → Kept shares p q r S N F (a + 1) j
  kept-skip l e f g i =
      rw (e, f, g, i) (record {
        sites-size = h.sites-size;
        numbers-size = h.numbers-size;
        few-size = h.few-size;
        numbered = numbered-skip h.numbered l;
      })
