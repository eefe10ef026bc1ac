-- Kilograms and litres, as document 02 has them: what each street brings in a week, what each site can hold, and what is turned down in them. A
-- division is the list of the streets' sites; limits are counted from 0, so the limit of site 1 stands first.
-- Assumes nothing.
use Rattle.std.specs.Prelude.{ℕ, suc, ◌≤◌, ◌<◌, List, ltb, eqb, length}
use Rattle.counting.specs.Words.{◌when◌, ◌or_else◌, first_nonzero}
use Rattle.counting.specs.Lists.{at}
use Rattle.survey.specs.Refusals.{length_refusal}
use Rattle.division.specs.Shares.{division_total}
use Rattle.loads.specs.declared.Loads as code

-- the greatest load of a street, and the greatest limit of a site
abbrev pub most_load : ℕ
most_load = 1000000

-- one kind of load, kilograms or litres: what each street brings, and each site's limit
pub record Load : Type 0 where
  pub streets : List ℕ
  pub limits : List ℕ

abbrev pub load_of : List ℕ → List ℕ → Load
load_of streets limits = record { streets = streets; limits = limits }

-- both kinds
pub record Loads : Type 0 where
  pub kilograms : Load
  pub litres : Load

-- in the order in which a call is lent them
abbrev pub loads_of : List ℕ → List ℕ → List ℕ → List ℕ → Loads
loads_of kilograms litres kilogram_limits litre_limits =
    record { kilograms = load_of kilograms kilogram_limits; litres = load_of litres litre_limits }

-- the loads that a caller lends
abbrev pub loads_lent : code.Loads → Loads
loads_lent l = loads_of l.kilograms.now l.litres.now l.kilogram_limits.now l.litre_limits.now

-- 6: a load of each kind for each street, and a limit of each kind for each site
abbrev pub lengths_refusal : ℕ → ℕ → Loads → ℕ
lengths_refusal n m l =
    length_refusal (length l.kilograms.streets) n or_else
    length_refusal (length l.litres.streets) n or_else
    length_refusal (length l.kilograms.limits) m or_else
    length_refusal (length l.litres.limits) m

-- 21: a load or limit above 1,000,000
abbrev pub above_refusal : List ℕ → ℕ
above_refusal numbers = first_nonzero (length numbers) (λ j. 21 when ltb most_load (at numbers j))

-- in any of the four lists
abbrev pub loads_refusal : Loads → ℕ
loads_refusal l =
    above_refusal l.kilograms.streets or_else
    above_refusal l.litres.streets or_else
    above_refusal l.kilograms.limits or_else
    above_refusal l.litres.limits

-- the sum of a site: over the streets that go to it, what each brings
abbrev pub site_sum : (ℕ → ℕ) → List ℕ → ℕ → ℕ
site_sum brings division site = division_total (λ s a. brings s when eqb a site) division

-- the load of a site
abbrev pub site_load : Load → List ℕ → ℕ → ℕ
site_load l = site_sum (at l.streets)

-- 22 or 23: the load of the site i + 1 is above its limit; an equal one fits
abbrev pub over_refusal : ℕ → Load → List ℕ → ℕ → ℕ
over_refusal number l division i = number when ltb (at l.limits i) (site_load l division (suc i))

-- 22 and 23: the sites by number, at each of them kilograms before litres
abbrev pub limits_refusal : ℕ → Loads → List ℕ → ℕ
limits_refusal m l division = first_nonzero m (λ i. over_refusal 22 l.kilograms division i or_else over_refusal 23 l.litres division i)

-- each site's load of one kind is within its limit
abbrev pub Fits : ℕ → Load → List ℕ → Type 0
Fits m l division = (i : ℕ) → i < m → site_load l division (suc i) ≤ at l.limits i

-- each site's two sums are within its two limits
pub record Within (m : ℕ) (l : Loads) (division : List ℕ) : Type 0 where
  pub kilograms : Fits m l.kilograms division
  pub litres : Fits m l.litres division
