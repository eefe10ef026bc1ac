-- What a survey file holds, and the two forms it may have: the old one, and the new one, which gives the weights.
-- Assumes nothing.
use Rattle.std.specs.Prelude.{ℕ, Bool, true, false, List, eqb, length}
use Rattle.counting.specs.Words.{◌unless◌, first_nonzero}
use Rattle.counting.specs.Lists.{at}
use Rattle.survey.specs.Town.{Town}

-- the form of a file, the town, the number of sites to choose and the kind of plan
pub record Filed : Type 0 where
  pub new_form : Bool
  pub town : Town
  pub k : ℕ
  pub kind : ℕ

abbrev pub filed_of : Bool → Town → ℕ → ℕ → Filed
filed_of new_form t k kind = record { new_form = new_form; town = t; k = k; kind = kind }

-- the same in the form that is wanted
abbrev pub in_form : Bool → Filed → Filed
in_form wanted f = filed_of wanted f.town f.k f.kind

-- 25: a weight that an old file would lose
abbrev pub lost_refusal : ℕ → ℕ
lost_refusal weight = 25 unless eqb weight 1

-- the weights, by street
abbrev pub losses_refusal : List ℕ → ℕ
losses_refusal weights = first_nonzero (length weights) (λ i. lost_refusal (at weights i))

-- where a file of a form is to be made: the new form keeps every weight
abbrev pub form_refusal : Bool → List ℕ → ℕ
form_refusal false weights = losses_refusal weights
form_refusal true weights = 0
