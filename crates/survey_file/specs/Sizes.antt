-- What a survey file's first record gives.
-- Assumes nothing.
use Rattle.std.specs.Prelude.{ℕ, List}
use Rattle.survey_file.specs.Decode.{streets_in, sites_in, chosen_in, kind_in, form_in}
use Rattle.survey_file.specs.declared.Sizes.{Sizes}

-- the sizes, the kind and the form that a file's town has
abbrev pub sizes_in : List ℕ → Sizes
sizes_in file = record { n = streets_in file; m = sites_in file; k = chosen_in file; kind = kind_in file; new_form = form_in file }
