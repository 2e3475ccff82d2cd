-- How the code makes what crosses.
use Rattle.std.specs.Prelude.{ℕ}
use Rattle.format.specs.Refusal.{number_of}
use Rattle.format.specs.declared.refusal.Refusal.{Refusal}
use Rattle.exports.specs.Crossing.{results, told_with}
use Rattle.exports.specs.declared.told.Results.{Results}
use Rattle.exports.specs.declared.told.Told.{Told}

-- at no place: an answer that is given, or 8 with the counts that are needed
abbrev pub told_as : ℕ → ℕ → ℕ → ℕ → Told
told_as n a b c = told_with n 0 (results a b c)

-- a refusal's number and place; the results hold what they held
abbrev pub refused_as : Refusal → Results → Told
refused_as why held = told_with (number_of why.reason) why.place held
