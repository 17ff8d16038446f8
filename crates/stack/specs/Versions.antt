-- The versions of a stack file, and their numbers.
use Rattle.std.specs.Prelude.{ℕ, cond, eqb}
use Rattle.terms.specs.Answer.{Answer, refusal, result}
use Rattle.stack.specs.declared.Version.{Version}
use Rattle.stack.specs.declared.Version.TheVariants.{First, Second}

abbrev pub number_in : Version → ℕ
number_in First = 1
number_in Second = 2

-- Refusal 2, "versions other than 1 and 2", or the version that the number stands for.
abbrev pub version_from : ℕ → Answer Version
version_from number = cond (eqb number 1) (result First) (cond (eqb number 2) (result Second) (refusal 2))
