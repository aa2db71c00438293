-- What an answer tells: the number of a refusal with its values, or what the call gives.
use Rattle.std.specs.Prelude.{ℕ, Bool, List, vec_items, Ok, Err, Result}
use Rattle.gates.specs.declared.Mark.{Mark}
use Rattle.gates.specs.Told.{Told, answer, refused}
use Rattle.record.specs.Answers.{stop_of}
use Rattle.record.specs.declared.Refusal.{Refusal}
use Rattle.calls.specs.declared.Answer.{Answer}
use Rattle.calls.specs.declared.Answer.TheVariants as given

-- what calls give
pub data Given : Type 0 where
  -- the number of a new input or gate
  number : ℕ → Given
  done : Given
  unstable : Bool → Given
  -- first-pass steps, second-pass steps and the open count
  counts : ℕ × ℕ × ℕ → Given
  -- a first and a second mark
  marks : Mark × Mark → Given
  -- the bytes of a sheet
  sheet : List ℕ → Given

-- what an answer gives
abbrev pub given_of : Answer → Given
given_of (given.Number n) = number n
given_of given.Done = done
given_of (given.Unstable b) = unstable b
given_of (given.Ran n k left) = counts (n, k, left)
given_of (given.Marks m n) = marks (m, n)
given_of (given.Sheet bytes) = sheet (vec_items bytes)

-- a refusal tells its number and its values
abbrev pub told_of : Result Answer Refusal → Told Given
told_of (Ok a) = answer (given_of a)
told_of (Err r) = refused (stop_of r)
