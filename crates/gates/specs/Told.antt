-- What a call tells: its answer, or the number of the check that stopped it with the values that come along.
use Rattle.std.specs.Prelude.{ℕ, List, [], ◌∷◌, Some, None, Option}

pub record Stop : Type 0 where
  pub number : ℕ
  pub values : List ℕ

pub data Told (A : Type 0) : Type 0 where
  answer : A → Told A
  refused : Stop → Told A

-- a stop that brings no values
abbrev pub stop : ℕ → Stop
stop n = record { number = n; values = [] }

-- the first check of a list, in order, that stops a call
abbrev pub first_stop : List (Option Stop) → Option Stop
first_stop [] = None
first_stop (None ∷ checks) = first_stop checks
first_stop (Some s ∷ checks) = Some s

-- a call is refused by the first check that stops it, and else has its answer
abbrev pub told_by : {A : Type 0} → Option Stop → A → Told A
told_by None a = answer a
told_by (Some s) a = refused s

-- a refused call leaves what was there
abbrev pub left_by : {A : Type 0} → Option Stop → A → A → A
left_by None old new = new
left_by (Some s) old new = old
