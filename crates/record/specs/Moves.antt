-- Firing and adopting: the checks that may stop them, in order, what they do otherwise, and what that has to do with races.
use Rattle.std.specs.Prelude.{◌≡◌, ℕ, Bool, true, false, not, ◌&&◌, ◌||◌, List, [], ◌∷◌, ◌++◌, map, length, is_some, None, Option, ◌==◌}
use Rattle.std.specs.Option.{unwrap_or}
use Rattle.gates.specs.declared.Mark.{Mark}
use Rattle.gates.specs.declared.Mark.TheVariants.{Zero, One, Unknown}
use Rattle.gates.specs.Told.{Stop, first_stop}
use Rattle.circuit.specs.declared.Signal.{Signal}
use Rattle.circuit.specs.declared.Signal.TheVariants as signal
use Rattle.circuit.specs.Changes.{has_signal}
use Rattle.circuit.specs.Passes.{open_count}
use Rattle.races.specs.Races.{State, Race}
use Rattle.races.specs.Fires.{fired}
use Rattle.races.specs.Exact.{Whole}
use Rattle.record.specs.Boards.{Board, changed}
use Rattle.record.specs.Calls.{unless, unjoined_stop, is_unstable}

-- signals are the same if they have the same section and the same number
abbrev pub section_of : Signal → ℕ
section_of (signal.Input i) = 0
section_of (signal.Gate g) = 1
section_of (signal.Wire w) = 2

abbrev pub number_of : Signal → ℕ
number_of (signal.Input i) = i
number_of (signal.Gate g) = g
number_of (signal.Wire w) = w

abbrev pub same_signal : Signal → Signal → Bool
same_signal x y = section_of x == section_of y && number_of x == number_of y

-- a signal stands in a list
abbrev pub listed : List Signal → Signal → Bool
listed [] x = false
listed (y ∷ ys) x = same_signal y x || listed ys x

-- an entry behind earlier ones: 3 if there is no such signal, 7 if it is one of them, 8 if it is stable
abbrev pub entry_stop : Board → List Signal → Signal → Option Stop
entry_stop b earlier x = first_stop (unless (has_signal b.circuit x) 3 ∷ unless (not (listed earlier x)) 7 ∷ unless (is_unstable b x) 8 ∷ [])

-- entry by entry, on the board before the call
abbrev pub entry_stops : Board → List Signal → List Signal → List (Option Stop)
entry_stops b earlier [] = []
entry_stops b earlier (x ∷ xs) = entry_stop b earlier x ∷ entry_stops b (earlier ++ x ∷ []) xs

-- fire: 5, then 6 if the list is empty, then 3, 7 or 8 at the first entry that has one
abbrev pub fire_stop : Board → List Signal → Option Stop
fire_stop b xs = first_stop (unjoined_stop b ∷ unless (not (length xs == 0)) 6 ∷ entry_stops b [] xs)

-- each signal of the list is complemented
abbrev pub signals_fired : Board → List Signal → Board
signals_fired b xs = changed b b.circuit (fired b.circuit xs b.state)

-- a circuit in which both marks of every signal could be worked out, and its values
abbrev pub WholeBoard : Board → Type 0
WholeBoard b = Whole b.circuit b.state

-- what is fired is a race step, and every race step with a signal that changes can be fired
pub record FiresRace (b : Board) : Type 0 where
  pub steps : (xs : List Signal) → fire_stop b xs ≡ None → Race b.kinds b.circuit b.state (signals_fired b xs).state
  pub all : (t : State) → Race b.kinds b.circuit b.state t → (xs : List Signal) × (fire_stop b xs ≡ None) × ((signals_fired b xs).state ≡ t)

abbrev pub FireRaces : Type 0
FireRaces = (b : Board) → WholeBoard b → FiresRace b

-- the second marks that stand
abbrev pub seconds_of : Board → List Mark
seconds_of b = (unwrap_or b.marks ([], [])).1

-- adopt: 9 if no marks stand, 10 if a second mark is unknown
abbrev pub adopt_stop : Board → Option Stop
adopt_stop b = first_stop (unless (is_some b.marks) 9 ∷ unless (open_count (seconds_of b) == 0) 10 ∷ [])

-- the value of a settled mark
abbrev pub settled_value : Mark → Bool
settled_value Zero = false
settled_value One = true
settled_value Unknown = false

-- the second marks are the values
abbrev pub adopted : Board → Board
adopted b = changed b b.circuit (map settled_value (seconds_of b))
