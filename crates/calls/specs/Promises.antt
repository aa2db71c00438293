-- The whole promise of a list of calls on one record.
use Rattle.std.specs.Prelude.{◌≡◌, ℕ, ◌+◌, ◌<◌, ◌≤◌, Bool, ◌↔◌, List, length, Ok, Vec, slice_index_or, Result}
use Rattle.std.specs.declared.alloc.Global.{Global}
use Rattle.gates.specs.declared.Mark.{Mark}
use Rattle.gates.specs.Kinds.{Kind}
use Rattle.gates.specs.Told.{Stop, Told, answer, refused}
use Rattle.circuit.specs.declared.Signal.{Signal}
use Rattle.circuit.specs.Circuits.{Has, size}
use Rattle.circuit.specs.Passes.{open_count, settled_count}
use Rattle.races.specs.Races.{State, Stable, Race, Reachable, Outcome}
use Rattle.races.specs.Exact.{Open, Exact}
use Rattle.sheet.specs.Sheets as text
use Rattle.record.specs.declared.Refusal.{Refusal}
use Rattle.record.specs.Boards.{Board}
use Rattle.calls.specs.declared.Call.{Call}
use Rattle.calls.specs.declared.Call.TheVariants as call
use Rattle.calls.specs.declared.Answer.{Answer}
use Rattle.calls.specs.declared.Answer.TheVariants as given
use Rattle.calls.specs.Tellings.{Given, done, counts, sheet, told_of}
use Rattle.calls.specs.Effects.{first_marks, second_marks, board_at, Answered}

-- v is an open value of a signal along the races of a board, or in their outcome
abbrev pub Along : Board → Signal → Bool → Type 0
Along b x v = Open b.circuit (Reachable b.kinds b.circuit b.state) x v

abbrev pub Lastly : Board → Signal → Bool → Type 0
Lastly b x v = Open b.circuit (Outcome b.kinds b.circuit b.state) x v

-- two boards have as many inputs, gates and wires, and each signal has the same open values, along the races and in the outcome
pub record Alike (a b : Board) : Type 0 where
  pub inputs : length a.circuit.applied ≡ length b.circuit.applied
  pub gates : length a.circuit.gates ≡ length b.circuit.gates
  pub wires : length a.circuit.sources ≡ length b.circuit.sources
  pub along : (x : Signal) → Has a.circuit x → (v : Bool) → Along a x v ↔ Along b x v
  pub lastly : (x : Signal) → Has a.circuit x → (v : Bool) → Lastly a x v ↔ Lastly b x v

-- the bytes are the sheet of a first and a second mark for each signal, which tell its open values along the races and in the outcome
pub record ExactSheet (b : Board) (bytes : List ℕ) : Type 0 where
  pub firsts : List Mark
  pub seconds : List Mark
  pub text : bytes ≡ text.sheet (length b.circuit.applied) (length b.circuit.gates) firsts seconds
  pub each_first : length firsts ≡ size b.circuit
  pub each_second : length seconds ≡ size b.circuit
  pub exact : (x : Signal) → Has b.circuit x → Exact b.kinds b.circuit b.state firsts seconds x

-- the races of a board come to one state, and it is stable
pub record ComesTo (b : Board) (t : State) : Type 0 where
  pub outcome : Outcome b.kinds b.circuit b.state t
  pub only : (o : State) → Outcome b.kinds b.circuit b.state o → o ≡ t
  pub stable : (x : Signal) → Has b.circuit x → Stable b.kinds b.circuit t x

-- what answer i tells
abbrev pub telling : List (Result Answer Refusal) → ℕ → Told Given
telling answers i = told_of (slice_index_or answers i (Ok given.Done))

pub record Promise (ks : List Kind) (calls : List Call) (answers : List (Result Answer Refusal)) : Type 0 where
  -- there is one answer for each call
  pub count : length answers ≡ length calls
  -- each is the answer, or the one refusal, that is defined on the board at that call
  pub each : (i : ℕ) → i < length calls → Answered (board_at ks calls i) (slice_index_or calls i call.AddInput) (telling answers i)
  -- a refused call changes nothing
  pub refusals : (i : ℕ) (s : Stop) → telling answers i ≡ refused s → board_at ks calls (i + 1) ≡ board_at ks calls i
  -- two sheets are equal, byte for byte, exactly if the boards are alike
  pub sheets : (i j : ℕ) (a b : List ℕ) → telling answers i ≡ answer (sheet a) → telling answers j ≡ answer (sheet b)
      → (a ≡ b) ↔ Alike (board_at ks calls i) (board_at ks calls j)
  -- in every sheet the marks are exact
  pub exact : (i : ℕ) (bytes : List ℕ) → telling answers i ≡ answer (sheet bytes) → ExactSheet (board_at ks calls i) bytes
  -- a run's first-pass steps are at most its unknown first marks
  pub first_steps : (i n k left : ℕ) → telling answers i ≡ answer (counts (n, k, left)) → n ≤ open_count (first_marks (board_at ks calls i))
  -- its second-pass steps are at most its signals with an unknown first and a settled second mark
  pub second_steps : (i n k left : ℕ) → telling answers i ≡ answer (counts (n, k, left)) → k ≤ settled_count (first_marks (board_at ks calls i)) (second_marks (board_at ks calls i))
  -- an accepted fire is one race step
  pub fires : (i : ℕ) (signals : Vec Signal Global) → slice_index_or calls i call.AddInput ≡ call.Fire signals → telling answers i ≡ answer done
      → Race (board_at ks calls i).kinds (board_at ks calls i).circuit (board_at ks calls i).state (board_at ks calls (i + 1)).state
  -- an accepted adopt leaves the state that the races come to
  pub adopts : (i : ℕ) → slice_index_or calls i call.AddInput ≡ call.Adopt → telling answers i ≡ answer done → ComesTo (board_at ks calls i) (board_at ks calls (i + 1)).state
