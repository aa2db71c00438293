-- The two passes of marks, from a start state to the first and the second marks.
use Rattle.std.specs.Prelude.{◌≡◌, ℕ, zero, suc, ◌<◌, ◌≤◌, Bool, List, [], ◌∷◌, map, length, ◌≢◌, slice_index_or}
use Rattle.std.specs.List.{range_with_len}
use Rattle.gates.specs.declared.Mark.{Mark}
use Rattle.gates.specs.declared.Mark.TheVariants.{Zero, One, Unknown}
use Rattle.gates.specs.Marks.{settled, lub, extended}
use Rattle.gates.specs.Kinds.{Kind}
use Rattle.circuit.specs.declared.passes.Pass.{Pass}
use Rattle.circuit.specs.declared.passes.Pass.TheVariants.{First, Second}
use Rattle.circuit.specs.Circuits.{Circuit, size, signal_at, excitation}

-- the excitation, by exact extensions, of the signal at a place
abbrev pub excitation_at : List Kind → Circuit → List Mark → ℕ → Mark
excitation_at ks c ms n = excitation settled extended ks c ms (signal_at c n)

-- the first pass replaces a mark by the least upper bound of it and its excitation, the second by its excitation
abbrev pub next : Pass → Mark → Mark → Mark
next First mark driven = lub mark driven
next Second mark driven = driven

abbrev pub next_at : Pass → List Kind → Circuit → List Mark → ℕ → Mark
next_at pass ks c ms n = next pass (slice_index_or ms n Zero) (excitation_at ks c ms n)

-- one step works out all signals, in sheet order, from the marks before it
unfoldable pub stepped : Pass → List Kind → Circuit → List Mark → List Mark
stepped pass ks c ms = map (next_at pass ks c ms) (range_with_len 0 (size c))

abbrev pub iterate : {A : Type 0} → (A → A) → ℕ → A → A
iterate f zero x = x
iterate f (suc n) x = f (iterate f n x)

-- from `from`, n steps that each change something lead to `to`, where a step changes nothing
pub record Ends {A : Type 0} (step : A → A) (from : A) (n : ℕ) (to : A) : Type 0 where
  pub reached : to ≡ iterate step n from
  pub still : step to ≡ to
  pub moved : (k : ℕ) → k < n → step (iterate step k from) ≢ iterate step k from

-- n steps of the first pass lead from the start state to the first marks, then k steps of the second pass to the second marks
pub record Run (ks : List Kind) (c : Circuit) (start : List Bool) (n : ℕ) (firsts : List Mark) (k : ℕ) (seconds : List Mark) : Type 0 where
  pub first : Ends (stepped First ks c) (map settled start) n firsts
  pub second : Ends (stepped Second ks c) firsts k seconds

-- every circuit has a run
abbrev pub RunExists : Type 0
RunExists =
    (ks : List Kind) (c : Circuit) (start : List Bool) → length start ≡ size c
    → (n k : ℕ) × ((firsts seconds : List Mark) × Run ks c start n firsts k seconds)

-- and only one
abbrev pub RunUnique : Type 0
RunUnique =
    (ks : List Kind) (c : Circuit) (start : List Bool) (n n' k k' : ℕ) (firsts firsts' seconds seconds' : List Mark)
    → Run ks c start n firsts k seconds → Run ks c start n' firsts' k' seconds'
    → (n ≡ n') × (firsts ≡ firsts') × (k ≡ k') × (seconds ≡ seconds')

-- how many marks are unknown
abbrev pub open_count : List Mark → ℕ
open_count [] = 0
open_count (Zero ∷ ms) = open_count ms
open_count (One ∷ ms) = open_count ms
open_count (Unknown ∷ ms) = suc (open_count ms)

-- a mark that is the other mark, or the other is unknown
abbrev pub Below : Mark → Mark → Type 0
Below m Zero = m ≡ Zero
Below m One = m ≡ One
Below m Unknown = Unit {0}

-- every excitation lies below its mark: so it is where the first pass ended, and the second pass keeps it so
abbrev pub Shrinks : List Kind → Circuit → List Mark → Type 0
Shrinks ks c ms = (n : ℕ) → n < size c → Below (excitation_at ks c ms n) (slice_index_or ms n Zero)

-- how many places are unknown in the first list and settled in the second
abbrev pub settled_count : List Mark → List Mark → ℕ
settled_count [] ns = 0
settled_count (m ∷ ms) [] = 0
settled_count (Zero ∷ ms) (n ∷ ns) = settled_count ms ns
settled_count (One ∷ ms) (n ∷ ns) = settled_count ms ns
settled_count (Unknown ∷ ms) (Zero ∷ ns) = suc (settled_count ms ns)
settled_count (Unknown ∷ ms) (One ∷ ns) = suc (settled_count ms ns)
settled_count (Unknown ∷ ms) (Unknown ∷ ns) = settled_count ms ns

-- bounds on the steps of both passes
pub record FewSteps (c : Circuit) (n : ℕ) (firsts : List Mark) (k : ℕ) (seconds : List Mark) : Type 0 where
  -- first-pass steps are at most the unknown first marks
  pub first : n ≤ open_count firsts
  -- second-pass steps are at most the signals with an unknown first mark and a settled second one
  pub second : k ≤ settled_count firsts seconds
  -- neither pass takes more steps than there are signals
  pub first_size : n ≤ size c
  pub second_size : k ≤ size c

abbrev pub StepsFew : Type 0
StepsFew =
    (ks : List Kind) (c : Circuit) (start : List Bool) (n k : ℕ) (firsts seconds : List Mark)
    → length start ≡ size c → Run ks c start n firsts k seconds → FewSteps c n firsts k seconds
