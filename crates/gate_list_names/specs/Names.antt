-- Names in a text by place and length, and the first of some names that is a given one.
use Rattle.std.specs.Prelude.{◌≡◌, ℕ, ◌<◌, List, [], map, length, take, drop, Some, None, Option, ◌≢◌, slice_index_or}
use Rattle.gate_list_names.specs.declared.InputEntry.{InputEntry}
use Rattle.gate_list_names.specs.declared.GateEntry.{GateEntry}

abbrev pub at : List ℕ → ℕ → ℕ → List ℕ
at text place size = take size (drop place text)

-- the names that a table's entries give
abbrev pub names_in : {E : Type 0} → (E → ℕ) → (E → ℕ) → List ℕ → List E → List (List ℕ)
names_in start size text table = map (λ e. at text (start e) (size e)) table

abbrev pub input_names_in : List ℕ → List InputEntry → List (List ℕ)
input_names_in = names_in (λ (e : InputEntry). e.place) (λ (e : InputEntry). e.length)

abbrev pub gate_names_in : List ℕ → List GateEntry → List (List ℕ)
gate_names_in = names_in (λ (e : GateEntry). e.place) (λ (e : GateEntry). e.length)

-- none of the names up to one is f
abbrev pub NoneBelow : List ℕ → List (List ℕ) → ℕ → Type 0
NoneBelow f ns i = (k : ℕ) → k < i → slice_index_or ns k [] ≢ f

-- the number of the first name that is f, if any is
abbrev pub First : List ℕ → List (List ℕ) → Option ℕ → Type 0
First f ns None = NoneBelow f ns (length ns)
First f ns (Some i) = (i < length ns) × (slice_index_or ns i [] ≡ f) × NoneBelow f ns i
