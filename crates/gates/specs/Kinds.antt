-- What a gate library means: a list of kinds, each a pin count and a Boolean function of its pins.
use Rattle.std.specs.Prelude.{◌≡◌, ℕ, ◌≤◌, Bool, true, false, cond, not, List, [], ◌∷◌, length, take, Some, None, Option, ◌==◌}
use Rattle.std.specs.Option.{option_map}
use Rattle.std.specs.List.{slice_get, AllByRecursion}
use Rattle.gates.specs.declared.Mark.{Mark}
use Rattle.gates.specs.Marks.{extended}

pub record Kind : Type 0 where
  pub pins : ℕ
  pub output : List Bool → Bool

pub record Lawful (ks : List Kind) : Type 0 where
  pub few : length ks ≤ 4096
  pub narrow : AllByRecursion (λ k. (1 ≤ k.pins) × (k.pins ≤ 8)) ks

abbrev pub pins_of : List Kind → ℕ → Option ℕ
pins_of ks k = option_map (λ (kind : Kind). kind.pins) (slice_get ks k)

-- what a kind gives for a list of as many entries as it has pins; nothing if it is absent or the length is another
abbrev pub given_by : {A B : Type 0} → ((List Bool → Bool) → List A → B) → Option Kind → List A → Option B
given_by give None xs = None
given_by give (Some kind) xs = cond (length xs == kind.pins) (Some (give kind.output xs)) None

abbrev pub value_of : List Kind → ℕ → List Bool → Option Bool
value_of ks k bits = given_by (λ f bs. f bs) (slice_get ks k) bits

abbrev pub extension_of : List Kind → ℕ → List Mark → Option Mark
extension_of ks k marks = given_by extended (slice_get ks k) marks

abbrev pub complement : Kind → Kind
complement k = record { pins = k.pins; output = λ bs. not (k.output bs) }

-- each kind and after it its complement
abbrev pub paired : List Kind → List Kind
paired [] = []
paired (k ∷ ks) = k ∷ complement k ∷ paired ks

abbrev pub complementing : List Kind → List Kind
complementing ks = paired (take 2048 ks)

-- a kind below, or its complement
abbrev pub turned : Bool → Option Kind → Option Kind
turned true kind = option_map complement kind
turned false kind = kind

-- of which kind below a kind of the complementing library is the complement or the same, whatever that library's kinds are
abbrev pub IsPaired : ℕ → Option (ℕ × Bool) → Type 0
IsPaired k None = (ks : List Kind) → slice_get (complementing ks) k ≡ None
IsPaired k (Some p) = (ks : List Kind) → slice_get (complementing ks) k ≡ turned p.1 (slice_get ks p.0)
