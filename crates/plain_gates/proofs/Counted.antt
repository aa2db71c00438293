-- Each rule goes by the number of ones, and how they are counted.
use Rattle.std.proofs.Common.{◌≡◌, suc, ◌+◌, ◌≤◌, Bool, true, false, cond, eqb, ltb, List, [], ◌∷◌, length, count_by, sym, refl, ◌∙◌, arith}
use lib.Dec.{eqb-suc-suc}
use Rattle.std.proofs.lemmas.List.Recursion.{is_count_by}
use Rattle.std.proofs.lemmas.Bool.{ne_eqb, lt-ltb}
use Rattle.plain_gates.specs.declared.rules.Rule.{Rule}
use Rattle.plain_gates.specs.declared.rules.Rule.TheVariants.{And, Or, Xor, Majority}
use Rattle.plain_gates.specs.Plain.{ones_in, and_of, or_of}
use Rattle.plain_gates.specs.Rules.{function_of, output_at}

pub ones_counted : (bits : List Bool) → ones_in bits ≡ count_by (λ b. b) bits
ones_counted = is_count_by ones_in (λ b. b) refl step
  where
    step : (b : Bool) (bits : List Bool) → ones_in (b ∷ bits) ≡ cond b (1 + ones_in bits) (ones_in bits)
    step true bits = omega arith
    step false bits = refl

ones_few : (bits : List Bool) → ones_in bits ≤ length bits
ones_few [] = omega arith
ones_few (true ∷ bits) = omega (arith, ones_few bits)
ones_few (false ∷ bits) = omega (arith, ones_few bits)

and_counted : (bits : List Bool) → and_of bits ≡ eqb (ones_in bits) (length bits)
and_counted [] = refl
and_counted (true ∷ bits) = and_counted bits ∙ sym (eqb-suc-suc (ones_in bits) (length bits))
and_counted (false ∷ bits) = sym (ne_eqb _ _ (λ e. omega (arith, ones_few bits)))

or_counted : (bits : List Bool) → or_of bits ≡ ltb 0 (ones_in bits)
or_counted [] = refl
or_counted (true ∷ bits) = sym (lt-ltb 0 (suc (ones_in bits)) (omega arith))
or_counted (false ∷ bits) = or_counted bits

pub counted : (rule : Rule) (bits : List Bool) → function_of rule bits ≡ output_at rule (ones_in bits) (length bits)
counted And bits = and_counted bits
counted Or bits = or_counted bits
counted Xor bits = refl
counted Majority bits = refl
