-- The wiring of a circuit, as tables grow and pins are joined.
use Rattle.std.proofs.Common.{◌≡◌, ℕ, zero, suc, ◌+◌, ◌<◌, ◌≤◌, true, cond, List, [], ◌∷◌, ◌++◌, length, get_or, take, replicate, Some, None, Option, Result, is_ok, sym, refl, ap, ◌∙◌, subst, ⊎_elim, arith}
use Rattle.std.proofs.lemmas.Bool.{cases_lt, cond-true}
use Rattle.std.proofs.lemmas.List.{get_or_read, get_or_append_left, get_or_push, length_push, length-append, length-replicate, take-append-le, take_at}
use Rattle.circuit.specs.declared.Gate.{Gate}
use Rattle.circuit.specs.declared.Source.{Source}
use Rattle.circuit.specs.declared.Source.TheVariants as source
use Rattle.circuit.specs.Circuits.{Circuit, no_gate, tapped, Has}
use Rattle.circuit.specs.Wiring.{pin_total, Numbered, Sourced, Kept}

pub pin_total_at : (gs : List Gate) (g : ℕ) → g < length gs → pin_total (take g gs) + (get_or gs g no_gate).pins ≤ pin_total gs
pin_total_at [] g h = absurd (omega arith)
pin_total_at (x ∷ gs) zero h = omega arith
pin_total_at (x ∷ gs) (suc g) h = let r = pin_total_at gs g (omega arith) in omega arith

-- a gate's wires are there
pub fits_at : (gates : List Gate) (wires g : ℕ) → Numbered gates wires → g < length gates → (get_or gates g no_gate).first + (get_or gates g no_gate).pins ≤ wires
fits_at gates wires g n h =
    let at = n.0 g h in
    let all = n.1 in
    omega (arith, pin_total_at gates g h)

-- the same of a gate that was read
pub fits : (gates : List Gate) (wires g : ℕ) (x : Gate) → Numbered gates wires → g < length gates → x ≡ get_or gates g x → x.first + x.pins ≤ wires
fits gates wires g x n h e = subst (λ (y : Gate). y.first + y.pins ≤ wires) (sym (get_or_read gates g x h e no_gate)) (fits_at gates wires g n h)

-- the same of the gates that were read
pub fits_read : (gates gates' : List Gate) (wires g : ℕ) → gates' ≡ gates → Numbered gates wires → g < length gates' → (get_or gates' g no_gate).first + (get_or gates' g no_gate).pins ≤ wires
fits_read gates gates' wires g e n h = subst (λ gs. g < length gs → (get_or gs g no_gate).first + (get_or gs g no_gate).pins ≤ wires) (sym e) (fits_at gates wires g n) h

pin_total_push : (gs : List Gate) (x : Gate) → pin_total (gs ++ x ∷ []) ≡ pin_total gs + x.pins
pin_total_push [] x = omega arith
pin_total_push (g ∷ gs) x = omega (arith, pin_total_push gs x)

abbrev Placed : List Gate → ℕ → Type 0
Placed gates g = (get_or gates g no_gate).first ≡ pin_total (take g gates)

-- one more gate, whose wires come last
numbered_new : (gates : List Gate) (x : Gate) (wires : ℕ) → Numbered gates wires → x.first ≡ wires → Numbered (gates ++ x ∷ []) (wires + x.pins)
numbered_new gates x wires n first = (placed, omega (arith, pin_total_push gates x, n.1))
  where
    placed : (g : ℕ) → g < length (gates ++ x ∷ []) → Placed (gates ++ x ∷ []) g
    placed g h =
        ⊎_elim
        (λ (low : g < length gates).
        ap (λ (y : Gate). y.first) (get_or_append_left gates (x ∷ []) no_gate g low)
        ∙ n.0 g low
        ∙ sym (ap pin_total (take-append-le g gates (x ∷ []) (omega arith))))
        (λ (high : length gates ≤ g).
        let here : length gates ≡ g = omega (arith, length_push gates x) in
        ap (λ (y : Gate). y.first) (get_or_push gates x no_gate g here)
        ∙ first ∙ n.1
        ∙ sym (ap pin_total (take_at gates (x ∷ []) g here)))
        (cases_lt g (length gates))

numbered_push : (gates grown : List Gate) (x : Gate) (sources more : List (Option Source)) → grown ≡ gates ++ x ∷ [] → more ≡ sources ++ replicate x.pins None → x.first ≡ length sources → Numbered gates (length sources) → Numbered grown (length more)
numbered_push gates grown x sources more e m first n =
    let long : length more ≡ length sources + x.pins = ap length m ∙ length-append sources (replicate x.pins None) ∙ ap (λ k. length sources + k) (length-replicate x.pins None) in
    subst (λ (gs : List Gate). Numbered gs (length more)) (sym e) (subst (λ k. Numbered (gates ++ x ∷ []) k) (sym long) (numbered_new gates x (length sources) n first))

getD_nones : (n w : ℕ) → get_or {A = Option Source} (replicate n None) w None ≡ None
getD_nones zero w = refl
getD_nones (suc n) zero = refl
getD_nones (suc n) (suc w) = getD_nones n w

getD_unjoined : (sources : List (Option Source)) (n w : ℕ) → get_or (sources ++ replicate n None) w None ≡ get_or sources w None
getD_unjoined [] n w = getD_nones n w
getD_unjoined (s ∷ sources) n zero = refl
getD_unjoined (s ∷ sources) n (suc w) = getD_unjoined sources n w

-- more inputs, more gates, and more wires that are not joined
sourced_more : (inputs gates inputs' gates' n : ℕ) (sources grown : List (Option Source)) → inputs ≤ inputs' → gates ≤ gates' → grown ≡ sources ++ replicate n None → Sourced inputs gates sources → Sourced inputs' gates' grown
sourced_more inputs gates inputs' gates' n sources grown hi hg e s =
    let same : (w : ℕ) → get_or grown w None ≡ get_or sources w None = λ w. ap (λ l. get_or l w None) e ∙ getD_unjoined sources n w in (
      (λ w i is. omega (arith, s.0 w i (sym (same w) ∙ is))),
      (λ w g is. omega (arith, s.1 w g (sym (same w) ∙ is))),
    )

push_longer : {X : Type 0} (xs grown : List X) (x : X) → grown ≡ xs ++ x ∷ [] → length xs ≤ length grown
push_longer xs grown x e = omega (arith, ap length e, length_push xs x)

-- a source that a pin is joined to is there
pub sourced_at : (c : Circuit) (w : ℕ) (s : Source) → Sourced (length c.applied) (length c.gates) c.sources → get_or c.sources w None ≡ Some s → Has c (tapped s)
sourced_at c w (source.Input i) h e = h.0 w i e
sourced_at c w (source.Gate g) h e = h.1 w g e

-- what tables keep, as a gate comes in with its wires
pub kept_gate : {E : Type 0} (c : Circuit) (gates : List Gate) (sources : List (Option Source)) (x : Gate) (r : Result (Unit {0}) E)
    → gates ≡ c.gates ++ x ∷ [] → is_ok r ≡ true → sources ≡ cond (is_ok r) (c.sources ++ replicate x.pins None) c.sources → x.first ≡ length c.sources
    → length c.gates < 96 → length c.sources + x.pins ≤ 384 → Kept c → Kept (record { applied = c.applied; gates = gates; sources = sources })
kept_gate c gates sources x r e ok e' first low fit k =
    let few = k.few in
    let grown = e' ∙ cond-true _ _ _ ok in
    record {
      few = (few.0, omega (arith, ap length e, length_push c.gates x), omega (arith, ap length grown, length-append c.sources (replicate x.pins None), length-replicate {A = Option Source} x.pins None));
      wired = record {
        numbered = numbered_push c.gates gates x c.sources sources e grown first k.wired.numbered;
        sourced = sourced_more _ _ _ _ x.pins c.sources sources (omega arith) (push_longer c.gates gates x e) grown k.wired.sourced;
      };
    }
