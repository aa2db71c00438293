-- The answer to a text, with its length and the tables' lengths.
use Rattle.std.proofs.Common.{◌≡◌, ℕ, ◌≤◌, Bool, true, false, ◌&&◌, leb, ◌⊎◌, List, length, sym, refl, ◌∙◌, subst, inl, inr, ⊎_elim, arith}
use Rattle.std.proofs.lemmas.Bool.{and_from, and_left, and_right, leb-true, leb-false, le-leb, lt-leb, cond-true, cond-false}
use Rattle.gate_list_format.specs.Slots.{accepted, refused, Stopped}
use Rattle.gate_list_format.specs.Lists.{Lawful, written}
use Rattle.gate_list_format.specs.Reading.{list_form, reading, admitted, Oversized, AcceptsExactly, RefusesFirst}
use Rattle.gate_list_format.proofs.Exact.{exact}
use Rattle.gate_list_format.proofs.Stops.{first}
use Rattle.gate_list_format.proofs.Sizes.{short}

-- the text and the tables are of a size to be read, or not
pub sized : (inputs gates : ℕ) (text : List ℕ) → length text ≤ 65536 → 32 ≤ inputs → 96 ≤ gates → admitted inputs gates text ≡ reading text
unfolding admitted
sized inputs gates text p q r = cond-true _ (reading text) (refused 14 0) (and_from _ _ (and_from _ _ (le-leb (length text) 65536 p) (le-leb 32 inputs q)) (le-leb 96 gates r))

pub oversized : (inputs gates : ℕ) (text : List ℕ) → Oversized inputs gates text → admitted inputs gates text ≡ refused 14 0
unfolding admitted
oversized inputs gates text h = cond-false _ (reading text) (refused 14 0) (⊎_elim
    (λ p. and_left (leb (length text) 65536 && leb 32 inputs) (leb 96 gates) (and_left (leb (length text) 65536) (leb 32 inputs) (lt-leb (length text) 65536 p)))
    (λ s. ⊎_elim
    (λ p. and_left (leb (length text) 65536 && leb 32 inputs) (leb 96 gates) (and_right (leb (length text) 65536) (leb 32 inputs) (lt-leb 32 inputs p)))
    (λ p. and_right (leb (length text) 65536 && leb 32 inputs) (leb 96 gates) (lt-leb 96 gates p))
    s)
    h)

Sized : ℕ → ℕ → List ℕ → Type 0
Sized inputs gates text = (length text ≤ 65536) × (32 ≤ inputs) × (96 ≤ gates)

size : (inputs gates : ℕ) (text : List ℕ) → Oversized inputs gates text ⊎ Sized inputs gates text
unfolding Sized
size inputs gates text = go (leb (length text) 65536) (leb 32 inputs) (leb 96 gates) refl refl refl
  where
    go : (t u v : Bool) → leb (length text) 65536 ≡ t → leb 32 inputs ≡ u → leb 96 gates ≡ v → Oversized inputs gates text ⊎ ((length text ≤ 65536) × (32 ≤ inputs) × (96 ≤ gates))
    go false u v p q r = inl (inl (leb-false (length text) 65536 p))
    go true false v p q r = inl (inr (inl (leb-false 32 inputs q)))
    go true true false p q r = inl (inr (inr (leb-false 96 gates r)))
    go true true true p q r = inr (leb-true (length text) 65536 p, leb-true 32 inputs q, leb-true 96 gates r)

not_both : (inputs gates : ℕ) (text : List ℕ) → Oversized inputs gates text → Sized inputs gates text → ⊥
unfolding Sized
not_both inputs gates text h k = ⊎_elim (λ p. omega (arith, k.0)) (λ s. ⊎_elim (λ p. omega (arith, k.1)) (λ p. omega (arith, k.2)) s) h

pub accepts : AcceptsExactly
unfolding Sized
accepts inputs gates text b = (⊎_elim large fit (size inputs gates text), back)
  where
    large : Oversized inputs gates text → admitted inputs gates text ≡ accepted b → (32 ≤ inputs) × (96 ≤ gates) × Lawful b × (written b ≡ text)
    large h e = let z = sym (oversized inputs gates text h) ∙ e in let n : ◌≡◌ {A = ℕ} 0 1 = cc in absurd (omega arith)

    fit : (length text ≤ 65536) × (32 ≤ inputs) × (96 ≤ gates) → admitted inputs gates text ≡ accepted b → (32 ≤ inputs) × (96 ≤ gates) × Lawful b × (written b ≡ text)
    fit h e = let r = (exact text b).0 (sym (sized inputs gates text h.0 h.1 h.2) ∙ e) in (h.1, h.2, r.0, r.1)

    back : (32 ≤ inputs) × (96 ≤ gates) × Lawful b × (written b ≡ text) → admitted inputs gates text ≡ accepted b
    back h = sized inputs gates text (subst (λ t. length t ≤ 65536) h.3 (short b h.2)) h.0 h.1 ∙ (exact text b).1 (h.2, h.3)

pub refuses : RefusesFirst
unfolding Sized
refuses inputs gates text n line = (⊎_elim large fit (size inputs gates text), ⊎_elim out into)
  where
    large : Oversized inputs gates text → admitted inputs gates text ≡ refused n line → (Oversized inputs gates text × (n ≡ 14) × (line ≡ 0)) ⊎ ((Oversized inputs gates text → ⊥) × Stopped list_form text n line)
    large h e = let z = sym (oversized inputs gates text h) ∙ e in inl (h, cc, cc)

    fit : (length text ≤ 65536) × (32 ≤ inputs) × (96 ≤ gates) → admitted inputs gates text ≡ refused n line → (Oversized inputs gates text × (n ≡ 14) × (line ≡ 0)) ⊎ ((Oversized inputs gates text → ⊥) × Stopped list_form text n line)
    fit h e = inr ((λ o. not_both inputs gates text o h), (first text n line).0 (sym (sized inputs gates text h.0 h.1 h.2) ∙ e))

    out : Oversized inputs gates text × (n ≡ 14) × (line ≡ 0) → admitted inputs gates text ≡ refused n line
    out h = let z = oversized inputs gates text h.0 in let p = h.1 in let q = h.2 in cc

    into : (Oversized inputs gates text → ⊥) × Stopped list_form text n line → admitted inputs gates text ≡ refused n line
    into h = ⊎_elim (λ o. absurd (h.0 o)) (λ k. sized inputs gates text k.0 k.1 k.2 ∙ (first text n line).1 h.1) (size inputs gates text)
