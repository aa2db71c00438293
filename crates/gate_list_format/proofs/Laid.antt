-- What is laid along written lines, and the names in it.
use Rattle.std.proofs.Common.{◌≡◌, ℕ, zero, suc, ◌+◌, ◌<◌, List, [], ◌∷◌, ◌++◌, map, length, get_or, take, drop, codes, decimal, sym, refl, ap, ◌∙◌, arith}
use Rattle.std.proofs.lemmas.List.{append_assoc, length-append, take_at, drop_at}
use Rattle.gate_list_format.specs.Slots.{End, space, newline, byte, put}
use Rattle.gate_list_format.specs.Lists.{GateList, Input, Gate, Pin, word_text, write_heading, write_input, write_pins, write_gate, writes, written, pin_end}
use Rattle.gate_list_format.specs.Places.{laid}

pub put_onto : (f : List ℕ) (e : End) (a rest : List ℕ) → put f e (a ++ rest) ≡ put f e a ++ rest
put_onto f e a rest = sym (append_assoc f (byte e ∷ a) rest)

pub heading_onto : (w : List ℕ) (n : ℕ) (a rest : List ℕ) → write_heading w n (a ++ rest) ≡ write_heading w n a ++ rest
heading_onto w n a rest = ap (put w space) (put_onto (decimal n) newline a rest) ∙ put_onto w space (put (decimal n) newline a) rest

pub input_onto : (i : Input) (a rest : List ℕ) → write_input i (a ++ rest) ≡ write_input i a ++ rest
input_onto i a rest =
    ap (λ t. put i.name space (put (decimal i.applied) space t)) (put_onto (decimal i.start) newline a rest)
    ∙ ap (put i.name space) (put_onto (decimal i.applied) space (put (decimal i.start) newline a) rest)
    ∙ put_onto i.name space (put (decimal i.applied) space (put (decimal i.start) newline a)) rest

pub pins_onto : (ps : List Pin) (a rest : List ℕ) → write_pins ps (a ++ rest) ≡ write_pins ps a ++ rest
pins_onto [] a rest = refl
pins_onto (p ∷ ps) a rest =
    let e = pin_end (length ps) in
    ap (λ t. put p.source space (put (decimal p.start) e t)) (pins_onto ps a rest)
    ∙ ap (put p.source space) (put_onto (decimal p.start) e (write_pins ps a) rest)
    ∙ put_onto p.source space (put (decimal p.start) e (write_pins ps a)) rest

pub gate_onto : (g : Gate) (a rest : List ℕ) → write_gate g (a ++ rest) ≡ write_gate g a ++ rest
gate_onto g a rest =
    let w = word_text g.word in
    let n = decimal (length g.pins) in
    let s = decimal g.start in
    let ps = write_pins g.pins a in
    ap (λ t. put g.name space (put w space (put n space (put s space t)))) (pins_onto g.pins a rest)
    ∙ ap (λ t. put g.name space (put w space (put n space t))) (put_onto s space ps rest)
    ∙ ap (λ t. put g.name space (put w space t)) (put_onto n space (put s space ps) rest)
    ∙ ap (λ t. put g.name space t) (put_onto w space (put n space (put s space ps)) rest)
    ∙ put_onto g.name space (put w space (put n space (put s space ps))) rest

pub writes_onto : {A : Type 0} (write : A → List ℕ → List ℕ) → ((x : A) (a rest : List ℕ) → write x (a ++ rest) ≡ write x a ++ rest) → (xs : List A) (a rest : List ℕ) → writes write xs (a ++ rest) ≡ writes write xs a ++ rest
writes_onto write onto [] a rest = refl
writes_onto write onto (x ∷ xs) a rest = ap (write x) (writes_onto write onto xs a rest) ∙ onto x (writes write xs a) rest

-- what is made of lines behind a front names them
pub laid_names : {A E : Type 0} (write : A → List ℕ → List ℕ) (name : A → List ℕ) (make : ℕ → A → E) (start size : E → ℕ) → ((p : ℕ) (x : A) → start (make p x) ≡ p) → ((p : ℕ) (x : A) → size (make p x) ≡ length (name x)) → (onto : (x : A) (a rest : List ℕ) → write x (a ++ rest) ≡ write x a ++ rest) (first : (x : A) (rest : List ℕ) → (tail : List ℕ) × (write x rest ≡ name x ++ tail)) (text front : List ℕ) (place : ℕ) (xs : List A) (rest : List ℕ) → text ≡ front ++ writes write xs rest → length front ≡ place → map (λ e. take (size e) (drop (start e) text)) (laid write make place xs) ≡ map name xs
laid_names write name make start size starts sized onto first text front place [] rest e l = refl
laid_names write name make start size starts sized onto first text front place (x ∷ xs) rest e l =
    let behind = writes write xs rest in
    let split = first x behind in
    let here : take (size (make place x)) (drop (start (make place x)) text) ≡ name x =
    ap (λ n. take n (drop (start (make place x)) text)) (sized place x) ∙ ap (λ k. take (length (name x)) (drop k text)) (starts place x)
    ∙ ap (λ t. take (length (name x)) t) (ap (drop place) e ∙ drop_at front (write x behind) place l ∙ split.1) ∙ take_at (name x) split.0 (length (name x)) refl in
    let onward : text ≡ (front ++ write x []) ++ behind = e ∙ ap (λ t. front ++ t) (onto x [] behind) ∙ sym (append_assoc front (write x []) behind) in
    let long : length (front ++ write x []) ≡ place + length (write x []) = length-append front (write x []) ∙ ap (λ n. n + length (write x [])) l in
    let more = laid_names write name make start size starts sized onto first text (front ++ write x []) (place + length (write x [])) xs rest onward long in
    ap (λ h. h ∷ map (λ e. take (size e) (drop (start e) text)) (laid write make (place + length (write x [])) xs)) here ∙ ap (λ t. name x ∷ t) more

pub length-laid : {A E : Type 0} (write : A → List ℕ → List ℕ) (make : ℕ → A → E) (place : ℕ) (xs : List A) → length (laid write make place xs) ≡ length xs
length-laid write make place [] = refl
length-laid write make place (x ∷ xs) = ap suc (length-laid write make (place + length (write x [])) xs)

-- one more line
pub laid_push : {A E : Type 0} (write : A → List ℕ → List ℕ) (make : ℕ → A → E) (onto : (x : A) (a rest : List ℕ) → write x (a ++ rest) ≡ write x a ++ rest) (place : ℕ) (xs : List A) (y : A) → laid write make place (xs ++ (y ∷ [])) ≡ laid write make place xs ++ (make (place + length (writes write xs [])) y ∷ [])
laid_push write make onto place [] y = ap (λ p. make p y ∷ []) (let e : place ≡ place + 0 = omega arith in e)
laid_push write make onto place (x ∷ xs) y =
    let here = place + length (write x []) in
    let long = ap length (onto x [] (writes write xs [])) ∙ length-append (write x []) (writes write xs []) in
    let at : here + length (writes write xs []) ≡ place + length (write x (writes write xs [])) = omega arith in
    ap (λ t. make place x ∷ t) (laid_push write make onto here xs y ∙ ap (λ p. laid write make here xs ++ (make p y ∷ [])) at)

pub writes_push : {A : Type 0} (write : A → List ℕ → List ℕ) (xs : List A) (y : A) (rest : List ℕ) → writes write (xs ++ (y ∷ [])) rest ≡ writes write xs (write y rest)
writes_push write [] y rest = refl
writes_push write (x ∷ xs) y rest = ap (write x) (writes_push write xs y rest)

pub input_first : (i : Input) (rest : List ℕ) → (tail : List ℕ) × (write_input i rest ≡ i.name ++ tail)
input_first i rest = (_, refl)

pub gate_first : (g : Gate) (rest : List ℕ) → (tail : List ℕ) × (write_gate g rest ≡ g.name ++ tail)
gate_first g rest = (_, refl)

-- the text before the gate lines, and theirs
pub fronts : (b : GateList) → (written b ≡ write_heading (codes "inputs") (length b.inputs) [] ++ writes write_input b.inputs (write_heading (codes "gates") (length b.gates) (writes write_gate b.gates []))) × (written b ≡ write_heading (codes "inputs") (length b.inputs) (writes write_input b.inputs (write_heading (codes "gates") (length b.gates) [])) ++ writes write_gate b.gates [])
unfolding written
fronts b =
    let n = length b.inputs in
    let h₁ = write_heading (codes "inputs") n in
    let h₂ = write_heading (codes "gates") (length b.gates) in
    let gs = writes write_gate b.gates [] in (
      heading_onto (codes "inputs") n [] (writes write_input b.inputs (h₂ gs)),
      ap (λ t. h₁ (writes write_input b.inputs t)) (heading_onto (codes "gates") (length b.gates) [] gs)
          ∙ ap h₁ (writes_onto write_input input_onto b.inputs (h₂ []) gs)
          ∙ heading_onto (codes "inputs") n (writes write_input b.inputs (h₂ [])) gs,
    )

-- a line stands at its place
pub laid_here : {A E : Type 0} (write : A → List ℕ → List ℕ) (make : ℕ → A → E) (start : E → ℕ) → ((p : ℕ) (x : A) → start (make p x) ≡ p) → (onto : (x : A) (a rest : List ℕ) → write x (a ++ rest) ≡ write x a ++ rest) (text front : List ℕ) (place : ℕ) (xs : List A) (rest : List ℕ) (k : ℕ) (d : E) (e : A) → text ≡ front ++ writes write xs rest → length front ≡ place → k < length xs → (more : List ℕ) × (drop (start (get_or (laid write make place xs) k d)) text ≡ write (get_or xs k e) more)
laid_here write make start starts onto text front place [] rest k d e h l less = absurd (omega arith)
laid_here write make start starts onto text front place (x ∷ xs) rest zero d e h l less = (writes write xs rest, ap (λ p. drop p text) (starts place x) ∙ ap (drop place) h ∙ drop_at front (write x (writes write xs rest)) place l)
laid_here write make start starts onto text front place (x ∷ xs) rest (suc k) d e h l less =
    laid_here write make start starts onto text (front ++ write x []) (place + length (write x [])) xs rest k d e
    (h ∙ ap (λ t. front ++ t) (onto x [] (writes write xs rest)) ∙ sym (append_assoc front (write x []) (writes write xs rest)))
    (length-append front (write x []) ∙ ap (λ n. n + length (write x [])) l)
    (omega arith)
