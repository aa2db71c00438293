-- A text as a row of slots: each has a field, a judgement of it and an end byte, and what follows depends on what was read.
--
use Rattle.std.specs.Prelude.{◌≡◌, ℕ, suc, Bool, true, cond, not, ◌&&◌, ◌||◌, ◌⊎◌, List, [], ◌∷◌, ◌++◌, Some, None, Option, ◌==◌, ◌≢◌}

-- what ends a field
pub data End : Type 0 where
  space newline : End

abbrev pub byte : End → ℕ
byte space = 32
byte newline = 10

-- a field reaches up to the next space, the next byte 10 or the end of the text
abbrev pub solid : ℕ → Bool
solid b = not (b == 32 || b == 10)

abbrev pub solids : List ℕ → Bool
solids [] = true
solids (b ∷ bs) = solid b && solids bs

abbrev pub field : List ℕ → List ℕ
field [] = []
field (b ∷ bs) = cond (solid b) (b ∷ field bs) []

-- from what ends the field on
abbrev pub behind : List ℕ → List ℕ
behind [] = []
behind (b ∷ bs) = cond (solid b) (behind bs) (b ∷ bs)

-- a field and its end, before the rest of the text
abbrev pub put : List ℕ → End → List ℕ → List ℕ
put f end rest = f ++ (byte end ∷ rest)

-- a field is judged: the number read from it, or the number of its fault
pub data Judged : Type 0 where
  fits fault : ℕ → Judged

-- the answer to a text: what was read, or a fault's number and line
pub data Outcome (A : Type 0) : Type 0 where
  accepted : A → Outcome A
  refused : ℕ → ℕ → Outcome A

-- what is still to be read: nothing, with an answer; or a slot
pub data Form (A : Type 0) : Type 0 where
  ends : Outcome A → Form A
  slot : (List ℕ → Judged) → End → (List ℕ → ℕ → Form A) → Form A

-- an empty field is missing
abbrev pub verdict : (List ℕ → Judged) → List ℕ → Judged
verdict judge [] = fault 15
verdict judge (b ∷ bs) = judge (b ∷ bs)

-- what follows the end byte, if it stands there
abbrev pub past : End → List ℕ → Option (List ℕ)
past end [] = None
past end (b ∷ bs) = cond (b == byte end) (Some bs) None

abbrev pub line_after : End → ℕ → ℕ
line_after space line = line
line_after newline line = suc line

-- each field before what ends it
abbrev pub step : {A : Type 0} → ℕ → Judged → Option (List ℕ) → (ℕ → List ℕ → Outcome A) → Outcome A
step line (fault n) rest next = refused n line
step line (fits v) None next = refused 15 line
step line (fits v) (Some rest) next = next v rest

abbrev pub read : {A : Type 0} → Form A → ℕ → List ℕ → Outcome A
read (ends answer) line [] = answer
read (ends answer) line (b ∷ bs) = refused 15 line
read (slot judge end next) line text = step line (verdict judge (field text)) (past end (behind text)) (λ v rest. read (next (field text) v) (line_after end line) rest)

-- a front of the text passes the slots that lead from one form to another
abbrev pub Passes : {A : Type 0} → Form A → List ℕ → Form A → Type 0
Passes (ends answer) front G = (front ≡ []) × (ends answer ≡ G)
Passes (slot judge end next) front G = ((front ≡ []) × (slot judge end next ≡ G)) ⊎ ((f : List ℕ) × (v : ℕ) × (rest : List ℕ) × (front ≡ put f end rest) × (solids f ≡ true) × (verdict judge f ≡ fits v) × Passes (next f v) rest G)

-- the text has the fault n at the first thing that the form wants
abbrev pub Faulty : {A : Type 0} → Form A → List ℕ → ℕ → Type 0
Faulty (ends answer) text n = (text ≢ []) × (n ≡ 15)
Faulty (slot judge end next) text n = (verdict judge (field text) ≡ fault n) ⊎ ((v : ℕ) × (verdict judge (field text) ≡ fits v) × (past end (behind text) ≡ None) × (n ≡ 15))

-- how many lines end in a text
abbrev pub newlines : List ℕ → ℕ
newlines [] = 0
newlines (b ∷ bs) = cond (b == 10) (suc (newlines bs)) (newlines bs)

-- all before a place in the text has the form, and there it has the fault n, in the line; or all of it has the form, and the answer is a refusal
pub data Stopped {A : Type 0} (F : Form A) (text : List ℕ) (n line : ℕ) : Type 0 where
  at : (front rest : List ℕ) (G : Form A) → text ≡ front ++ rest → Passes F front G → Faulty G rest n → line ≡ suc (newlines front) → Stopped F text n line
  last : Passes F text (ends (refused n line)) → Stopped F text n line
