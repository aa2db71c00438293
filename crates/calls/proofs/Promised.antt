-- The whole promise, from what each call answered.
use Rattle.std.proofs.Common.{◌≡◌, ℕ, ◌+◌, ◌<◌, ◌≤◌, Bool, true, false, not, eqb, ltb, ◌↔◌, List, [], ◌∷◌, ◌++◌, map, length, get_or, take, is_some, Some, None, vec_items, Ok, Option, Result, Vec, unwrap_or, sym, refl, ap, ◌∙◌, subst, ap₂, ⊎_elim, arith, below_more}
use mathlib.Core.Bool.{false≢true}
use Rattle.std.specs.declared.alloc.Global.{Global}
use Rattle.std.proofs.lemmas.List.{get_or_append_left, get_or_push, get_or_past}
use Rattle.std.proofs.lemmas.Bool.{cases_lt, eqb-true}
use Rattle.gates.specs.declared.Mark.{Mark}
use Rattle.gates.specs.Marks.{settled}
use Rattle.gates.specs.Kinds.{Kind}
use Rattle.gates.specs.Told.{Stop, Told, answer, refused, told_by, left_by, first_stop}
use Rattle.circuit.specs.Passes.{Run, FewSteps, open_count}
use Rattle.circuit.proofs.Steps.{steps_few}
use Rattle.circuit.specs.declared.Signal.{Signal}
use Rattle.races.specs.Races.{Race, Outcome}
use Rattle.races.proofs.Adopts.{adopt_lands, outcome_some}
use Rattle.sheet.specs.Sheets as text
use Rattle.record.specs.declared.Refusal.{Refusal}
use Rattle.record.specs.Boards.{Board, Sound, opened}
use Rattle.record.specs.Calls.{unless, run_stop, sheet_stop, sheet_of, add_input_stop, add_gate_stop, join_stop, set_input_stop, set_signal_stop, unstable_stop, marks_stop}
use Rattle.record.specs.Moves.{fire_stop, signals_fired, adopt_stop, adopted, settled_value}
use Rattle.record.proofs.Fired.{none_first, unless_none, left_passed, fired_race}
use Rattle.calls.specs.declared.Call.{Call}
use Rattle.calls.specs.declared.Call.TheVariants as call
use Rattle.calls.specs.declared.Answer.{Answer}
use Rattle.calls.specs.declared.Answer.TheVariants as given
use Rattle.calls.specs.Tellings.{Given, done, unstable, counts, marks, sheet, told_of}
use Rattle.calls.specs.Effects.{first_marks, second_marks, effect, after, board_at, CountedOrStop, Answered}
use Rattle.calls.specs.Promises.{Alike, ExactSheet, ComesTo, telling, Promise}
use Rattle.calls.proofs.Marking.{marks_run, firsts_long, seconds_long}
use Rattle.calls.proofs.Boards.{Standing, no_marks, stand_after, after_more, whole_of}
use Rattle.calls.proofs.Sheets.{Ready, sheet_text, exact, sheets_alike}

module _ (t : Told Given) where
  given_is : (s : Option Stop) (g h : Given) → t ≡ told_by s g → t ≡ answer h → (s ≡ None) × (g ≡ h)
  given_is None g h e q = (refl, cc)
  given_is (Some s) g h e q = absurd (cc)

  -- a refused call changes nothing
  left_refused : (s : Option Stop) (g : Given) (r : Stop) (b new : Board) → t ≡ told_by s g → t ≡ refused r → left_by s b new ≡ b
  left_refused None g r b new e q = absurd (cc)
  left_refused (Some s) g r b new e q = refl

  run_refused : (s : Option Stop) (r : Stop) (b new : Board) → CountedOrStop s b t → t ≡ refused r → left_by s b new ≡ b
  run_refused None r b new c q = let e = c.says in absurd (cc)
  run_refused (Some s) r b new c q = refl

  refused_keeps : (b : Board) (call : Call) (r : Stop) → Answered b call t → t ≡ refused r → effect b call ≡ b
  refused_keeps b call.AddInput r a q = left_refused (add_input_stop b) _ r b _ a q
  refused_keeps b (call.AddGate kind) r a q = left_refused (add_gate_stop b kind) _ r b _ a q
  refused_keeps b (call.Join gate pin source) r a q = left_refused (join_stop b gate pin source) _ r b _ a q
  refused_keeps b (call.SetInput input bit) r a q = left_refused (set_input_stop b input bit) _ r b _ a q
  refused_keeps b (call.SetSignal signal bit) r a q = left_refused (set_signal_stop b signal bit) _ r b _ a q
  refused_keeps b (call.Unstable signal) r a q = refl
  refused_keeps b (call.Fire signals) r a q = left_refused (fire_stop b (vec_items signals)) _ r b _ a q
  refused_keeps b call.Run r a q = run_refused (run_stop b) r b _ a q
  refused_keeps b (call.Marks signal) r a q = refl
  refused_keeps b call.Adopt r a q = left_refused (adopt_stop b) _ r b _ a q
  refused_keeps b (call.Sheet room) r a q = refl

  run_no_sheet : (b : Board) (s : Option Stop) (bytes : List ℕ) → CountedOrStop s b t → t ≡ answer (sheet bytes) → ⊥
  run_no_sheet b None bytes c q = let e = c.says in cc
  run_no_sheet b (Some s) bytes c q = cc

  -- a sheet comes from standing marks
  sheet_given : (b : Board) (call : Call) (bytes : List ℕ) → Answered b call t → t ≡ answer (sheet bytes) → (is_some b.marks ≡ true) × (bytes ≡ sheet_of b)
  sheet_given b call.AddInput bytes a q = let e = (given_is (add_input_stop b) _ (sheet bytes) a q).1 in absurd (cc)
  sheet_given b (call.AddGate kind) bytes a q = let e = (given_is (add_gate_stop b kind) _ (sheet bytes) a q).1 in absurd (cc)
  sheet_given b (call.Join gate pin source) bytes a q = let e = (given_is (join_stop b gate pin source) done (sheet bytes) a q).1 in absurd (cc)
  sheet_given b (call.SetInput input bit) bytes a q = let e = (given_is (set_input_stop b input bit) done (sheet bytes) a q).1 in absurd (cc)
  sheet_given b (call.SetSignal signal bit) bytes a q = let e = (given_is (set_signal_stop b signal bit) done (sheet bytes) a q).1 in absurd (cc)
  sheet_given b (call.Unstable signal) bytes a q = let e = (given_is (unstable_stop b signal) (unstable _) (sheet bytes) a q).1 in absurd (cc)
  sheet_given b (call.Fire signals) bytes a q = let e = (given_is (fire_stop b (vec_items signals)) done (sheet bytes) a q).1 in absurd (cc)
  sheet_given b call.Run bytes a q = absurd (run_no_sheet b (run_stop b) bytes a q)
  sheet_given b (call.Marks signal) bytes a q = let e = (given_is (marks_stop b signal) (marks _) (sheet bytes) a q).1 in absurd (cc)
  sheet_given b call.Adopt bytes a q = let e = (given_is (adopt_stop b) done (sheet bytes) a q).1 in absurd (cc)
  sheet_given b (call.Sheet room) bytes a q =
      let r = given_is (sheet_stop b room) (sheet (sheet_of b)) (sheet bytes) a q in
      let same : sheet (sheet_of b) ≡ sheet bytes = r.1 in
      let z : bytes ≡ sheet_of b = cc in
      (unless_none (is_some b.marks) 9 (none_first (unless (is_some b.marks) 9) (unless (not (ltb room (length (sheet_of b)))) 11 ∷ []) r.0).0, z)

  run_counts : (b : Board) (s : Option Stop) (n k left : ℕ) → CountedOrStop s b t → t ≡ answer (counts (n, k, left)) → Run b.kinds b.circuit b.state n (first_marks b) k (second_marks b)
  run_counts b (Some s) n k left c q = absurd (cc)
  run_counts b None n k left c q =
      let e = c.says in
      let same : (c.first_steps, c.second_steps, open_count (second_marks b)) ≡ (n, k, left) = cc in
      subst (λ (p : ℕ × ℕ × ℕ). Run b.kinds b.circuit b.state p.0 (first_marks b) p.1 (second_marks b)) same c.run

  -- step counts come from a run
  counts_given : (b : Board) (call : Call) (n k left : ℕ) → Answered b call t → t ≡ answer (counts (n, k, left)) → Run b.kinds b.circuit b.state n (first_marks b) k (second_marks b)
  counts_given b call.AddInput n k left a q = let e = (given_is (add_input_stop b) _ (counts (n, k, left)) a q).1 in absurd (cc)
  counts_given b (call.AddGate kind) n k left a q = let e = (given_is (add_gate_stop b kind) _ (counts (n, k, left)) a q).1 in absurd (cc)
  counts_given b (call.Join gate pin source) n k left a q = let e = (given_is (join_stop b gate pin source) done (counts (n, k, left)) a q).1 in absurd (cc)
  counts_given b (call.SetInput input bit) n k left a q = let e = (given_is (set_input_stop b input bit) done (counts (n, k, left)) a q).1 in absurd (cc)
  counts_given b (call.SetSignal signal bit) n k left a q = let e = (given_is (set_signal_stop b signal bit) done (counts (n, k, left)) a q).1 in absurd (cc)
  counts_given b (call.Unstable signal) n k left a q = let e = (given_is (unstable_stop b signal) (unstable _) (counts (n, k, left)) a q).1 in absurd (cc)
  counts_given b (call.Fire signals) n k left a q = let e = (given_is (fire_stop b (vec_items signals)) done (counts (n, k, left)) a q).1 in absurd (cc)
  counts_given b call.Run n k left a q = run_counts b (run_stop b) n k left a q
  counts_given b (call.Marks signal) n k left a q = let e = (given_is (marks_stop b signal) (marks _) (counts (n, k, left)) a q).1 in absurd (cc)
  counts_given b call.Adopt n k left a q = let e = (given_is (adopt_stop b) done (counts (n, k, left)) a q).1 in absurd (cc)
  counts_given b (call.Sheet room) n k left a q = let e = (given_is (sheet_stop b room) (sheet _) (counts (n, k, left)) a q).1 in absurd (cc)

-- where marks stand, they are those of the board's run
module _ (b : Board) (sound : Sound b) (standing : Standing b) where
  ready_by : (o : Option (List Mark × List Mark)) → b.marks ≡ o → is_some o ≡ true → Ready b × (sheet_of b ≡ sheet_text b)
  ready_by None e h = absurd (false≢true h)
  ready_by (Some p) e h =
      let m = standing p.0 p.1 e in
      let few = sound.kept.few in (
        record { whole = whole_of b sound m.2; few = omega (arith, few.0, few.1, few.2) },
        ap (λ (q : Option (List Mark × List Mark)). text.sheet (length b.circuit.applied) (length b.circuit.gates) (unwrap_or q ([], [])).0 (unwrap_or q ([], [])).1) e
            ∙ ap₂ (text.sheet (length b.circuit.applied) (length b.circuit.gates)) m.0 m.1,
      )

  ready : is_some b.marks ≡ true → Ready b × (sheet_of b ≡ sheet_text b)
  ready = ready_by b.marks refl

settled_back : (o : List Bool) → map settled_value (map settled o) ≡ o
settled_back [] = refl
settled_back (true ∷ o) = ap (λ l. true ∷ l) (settled_back o)
settled_back (false ∷ o) = ap (λ l. false ∷ l) (settled_back o)

-- settled second marks that stand are the state that the races come to
module _ (b : Board) (sound : Sound b) (standing : Standing b) where
  adopted_by : (p : List Mark × List Mark) → b.marks ≡ Some p → open_count p.1 ≡ 0 → ComesTo b (map settled_value p.1)
  adopted_by p e none =
      let r = (ready b sound standing (ap is_some e)).0 in
      let m = standing p.0 p.1 e in
      let t = map settled_value p.1 in
      let run = marks_run b sound.valued in
      let lands = adopt_lands b.kinds b.circuit b.state run.0 run.1 (first_marks b) (second_marks b) r.whole run.2 (sym (ap open_count m.1) ∙ none) in
      let only : (o : List Bool) → Outcome b.kinds b.circuit b.state o → o ≡ map settled_value p.1 = λ o w. sym (settled_back o) ∙ ap (map settled_value) (lands.one o w ∙ sym m.1) in
      let some = outcome_some b.kinds b.circuit b.state r.whole in
      let out = subst (Outcome b.kinds b.circuit b.state) (only some.0 some.1) some.1 in
      record { outcome = out; only = only; stable = lands.stable t out }

  adopted_where : (o : Option (List Mark × List Mark)) → b.marks ≡ o → first_stop (unless (is_some o) 9 ∷ unless (eqb (open_count (unwrap_or o ([], [])).1) 0) 10 ∷ []) ≡ None → ComesTo b (map settled_value (unwrap_or o ([], [])).1)
  adopted_where None e n = absurd (cc)
  adopted_where (Some p) e n = adopted_by p e (eqb-true (open_count p.1) 0 (unless_none (eqb (open_count p.1) 0) 10 (none_first (unless (eqb (open_count p.1) 0) 10) [] n).0))

  adopted_comes : adopt_stop b ≡ None → ComesTo b (adopted b).state
  adopted_comes n = adopted_where b.marks refl n

-- what each call so far answered, and what the record kept
abbrev pub Past : Board → List Call → List (Result Answer Refusal) → ℕ → Type 0
Past start calls answers n = (i : ℕ) → i < n → Answered (after start (take i calls)) (get_or calls i call.AddInput) (telling answers i) × Sound (after start (take i calls))

pub past_more : (start : Board) (calls : List Call) (answers pushed : List (Result Answer Refusal)) (a : Result Answer Refusal) (i : ℕ) → pushed ≡ answers ++ a ∷ [] → length answers ≡ i → Past start calls answers i
    → Answered (after start (take i calls)) (get_or calls i call.AddInput) (told_of a) → Sound (after start (take i calls)) → Past start calls pushed (i + 1)
past_more start calls answers pushed a i e long past here sound =
    below_more (λ k. Answered (after start (take k calls)) (get_or calls k call.AddInput) (telling pushed k) × Sound (after start (take k calls))) i
    (λ k h. (subst (λ x. Answered (after start (take k calls)) (get_or calls k call.AddInput) (told_of x)) (sym (ap (λ xs. get_or xs k (Ok given.Done)) e ∙ get_or_append_left answers (a ∷ []) (Ok given.Done) k (omega arith))) (past k h).0, (past k h).1))
    (subst (λ x. Answered (after start (take i calls)) (get_or calls i call.AddInput) (told_of x)) (sym (ap (λ xs. get_or xs i (Ok given.Done)) e ∙ get_or_push answers a (Ok given.Done) i long)) here, sound)

module _ (ks : List Kind) (calls : List Call) (answers : List (Result Answer Refusal)) (count : length answers ≡ length calls) (past : Past (opened ks) calls answers (length calls)) where
  -- an answer that tells something else than done is there
  within : (i : ℕ) (t : Told Given) → telling answers i ≡ t → (answer done ≡ t → ⊥) → i < length calls
  within i t e apart =
      ⊎_elim (λ (h : i < length calls). h)
      (λ (h : length calls ≤ i). absurd (apart (sym (ap told_of (get_or_past answers i (Ok given.Done) (omega arith))) ∙ e)))
      (cases_lt i (length calls))

  standing : (i : ℕ) → Standing (board_at ks calls i)
  standing i = stand_after (opened ks) (take i calls) (no_marks (opened ks) refl)

  sheet_at : (i : ℕ) (bytes : List ℕ) → telling answers i ≡ answer (sheet bytes) → Ready (board_at ks calls i) × (bytes ≡ sheet_text (board_at ks calls i))
  sheet_at i bytes e =
      let p = past i (within i (answer (sheet bytes)) e (λ q. cc)) in
      let g = sheet_given (telling answers i) (board_at ks calls i) (get_or calls i call.AddInput) bytes p.0 e in
      let r = ready (board_at ks calls i) p.1 (standing i) g.0 in
      (r.0, g.1 ∙ r.1)

  steps_at : (i n k left : ℕ) → telling answers i ≡ answer (counts (n, k, left)) → FewSteps (board_at ks calls i).circuit n (first_marks (board_at ks calls i)) k (second_marks (board_at ks calls i))
  steps_at i n k left e =
      let b = board_at ks calls i in
      let p = past i (within i (answer (counts (n, k, left))) e (λ q. cc)) in
      steps_few b.kinds b.circuit b.state n k (first_marks b) (second_marks b) p.1.valued (counts_given (telling answers i) b (get_or calls i call.AddInput) n k left p.0 e)

  exact_at : (i : ℕ) (bytes : List ℕ) → telling answers i ≡ answer (sheet bytes) → ExactSheet (board_at ks calls i) bytes
  exact_at i bytes e =
      let b = board_at ks calls i in
      let s = sheet_at i bytes e in
      record { firsts = first_marks b; seconds = second_marks b; text = s.1; each_first = firsts_long b s.0.whole.long; each_second = seconds_long b s.0.whole.long; exact = exact b s.0 }

  alike_at : (i j : ℕ) (a b : List ℕ) → telling answers i ≡ answer (sheet a) → telling answers j ≡ answer (sheet b) → (a ≡ b) ↔ Alike (board_at ks calls i) (board_at ks calls j)
  alike_at i j a b e q =
      let s = sheet_at i a e in
      let t = sheet_at j b q in
      let both = sheets_alike (board_at ks calls i) (board_at ks calls j) s.0 t.0 in
      ((λ same. both.0 (sym s.1 ∙ same ∙ t.1)), (λ alike. s.1 ∙ both.1 alike ∙ sym t.1))

  refused_at : (i : ℕ) (s : Stop) → telling answers i ≡ refused s → board_at ks calls (i + 1) ≡ board_at ks calls i
  refused_at i s e =
      let h = within i (refused s) e (λ q. cc) in
      after_more (opened ks) calls i h ∙ refused_keeps (telling answers i) (board_at ks calls i) (get_or calls i call.AddInput) s (past i h).0 e

  -- a call that is not the default is there
  called : (i : ℕ) (k : Call) → get_or calls i call.AddInput ≡ k → (call.AddInput ≡ k → ⊥) → i < length calls
  called i k e apart =
      ⊎_elim (λ (h : i < length calls). h) (λ (h : length calls ≤ i). absurd (apart (sym (get_or_past calls i call.AddInput h) ∙ e))) (cases_lt i (length calls))

  fires_at : (i : ℕ) (signals : Vec Signal Global) → get_or calls i call.AddInput ≡ call.Fire signals → telling answers i ≡ answer done
      → Race (board_at ks calls i).kinds (board_at ks calls i).circuit (board_at ks calls i).state (board_at ks calls (i + 1)).state
  fires_at i signals e q =
      let b = board_at ks calls i in
      let h = called i (call.Fire signals) e (λ z. cc) in
      let a = subst (λ k. Answered b k (telling answers i)) e (past i h).0 in
      let none = (given_is (telling answers i) (fire_stop b (vec_items signals)) done done a q).0 in
      let next = after_more (opened ks) calls i h ∙ ap (effect b) e ∙ left_passed (fire_stop b (vec_items signals)) b (signals_fired b (vec_items signals)) none in
      subst (λ (n : Board). Race b.kinds b.circuit b.state n.state) (sym next) (fired_race b (vec_items signals) (past i h).1.valued none)

  adopts_at : (i : ℕ) → get_or calls i call.AddInput ≡ call.Adopt → telling answers i ≡ answer done → ComesTo (board_at ks calls i) (board_at ks calls (i + 1)).state
  adopts_at i e q =
      let b = board_at ks calls i in
      let h = called i call.Adopt e (λ z. cc) in
      let a = subst (λ k. Answered b k (telling answers i)) e (past i h).0 in
      let none = (given_is (telling answers i) (adopt_stop b) done done a q).0 in
      let next = after_more (opened ks) calls i h ∙ ap (effect b) e ∙ left_passed (adopt_stop b) b (adopted b) none in
      subst (λ (n : Board). ComesTo b n.state) (sym next) (adopted_comes b (past i h).1 (standing i) none)

  pub promised : Promise ks calls answers
  promised = record {
    count = count;
    each = λ i h. (past i h).0;
    refusals = refused_at;
    sheets = alike_at;
    exact = exact_at;
    first_steps = λ i n k left e. (steps_at i n k left e).first;
    second_steps = λ i n k left e. (steps_at i n k left e).second;
    fires = fires_at;
    adopts = adopts_at;
  }
