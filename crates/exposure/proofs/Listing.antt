-- A list of clients: whose figures stand where, and the room that two numbers a client fill.
use mathlib.Core.Bool.{Bool, true, false, ◌&&◌}
use mathlib.Core.List.{List}
use mathlib.Core.Path.{◌≡◌, refl, sym, ap, ◌∙◌}
use Prim.Native.Nat.{ℕ, ◌+◌, ◌*◌, ◌/◌, ◌%◌, ◌≤◌, ◌<◌}
use native.Mathlib.Decide.{ℕ_discrete}
use native.Mathlib.Nat.{add-zero}
use native.Mathlib.Omega.{arith}
use borrow.Author.Tests.{eq-eqb, ne_eqb}
use lib.Dec.{eqb}
use lib.IntN.{ℤ}
use lib.ListN.{length, get_or, set, length-set}
use Rattle.sums.specs.Listed.{list_to}
use Rattle.sums.proofs.Choices.{pick_yes, pick_no, and-join}
use Rattle.sums.proofs.Lists.{filled-step, at-list_to}
use Rattle.exposure.specs.declared.lists.Form.{Form}
use Rattle.exposure.specs.declared.lists.Form.TheVariants.{Intraday, EndOfDay}
use Rattle.exposure.specs.Exposures.{intraday_of, exposure_of}
use Rattle.exposure.specs.Lists.{width_of, figures_from, clients_in, figure_at, Agree, client_of, number_in_room, list_refusal, list_room}

and-left-fails : (a b : Bool) → a ≡ false → (a && b) ≡ false
and-left-fails a b e = rw e

and-right-fails : (a b : Bool) → b ≡ false → (a && b) ≡ false
and-right-fails true b e = e
and-right-fails false b e = refl

-- a client's figures stand in the list
pub client-within : (form : Form) (i n : ℕ) → i < clients_in form n → figures_from form i + width_of form ≤ n
client-within Intraday i n h = omega arith
client-within EndOfDay i n h = omega arith

-- there are no more clients than a place can be told of
pub clients-few : (form : Form) (n : ℕ) → 2 * clients_in form n ≤ n
clients-few Intraday n = omega arith
clients-few EndOfDay n = omega arith

module _ (form : Form) (figures : List ℤ) (i : ℕ) where
  pub cell-refusal : number_in_room form figures (2 * i) ≡ (client_of form figures i).refusal
  cell-refusal =
      let half : 2 * i / 2 ≡ i = omega arith in
      pick_yes (eqb (2 * i % 2) 0) _ _ (eq-eqb (2 * i % 2) 0 (omega arith)) ∙ ap (λ k. (client_of form figures k).refusal) half

  pub cell-amount : number_in_room form figures (2 * i + 1) ≡ (client_of form figures i).amount
  cell-amount =
      let half : (2 * i + 1) / 2 ≡ i = omega arith in
      pick_no (eqb ((2 * i + 1) % 2) 0) _ _ (ne_eqb ((2 * i + 1) % 2) 0 (λ e. absurd (omega arith))) ∙ ap (λ k. (client_of form figures k).amount) half

  -- a turn of the loop: one client's two numbers more
  pub two-more : (room : List ℕ) (n refusal amount : ℕ) → length room ≡ 2 * n → i < n → ((k : ℕ) → k < 2 * i → get_or room k 0 ≡ number_in_room form figures k)
      → refusal ≡ (client_of form figures i).refusal → amount ≡ (client_of form figures i).amount
      → (k : ℕ) → k < 2 * (i + 1) → get_or (set (set room (2 * i) refusal) (2 * i + 1) amount) k 0 ≡ number_in_room form figures k
  two-more room n refusal amount long h held r a k l =
      let one = filled-step (number_in_room form figures) room 0 (2 * i) refusal (omega arith) held (r ∙ sym cell-refusal) in
      filled-step (number_in_room form figures) (set room (2 * i) refusal) 0 (2 * i + 1) amount (simp length-set (omega arith)) one (a ∙ sym cell-amount) k (omega arith)

-- the answer, by the two tests
module _ (form : Form) (figures : List ℤ) (room : List ℕ) where
  ragged : (figures_from form (clients_in form (length figures)) ≡ length figures → ⊥) → list_refusal form figures room ≡ 15
  unfolding list_refusal
  ragged h = pick_no _ 0 15 (and-left-fails _ _ (ne_eqb (figures_from form (clients_in form (length figures))) (length figures) h))

  wrong-room : (length room ≡ 2 * clients_in form (length figures) → ⊥) → list_refusal form figures room ≡ 15
  unfolding list_refusal
  wrong-room h = pick_no _ 0 15 (and-right-fails (eqb (figures_from form (clients_in form (length figures))) (length figures)) _ (ne_eqb (length room) (2 * clients_in form (length figures)) h))

  pub room-kept : list_refusal form figures room ≡ 15 → room ≡ list_room form figures room
  unfolding list_room
  room-kept e = sym (pick_no _ _ room (ap (λ n. eqb n 0) e))

  pub figures-wrong : (figures_from form (clients_in form (length figures)) ≡ length figures → ⊥) → (15 ≡ list_refusal form figures room) × (room ≡ list_room form figures room)
  figures-wrong h = (sym (ragged h), room-kept (ragged h))

  pub room-wrong : (length room ≡ 2 * clients_in form (length figures) → ⊥) → (15 ≡ list_refusal form figures room) × (room ≡ list_room form figures room)
  room-wrong h = (sym (wrong-room h), room-kept (wrong-room h))

  module _ (even : figures_from form (clients_in form (length figures)) ≡ length figures) (fits : length room ≡ 2 * clients_in form (length figures)) where
    pub all_right : list_refusal form figures room ≡ 0
    unfolding list_refusal
    all_right = pick_yes _ 0 15 (and-join (eq-eqb _ _ even) (eq-eqb _ _ fits))

    pub room-filled : list_room form figures room ≡ list_to (number_in_room form figures) (2 * clients_in form (length figures))
    unfolding list_room
    room-filled = pick_yes _ _ room (ap (λ n. eqb n 0) all_right)

    -- client i's two numbers in the room are its own answer
    pub own-answer : (i : ℕ) → i < clients_in form (length figures)
        → (get_or (list_room form figures room) (2 * i) 0 ≡ (client_of form figures i).refusal) × (get_or (list_room form figures room) (2 * i + 1) 0 ≡ (client_of form figures i).amount)
    own-answer i h = (
      ap (λ l. get_or l (2 * i) 0) room-filled ∙ at-list_to (number_in_room form figures) (2 * clients_in form (length figures)) (2 * i) 0 (omega arith) ∙ cell-refusal form figures i,
      ap (λ l. get_or l (2 * i + 1) 0) room-filled ∙ at-list_to (number_in_room form figures) (2 * clients_in form (length figures)) (2 * i + 1) 0 (omega arith) ∙ cell-amount form figures i,
    )

-- and so wherever the answer is 0
pub answers-in-room : (form : Form) (figures : List ℤ) (room : List ℕ) → list_refusal form figures room ≡ 0 → (i : ℕ) → i < clients_in form (length figures)
    → (get_or (list_room form figures room) (2 * i) 0 ≡ (client_of form figures i).refusal) × (get_or (list_room form figures room) (2 * i + 1) 0 ≡ (client_of form figures i).amount)
answers-in-room form figures room e i h =
    by (ℕ_discrete (figures_from form (clients_in form (length figures))) (length figures)) (ℕ_discrete (length room) (2 * clients_in form (length figures)))
  where
    by : Dec (figures_from form (clients_in form (length figures)) ≡ length figures) → Dec (length room ≡ 2 * clients_in form (length figures))
        → (get_or (list_room form figures room) (2 * i) 0 ≡ (client_of form figures i).refusal) × (get_or (list_room form figures room) (2 * i + 1) 0 ≡ (client_of form figures i).amount)
    by (yes p) (yes q) = own-answer form figures room p q i h
    by (yes p) (no q) = absurd (omega (arith, e, (room-wrong form figures room q).0))
    by (no p) q = absurd (omega (arith, e, (figures-wrong form figures room p).0))

pub same_answer : (form : Form) (l m : List ℤ) (i : ℕ) → Agree form i l m → client_of form l i ≡ client_of form m i
unfolding client_of
same_answer Intraday l m i a = λ j. intraday_of (first j) (a.same 1 (omega arith) j)
  where
    first : figure_at l (2 * i) ≡ figure_at m (2 * i)
    first = rw add-zero at (a.same 0 (omega arith))
same_answer EndOfDay l m i a =
    λ j. exposure_of (first j) (a.same 1 (omega arith) j) (a.same 2 (omega arith) j) (a.same 3 (omega arith) j)
  where
    first : figure_at l (4 * i) ≡ figure_at m (4 * i)
    first = rw add-zero at (a.same 0 (omega arith))
