-- A loop over the parts of a piece, whatever they are: text in lines, or a day file in records.
use Rattle.std.proofs.Common.{◌≡◌, ℕ, ◌+◌, ◌-◌, ◌≤◌, Bool, true, false, not, ◌&&◌, ◌||◌, ltb, leb, ◌⊎◌, List, [], ◌∷◌, length, ◌∙◌, inl, inr, arith, ltb-false, ltb-true, le-leb}
use borrow.Author.Tests.{lt-leb, not-true, not-false}
use Rattle.sums.specs.Room.{at_start}
use Rattle.sums.proofs.Choices.{and-join, and-left-fails, and-right-fails, or_split, or-fails}
use Rattle.text.proofs.Puts.{puts-length}
use Rattle.words.specs.declared.piece.Placed.{Placed}
use Rattle.std.specs.Prelude.{Result, Err}
use Rattle.words.specs.Texts.{Turned}
use Rattle.words.specs.Pieces.{Taking, taken_from, told_of}
use Rattle.words.specs.Inner.{goes, Stepped}
use Rattle.words.proofs.Taking.{no_part, not-ready, part-fails, part-taken, step-failed, step_went, Sofar, begun, one-part, over}

module _ (ready : List ℕ → Bool) (most : ℕ) (turn : ℕ → List ℕ → Turned) (items : ℕ → List (List ℕ)) (room₀ : List ℕ) (running : ℕ) where
  abbrev pub whole : Taking
  whole = taken_from ready most turn (length room₀) running (items 0)

  -- so much was taken, and what is left of the piece is taken from there
  abbrev pub State : List ℕ → ℕ → ℕ → ℕ → ℕ → Type 0
  State room place lines count next = Sofar whole room₀ room place lines count (taken_from ready most turn (length room₀ - count) next (items place))

  pub started : State room₀ 0 0 0 running
  started = let e : length room₀ - 0 ≡ length room₀ = omega arith in rw e (begun whole room₀)

  abbrev pub Told : List ℕ → ℕ → ℕ → ℕ → ℕ → ℕ → Type 0
  Told room place lines count next fault =
      (record { place = place; lines = lines; count = count; running = next; fault = fault } ≡ told_of whole) × (room ≡ at_start whole.bytes room₀)

  module _ (room : List ℕ) (place lines count next : ℕ) (f : State room place lines count next) where
    pub no_more : items place ≡ [] → Told room place lines count next 0
    no_more e = over f next 0 (no_part ready most turn (length room₀ - count) next (items place) e)

    pub same-room : length room ≡ length room₀
    same-room = puts-length f.put

    pub in-room : count ≤ length room
    in-room = omega (arith, f.put.within, same-room)

    module _ (x : List ℕ) (end : ℕ) (e : items place ≡ x ∷ items end) (t : Bool) (r : ready x ≡ t) where
      pub wait : (not t || ltb (length room - count) most) ≡ true → Told room place lines count next 0
      wait w = over f next 0 (not-ready ready most turn (length room₀ - count) next (items place) x (items end) e (by (or_split (not t) (ltb (length room - count) most) w)))
        where
          by : (not t ≡ true) ⊎ (ltb (length room - count) most ≡ true) → (ready x && leb most (length room₀ - count)) ≡ false
          by (inl u) = and-left-fails (ready x) _ (r ∙ not-true t u)
          by (inr u) = and-right-fails (ready x) (leb most (length room₀ - count)) (lt-leb most (length room₀ - count) (omega (arith, ltb-true (length room - count) most u, same-room)))

      module _ (w : (not t || ltb (length room - count) most) ≡ false) where
        pub enough : count + most ≤ length room
        enough = omega (arith, ltb-false (length room - count) most (or-fails (not t) (ltb (length room - count) most) w).1, in-room)

        go : (ready x && leb most (length room₀ - count)) ≡ true
        go = and-join (r ∙ not-false t (or-fails (not t) (ltb (length room - count) most) w).0) (le-leb most (length room₀ - count) (omega (arith, enough, same-room)))

        module _ (s : Result Placed ℕ) (room' : List ℕ) (h : Stepped (turn next x) room count s room') where
          pub failed : (n : ℕ) → s ≡ Err n → Told room' place lines count next n
          failed n d =
              let k = step-failed (turn next x) room count s room' h n d in
              rw k.1 (over f next n (part-fails ready most turn (length room₀ - count) next (items place) x (items end) e go n k.0))

          pub went : (p serial : ℕ) → s ≡ goes p serial → place + length x ≡ end → State room' end (lines + 1) p serial
          went p serial d m =
              let k = step_went (turn next x) room count s room' p serial h d in
              let q : length room₀ - count - length k.bytes ≡ length room₀ - p = omega (arith, k.put.next) in
              let o = one-part f x k.bytes _ (part-taken ready most turn (length room₀ - count) next (items place) x (items end) e go k.bytes serial k.is) room' p k.put in
              rw (m, q) at o
