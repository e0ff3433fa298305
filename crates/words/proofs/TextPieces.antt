-- The loop over the lines of a piece of text.
use Rattle.std.proofs.Common.{◌≡◌, ℕ, ◌+◌, ◌-◌, ◌<◌, ◌≤◌, Bool, true, false, not, ◌||◌, eqb, ltb, List, length, get_or, take, drop, ap, arith, length-drop, length-take-le}
use Rattle.words.specs.declared.piece.Placed.{Placed}
use Rattle.std.specs.Prelude.{Result, Err}
use Rattle.words.specs.Texts.{line_turned, lines_of, line_length}
use Rattle.words.specs.Pieces.{ended}
use Rattle.words.specs.Inner.{goes, Stepped}
use Rattle.words.proofs.LinesAt.{no_line, line-more, line-within, line-here, line-ended}
use Rattle.words.proofs.Going.{State, Told, started, no_more, same-room, in-room, wait, enough, failed, went}

-- so many lines were taken
pub record TextState (text : List ℕ) (last : Bool) (running : ℕ) (room₀ room : List ℕ) (place lines count next : ℕ) : Type 0 where
  pub is : State (λ l. last || ended l) 70 line_turned (λ p. lines_of (drop p text)) room₀ running room place lines count next

abbrev pub TextTold : List ℕ → Bool → ℕ → List ℕ → List ℕ → ℕ → ℕ → ℕ → ℕ → ℕ → Type 0
TextTold text last running room₀ = Told (λ l. last || ended l) 70 line_turned (λ p. lines_of (drop p text)) room₀ running

pub text-started : (text : List ℕ) (last : Bool) (running : ℕ) (room₀ : List ℕ) → TextState text last running room₀ room₀ 0 0 0 running
text-started text last running room₀ = record { is = started (λ l. last || ended l) 70 line_turned (λ p. lines_of (drop p text)) room₀ running }

module _ {text : List ℕ} {last : Bool} {running : ℕ} {room₀ room : List ℕ} {place lines count next : ℕ} (f : TextState text last running room₀ room place lines count next) where
  pub text-over : length text ≤ place → TextTold text last running room₀ room place lines count next 0
  text-over h = no_more (λ l. last || ended l) 70 line_turned (λ p. lines_of (drop p text)) room₀ running room place lines count next f.is (no_line text place h)

  pub text-room : length room ≡ length room₀
  text-room = same-room (λ l. last || ended l) 70 line_turned (λ p. lines_of (drop p text)) room₀ running room place lines count next f.is

  pub text-fits : count ≤ length room
  text-fits = in-room (λ l. last || ended l) 70 line_turned (λ p. lines_of (drop p text)) room₀ running room place lines count next f.is

  module _ {end : ℕ} (h : place < length text) (e : end ≡ place + line_length (drop place text)) where
    abbrev line : List ℕ
    line = take (end - place) (drop place text)

    abbrev whole : Bool
    whole = last || eqb (get_or text (end - 1) 0) 10

    is-whole : (last || ended line) ≡ whole
    is-whole = ap (λ (t : Bool). last || t) (line-ended text place end h e)

    pub text-wait : (not whole || ltb (length room - count) 70) ≡ true → TextTold text last running room₀ room place lines count next 0
    text-wait = wait (λ l. last || ended l) 70 line_turned (λ p. lines_of (drop p text)) room₀ running room place lines count next f.is line end (line-here text place end h e) whole is-whole

    module _ (w : (not whole || ltb (length room - count) 70) ≡ false) where
      pub text-enough : count + 70 ≤ length room
      text-enough = enough (λ l. last || ended l) 70 line_turned (λ p. lines_of (drop p text)) room₀ running room place lines count next f.is line end (line-here text place end h e) whole is-whole w

      module _ {s : Result Placed ℕ} {room' : List ℕ} (d : Stepped (line_turned next line) room count s room') where
        pub text-failed : {n : ℕ} → s ≡ Err n → TextTold text last running room₀ room' place lines count next n
        text-failed {n} = failed (λ l. last || ended l) 70 line_turned (λ p. lines_of (drop p text)) room₀ running room place lines count next f.is line end (line-here text place end h e) whole is-whole w s room' d n

        pub text-went : {p serial : ℕ} → s ≡ goes p serial → TextState text last running room₀ room' end (lines + 1) p serial
        text-went {p} {serial} k =
            let m = line-more text place end h e in
            let n = line-within text place end h e in
            record {
              is =
                  went (λ l. last || ended l) 70 line_turned (λ p. lines_of (drop p text)) room₀ running room place lines count next f.is line end (line-here text place end h e) whole is-whole w s room' d p serial k
                  (omega (arith, length-take-le (end - place) (drop place text) (omega (arith, length-drop place text))));
            }
