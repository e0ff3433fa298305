-- The loop over the records of a piece of a day file.
use Rattle.std.proofs.Common.{◌≡◌, ℕ, ◌+◌, ◌-◌, ◌≤◌, Bool, true, false, not, ◌||◌, ltb, List, length, take, drop, sym, refl, ap, ◌∙◌, arith, length-drop, length-take-le}
use Rattle.dayfile.specs.declared.Record.{Record}
use Rattle.dayfile.specs.declared.Read.{Read}
use Rattle.dayfile.specs.declared.Read.TheVariants.{End, Cut, Good, Bad}
use Rattle.dayfile.specs.Reading.{found_at, read_at}
use Rattle.text.specs.Inner.{Puts}
use Rattle.words.specs.declared.piece.End.{End as Ended}
use Rattle.words.specs.declared.piece.Placed.{Placed}
use Rattle.std.specs.Prelude.{Result, Err}
use Rattle.words.specs.Lines.{line_of}
use Rattle.words.specs.Hex.{raw_line}
use Rattle.words.specs.Texts.{moved, line_by, line_for, record_turned, records_of}
use Rattle.words.specs.Pieces.{is_whole}
use Rattle.words.specs.Inner.{goes, Stepped}
use Rattle.words.proofs.RecordsAt.{no_record, Here}
use Rattle.words.proofs.Going.{State, Told, started, no_more, same-room, in-room, wait, enough, failed, went}

-- ---- one record

module _ (x : List ℕ) (running : ℕ) (a : Read) (e : a ≡ read_at x 0) where
  line_as : line_for running x ≡ line_by running x a
  unfolding line_for
  line_as = ap (line_by running x) (sym e)

  pub good-line : {r : Record} {next : ℕ} → a ≡ Good r next → line_of running r ≡ line_for running x
  unfolding line_by
  good-line d = sym (line_as ∙ ap (line_by running x) d)

  pub end_line : a ≡ End → raw_line x ≡ line_for running x
  unfolding line_by
  end_line d = sym (line_as ∙ ap (line_by running x) d)

  pub cut_line : a ≡ Cut → raw_line x ≡ line_for running x
  unfolding line_by
  cut_line d = sym (line_as ∙ ap (line_by running x) d)

  pub bad-line : {n serial code account next : ℕ} → a ≡ Bad n serial code account next → raw_line x ≡ line_for running x
  unfolding line_by
  bad-line d = sym (line_as ∙ ap (line_by running x) d)

pub record-went : (x : List ℕ) (running : ℕ) {y room : List ℕ} {at p next : ℕ} {room' : List ℕ} → y ≡ line_for running x → Puts room at y room' p → next ≡ moved running x
    → Stepped (record_turned running x) room at (goes p next) room'
unfolding Stepped
record-went x running e f n = rw (← e, n, f.next) (refl, rw f.next at f)

-- ---- the loop

-- so many records were taken
pub record BytesState (bytes : List ℕ) (last : Bool) (running : ℕ) (room₀ room : List ℕ) (place lines count next : ℕ) : Type 0 where
  pub is : State (λ x. last || is_whole (found_at x 0)) 205 record_turned (λ p. records_of (drop p bytes)) room₀ running room place lines count next

abbrev pub BytesTold : List ℕ → Bool → ℕ → List ℕ → List ℕ → ℕ → ℕ → ℕ → ℕ → ℕ → Type 0
BytesTold bytes last running room₀ = Told (λ x. last || is_whole (found_at x 0)) 205 record_turned (λ p. records_of (drop p bytes)) room₀ running

pub bytes-started : (bytes : List ℕ) (last : Bool) (running : ℕ) (room₀ : List ℕ) → BytesState bytes last running room₀ room₀ 0 0 0 running
bytes-started bytes last running room₀ = record { is = started (λ x. last || is_whole (found_at x 0)) 205 record_turned (λ p. records_of (drop p bytes)) room₀ running }

module _ {bytes : List ℕ} {last : Bool} {running : ℕ} {room₀ room : List ℕ} {place lines count next : ℕ} (f : BytesState bytes last running room₀ room place lines count next) where
  pub bytes-over : length bytes ≤ place → BytesTold bytes last running room₀ room place lines count next 0
  bytes-over h = no_more (λ x. last || is_whole (found_at x 0)) 205 record_turned (λ p. records_of (drop p bytes)) room₀ running room place lines count next f.is (no_record bytes place h)

  pub bytes-room : length room ≡ length room₀
  bytes-room = same-room (λ x. last || is_whole (found_at x 0)) 205 record_turned (λ p. records_of (drop p bytes)) room₀ running room place lines count next f.is

  pub bytes-fits : count ≤ length room
  bytes-fits = in-room (λ x. last || is_whole (found_at x 0)) 205 record_turned (λ p. records_of (drop p bytes)) room₀ running room place lines count next f.is

  module _ {e : Ended} (g : Here bytes place e) where
    abbrev part : List ℕ
    part = take (e.place - place) (drop place bytes)

    is-whole : (last || is_whole (found_at part 0)) ≡ (last || e.whole)
    is-whole = ap (λ (t : Bool). last || t) g.whole

    pub bytes-wait : (not (last || e.whole) || ltb (length room - count) 205) ≡ true → BytesTold bytes last running room₀ room place lines count next 0
    bytes-wait = wait (λ x. last || is_whole (found_at x 0)) 205 record_turned (λ p. records_of (drop p bytes)) room₀ running room place lines count next f.is part e.place g.here (last || e.whole) is-whole

    module _ (w : (not (last || e.whole) || ltb (length room - count) 205) ≡ false) where
      pub bytes-enough : count + 205 ≤ length room
      bytes-enough = enough (λ x. last || is_whole (found_at x 0)) 205 record_turned (λ p. records_of (drop p bytes)) room₀ running room place lines count next f.is part e.place g.here (last || e.whole) is-whole w

      module _ {s : Result Placed ℕ} {room' : List ℕ} (d : Stepped (record_turned next part) room count s room') where
        pub bytes-failed : {n : ℕ} → s ≡ Err n → BytesTold bytes last running room₀ room' place lines count next n
        bytes-failed {n} = failed (λ x. last || is_whole (found_at x 0)) 205 record_turned (λ p. records_of (drop p bytes)) room₀ running room place lines count next f.is part e.place g.here (last || e.whole) is-whole w s room' d n

        pub bytes-went : {p serial : ℕ} → s ≡ goes p serial → BytesState bytes last running room₀ room' e.place (lines + 1) p serial
        bytes-went {p} {serial} k =
            let m = g.more in
            let n = g.within in
            record {
              is =
                  went (λ x. last || is_whole (found_at x 0)) 205 record_turned (λ p. records_of (drop p bytes)) room₀ running room place lines count next f.is part e.place g.here (last || e.whole) is-whole w s room' d p serial k
                  (omega (arith, length-take-le (e.place - place) (drop place bytes) (omega (arith, length-drop place bytes))));
            }
