-- A day file carried out turn by turn is the day of all bytes so far: what the turns so far come to, and where the last one ends the day.
use mathlib.Core.Bool.{Bool, true, false}
use mathlib.Core.List.{List, [], ◌∷◌, ◌++◌, append_assoc}
use mathlib.Core.Logic.{◌⊎◌, inl, inr}
use mathlib.Core.Path.{◌≡◌, refl, sym, ap, ◌∙◌}
use Prim.Native.Nat.{ℕ, ◌+◌, ◌-◌, ◌≤◌, ◌<◌}
use native.Mathlib.Omega.{arith}
use lib.Dec.{leb}
use lib.ListN.{length}
use borrow.Author.Tests.{leb-true, leb-false}
use Rattle.sums.proofs.Choices.{test-clash}
use Rattle.numbers.specs.Bytes.{Bytes}
use Rattle.rows.specs.declared.Book.{Book}
use Rattle.book.specs.Facts.{Sound}
use Rattle.records.specs.declared.Closing.{Closing}
use Rattle.records.specs.declared.Closing.TheVariants.{End, Cut, Long, Unsound}
use Rattle.records.specs.Runs.{ran_of, on_from}
use Rattle.records.proofs.Closings.{end-long, cut-long, unsound-long}
use Rattle.records.proofs.SoundRun.{ran-keeps}
use Rattle.records.proofs.Stops.{Stopped, ran-stops, ran-moves, ran-enough}
use Rattle.records.proofs.Pieces.{on-twice, on_none, in_pieces}
use Rattle.feed.specs.Fed.{day_of}
use Rattle.feed.specs.Pieces.{Stand, Turn, turn_most, turn_of, stand_after, day_by, after, came_by, place_by}
use Rattle.feed.specs.Inner.{stops_at}

-- one turn at a stand
module _ (s : Stand) (t : Turn) where
  turn-most : turn_most s.read t.most ≤ 1_000_000 - s.read
  turn-most = omega arith

  pub turn-stops : Stopped (s.rest ++ t.piece) (turn_most s.read t.most) 0 0 0 (turn_of s t)
  turn-stops = ran-stops s.book (s.rest ++ t.piece) (turn_most s.read t.most)

  -- the day from here on is this turn, and then what it leaves with whatever follows
  turn_on : (x : List ℕ) → (let r = turn_of s t in let n = stand_after s t in
      ran_of s.book ((s.rest ++ t.piece) ++ x) (1_000_000 - s.read) ≡ on_from r.place r.read r.done (ran_of n.book (n.rest ++ x) (1_000_000 - n.read)))
  turn_on x =
      let r = turn_of s t in
      let n = stand_after s t in
      let fuel : 1_000_000 - s.read - r.read ≡ 1_000_000 - n.read = omega arith in
      in_pieces s.book (s.rest ++ t.piece) x (turn_most s.read t.most) (1_000_000 - s.read) turn-most
      ∙ ap (λ k. on_from r.place r.read r.done (ran_of n.book (n.rest ++ x) k)) fuel

  -- a turn that its own number didn't stop, or that fills the million, leaves nothing to carry out of what came
  turn-enough : ((turn_of s t).closing ≡ Long → 1_000_000 ≤ s.read + (turn_of s t).read)
      → ran_of s.book (s.rest ++ t.piece) (1_000_000 - s.read) ≡ turn_of s t
  turn-enough full = by (turn_of s t).closing refl
    where
      other : ((turn_of s t).closing ≡ Long → ⊥) → ran_of s.book (s.rest ++ t.piece) (1_000_000 - s.read) ≡ turn_of s t
      other = ran-enough s.book (s.rest ++ t.piece) (turn_most s.read t.most) (1_000_000 - s.read) turn-most

      by : (w : Closing) → (turn_of s t).closing ≡ w → ran_of s.book (s.rest ++ t.piece) (1_000_000 - s.read) ≡ turn_of s t
      by End e = other (λ l. end-long (sym e ∙ l))
      by Cut e = other (λ l. cut-long (sym e ∙ l))
      by Unsound e = other (λ l. unsound-long (sym e ∙ l))
      by Long e =
          let k = full e in
          let m = turn-stops.long e in
          let n : 1_000_000 - s.read ≡ turn_most s.read t.most = omega arith in
          ap (ran_of s.book (s.rest ++ t.piece)) n

  module _ (short : Bool) where
    -- the last turn: it took all that came, or the million is full
    turn_last : stops_at (turn_of s t).closing short (leb 1_000_000 (s.read + (turn_of s t).read)) ≡ true
        → (turn_of s t).closing ≡ Long → 1_000_000 ≤ s.read + (turn_of s t).read
    turn_last e l = leb-true _ _ (rw l at e)

    -- any other took a record, where a piece that isn't short has room for the longest
    pub turn-moves : s.read ≤ 1_000_000 → 0 < t.most → Bytes (s.rest ++ t.piece) → (short ≡ false → 70 ≤ length (s.rest ++ t.piece))
        → stops_at (turn_of s t).closing short (leb 1_000_000 (s.read + (turn_of s t).read)) ≡ false → 0 < (turn_of s t).read
    turn-moves u m y h = by (turn_of s t).closing refl
      where
        some : short ≡ false → ((turn_of s t).closing ≡ End) ⊎ ((turn_of s t).closing ≡ Cut) → 0 < (turn_of s t).read
        some e w = ran-moves s.book (s.rest ++ t.piece) (turn_most s.read t.most) y (h e) w

        by : (w : Closing) → (turn_of s t).closing ≡ w → stops_at w short (leb 1_000_000 (s.read + (turn_of s t).read)) ≡ false → 0 < (turn_of s t).read
        by End e f = some f (inl e)
        by Cut e f = some f (inr e)
        by Long e f = omega (arith, turn-stops.long e, leb-false 1_000_000 (s.read + (turn_of s t).read) f)
        by Unsound e f = test-clash refl f

-- THE TURNS SO FAR: with whatever follows, the day of all bytes that came is what they came to, and then the records of what is left and of what follows
pub so_far : (b : Book) (turns : List Turn) (x : List ℕ) → (let s = after b turns in
    ran_of b (came_by turns ++ x) 1_000_000 ≡ on_from (place_by b turns) s.read s.done (ran_of s.book (s.rest ++ x) (1_000_000 - s.read)))
unfolding after came_by place_by
so_far b [] x = on_none (ran_of b x 1_000_000)
so_far b (t ∷ before) x =
    let s = after b before in
    let r = turn_of s t in
    ap (λ l. ran_of b l 1_000_000) (append_assoc (came_by before) t.piece x)
    ∙ so_far b before (t.piece ++ x)
    ∙ ap (λ l. on_from (place_by b before) s.read s.done (ran_of s.book l (1_000_000 - s.read))) (sym (append_assoc s.rest t.piece x))
    ∙ ap (on_from (place_by b before) s.read s.done) (turn_on s t x)
    ∙ on-twice (place_by b before) s.read s.done r.place r.read r.done _

pub read-so-far : (b : Book) (turns : List Turn) → (after b turns).read ≤ 1_000_000
unfolding after
read-so-far b [] = omega arith
read-so-far b (t ∷ before) = omega (arith, (turn-stops (after b before) t).upto, read-so-far b before)

pub done-so-far : (b : Book) (turns : List Turn) → (after b turns).done ≤ (after b turns).read
unfolding after
done-so-far b [] = omega arith
done-so-far b (t ∷ before) = omega (arith, (turn-stops (after b before) t).fewer, done-so-far b before)

pub sound-so-far : (b : Book) → Sound b → (turns : List Turn) → Sound (after b turns).book
unfolding after
sound-so-far b h [] = h
sound-so-far b h (t ∷ before) = let s = after b before in ran-keeps s.book (s.rest ++ t.piece) (turn_most s.read t.most) (sound-so-far b h before)

-- THE LAST TURN: the day is that of all bytes that came, whatever was printed
pub last_turn : (printed : ℕ) (b : Book) (before : List Turn) (t : Turn) (short : Bool)
    → (let s = after b before in stops_at (turn_of s t).closing short (leb 1_000_000 (s.read + (turn_of s t).read)) ≡ true)
    → day_by printed (after b before) t ≡ day_of printed (ran_of b (came_by (t ∷ before)) 1_000_000)
unfolding came_by
last_turn printed b before t short e =
    let s = after b before in
    ap (λ r. day_of printed (on_from (place_by b before) s.read s.done r)) (sym (turn-enough s t (turn_last s t short e)))
    ∙ ap (day_of printed) (sym (so_far b before t.piece))
