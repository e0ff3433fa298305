-- What is told of a day file that comes in pieces, turn after turn, is what is told of all bytes so far, whatever is told of each record; its lines are one such telling.
use mathlib.Core.Bool.{Bool, true, false, ◌&&◌}
use mathlib.Core.List.{List, [], ◌∷◌, ◌++◌, append_assoc, append-nil}
use mathlib.Core.Logic.{◌⊎◌, inl, inr}
use mathlib.Core.Path.{◌≡◌, refl, sym, ap, ◌∙◌}
use Prim.Native.Nat.{ℕ, zero, suc, ◌+◌, ◌-◌, ◌≤◌}
use native.Mathlib.Nat.{add-zero}
use native.Mathlib.Omega.{arith}
use lib.Dec.{leb}
use lib.ListN.{length, length-append}
use borrow.Author.Tests.{leb-true}
use Rattle.sums.specs.Choice.{pick}
use Rattle.rows.specs.declared.Book.{Book}
use Rattle.book.specs.Sound.{sound_b}
use Rattle.book.specs.Facts.{Sound}
use Rattle.book.proofs.SoundTest.{sound→, sound←}
use Rattle.dayfile.specs.declared.Found.{Found}
use Rattle.dayfile.specs.declared.Found.TheVariants.{End as NoBytes, Cut as TooFew, Whole}
use Rattle.dayfile.specs.declared.Record.{Record}
use Rattle.dayfile.specs.Reading.{found_at}
use Rattle.desk.specs.Answers.{carried_in}
use Rattle.desk.specs.Steps.{step_of}
use Rattle.records.specs.declared.Closing.{Closing}
use Rattle.records.specs.declared.Closing.TheVariants.{End, Cut, Long, Unsound}
use Rattle.records.specs.Runs.{Ran, stopped, onward, run_of, ran_of, on_from}
use Rattle.records.specs.LineNumbers.{answering, answers_of, numbers_of_line}
use Rattle.records.proofs.NumbersPut.{ran-sound}
use Rattle.records.proofs.SoundRun.{ran-keeps}
use Rattle.records.proofs.Pieces.{after-end, nothing_left as nothing-after}
use Rattle.lines.specs.Lines.{line_of, lines_of}
use Rattle.telling.specs.Told.{telling, told_of}
use Rattle.telling.specs.Explained.{line_told}
use Rattle.telling.proofs.Pieces.{none_told, told-from, told-in-pieces}
use Rattle.feed.specs.Fed.{day_of}
use Rattle.feed.specs.Pieces.{Stand, Turn, turn_most, turn_of, stand_after, day_by, turn_told, after, came_by, told_by, printed_by}
use Rattle.feed.specs.Inner.{stops_at, told_text}
use Rattle.feed.proofs.Pieces.{turn-stops, sound-so-far, last_turn}

-- ---- lines are told

-- a record's line is its answer's
line-told : (b : Book) (r : Record) → line_told false b r ≡ line_of (step_of b r).answer
unfolding line_told line_of numbers_of_line pick
line-told b r = refl

-- THE LINES of the answers are what is told of the records where nothing is explained
pub lines-told : (s : List ℕ) (n : ℕ) (b : Book) (at : ℕ) → told_of (line_told false) s n b at ≡ lines_of (answers_of s n b at)
unfolding told_of answers_of lines_of
lines-told s zero b at = refl
lines-told s (suc n) b at = by (found_at s at) (λ b' next. lines-told s n b' next)
  where
    by : (f : Found) → ((b' : Book) (next : ℕ) → told_of (line_told false) s n b' next ≡ lines_of (answers_of s n b' next))
        → telling (line_told false) (told_of (line_told false) s n) f b ≡ lines_of (answering (answers_of s n) f b)
    by NoBytes go = refl
    by TooFew go = refl
    by (Whole r next) go = let b' = (step_of b r).book in ap (λ l. l ++ told_of (line_told false) s n b' next) (line-told b r) ∙ ap (λ l. line_of (step_of b r).answer ++ l) (go b' next)

-- at a sound book the records are run
never-unsound : (s : List ℕ) (n : ℕ) (b : Book) (at read done : ℕ) → (run_of s n b at read done).closing ≡ Unsound → ⊥
unfolding run_of
never-unsound s zero b at read done = by (found_at s at)
  where
    by : (f : Found) → (stopped f b at read done).closing ≡ Unsound → ⊥
    by NoBytes e = let z : ◌≡◌ {A = ℕ} 0 1 = cc in omega arith
    by TooFew e = let z : ◌≡◌ {A = ℕ} 0 1 = cc in omega arith
    by (Whole r next) e = let z : ◌≡◌ {A = ℕ} 0 1 = cc in omega arith
never-unsound s (suc n) b at read done = by (found_at s at) (λ b' next read' done'. never-unsound s n b' next read' done')
  where
    by : (f : Found) → ((b' : Book) (next read' done' : ℕ) → (run_of s n b' next read' done').closing ≡ Unsound → ⊥) → (onward (run_of s n) f b at read done).closing ≡ Unsound → ⊥
    by NoBytes go e = let z : ◌≡◌ {A = ℕ} 0 1 = cc in omega arith
    by TooFew go e = let z : ◌≡◌ {A = ℕ} 0 1 = cc in omega arith
    by (Whole r next) go e = go _ _ _ _ e

module _ (tell : Book → Record → List ℕ) where
  -- ---- one turn

  -- what is told from here on is what the turn tells, and then what is told of what it leaves with whatever follows
  told-turn : (s : Stand) (t : Turn) → Sound s.book → (x : List ℕ) → (let n = stand_after s t in
      told_of tell ((s.rest ++ t.piece) ++ x) (1_000_000 - s.read) s.book 0 ≡ turn_told tell s t ++ told_of tell (n.rest ++ x) (1_000_000 - n.read) n.book 0)
  told-turn s t g x =
      let n = stand_after s t in
      let fuel : 1_000_000 - s.read - (turn_of s t).read ≡ 1_000_000 - n.read = omega arith in
      told-in-pieces tell s.book (s.rest ++ t.piece) x (turn_most s.read t.most) (1_000_000 - s.read) (omega arith) g
      ∙ ap (λ k. turn_told tell s t ++ told_of tell (n.rest ++ x) k n.book 0) fuel

  -- WHAT WAS TOLD SO FAR, and then what is told of what is left and of what follows, is what is told of all bytes
  pub told-so-far : (b : Book) → Sound b → (turns : List Turn) (x : List ℕ) → (let s = after b turns in
      told_by tell b turns ++ told_of tell (s.rest ++ x) (1_000_000 - s.read) s.book 0 ≡ told_of tell (came_by turns ++ x) 1_000_000 b 0)
  unfolding after came_by told_by
  told-so-far b h [] x = refl
  told-so-far b h (t ∷ before) x =
      let s = after b before in
      append_assoc (told_by tell b before) (turn_told tell s t) _
      ∙ ap (λ l. told_by tell b before ++ l) (sym (told-turn s t (sound-so-far b h before) x))
      ∙ ap (λ l. told_by tell b before ++ told_of tell l (1_000_000 - s.read) s.book 0) (append_assoc s.rest t.piece x)
      ∙ told-so-far b h before (t.piece ++ x)
      ∙ ap (λ l. told_of tell l 1_000_000 b 0) (sym (append_assoc (came_by before) t.piece x))

  -- ---- the last turn leaves nothing to tell

  module _ (s : Stand) (t : Turn) (g : Sound s.book) (short : Bool)
      (e : stops_at (turn_of s t).closing short (leb 1_000_000 (s.read + (turn_of s t).read)) ≡ true) where
    abbrev r : Ran
    r = turn_of s t

    abbrev l : List ℕ
    l = s.rest ++ t.piece

    nothing-there : (w : Closing) → r.closing ≡ w → (1_000_000 - (s.read + r.read) ≡ 0) ⊎ ((found_at l r.place ≡ NoBytes) ⊎ (found_at l r.place ≡ TooFew))
    nothing-there End c = inr (inl ((turn-stops s t).ended c))
    nothing-there Cut c = inr (inr ((turn-stops s t).short c))
    nothing-there Long c = inl (omega (arith, leb-true 1_000_000 (s.read + r.read) (rw c at e)))
    nothing-there Unsound c =
        let m = turn_most s.read t.most in
        absurd (never-unsound l m s.book 0 0 0 (ap (λ (q : Ran). q.closing) (ran-sound s.book l m (sound← s.book g)) ∙ c))

    nothing_left : (let n = stand_after s t in told_of tell n.rest (1_000_000 - n.read) n.book 0 ≡ [])
    nothing_left =
        let k = 1_000_000 - (s.read + r.read) in
        sym (told-from tell l r.place k r.book 0)
        ∙ ap (told_of tell l k r.book) (add-zero r.place)
        ∙ none_told tell l k r.book r.place (nothing-there r.closing refl)

  -- WHAT ALL TURNS TELL is what is told of the whole day, where the last turn ends it
  pub told-whole : (b : Book) → Sound b → (before : List Turn) (t : Turn) (short : Bool)
      → (let s = after b before in stops_at (turn_of s t).closing short (leb 1_000_000 (s.read + (turn_of s t).read)) ≡ true)
      → told_by tell b (t ∷ before) ≡ told_of tell (came_by (t ∷ before)) 1_000_000 b 0
  unfolding after
  told-whole b h before t short e =
      let n = stand_after (after b before) t in
      sym (append-nil (told_by tell b (t ∷ before)))
      ∙ ap (λ a. told_by tell b (t ∷ before) ++ a) (sym (nothing_left (after b before) t (sound-so-far b h before) short e))
      ∙ ap (λ l. told_by tell b (t ∷ before) ++ told_of tell l (1_000_000 - n.read) n.book 0) (sym (append-nil n.rest))
      ∙ told-so-far b h (t ∷ before) []
      ∙ ap (λ l. told_of tell l 1_000_000 b 0) (append-nil (came_by (t ∷ before)))

  -- ---- how many bytes were printed

  -- one turn more
  pub printed-on : (printing : Bool) (b : Book) (before : List Turn) (t : Turn) → sound_b b ≡ true
      → printed_by printing tell b (t ∷ before) ≡ printed_by printing tell b before + length (pick printing (turn_told tell (after b before) t) [])
  unfolding printed_by told_by pick
  printed-on true b before t h = rw h (length-append (told_by tell b before) (turn_told tell (after b before) t))
  printed-on false b before t h = refl

  -- THE BYTES OF ALL TURNS are those of the whole day, where the last turn ends it ..
  last-printed : (printing : Bool) (b : Book) (before : List Turn) (t : Turn) (short : Bool)
      → (let s = after b before in stops_at (turn_of s t).closing short (leb 1_000_000 (s.read + (turn_of s t).read)) ≡ true)
      → printed_by printing tell b (t ∷ before) ≡ length (pick (printing && sound_b b) (told_of tell (came_by (t ∷ before)) 1_000_000 b 0) [])
  unfolding printed_by pick
  last-printed false b before t short e = refl
  last-printed true b before t short e = by (sound_b b) refl
    where
      by : (z : Bool) → sound_b b ≡ z
          → length (pick z (told_by tell b (t ∷ before)) []) ≡ length (pick z (told_of tell (came_by (t ∷ before)) 1_000_000 b 0) [])
      by true h = ap length (told-whole b (sound→ b h) before t short e)
      by false h = refl

-- .. and so is the day
pub last-day : (printing explained : Bool) (b : Book) (before : List Turn) (t : Turn) (short : Bool)
    → (let s = after b before in stops_at (turn_of s t).closing short (leb 1_000_000 (s.read + (turn_of s t).read)) ≡ true)
    → day_by (printed_by printing (line_told explained) b (t ∷ before)) (after b before) t
    ≡ day_of (length (told_text printing explained b (came_by (t ∷ before)))) (ran_of b (came_by (t ∷ before)) 1_000_000)
last-day printing explained b before t short e =
    ap (λ n. day_by n (after b before) t) (last-printed (line_told explained) printing b before t short e)
    ∙ last_turn (length (told_text printing explained b (came_by (t ∷ before)))) b before t short e

-- ---- two files one after the other

-- where it is not the stated number that stopped a run, a larger one tells no more
told-enough : (tell : Book → Record → List ℕ) (s : List ℕ) (m n : ℕ) (b : Book) (at read done : ℕ) → m ≤ n → ((run_of s m b at read done).closing ≡ Long → ⊥) → told_of tell s n b at ≡ told_of tell s m b at
unfolding run_of told_of
told-enough tell s zero n b at read done h w = by (found_at s at) refl w
  where
    by : (f : Found) → found_at s at ≡ f → ((stopped f b at read done).closing ≡ Long → ⊥) → told_of tell s n b at ≡ []
    by NoBytes e w = none_told tell s n b at (inr (inl e))
    by TooFew e w = absurd (w refl)
    by (Whole r next) e w = absurd (w refl)
told-enough tell s (suc m) zero b at read done h w = absurd (omega arith)
told-enough tell s (suc m) (suc n) b at read done h w = by (found_at s at) w (λ b' next d v. told-enough tell s m n b' next (read + 1) d (omega arith) v)
  where
    by : (f : Found) → ((onward (run_of s m) f b at read done).closing ≡ Long → ⊥)
        → ((b' : Book) (next d : ℕ) → ((run_of s m b' next (read + 1) d).closing ≡ Long → ⊥) → told_of tell s n b' next ≡ told_of tell s m b' next)
        → telling tell (told_of tell s n) f b ≡ telling tell (told_of tell s m) f b
    by NoBytes v go = refl
    by TooFew v go = refl
    by (Whole r next) v go = ap (λ l. tell b r ++ l) (go (step_of b r).book next (done + carried_in (step_of b r).answer.outcome) v)

-- THE LINES OF TWO FILES, the second over the book after the first, are those of both joined
module _ (b : Book) (s x : List ℕ) (n : ℕ) (g : Sound b) (e : (ran_of b s n).closing ≡ End) (w : (ran_of b (s ++ x) n).closing ≡ Long → ⊥) where
  abbrev day : Ran
  day = ran_of b s n

  told-of-two : (tell : Book → Record → List ℕ) → told_of tell (s ++ x) n b 0 ≡ told_of tell s n b 0 ++ told_of tell x n day.book 0
  told-of-two tell =
      let k = n - day.read in
      let sound = sound← day.book (ran-keeps b s n g) in
      let short : (run_of x k day.book 0 0 0).closing ≡ Long → ⊥ = λ l. w (ap (λ (r : Ran). r.closing) (after-end b s x n e ∙ ap (on_from day.place day.read day.done) (sym (ran-sound day.book x k sound))) ∙ l) in
      told-in-pieces tell b s x n n (omega arith) g
      ∙ ap (λ l. told_of tell s n b 0 ++ told_of tell (l ++ x) k day.book 0) (nothing-after b s x n e)
      ∙ ap (λ a. told_of tell s n b 0 ++ a) (sym (told-enough tell x k n day.book 0 0 0 (omega arith) short))

  pub lines-of-two : lines_of (answers_of (s ++ x) n b 0) ≡ lines_of (answers_of s n b 0) ++ lines_of (answers_of x n day.book 0)
  lines-of-two =
      sym (lines-told (s ++ x) n b 0)
      ∙ told-of-two (line_told false)
      ∙ ap (λ l. l ++ told_of (line_told false) x n day.book 0) (lines-told s n b 0)
      ∙ ap (λ l. lines_of (answers_of s n b 0) ++ l) (lines-told x n day.book 0)
