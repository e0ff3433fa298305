-- The reading loop: what holds at each turn, one piece more, and where it stops.
use mathlib.Core.Bool.{Bool, true, false, ◌&&◌}
use mathlib.Core.List.{List, [], ◌∷◌, ◌++◌}
use mathlib.Core.Path.{◌≡◌, refl, sym, ap, ◌∙◌}
use Prim.Native.Nat.{ℕ, zero, suc, ◌+◌, ◌*◌, ◌-◌, ◌≤◌, ◌<◌}
use native.Mathlib.Omega.{arith}
use lib.Dec.{leb, ltb}
use lib.ListN.{length, take, drop}
use lib.Seq.{length-take-le, take-add, drop_at}
use borrow.Author.Tests.{ltb-false}
use Rattle.sums.specs.Choice.{pick}
use Rattle.numbers.specs.Bytes.{Bytes}
use Rattle.numbers.proofs.Numbers.{bytes_take, bytes_drop}
use Rattle.streams.specs.declared.Moved.{Moved}
use Rattle.rows.specs.declared.Book.{Book}
use Rattle.book.specs.Sound.{sound_b}
use Rattle.records.specs.declared.Closing.TheVariants.{Unsound}
use Rattle.records.specs.Runs.{Ran, ended_with, ran_of}
use Rattle.records.proofs.NumbersPut.{ran-unsound}
use Rattle.records.proofs.Stops.{Stopped}
use Rattle.lines.specs.Texts.{text_of}
use Rattle.telling.specs.Explained.{line_told}
use Rattle.table.specs.declared.Table.{Table}
use Rattle.table.specs.Words.{turned}
use Rattle.feed.specs.declared.Day.{Day}
use Rattle.feed.specs.Fed.{printed_of, day_of, no_day, whole_day, Came, explained_text, explained_day, CameExplained}
use Rattle.feed.specs.Pieces.{Stand, Turn, turn_most, turn_of, stand_after, day_by, turn_told, after, came_by, told_by, printed_by}
use Rattle.feed.specs.Inner.{stops_at, turn_text, told_text, CameWith}
use Rattle.feed.proofs.Pieces.{turn-stops, turn-moves, read-so-far, done-so-far}
use Rattle.feed.proofs.PieceLines.{lines-told, printed-on, last-day}

-- how far the day file is carried out, the bytes left at the front of their space
abbrev standing : List ℕ → Book → ℕ → ℕ → ℕ → Stand
standing space book rest read done = record { book = book; rest = take rest space; read = read; done = done }

-- that is where the turns so far came to, over the book b, with the bytes printed
pub record Feeding (printing explained : Bool) (b : Book) (space : List ℕ) (book : Book) (rest read done printed : ℕ) : Type 0 where
  pub sound : sound_b b ≡ true
  pub turns : List Turn
  pub bytes : Bytes (came_by turns)
  pub size : length space ≡ 16454
  pub within : rest ≤ 16454
  pub is : standing space book rest read done ≡ after b turns
  pub told : printed ≡ printed_by printing (line_told explained) b turns
  pub few : printed ≤ 16384 * read

no_line : (t : Bool) → 0 ≡ length (pick {A = List ℕ} t [] [])
unfolding pick
no_line true = refl
no_line false = refl

pub nothing_read : (printing explained : Bool) (b : Book) (space : List ℕ) → sound_b b ≡ true → length space ≡ 16454 → Feeding printing explained b space b 0 0 0 0
unfolding after came_by told_by printed_by
nothing_read printing explained b space s h = record {
  sound = s;
  turns = [];
  bytes = λ i. omega arith;
  size = h;
  within = omega arith;
  is = refl;
  told = no_line (printing && sound_b b);
  few = omega arith;
}

-- where a read or a write failed
pub no-day-came : (text : List ℕ → List ℕ) (b : Book) (d : Day) → sound_b b ≡ true → d ≡ no_day → CameWith text b d
unfolding no_day pick
no-day-came text b d s e = rw e (record { input = []; bytes = λ i. omega arith; is = rw s })

pub came-over : (printing explained : Bool) {b b' : Book} {d : Day} → b ≡ b' → CameWith (told_text printing explained b) b d → CameWith (told_text printing explained b') b' d
came-over printing explained e c = rw (← e) c

-- the promises of both calls: lines are told where nothing is explained
same_text : (printing : Bool) (b : Book) (s : List ℕ) → length (told_text printing false b s) ≡ printed_of printing b s
unfolding printed_of text_of pick
same_text true b s = ap (λ l. length (pick (sound_b b) l [])) (lines-told s 1_000_000 b 0)
same_text false b s = refl

pub as-lines : (printing : Bool) (b : Book) (d : Day) → CameWith (told_text printing false b) b d → Came printing b d
unfolding whole_day
as-lines printing b d c = record {
  input = c.input;
  bytes = c.bytes;
  is = c.is ∙ ap (λ n. pick (d.failed && sound_b b) no_day (day_of n (ran_of b c.input 1_000_000))) (same_text printing b c.input);
}

pub as-explained : (b : Book) (d : Day) → CameWith (told_text true true b) b d → CameExplained b d
unfolding explained_day explained_text
as-explained b d c = record { input = c.input; bytes = c.bytes; is = c.is }

-- where the last turn ends the day
pub day-of-turns : (printing : Bool) (b : Book) (before : List Turn) (t : Turn) (short : Bool)
    → (let s = after b before in stops_at (turn_of s t).closing short (leb 1_000_000 (s.read + (turn_of s t).read)) ≡ true)
    → day_by (printed_by printing (line_told false) b (t ∷ before)) (after b before) t ≡ whole_day printing b (came_by (t ∷ before))
unfolding whole_day
day-of-turns printing b before t short e =
    last-day printing false b before t short e
    ∙ ap (λ n. day_of n (ran_of b (came_by (t ∷ before)) 1_000_000)) (same_text printing b (came_by (t ∷ before)))

pub explained-day-of-turns : (b : Book) (before : List Turn) (t : Turn) (short : Bool)
    → (let s = after b before in stops_at (turn_of s t).closing short (leb 1_000_000 (s.read + (turn_of s t).read)) ≡ true)
    → day_by (printed_by true (line_told true) b (t ∷ before)) (after b before) t ≡ explained_day b (came_by (t ∷ before))
unfolding explained_day explained_text
explained-day-of-turns = last-day true true

-- of a book that isn't sound nothing is read
none-printed : (printing : Bool) (b : Book) → sound_b b ≡ false → 0 ≡ printed_of printing b []
unfolding printed_of text_of pick
none-printed true b h = rw h
none-printed false b h = refl

pub unsound-came : (printing : Bool) (b : Book) (d : Day) → sound_b b ≡ false → d ≡ day_of 0 (ended_with Unsound b 0 0 0) → Came printing b d
unfolding whole_day pick
unsound-came printing b d h e =
    rw e
    (record {
      input = [];
      bytes = λ i. omega arith;
      is = ap (day_of 0) (ran-unsound b [] 1_000_000 h) ∙ ap (λ n. day_of n (ran_of b [] 1_000_000)) (none-printed printing b h);
    })

none-explained : (b : Book) → sound_b b ≡ false → 0 ≡ length (explained_text b [])
unfolding explained_text pick
none-explained b h = rw h

pub unsound-explained : (b : Book) (d : Day) → sound_b b ≡ false → d ≡ day_of 0 (ended_with Unsound b 0 0 0) → CameExplained b d
unfolding explained_day pick
unsound-explained b d h e =
    rw e
    (record {
      input = [];
      bytes = λ i. omega arith;
      is = ap (day_of 0) (ran-unsound b [] 1_000_000 h) ∙ ap (λ n. day_of n (ran_of b [] 1_000_000)) (none-explained b h);
    })

module _ {printing explained : Bool} {b : Book} {space : List ℕ} {book : Book} {rest read done printed : ℕ} (g : Feeding printing explained b space book rest read done printed) where
  pub read-upto : read ≤ 1_000_000
  read-upto = rw (← g.is) at (read-so-far b g.turns)

  pub done-fewer : done ≤ read
  done-fewer = rw (← g.is) at (done-so-far b g.turns)

-- a part in the middle
mid : (p n : ℕ) (l : List ℕ) → p ≤ n → n ≤ length l → drop p (take n l) ≡ take (n - p) (drop p l)
mid p n l h k =
    let e : n ≡ p + (n - p) = omega arith in
    ap (λ m. drop p (take m l)) e
    ∙ ap (drop p) (take-add p (n - p) l)
    ∙ drop_at (take p l) (take (n - p) (drop p l)) p (length-take-le p l (omega arith))

bytes-append : (l m : List ℕ) → Bytes l → Bytes m → Bytes (l ++ m)
bytes-append [] m y z i = z i
bytes-append (x ∷ l) m y z zero = y 0
bytes-append (x ∷ l) m y z (suc i) = bytes-append l m (λ j. y (suc j)) z i

-- one piece more: the bytes left and those read behind them, held of them in all, and the turn r of them, which takes at most so many records
pub record Piece (printing explained : Bool) (b : Book) (space : List ℕ) (book : Book) (rest read done printed : ℕ) (filled : List ℕ) (held takes : ℕ) (r : Ran) : Type 0 where
  pub before : Feeding printing explained b space book rest read done printed
  pub size : length filled ≡ 16454
  pub least : rest ≤ held
  pub most : held ≤ 16454
  pub old : take rest filled ≡ take rest space
  pub bytes : Bytes filled
  pub some : 0 < takes
  pub is : r ≡ ran_of book (take held filled) (turn_most read takes)

-- the same by what was read behind the rest, into a space as long as it was
pub piece-of : {printing explained : Bool} {b : Book} {space : List ℕ} {book : Book} {rest read done printed : ℕ}
    → Feeding printing explained b space book rest read done printed
    → (filled : List ℕ) (m : Moved) (takes : ℕ) (r : Ran)
    → rest + m.count ≤ length filled
    → take rest filled ≡ take rest space
    → Bytes filled
    → length filled ≡ length space
    → 0 < takes
    → r ≡ ran_of book (take (rest + m.count) filled) (turn_most read takes)
    → Piece printing explained b space book rest read done printed filled (rest + m.count) takes r
piece-of g filled m takes r h old bytes size some is = record {
  before = g;
  size = size ∙ g.size;
  least = omega arith;
  most = omega (arith, h, size, g.size);
  old = old;
  bytes = bytes;
  some = some;
  is = is;
}

module _ {printing explained : Bool} {b : Book} {space : List ℕ} {book : Book} {rest read done printed : ℕ} {filled : List ℕ} {held takes : ℕ} {r : Ran}
    (g : Piece printing explained b space book rest read done printed filled held takes r) where
  abbrev s : Stand
  s = standing space book rest read done

  abbrev new : List ℕ
  new = take (held - rest) (drop rest filled)

  abbrev turn : Turn
  turn = record { piece = new; most = takes }

  piece_is : take held filled ≡ take rest space ++ new
  piece_is =
      let e : held ≡ rest + (held - rest) = omega (arith, g) in
      ap (λ n. take n filled) e ∙ take-add rest (held - rest) filled ∙ ap (λ l. l ++ take (held - rest) (drop rest filled)) g.old

  turn_is : r ≡ turn_of s turn
  turn_is = g.is ∙ ap (λ l. ran_of book l (turn_most read takes)) piece_is

  stopped : Stopped (take rest space ++ new) (turn_most read takes) 0 0 0 r
  stopped = rw turn_is (turn-stops s turn)

  held_bytes : Bytes (take held filled)
  held_bytes = bytes_take held filled g.bytes

  all-bytes : Bytes (came_by (turn ∷ g.before.turns))
  unfolding came_by
  all-bytes = bytes-append (came_by g.before.turns) _ g.before.bytes (bytes_take (held - rest) _ (bytes_drop rest filled g.bytes))

  length-piece : length (take rest space ++ new) ≡ held
  length-piece = ap length (sym piece_is) ∙ length-take-le held filled (omega (arith, g))

  pub place-within : r.place ≤ held
  place-within = omega (arith, stopped.within (omega arith), length-piece)

  pub read-within : read + r.read ≤ 1_000_000
  read-within = omega (arith, stopped.upto, read-upto g.before)

  pub done-within : done + r.done ≤ read + r.read
  done-within = omega (arith, stopped.fewer, done-fewer g.before)

  -- the bytes of the turn's text, where it is printed
  abbrev pub Shown : ℕ → Type 0
  Shown count = count ≡ length (turn_text printing explained (take held filled) (turn_most read takes) book)

  pub printed-now : (count : ℕ) → Shown count → printed + count ≡ printed_by printing (line_told explained) b (turn ∷ g.before.turns)
  printed-now count e =
      ap (λ n. n + count) g.before.told
      ∙ ap (λ n. printed_by printing (line_told explained) b g.before.turns + n)
      (e
      ∙ ap (λ l. length (turn_text printing explained l (turn_most read takes) book)) piece_is
      ∙ ap (λ z. length (pick printing (turn_told (line_told explained) z turn) [])) g.before.is)
      ∙ sym (printed-on (line_told explained) printing b g.before.turns turn g.before.sound)

  -- w says whether the turn is the last; t is the table that holds its book
  pub last-turn-came : (count : ℕ) → Shown count → (short : Bool) (w : Bool) → w ≡ stops_at r.closing short (leb 1_000_000 (read + r.read)) → w ≡ true → (t : Table) → turned r.book ≡ t
      → CameWith (told_text printing explained b) b (record { table = t; closing = r.closing; read = read + r.read; done = done + r.done; printed = printed + count; failed = false })
  unfolding pick
  last-turn-came count told short w e h t f =
      let p = g.before.turns in
      let stop : (let z = after b p in stops_at (turn_of z turn).closing short (leb 1_000_000 (z.read + (turn_of z turn).read)) ≡ true) = rw (← g.before.is, ← turn_is) (sym e ∙ h) in
      let day : day_by (printed + count) s turn ≡ day_of (length (told_text printing explained b (came_by (turn ∷ p)))) (ran_of b (came_by (turn ∷ p)) 1_000_000) =
      ap (λ n. day_by n s turn) (printed-now count told) ∙ ap (λ z. day_by (printed_by printing (line_told explained) b (turn ∷ p)) z turn) g.before.is ∙ last-day printing explained b p turn short stop in
      record {
        input = came_by (turn ∷ p);
        bytes = all-bytes;
        is =
            ap (λ (x : Table). record { table = x; closing = r.closing; read = read + r.read; done = done + r.done; printed = printed + count; failed = false }) (sym f)
            ∙ ap (λ (q : Ran). record { table = turned q.book; closing = q.closing; read = read + q.read; done = done + q.done; printed = printed + count; failed = false }) turn_is
            ∙ day;
      }

  pub turn-fed : (count : ℕ) → Shown count → count ≤ 16384 → 0 < r.read → (next : List ℕ) (left : ℕ) → length next ≡ 16454 → left ≡ held - r.place → take left next ≡ take left (drop r.place filled)
      → Feeding printing explained b next r.book left (read + r.read) (done + r.done) (printed + count)
  unfolding after
  turn-fed count told most some next left n l t = record {
    sound = g.before.sound;
    turns = turn ∷ g.before.turns;
    bytes = all-bytes;
    size = n;
    within = omega (arith, g);
    is =
        ap (λ x. record { book = r.book; rest = x; read = read + r.read; done = done + r.done }) rest-is
        ∙ ap (λ (q : Ran). record { book = q.book; rest = drop q.place (take rest space ++ new); read = read + q.read; done = done + q.done }) turn_is
        ∙ ap (λ z. stand_after z turn) g.before.is;
    told = printed-now count told;
    few = omega (arith, g.before.few);
  }
    where
      rest-is : take left next ≡ drop r.place (take rest space ++ new)
      rest-is =
          t
          ∙ ap (λ m. take m (drop r.place filled)) l
          ∙ sym (mid r.place held filled place-within (omega (arith, g)))
          ∙ ap (drop r.place) piece_is

  -- a full space holds a record; w says whether the turn is the last
  pub turn-reads-some : (w : Bool) → w ≡ stops_at r.closing (ltb held 16454) (leb 1_000_000 (read + r.read)) → w ≡ false → 0 < r.read
  turn-reads-some w e h =
      rw turn_is
      (turn-moves s turn (ltb held 16454) (read-upto g.before) g.some (rw (← piece_is) held_bytes) (λ k. omega (arith, length-piece, ltb-false held 16454 k)) (rw turn_is at (sym e ∙ h)))
