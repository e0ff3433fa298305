-- The loop over the pieces of a file: what holds at each turn, one piece more, and where it stops.
use mathlib.Core.Bool.{Bool, true, false, not, ◌&&◌}
use mathlib.Core.List.{List, [], ◌∷◌, ◌++◌, append-nil, append_assoc}
use mathlib.Core.Path.{◌≡◌, refl, sym, ap, ◌∙◌}
use Prim.Native.Nat.{ℕ, zero, suc, ◌+◌, ◌*◌, ◌-◌, ◌≤◌, ◌<◌}
use native.Mathlib.Omega.{arith}
use lib.Dec.{eqb, ltb}
use lib.ListN.{length, take, drop, length-append, drop_of_length-le}
use lib.Seq.{length-take-le, take-add, drop_at}
use borrow.Author.Tests.{eqb-true, ltb-true, ltb-false, lt-ltb, not-true}
use Rattle.sums.specs.Choice.{pick}
use Rattle.sums.specs.Room.{at_start}
use Rattle.sums.proofs.Choices.{and_left, and_right}
use Rattle.numbers.specs.Bytes.{Bytes}
use Rattle.numbers.proofs.Numbers.{bytes_take, bytes_drop}
use Rattle.text.proofs.Puts.{text-within-room}
use Rattle.streams.specs.declared.Moved.{Moved}
use Rattle.streams.proofs.Taken.{all-taken}
use Rattle.words.specs.declared.Taken.{Taken}
use Rattle.words.specs.Texts.{File, file, wrong}
use Rattle.words.specs.Pieces.{Taking, told_of}
use Rattle.words.proofs.Joining.{follows}
use Rattle.wording.specs.declared.Worded.{Worded}
use Rattle.wording.specs.Wording.{no_words, worded_of, day_within, in_text, Came}
use Rattle.wording.specs.Inner.{turned_as, taking}
use Rattle.wording.proofs.Steps.{always, nothing_left, step, step-within, too_long_lem, follows_on, follows-none}

-- ---- a promise that is met

pub failed-came : {turned : List ℕ → File} {printing : Bool} {d : Worded} → d ≡ no_words → Came turned printing d
unfolding no_words pick
failed-came e = rw e (record { input = []; bytes = λ i. omega arith; is = refl })

pub turned-came : {turned : List ℕ → File} {printing : Bool} {d : Worded} (input : List ℕ) → Bytes input → (f : File) → turned input ≡ f → d ≡ worded_of printing f → Came turned printing d
unfolding worded_of no_words pick
turned-came {turned} {printing} {d} input y f e w = record { input = input; bytes = y; is = rw (w, e) (by printing f) }
  where
    by : (t : Bool) (f : File) → worded_of t f ≡ pick (worded_of t f).failed no_words (worded_of t f)
    by t (file x) = refl
    by true (wrong k n) = refl
    by false (wrong k n) = refl

pub text-came : (running : ℕ) {d : Worded} → Came (turned_as true running) true d → Came (in_text running) true d
unfolding turned_as pick
text-came running {d} c = record { input = c.input; bytes = c.bytes; is = c.is ∙ ap (λ f. pick d.failed no_words (worded_of true f)) (always running _) }

pub day-came : (running : ℕ) {printing : Bool} {d : Worded} → Came (turned_as false running) printing d → Came (day_within running) printing d
unfolding turned_as pick
day-came running c = record { input = c.input; bytes = c.bytes; is = c.is }

-- ---- so far

pub record Sofar (spelling printing : Bool) (first : ℕ) (space : List ℕ) (rest running lines printed : ℕ) (ended : Bool) (turns : ℕ) : Type 0 where
  pub came : List ℕ
  pub bytes : Bytes came
  pub put : List ℕ
  pub is : (more : List ℕ) → (ended ≡ true → more ≡ []) → turned_as spelling first (came ++ more) ≡ follows lines put (turned_as spelling running (take rest space ++ more))
  pub told : printed ≡ length (pick printing put [])
  pub size : length space ≡ 16454
  pub within : rest ≤ 16454
  pub ending : ended ≡ true → rest < 16454
  pub few : lines ≤ 16454 * turns
  pub fits : printed ≤ 32768 * turns

none-shown : (t : Bool) → 0 ≡ length (pick {A = List ℕ} t [] [])
unfolding pick
none-shown true = refl
none-shown false = refl

more-shown : (t : Bool) (x y : List ℕ) → length (pick t x []) + length (pick t y []) ≡ length (pick t (x ++ y) [])
unfolding pick
more-shown true x y = sym (length-append x y)
more-shown false x y = refl

-- what of a piece is printed, where that is asked for
pub shown-within : (t : Bool) {n count size : ℕ} → n ≡ pick t count 0 → count ≤ size → n ≤ size
unfolding pick
shown-within true e h = omega arith
shown-within false e h = omega arith

pub shown-is : (t : Bool) {n count : ℕ} (x : List ℕ) → n ≡ pick t count 0 → count ≡ length x → n ≡ length (pick t x [])
unfolding pick
shown-is true x e h = e ∙ h
shown-is false x e h = e

pub begun : (spelling printing : Bool) (first : ℕ) (space : List ℕ) → length space ≡ 16454 → Sofar spelling printing first space 0 first 0 0 false 0
begun spelling printing first space h = record {
  came = [];
  bytes = λ i. omega arith;
  put = [];
  is = λ more e. follows-none _;
  told = none-shown printing;
  size = h;
  within = omega arith;
  ending = λ e. omega arith;
  few = omega arith;
  fits = omega arith;
}

bytes-append : (l m : List ℕ) → Bytes l → Bytes m → Bytes (l ++ m)
bytes-append [] m y z i = z i
bytes-append (x ∷ l) m y z zero = y 0
bytes-append (x ∷ l) m y z (suc i) = bytes-append l m (λ j. y (suc j)) z i

mid : (p n : ℕ) (l : List ℕ) → p ≤ n → n ≤ length l → drop p (take n l) ≡ take (n - p) (drop p l)
mid p n l h k =
    let e : n ≡ p + (n - p) = omega arith in
    ap (λ m. drop p (take m l)) e
    ∙ ap (drop p) (take-add p (n - p) l)
    ∙ drop_at (take p l) (take (n - p) (drop p l)) p (length-take-le p l (omega arith))

-- one piece more: the bytes left and those read behind them, held of them in all; r is what was taken of them
pub record Piece (spelling printing : Bool) (first : ℕ) (space : List ℕ) (rest running lines printed : ℕ) (ended : Bool) (turns : ℕ) (filled : List ℕ) (held room : ℕ) (r : Taken) : Type 0 where
  pub before : Sofar spelling printing first space rest running lines printed ended turns
  pub size : length filled ≡ 16454
  pub least : rest ≤ held
  pub most : held ≤ 16454
  pub old : take rest filled ≡ take rest space
  pub bytes : Bytes filled
  pub over : ended ≡ true → held ≡ rest
  pub some : 70 ≤ room
  pub is : r ≡ told_of (taking spelling (ltb held 16454) room running (take held filled))

-- the same by what was read behind the rest, into a space as long as it was
pub piece-of : {spelling printing : Bool} {first : ℕ} {space : List ℕ} {rest running lines printed : ℕ} {ended : Bool} {turns : ℕ}
    → Sofar spelling printing first space rest running lines printed ended turns
    → (filled room : List ℕ) (m : Moved) (r : Taken)
    → rest + m.count ≤ length filled
    → take rest filled ≡ take rest space
    → Bytes filled × (ended ≡ true → (m.failed ≡ false) × (m.count ≡ 0))
    → length filled ≡ length space
    → length room ≡ 32768
    → r ≡ told_of (taking spelling (ltb (rest + m.count) 16454) (length room) running (take (rest + m.count) filled))
    → Piece spelling printing first space rest running lines printed ended turns filled (rest + m.count) (length room) r
piece-of g filled room m r h old bytes size long is = record {
  before = g;
  size = size ∙ g.size;
  least = omega arith;
  most = omega (arith, h, size, g.size);
  old = old;
  bytes = bytes.0;
  over = λ e. omega (arith, (bytes.1 e).1);
  some = omega (arith, long);
  is = is;
}

module _ {spelling printing : Bool} {first : ℕ} {space : List ℕ} {rest running lines printed : ℕ} {ended : Bool} {turns : ℕ} {filled : List ℕ} {held room : ℕ} {r : Taken}
    (g : Piece spelling printing first space rest running lines printed ended turns filled held room r) where
  abbrev last : Bool
  last = ltb held 16454

  abbrev s : List ℕ
  s = take held filled

  abbrev pub k : Taking
  k = taking spelling last room running s

  abbrev new : List ℕ
  new = take (held - rest) (drop rest filled)

  abbrev came : List ℕ
  came = g.before.came ++ new

  long : length s ≡ held
  long = length-take-le held filled (omega (arith, g))

  came-bytes : Bytes came
  came-bytes = bytes-append g.before.came _ g.before.bytes (bytes_take (held - rest) _ (bytes_drop rest filled g.bytes))

  piece_is : s ≡ take rest space ++ new
  piece_is =
      let e : held ≡ rest + (held - rest) = omega (arith, g) in
      ap (λ n. take n filled) e ∙ take-add rest (held - rest) filled ∙ ap (λ l. l ++ take (held - rest) (drop rest filled)) g.old

  no-new : ended ≡ true → new ≡ []
  no-new e = let z : held - rest ≡ 0 = omega (arith, g.over e) in ap (λ n. take n (drop rest filled)) z

  -- all that came, and whatever follows it
  all : (more : List ℕ) → (last ≡ true → more ≡ []) → turned_as spelling first (came ++ more) ≡ follows lines g.before.put (turned_as spelling running (s ++ more))
  all more e =
      ap (turned_as spelling first) (append_assoc g.before.came new more)
      ∙ g.before.is (new ++ more) (λ u. rw (no-new u, e (lt-ltb held 16454 (omega (arith, g.over u, g.before.ending u)))))
      ∙ ap (λ l. follows lines g.before.put (turned_as spelling running l)) (sym (append_assoc (take rest space) new more) ∙ ap (λ l. l ++ more) (sym piece_is))

  -- so many bytes were printed of it
  abbrev pub Shown : ℕ → Type 0
  Shown count = count ≡ length (pick printing k.bytes [])

  count-is : r.count ≡ length k.bytes
  count-is = ap (λ (x : Taken). x.count) g.is

  -- what is handed over stands in the room
  pub put-within : (n : ℕ) (before after : List ℕ) → n ≡ pick printing r.count 0 → after ≡ at_start k.bytes before → n ≤ length after
  put-within n before after e f = shown-within printing e (text-within-room r.count k.bytes before after count-is f)

  -- where no write failed
  pub shown-now : (m : Moved) (n : ℕ) (after : List ℕ) → n ≤ length after → n ≡ pick printing r.count 0 → m.count ≤ length (take n after) → m.failed ≡ ltb m.count (length (take n after))
      → m.failed ≡ false → Shown m.count
  shown-now m n after h e b f z = all-taken m _ b f z ∙ length-take-le n after h ∙ shown-is printing k.bytes e count-is

  pub place-within : r.place ≤ held
  place-within = rw g.is (omega (arith, (step-within last room running s (omega (arith, long, g)) (λ e. omega (arith, long, ltb-true held 16454 e)) spelling).0, long))

  pub lines-few : r.lines ≤ 16454
  lines-few = rw g.is (omega (arith, (step-within last room running s (omega (arith, long, g)) (λ e. omega (arith, long, ltb-true held 16454 e)) spelling).1, long, g))

  on : (more : List ℕ) → (last ≡ true → more ≡ []) → r.fault ≡ 0
      → turned_as spelling first (came ++ more) ≡ follows (lines + r.lines) (g.before.put ++ k.bytes) (turned_as spelling r.running (drop r.place s ++ more))
  on more e z =
      let f : k.fault ≡ 0 = rw g.is at z in
      rw g.is
      (all more e
      ∙ ap (follows lines g.before.put) ((step last room running s (omega (arith, long, g)) (λ u. omega (arith, long, ltb-true held 16454 u)) spelling more e).0 f)
      ∙ follows_on lines k.lines g.before.put k.bytes (turned_as spelling k.running (drop k.place s ++ more)))

  pub bad-came : (r.fault ≡ 0 → ⊥) → (d : Worded) → d ≡ worded_of printing (wrong (lines + r.lines + 1) r.fault) → Came (turned_as spelling first) printing d
  bad-came z d w =
      let f : k.fault ≡ 0 → ⊥ = rw g.is at z in
      let m : lines + (k.lines + 1) ≡ lines + k.lines + 1 = omega arith in
      let t : turned_as spelling first came ≡ wrong (lines + k.lines + 1) k.fault =
      ap (turned_as spelling first) (sym (append-nil came))
      ∙ all [] (λ e. refl)
      ∙ ap (follows lines g.before.put) ((step last room running s (omega (arith, long, g)) (λ u. omega (arith, long, ltb-true held 16454 u)) spelling [] (λ e. refl)).1 f)
      ∙ ap (λ (j : ℕ). wrong j k.fault) m in
      turned-came came came-bytes _ t (rw g.is at w)

  more-printed : (count : ℕ) → Shown count → printed + count ≡ length (pick printing (g.before.put ++ k.bytes) [])
  more-printed count c = ap (λ n. n + count) g.before.told ∙ ap (λ n. length (pick printing g.before.put []) + n) c ∙ more-shown printing g.before.put k.bytes

  pub end-came : r.fault ≡ 0 → (last && eqb r.place held) ≡ true → (count : ℕ) → Shown count → Came (turned_as spelling first) printing (record { failed = false; line = 0; fault = 0; printed = printed + count })
  unfolding worded_of
  end-came z q count c =
      let p : r.place ≡ held = eqb-true r.place held (and_right last (eqb r.place held) q) in
      let n : drop r.place s ++ [] ≡ [] = rw p (append-nil (drop held s) ∙ drop_of_length-le s {i = held} (omega (arith, long))) in
      let t : turned_as spelling first came ≡ file ((g.before.put ++ k.bytes) ++ []) =
      ap (turned_as spelling first) (sym (append-nil came))
      ∙ on [] (λ e. refl) z
      ∙ ap (λ l. follows (lines + r.lines) (g.before.put ++ k.bytes) (turned_as spelling r.running l)) n
      ∙ ap (follows (lines + r.lines) (g.before.put ++ k.bytes)) (nothing_left spelling r.running) in
      turned-came came came-bytes _ (t ∙ ap file (append-nil (g.before.put ++ k.bytes)))
      (ap (λ n. record { failed = false; line = 0; fault = 0; printed = n }) (more-printed count c))

  pub long-came : r.fault ≡ 0 → ((not spelling && not last) && eqb r.place 0) ≡ true → (d : Worded) → d ≡ worded_of printing (wrong (lines + r.lines + 1) 34) → Came (turned_as spelling first) printing d
  long-came z x d w =
      let y = and_left (not spelling && not last) (eqb r.place 0) x in
      let b : spelling ≡ false = not-true spelling (and_left (not spelling) (not last) y) in
      let l : last ≡ false = not-true last (and_right (not spelling) (not last) y) in
      let p : r.place ≡ 0 = eqb-true r.place 0 (and_right (not spelling && not last) (eqb r.place 0) x) in
      let full : length s ≡ 16454 = omega (arith, long, ltb-false held 16454 l, g) in
      let f : k.fault ≡ 0 = rw g.is at z in
      let q : k.place ≡ 0 = rw g.is at p in
      let t : turned_as spelling r.running (s ++ []) ≡ wrong 1 34 = rw b (too_long_lem room running s [] g.some full (rw (b, l) at f) (rw (b, l) at q) r.running) in
      turned-came came came-bytes _
      (ap (turned_as spelling first) (sym (append-nil came)) ∙ on [] (λ e. refl) z ∙ ap (λ n. follows (lines + r.lines) (g.before.put ++ k.bytes) (turned_as spelling r.running (drop n s ++ []))) p
      ∙ ap (follows (lines + r.lines) (g.before.put ++ k.bytes)) t)
      w

  pub goes_on : r.fault ≡ 0 → (count : ℕ) → Shown count → count ≤ 32768 → (next : List ℕ) (left : ℕ) → length next ≡ 16454 → left ≡ held - r.place → take left next ≡ take left (drop r.place filled)
      → Sofar spelling printing first next left r.running (lines + r.lines) (printed + count) last (turns + 1)
  goes_on z count c m next left n l t = record {
    came = came;
    bytes = came-bytes;
    put = g.before.put ++ k.bytes;
    is = λ more e. on more e z ∙ ap (λ x. follows (lines + r.lines) (g.before.put ++ k.bytes) (turned_as spelling r.running (x ++ more))) (sym rest-is);
    told = more-printed count c;
    size = n;
    within = omega (arith, g);
    ending = λ e. omega (arith, ltb-true held 16454 e);
    few = omega (arith, g.before.few, lines-few);
    fits = omega (arith, g.before.fits);
  }
    where
      rest-is : take left next ≡ drop r.place s
      rest-is = t ∙ ap (λ m. take m (drop r.place filled)) l ∙ sym (mid r.place held filled place-within (omega (arith, g)))
