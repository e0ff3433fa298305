-- Lines that are too long: none of those that are taken of a piece, and the one that fills a whole piece.
use mathlib.Core.Bool.{Bool, true, false, ◌&&◌, ◌||◌}
use mathlib.Core.List.{List, [], ◌∷◌, ◌++◌, append-nil}
use mathlib.Core.Path.{◌≡◌, refl, sym, ap, ◌∙◌}
use Prim.Native.Nat.{ℕ, ◌+◌, ◌-◌, ◌≤◌, ◌<◌}
use native.Mathlib.Omega.{arith}
use lib.Dec.{eqb, leb}
use lib.ListN.{length, length-append}
use borrow.Author.Tests.{le-leb, lt-leb}
use Rattle.sums.specs.Choice.{pick}
use Rattle.sums.proofs.Choices.{pick_no, and_left, test-clash}
use Rattle.words.specs.Texts.{Turned, puts, fails, wrong, file_by, file_from, on_first, lines_of, line_turned}
use Rattle.words.specs.Pieces.{stop, after, taken_by, taken_from, ended}
use Rattle.words.proofs.Splitting.{Plain, none, byte}
use Rattle.wording.specs.Wording.{too_long, line_within, day_within}
use Rattle.wording.proofs.Lengths.{together}

-- ---- a line that is taken is not too long

not-long : (last : Bool) (x : List ℕ) → length x ≤ 16454 → (last ≡ true → length x < 16454) → (last || ended x) ≡ true → too_long x ≡ false
unfolding too_long pick
not-long last x h s r = by last s (ended x) r
  where
    by : (u : Bool) → (u ≡ true → length x < 16454) → (v : Bool) → (u || v) ≡ true → leb 16454 (length x - pick v 1 0) ≡ false
    by true s true r = lt-leb 16454 (length x - 1) (omega (arith, s refl))
    by true s false r = lt-leb 16454 (length x - 0) (omega (arith, s refl))
    by false s true r = lt-leb 16454 (length x - 1) (omega arith)
    by false s false r = test-clash r refl

pub same_taken : (last : Bool) (xs : List (List ℕ)) (room running : ℕ) → together xs ≤ 16454 → (last ≡ true → together xs < 16454)
    → taken_from (λ l. last || ended l) 70 line_within room running xs ≡ taken_from (λ l. last || ended l) 70 line_turned room running xs
unfolding taken_from taken_by together line_within pick
same_taken last [] room running h s = refl
same_taken last (x ∷ xs) room running h s =
    by ((last || ended x) && leb 70 room) refl (line_turned running x) refl
    (λ y next. same_taken last xs (room - length y) next (omega arith) (λ e. omega (arith, s e)))
  where
    same : ((last || ended x) && leb 70 room) ≡ true → line_within running x ≡ line_turned running x
    same e = pick_no _ _ _ (not-long last x (omega arith) (λ u. omega (arith, s u)) (and_left (last || ended x) (leb 70 room) e))

    by : (u : Bool) → ((last || ended x) && leb 70 room) ≡ u → (v : Turned) → line_turned running x ≡ v
        → ((y : List ℕ) (next : ℕ) → taken_from (λ l. last || ended l) 70 line_within (room - length y) next xs ≡ taken_from (λ l. last || ended l) 70 line_turned (room - length y) next xs)
        → pick u (taken_by x running (line_within running x) (λ y next. taken_from (λ l. last || ended l) 70 line_within (room - length y) next xs)) (stop running 0)
        ≡ pick u (taken_by x running v (λ y next. taken_from (λ l. last || ended l) 70 line_turned (room - length y) next xs)) (stop running 0)
    by false e v f go = refl
    by true e (puts y next) f go = rw (same e ∙ f) (ap (after x y) (go y next))
    by true e (fails n) f go = rw (same e ∙ f)

-- ---- a piece without a newline

-- the first line of a text is not ended: there is no newline in the text
pub plain-text : (t : List ℕ) → ((x : List ℕ) (xs : List (List ℕ)) → lines_of t ≡ x ∷ xs → ended x ≡ false) → Plain t
unfolding lines_of on_first ended pick
plain-text [] h = none
plain-text (b ∷ t) h = by (eqb b 10) refl h (lines_of t) refl (plain-text t)
  where
    by : (u : Bool) → eqb b 10 ≡ u → ((x : List ℕ) (xs : List (List ℕ)) → pick u ((b ∷ []) ∷ lines_of t) (on_first b (lines_of t)) ≡ x ∷ xs → ended x ≡ false)
        → (ls : List (List ℕ)) → lines_of t ≡ ls → (((x : List ℕ) (xs : List (List ℕ)) → lines_of t ≡ x ∷ xs → ended x ≡ false) → Plain t) → Plain (b ∷ t)
    by true e h ls l go = test-clash e (h (b ∷ []) (lines_of t) refl)
    by false e h [] l go = byte e (go (λ x xs f. absurd (let g : ◌≡◌ {A = List (List ℕ)} [] (x ∷ xs) = sym l ∙ f in let z : ◌≡◌ {A = ℕ} 0 1 = cc in omega arith)))
    by false e h (y ∷ ys) l go = byte e (go (λ x xs f. shorter x (h (b ∷ x) xs (ap (on_first b) f))))
      where
        shorter : (x : List ℕ) → ended (b ∷ x) ≡ false → ended x ≡ false
        shorter [] k = refl
        shorter (c ∷ x) k = k

head_of : List (List ℕ) → List ℕ
head_of [] = []
head_of (x ∷ xs) = x

tail_of : List (List ℕ) → List (List ℕ)
tail_of [] = []
tail_of (x ∷ xs) = xs

-- it is the front of the first line, whatever follows
plain-first : (b : ℕ) (t more : List ℕ) → Plain (b ∷ t) → lines_of ((b ∷ t) ++ more) ≡ ((b ∷ t) ++ head_of (lines_of more)) ∷ tail_of (lines_of more)
unfolding lines_of on_first head_of tail_of
plain-first b [] more (byte e p) = pick_no _ _ _ e ∙ by (lines_of more)
  where
    by : (ls : List (List ℕ)) → on_first b ls ≡ (b ∷ head_of ls) ∷ tail_of ls
    by [] = refl
    by (l ∷ ls) = refl
plain-first b (c ∷ t) more (byte e p) = pick_no _ _ _ e ∙ ap (on_first b) (plain-first c t more p)

not-ended : (t : List ℕ) → Plain t → ended t ≡ false
unfolding ended
not-ended [] p = refl
not-ended (b ∷ []) (byte e p) = e
not-ended (b ∷ c ∷ t) (byte e p) = not-ended (c ∷ t) p

long-line : (t y : List ℕ) → Plain t → length t ≡ 16454 → length (t ++ y) ≡ length t + length y → too_long (t ++ y) ≡ true
unfolding too_long pick
long-line t [] p h k = le-leb 16454 _ (by (ended (t ++ [])) refl)
  where
    by : (u : Bool) → ended (t ++ []) ≡ u → 16454 ≤ length (t ++ []) - pick u 1 0
    by true e = test-clash e (rw (append-nil t) (not-ended t p))
    by false e = omega arith
long-line t (c ∷ y) p h k = le-leb 16454 _ (by (ended (t ++ (c ∷ y))))
  where
    by : (u : Bool) → 16454 ≤ length (t ++ (c ∷ y)) - pick u 1 0
    by true = omega arith
    by false = omega arith

pub long-text : (t more : List ℕ) (running : ℕ) → Plain t → length t ≡ 16454 → day_within running (t ++ more) ≡ wrong 1 34
unfolding file_from file_by line_within pick
long-text [] more running p h = absurd (omega arith)
long-text (b ∷ t) more running p h = rw (plain-first b t more p, long-line (b ∷ t) (head_of (lines_of more)) p h (length-append (b ∷ t) _))
