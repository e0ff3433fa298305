-- The line at a place of a text.
use Rattle.std.proofs.Common.{◌≡◌, ℕ, zero, suc, ◌+◌, ◌-◌, ◌<◌, ◌≤◌, Bool, true, false, ◌||◌, eqb, List, [], ◌∷◌, ◌++◌, length, get_or, take, drop, sym, refl, ap, ◌∙◌, append_assoc, append-nil, arith, length-drop, take-append-drop, drop_of_length-le, length-take-le, get_or-drop, drop-drop, eq-eqb, ne_eqb, eqb-true}
use Rattle.sums.specs.Choice.{pick}
use Rattle.sums.proofs.Choices.{pick_yes, pick_no, test-clash}
use Rattle.words.specs.Texts.{on_first, lines_of, line_length}
use Rattle.words.specs.Pieces.{ended}
use Rattle.words.proofs.Steps.{ahead}
use Rattle.words.proofs.Splitting.{OneLine, newline, byte, first-line as one-first}

-- ---- where the loop that looks for its end is

module _ (s : List ℕ) (i : ℕ) where
  pub length-end : length s ≤ i → i + line_length (drop i s) ≡ i
  unfolding line_length
  length-end h = rw (drop_of_length-le s {i = i} h) (omega arith)

  pub length-stop : i < length s → get_or s i 0 ≡ 10 → i + line_length (drop i s) ≡ i + 1
  unfolding line_length
  length-stop h e = rw (ahead s i h) (ap (λ (k : ℕ). i + k) (pick_yes _ _ _ (eq-eqb _ 10 e)))

  pub length-on : i < length s → (get_or s i 0 ≡ 10 → ⊥) → i + line_length (drop i s) ≡ i + 1 + line_length (drop (i + 1) s)
  unfolding line_length
  length-on h e = rw (ahead s i h) (ap (λ (k : ℕ). i + k) (pick_no _ _ _ (ne_eqb _ 10 e)) ∙ omega arith)

-- ---- the first line

some-length : (b : ℕ) (l : List ℕ) → 1 ≤ line_length (b ∷ l)
unfolding line_length pick
some-length b l = by (eqb b 10)
  where
    by : (t : Bool) → 1 ≤ pick t 1 (suc (line_length l))
    by true = omega arith
    by false = omega arith

within_text : (l : List ℕ) → line_length l ≤ length l
unfolding line_length pick
within_text [] = omega arith
within_text (b ∷ l) = by (eqb b 10) (within_text l)
  where
    by : (t : Bool) → line_length l ≤ length l → pick t 1 (suc (line_length l)) ≤ suc (length l)
    by true h = omega arith
    by false h = omega arith

first-line : (b : ℕ) (l : List ℕ) → lines_of (b ∷ l) ≡ take (line_length (b ∷ l)) (b ∷ l) ∷ lines_of (drop (line_length (b ∷ l)) (b ∷ l))
unfolding lines_of on_first line_length pick
first-line b [] = by (eqb b 10)
  where
    by : (t : Bool) → pick t ((b ∷ []) ∷ []) ((b ∷ []) ∷ []) ≡ take (pick t 1 1) (b ∷ []) ∷ lines_of (drop (pick t 1 1) (b ∷ []))
    by true = refl
    by false = refl
first-line b (c ∷ l) = by (eqb b 10) (first-line c l)
  where
    by : (t : Bool) → lines_of (c ∷ l) ≡ take (line_length (c ∷ l)) (c ∷ l) ∷ lines_of (drop (line_length (c ∷ l)) (c ∷ l))
        → pick t ((b ∷ []) ∷ lines_of (c ∷ l)) (on_first b (lines_of (c ∷ l)))
        ≡ take (pick t 1 (suc (line_length (c ∷ l)))) (b ∷ c ∷ l) ∷ lines_of (drop (pick t 1 (suc (line_length (c ∷ l)))) (b ∷ c ∷ l))
    by true e = refl
    by false e = ap (on_first b) e

ended_by : (b : ℕ) (l : List ℕ) → ended (take (line_length (b ∷ l)) (b ∷ l)) ≡ eqb (get_or (b ∷ l) (line_length (b ∷ l) - 1) 0) 10
unfolding ended line_length pick
ended_by b [] = by (eqb b 10)
  where
    by : (t : Bool) → ended (take (pick t 1 1) (b ∷ [])) ≡ eqb (get_or (b ∷ []) (pick t 1 1 - 1) 0) 10
    by true = refl
    by false = refl
ended_by b (c ∷ l) = by (eqb b 10) (line_length (c ∷ l)) (some-length c l) (ended_by c l)
  where
    by : (t : Bool) (k : ℕ) → 1 ≤ k → ended (take k (c ∷ l)) ≡ eqb (get_or (c ∷ l) (k - 1) 0) 10
        → ended (take (pick t 1 (suc k)) (b ∷ c ∷ l)) ≡ eqb (get_or (b ∷ c ∷ l) (pick t 1 (suc k) - 1) 0) 10
    by true k h e = refl
    by false zero h e = absurd (omega arith)
    by false (suc k) h e =
        let p : suc k - 1 ≡ k = omega arith in
        let q : suc (suc k) - 1 ≡ suc k = omega arith in
        rw q (rw p at e)

no_lines : lines_of [] ≡ []
unfolding lines_of
no_lines = refl

-- with its newline it is one line
one_line : (b : ℕ) (l : List ℕ) → ended (take (line_length (b ∷ l)) (b ∷ l)) ≡ true → OneLine (take (line_length (b ∷ l)) (b ∷ l))
unfolding ended line_length pick
one_line b [] = by (eqb b 10) refl
  where
    by : (t : Bool) → eqb b 10 ≡ t → ended (take (pick t 1 1) (b ∷ [])) ≡ true → OneLine (take (pick t 1 1) (b ∷ []))
    by true e h = rw (eqb-true b 10 e) newline
    by false e h = test-clash h e
one_line b (c ∷ l) = by (eqb b 10) refl (line_length (c ∷ l)) (some-length c l) (one_line c l)
  where
    by : (t : Bool) → eqb b 10 ≡ t → (k : ℕ) → 1 ≤ k → (ended (take k (c ∷ l)) ≡ true → OneLine (take k (c ∷ l)))
        → ended (take (pick t 1 (suc k)) (b ∷ c ∷ l)) ≡ true → OneLine (take (pick t 1 (suc k)) (b ∷ c ∷ l))
    by true e k h go f = rw (eqb-true b 10 e) newline
    by false e zero h go f = absurd (omega arith)
    by false e (suc k) h go f = byte e (go f)

-- it stays the first where more follows
pub lines_stay : (last : Bool) (more : List ℕ) → (last ≡ true → more ≡ []) → (t x : List ℕ) (xs : List (List ℕ)) → lines_of t ≡ x ∷ xs → (last || ended x) ≡ true
    → (lines_of (t ++ more) ≡ x ∷ lines_of (drop (length x) t ++ more)) × (lines_of (drop (length x) t) ≡ xs)
lines_stay last more m [] x xs e r = absurd (let z : lines_of [] ≡ [] = no_lines in let c : ◌≡◌ {A = ℕ} 0 1 = cc in omega arith)
lines_stay last more m (b ∷ l) x xs e r =
    let k = line_length (b ∷ l) in
    let f = first-line b l in
    let ex : x ≡ take k (b ∷ l) = cc in
    let exs : lines_of (drop k (b ∷ l)) ≡ xs = cc in
    let n : length x ≡ k = ap length ex ∙ length-take-le k (b ∷ l) (within_text (b ∷ l)) in
    rw n (by last m r ex exs, exs)
  where
    by : (u : Bool) → (u ≡ true → more ≡ []) → (u || ended x) ≡ true → x ≡ take (line_length (b ∷ l)) (b ∷ l) → lines_of (drop (line_length (b ∷ l)) (b ∷ l)) ≡ xs
        → lines_of ((b ∷ l) ++ more) ≡ x ∷ lines_of (drop (line_length (b ∷ l)) (b ∷ l) ++ more)
    by true q h ex exs = rw (q refl, append-nil (b ∷ l), append-nil (drop (line_length (b ∷ l)) (b ∷ l)), ex) (first-line b l)
    by false q h ex exs =
        let k = line_length (b ∷ l) in
        let o : OneLine (take k (b ∷ l)) = one_line b l (rw ex at h) in
        ap (λ (s : List ℕ). lines_of (s ++ more)) (sym (take-append-drop k (b ∷ l))) ∙ ap lines_of (append_assoc (take k (b ∷ l)) (drop k (b ∷ l)) more)
        ∙ one-first (drop k (b ∷ l) ++ more) o ∙ ap (λ (s : List ℕ). s ∷ lines_of (drop k (b ∷ l) ++ more)) (sym ex)

-- ---- at a place

module _ (s : List ℕ) (at end : ℕ) (h : at < length s) (e : end ≡ at + line_length (drop at s)) where
  pub line-more : at < end
  line-more = omega (arith, rw (← ahead s at h) at (some-length (get_or s at 0) (drop (at + 1) s)))

  pub line-within : end ≤ length s
  line-within = omega (arith, within_text (drop at s), length-drop at s)

  pub line-here : lines_of (drop at s) ≡ take (end - at) (drop at s) ∷ lines_of (drop end s)
  line-here =
      let f : lines_of (drop at s) ≡ take (line_length (drop at s)) (drop at s) ∷ lines_of (drop (line_length (drop at s)) (drop at s)) = rw (← ahead s at h) at (first-line (get_or s at 0) (drop (at + 1) s)) in
      let k : line_length (drop at s) ≡ end - at = omega arith in
      let m : at + (end - at) ≡ end = omega arith in
      f ∙ ap (λ (j : ℕ). take j (drop at s) ∷ lines_of (drop j (drop at s))) k ∙ ap (λ (l : List ℕ). take (end - at) (drop at s) ∷ lines_of l) (drop-drop (end - at) at s ∙ ap (λ (j : ℕ). drop j s) m)

  pub line-ended : ended (take (end - at) (drop at s)) ≡ eqb (get_or s (end - 1) 0) 10
  line-ended =
      let f : ended (take (line_length (drop at s)) (drop at s)) ≡ eqb (get_or (drop at s) (line_length (drop at s) - 1) 0) 10 = rw (← ahead s at h) at (ended_by (get_or s at 0) (drop (at + 1) s)) in
      let k : line_length (drop at s) ≡ end - at = omega arith in
      let m : at + (line_length (drop at s) - 1) ≡ end - 1 = omega (arith, line-more) in
      ap (λ (j : ℕ). ended (take j (drop at s))) (sym k) ∙ f ∙ ap (λ (b : ℕ). eqb b 10) (get_or-drop at s (line_length (drop at s) - 1) 0 ∙ ap (λ (j : ℕ). get_or s j 0) m)

pub no_line : (s : List ℕ) (at : ℕ) → length s ≤ at → lines_of (drop at s) ≡ []
unfolding lines_of
no_line s at h = ap lines_of (drop_of_length-le s {i = at} h)
