-- What `most` gives, from a book's limits, and the theorem: r(x) is carried out exactly when x is at most it.
use mathlib.Core.Bool.{Bool, true, false, not, ◌||◌}
use mathlib.Core.Path.{◌≡◌, refl, sym, ap, ◌∙◌}
use Prim.Native.Nat.{ℕ, zero, suc, ◌+◌, ◌≤◌, ◌<◌}
use native.Mathlib.Decide.{ℕ_discrete}
use native.Mathlib.Omega.{arith}
use lib.Dec.{leb, ltb, eqb}
use lib.ListN.{drop}
use borrow.Author.Tests.{ltb-false, leb-true, leb-false, le-ltb, le-leb, lt-leb, eqb-true, eq-eqb, not-false}
use Rattle.sums.specs.Choice.{pick, unless_refused}
use Rattle.sums.specs.Table.{first}
use Rattle.sums.proofs.Choices.{test-clash}
use Rattle.sums.proofs.Tables.{first-here, first-later, first-fails, none-gives-0}
use Rattle.rows.specs.declared.Book.{Book}
use Rattle.rows.specs.Rows.{ceiling, place_of, is_live}
use Rattle.book.specs.Sound.{sound_b}
use Rattle.book.specs.Facts.{Sound}
use Rattle.book.proofs.SoundTest.{sound→, sound←}
use Rattle.dayfile.specs.declared.Record.{Record}
use Rattle.rules.specs.Numbered.{placed, verdict_of}
use Rattle.passing.specs.declared.Largest.{Largest}
use Rattle.passing.specs.declared.limits.Limits.{Limits}
use Rattle.passing.specs.Most.{with_amount, passes_with, least_of, has_amount, names_one, most_refusals, most_refusal, largest_to, unless_with, most_of}
use Rattle.passing.specs.Facts.{Askable}
use Rattle.passing.specs.Inner.{limits_in, refusal_at, top_of, largest_by}
use Rattle.passing.proofs.Searching.{largest-is}
use Rattle.passing.proofs.Verdict.{at-limits}

-- ---- limits

-- an amount that meets no refusal
pub record Under (l : Limits) (x : ℕ) : Type 0 where
  pub within : x ≤ l.within
  pub free : l.held ≡ false
  pub spare : x ≤ l.spare

pub under_of : (l : Limits) (x : ℕ) → 0 < l.number → refusal_at l x ≡ 0 → Under l x
unfolding refusal_at
under_of l x p e =
    let a = first-fails l.number (ltb l.within x) _ p e in
    let b = first-fails 17 l.held _ (omega arith) a.1 in
    let c = first-fails 12 (ltb l.spare x) _ (omega arith) b.1 in
    record { within = ltb-false l.within x a.0; free = b.0; spare = ltb-false l.spare x c.0 }

pub under-passes : (l : Limits) (x : ℕ) → Under l x → refusal_at l x ≡ 0
unfolding refusal_at
under-passes l x u = none-gives-0 _ (le-ltb l.within x u.within, (u.free, (le-ltb l.spare x u.spare, tt)))

module _ (l : Limits) (p : 0 < l.number) (least : ℕ) (u : Under l least) where
  -- exactly up to the top
  pub up-to-top : (x : ℕ) → x ≤ ceiling → eqb (refusal_at l x) 0 ≡ leb x (top_of l)
  up-to-top x h = by (leb x (top_of l)) refl
    where
      by : (t : Bool) → leb x (top_of l) ≡ t → eqb (refusal_at l x) 0 ≡ t
      by true e =
          let q = leb-true x (top_of l) e in
          eq-eqb (refusal_at l x) 0 (under-passes l x (record { within = omega arith; free = u.free; spare = omega arith }))
      by false e = out (eqb (refusal_at l x) 0) refl
        where
          out : (t : Bool) → eqb (refusal_at l x) 0 ≡ t → t ≡ false
          out true f = let w = under_of l x p (eqb-true (refusal_at l x) 0 f) in let q = leb-false x (top_of l) e in absurd (omega arith)
          out false f = refl

-- every code's limits have a number
picks : (P : Limits → Type 0) (t : Bool) (x y : Limits) → P x → P y → P (pick t x y)
unfolding pick
picks P true x y a b = a
picks P false x y a b = b

pub numbered : (b : Book) (i code named : ℕ) → 0 < (limits_in b i code named).number
numbered b i code named =
    on 4 _ _ (omega arith) (picks (λ l. 0 < l.number) (eqb code 5 || eqb code 6) _ _ (omega arith)
    (on 7 _ _ (omega arith) (on 8 _ _ (omega arith) (on 9 _ _ (omega arith) (on 10 _ _ (omega arith) (omega arith))))))
  where
    on : (k : ℕ) (x y : Limits) → 0 < x.number → 0 < y.number → 0 < (pick (eqb code k) x y).number
    on k x y a c = picks (λ l. 0 < l.number) (eqb code k) x y a c

-- ---- the book's

pub askable-of : (b : Book) (r : Record) → first (most_refusals b r) ≡ 0 → Askable b r
askable-of b r e =
    let f₁ = first-fails 1 (not (sound_b b)) _ (omega arith) e in
    let f₄ = first-fails 4 (not (has_amount r.code)) _ (omega arith) f₁.1 in
    let f₅ = first-fails 5 (not (names_one r.code r.named)) _ (omega arith) f₄.1 in
    let f₇ = first-fails 7 (not (is_live b (place_of b r.account))) _ (omega arith) f₅.1 in
    record { sound = sound→ b (not-false _ f₁.0); code = not-false _ f₄.0; mark = not-false _ f₅.0; live = not-false _ f₇.0 }

pub none-early : (b : Book) (r : Record) → Askable b r → first (most_refusals b r) ≡ 0
none-early b r a = none-gives-0 (most_refusals b r) (ap not (sound← b a.sound), (ap not a.code, (ap not a.mark, (ap not a.live, tt))))

least-low : (code : ℕ) → least_of code ≤ 1
unfolding pick
least-low code = by (leb 10 code)
  where
    by : (t : Bool) → pick t 0 1 ≤ 1
    by true = omega arith
    by false = omega arith

module _ (b : Book) (r : Record) (a : Askable b r) where
  abbrev limits : Limits
  limits = limits_in b (place_of b r.account) r.code r.named

  positive : 0 < limits.number
  positive = numbered b (place_of b r.account) r.code r.named

  -- THE LAW of each code, in closed form: what the table says of r(x)
  verdict : (x : ℕ) → least_of r.code ≤ x → x ≤ ceiling → verdict_of b (with_amount b r x) ≡ refusal_at limits x
  verdict x low high = at-limits b a.sound (placed b r) a.live x high a.code a.mark low

  passes-under : (x : ℕ) → least_of r.code ≤ x → x ≤ ceiling → passes_with b r x ≡ true → Under limits x
  passes-under x low high e = under_of limits x positive (sym (verdict x low high) ∙ eqb-true (verdict_of b (with_amount b r x)) 0 e)

  -- a smaller amount never meets a refusal where a larger one meets none
  pub smaller-passes : (x y : ℕ) → least_of r.code ≤ y → y ≤ x → x ≤ ceiling → passes_with b r x ≡ true → passes_with b r y ≡ true
  smaller-passes x y low le high e =
      let u = passes-under x (omega arith) high e in
      eq-eqb (verdict_of b (with_amount b r y)) 0 (verdict y low (omega arith) ∙ under-passes limits y (record { within = omega arith; free = u.free; spare = omega arith }))

  -- what `most` gives, by the limits
  pub most-by : most_of b r ≡ largest_by limits (least_of r.code)
  unfolding most_of most_refusal largest_by
  most-by =
      ap (λ n. unless_with (unless_refused n (verdict_of b (with_amount b r (least_of r.code))) (λ n. n)) (largest_to ceiling (passes_with b r))) (none-early b r a)
      ∙ ap (λ n. unless_with n (largest_to ceiling (passes_with b r))) (verdict (least_of r.code) (omega arith) (omega (arith, least-low r.code)))
      ∙ by (refusal_at limits (least_of r.code)) refl
    where
      top : refusal_at limits (least_of r.code) ≡ 0 → largest_to ceiling (passes_with b r) ≡ top_of limits
      top e =
          let u = under_of limits (least_of r.code) positive e in
          largest-is ceiling (top_of limits) (passes_with b r) (omega arith)
          (λ p. is u (top_of limits) (omega (arith, least-low r.code)) (omega arith) ∙ le-leb (top_of limits) (top_of limits) (omega arith))
          (λ x p q. is u x (omega (arith, least-low r.code)) q ∙ lt-leb x (top_of limits) p)
        where
          is : Under limits (least_of r.code) → (x : ℕ) → least_of r.code ≤ x → x ≤ ceiling → passes_with b r x ≡ leb x (top_of limits)
          is u x low high = ap (λ n. eqb n 0) (verdict x low high) ∙ up-to-top limits positive (least_of r.code) u x high

      by : (n : ℕ) → refusal_at limits (least_of r.code) ≡ n → unless_with n (largest_to ceiling (passes_with b r)) ≡ unless_with n (top_of limits)
      by zero e = ap (unless_with 0) (top e)
      by (suc n) e = refl

-- ---- the theorem

module _ (b : Book) (r : Record) where
  number_is : (most_of b r).refusal ≡ most_refusal b r
  unfolding most_of
  number_is = by (most_refusal b r)
    where
      by : (n : ℕ) → (unless_with n (largest_to ceiling (passes_with b r))).refusal ≡ n
      by zero = refl
      by (suc n) = refl

  -- 1, 4, 5 or 7
  pub refused-early : (n : ℕ) → first (most_refusals b r) ≡ n → (n ≡ 0 → ⊥) → most_of b r ≡ record { refusal = n; amount = 0 }
  unfolding most_of most_refusal
  refused-early n e = by (first (most_refusals b r)) e
    where
      by : (m : ℕ) → m ≡ n → (n ≡ 0 → ⊥)
          → unless_with (unless_refused m (verdict_of b (with_amount b r (least_of r.code))) (λ n. n)) (largest_to ceiling (passes_with b r)) ≡ record { refusal = n; amount = 0 }
      by zero q h = absurd (h (sym q))
      by (suc m) q h = ap (λ k. record { refusal = k; amount = 0 }) q

  pub most-askable : (most_of b r).refusal ≡ 0 → Askable b r
  unfolding most_refusal
  most-askable e = askable-of b r (by (first (most_refusals b r)) (sym number_is ∙ e))
    where
      by : (m : ℕ) → unless_refused m (verdict_of b (with_amount b r (least_of r.code))) (λ n. n) ≡ 0 → m ≡ 0
      by zero q = refl
      by (suc m) q = q

  least-passes : (a : Askable b r) → (most_of b r).refusal ≡ 0 → refusal_at (limits b r a) (least_of r.code) ≡ 0
  unfolding largest_by
  least-passes a e = by (refusal_at (limits b r a) (least_of r.code)) (ap (λ m. m.refusal) (sym (most-by b r a)) ∙ e)
    where
      by : (m : ℕ) → (unless_with m (top_of (limits b r a))).refusal ≡ 0 → m ≡ 0
      by zero q = refl
      by (suc m) q = q

  amount-is : (a : Askable b r) → (most_of b r).refusal ≡ 0 → (most_of b r).amount ≡ top_of (limits b r a)
  unfolding largest_by
  amount-is a e =
      ap (λ m. m.amount) (most-by b r a)
      ∙ ap (λ n. (unless_with n (top_of (limits b r a))).amount) (least-passes a e)

  -- THE THEOREM: r(x) is carried out exactly when x is at most what `most` gives
  pub exactly : (most_of b r).refusal ≡ 0 → (x : ℕ) → least_of r.code ≤ x → x ≤ ceiling → passes_with b r x ≡ leb x (most_of b r).amount
  exactly e x low high =
      let a = most-askable e in
      let u = under_of (limits b r a) (least_of r.code) (positive b r a) (least-passes a e) in
      ap (λ n. eqb n 0) (verdict b r a x low high) ∙ up-to-top (limits b r a) (positive b r a) (least_of r.code) u x high ∙ ap (leb x) (sym (amount-is a e))

  -- and where it gives a refusal behind 7, none is
  pub none_passes : Askable b r → ((most_of b r).refusal ≡ 0 → ⊥) → (x : ℕ) → least_of r.code ≤ x → x ≤ ceiling → passes_with b r x ≡ false
  unfolding most_refusal
  none_passes a ne x low high = by (passes_with b r x) refl
    where
      by : (t : Bool) → passes_with b r x ≡ t → t ≡ false
      by true q =
          let p = smaller-passes b r a x (least_of r.code) (omega arith) low high q in
          absurd (ne (number_is ∙ ap (λ n. unless_refused n (verdict_of b (with_amount b r (least_of r.code))) (λ n. n)) (none-early b r a) ∙ eqb-true (verdict_of b (with_amount b r (least_of r.code))) 0 p))
      by false q = refl

  -- a figure: x passes, and a paisa more does not
  pub most-is : Askable b r → (x : ℕ) → least_of r.code ≤ x → x < ceiling → passes_with b r x ≡ true → passes_with b r (x + 1) ≡ false → most_of b r ≡ record { refusal = 0; amount = x }
  most-is a x low high p q = by (ℕ_discrete (most_of b r).refusal 0)
    where
      by : Dec ((most_of b r).refusal ≡ 0) → most_of b r ≡ record { refusal = 0; amount = x }
      by (yes e) =
          let u = leb-true x (most_of b r).amount (sym (exactly e x low (omega arith)) ∙ p) in
          let o = leb-false (x + 1) (most_of b r).amount (sym (exactly e (x + 1) (omega arith) (omega arith)) ∙ q) in
          let f : (most_of b r).amount ≡ x = omega arith in
          λ j. record { refusal = e j; amount = f j }
      by (no ne) = test-clash p (none_passes a ne x low (omega arith))

  -- which of 1, 4, 5 and 7
  module _ (q : sound_b b ≡ false) where
    pub unsound : most_of b r ≡ record { refusal = 1; amount = 0 }
    unsound = refused-early 1 (first-here 1 (not (sound_b b)) _ (ap not q)) (λ e. omega arith)

  module _ (s : sound_b b ≡ true) where
    pub no-amount : has_amount r.code ≡ false → most_of b r ≡ record { refusal = 4; amount = 0 }
    no-amount q = refused-early 4 (first-later 1 (not (sound_b b)) _ (ap not s) ∙ first-here 4 (not (has_amount r.code)) _ (ap not q)) (λ e. omega arith)

    module _ (h : has_amount r.code ≡ true) where
      pub no-mark : names_one r.code r.named ≡ false → most_of b r ≡ record { refusal = 5; amount = 0 }
      no-mark q =
          refused-early 5
          (first-later 1 (not (sound_b b)) _ (ap not s) ∙ first-later 4 (not (has_amount r.code)) _ (ap not h) ∙ first-here 5 (not (names_one r.code r.named)) _ (ap not q))
          (λ e. omega arith)

      pub not_live : names_one r.code r.named ≡ true → is_live b (place_of b r.account) ≡ false → most_of b r ≡ record { refusal = 7; amount = 0 }
      not_live n q =
          refused-early 7
          (first-later 1 (not (sound_b b)) _ (ap not s) ∙ first-later 4 (not (has_amount r.code)) _ (ap not h) ∙ first-later 5 (not (names_one r.code r.named)) _ (ap not n)
          ∙ first-here 7 (not (is_live b (place_of b r.account))) _ (ap not q))
          (λ e. omega arith)

-- at a sound book, without its test: it computes at once
abbrev pub quick_most : Book → Record → Largest
quick_most b r =
    unless_refused (first (drop 1 (most_refusals b r))) (largest_by (limits_in b (place_of b r.account) r.code r.named) (least_of r.code))
    (λ n. record { refusal = n; amount = 0 })

pub quick-most : (b : Book) (r : Record) → Sound b → most_of b r ≡ quick_most b r
quick-most b r s = by (first (drop 1 (most_refusals b r))) (first-later 1 (not (sound_b b)) _ (ap not (sound← b s)))
  where
    by : (n : ℕ) → first (most_refusals b r) ≡ n
        → most_of b r ≡ unless_refused n (largest_by (limits_in b (place_of b r.account) r.code r.named) (least_of r.code)) (λ n. record { refusal = n; amount = 0 })
    by zero e = most-by b r (askable-of b r e)
    by (suc n) e = refused-early b r (suc n) e (λ q. omega arith)
