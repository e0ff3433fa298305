-- What moves is carried up only as far as it moves: the lists then are those with all three places put anew.
use Rattle.std.proofs.Common.{◌≡◌, ℕ, ◌+◌, ◌-◌, ◌*◌, ◌<◌, Bool, true, false, eqb, leb, List, get_or, set, sym, refl, ap, ◌∙◌, ap₂, arith, length-set, get_or-set_other, get_or-set_same, set-set, lt-ltb, eq-eqb, ne_eqb}
use lib.Seq.{set-get_or}
use Rattle.sums.specs.Choice.{pick}
use Rattle.sums.proofs.Choices.{pick_yes, pick_no}
use Rattle.rows.specs.declared.Account.{Account}
use Rattle.rows.specs.View.{deemed_of}
use Rattle.rows.specs.DeemedUnder.{client_due, member_due, deemed_under_tm, deemed_under_cm}
use Rattle.rows.specs.Modes.{mode_after}
use Rattle.rows.specs.Inner.{account_as}
use Rattle.table.specs.declared.Marks.{Marks}
use Rattle.table.specs.Words.{word_at}
use Rattle.codes.specs.Own.{account_in}
use Rattle.steps.specs.declared.Lent.{Lent}
use Rattle.steps.specs.declared.following.Due.{Due}
use Rattle.steps.specs.Looks.{Past, look_in, excess_since, looked_since, deemed_under_since, needed_since}
use Rattle.steps.specs.Dues.{collateral_in, due_of, Steady, Bare, Following, need_risen, excess_risen, mode_risen, due_at, due_risen, margin_before, past_in}

right_zero : (n : ℕ) → n + 0 ≡ n
right_zero n = omega arith

no_change : (n : ℕ) → n + 0 - 0 ≡ n
no_change n = omega arith

left-zero : (n : ℕ) → 0 + n ≡ n
left-zero n = omega arith

-- ---- numbers: what an account adds under others, by its sort
deemed-less : (n c : ℕ) → deemed_of n c ≡ n - c
deemed-less n c = omega arith

module _ (a : Account) where
  due-client : a.sort ≡ 2 → a.tm < 256 → client_due a ≡ a.margin - a.collateral
  due-client e l = rw (e, lt-ltb a.tm 256 l) (deemed-less a.margin a.collateral)

  due-none : (n : ℕ) → a.sort ≡ n → eqb n 2 ≡ false → client_due a ≡ 0
  due-none n e f = rw (e, f)

  member-tm : (d : ℕ) → a.sort ≡ 1 → member_due a d ≡ a.margin + d - a.collateral
  member-tm d e = rw e (right_zero (deemed_of (a.margin + d) a.collateral) ∙ deemed-less (a.margin + d) a.collateral)

  member-cp : (d : ℕ) → a.sort ≡ 3 → d ≡ 0 → member_due a d ≡ a.margin + d - a.collateral
  member-cp d e z = rw (e, z, right_zero) (left-zero (deemed_of a.margin a.collateral) ∙ deemed-less a.margin a.collateral)

  member-none : (d n : ℕ) → a.sort ≡ n → eqb n 1 ≡ false → eqb n 3 ≡ false → member_due a d ≡ 0
  member-none d n e f g = rw (e, f, g)

-- what is under the CM moves by the one that moves
by_first : (all : ℕ) {p q r s p' r' : ℕ} → p ≡ p' → q ≡ 0 → r ≡ r' → s ≡ 0 → all + (p + q) - (r + s) ≡ all + p' - r'
by_first all e f g h = rw (e, f, g, h, right_zero, right_zero)

by-second : (all : ℕ) {p q r s q' s' : ℕ} → p ≡ 0 → q ≡ q' → r ≡ 0 → s ≡ s' → all + (p + q) - (r + s) ≡ all + q' - s'
by-second all e f g h = rw (e, f, g, h, left-zero, left-zero)

-- after an account changed from a to x
module _ (a x its : Account) (own clients all : ℕ) where
  pub tm-of-client : a.sort ≡ 2 → x.sort ≡ 2 → a.tm < 256 → x.tm < 256 → deemed_under_tm a x clients ≡ clients + (x.margin - x.collateral) - (a.margin - a.collateral)
  tm-of-client e f l k = ap₂ (λ p q. clients + p - q) (due-client x f k) (due-client a e l)

  pub cm-of-client : a.sort ≡ 2 → x.sort ≡ 2 → its.sort ≡ 1 → {n : ℕ} → deemed_under_tm a x clients ≡ n
      → deemed_under_cm a x own its clients all ≡ all + (its.margin + n - its.collateral) - (its.margin + clients - its.collateral)
  cm-of-client e f g h =
      by_first all (member-tm its _ g ∙ ap (λ k. its.margin + k - its.collateral) h) (member-none x own 2 f refl refl) (member-tm its clients g) (member-none a own 2 e refl refl)

  pub cm-of-tm : a.sort ≡ 1 → x.sort ≡ 1 → its.sort ≡ 0 → deemed_under_cm a x own its clients all ≡ all + (x.margin + own - x.collateral) - (a.margin + own - a.collateral)
  cm-of-tm e f g = by-second all (member-none its _ 0 g refl refl) (member-tm x own f) (member-none its clients 0 g refl refl) (member-tm a own e)

  pub cm-of-cp : a.sort ≡ 3 → x.sort ≡ 3 → its.sort ≡ 0 → own ≡ 0 → deemed_under_cm a x own its clients all ≡ all + (x.margin + own - x.collateral) - (a.margin + own - a.collateral)
  cm-of-cp e f g z = by-second all (member-none its _ 0 g refl refl) (member-cp x own f z) (member-none its clients 0 g refl refl) (member-cp a own e z)

  pub cm-of-cm : a.sort ≡ 0 → x.sort ≡ 0 → its.sort ≡ 0 → deemed_under_cm a x own its clients all ≡ all
  cm-of-cm e f g = by-second all (member-none its _ 0 g refl refl) (member-none x own 0 f refl refl) (member-none its clients 0 g refl refl) (member-none a own 0 e refl refl) ∙ no_change all

-- ---- lists: three places put, of which some are the CM's, or as they were
module _ {A : Type 0} (l : List A) (d : A) (i t : ℕ) where
  -- the first as it was
  bare : (a b b' c c' : A) → a ≡ get_or l i d → b ≡ b' → c ≡ c' → set (set l t b) 0 c ≡ set (set (set l i a) t b') 0 c'
  bare a b b' c c' e f g = rw (e, set-get_or l i d, f, g)

  -- the second the CM's
  over : t ≡ 0 → (a a' b c c' : A) → a ≡ a' → c ≡ c' → set (set l i a) 0 c ≡ set (set (set l i a') t b) 0 c'
  over z a a' b c c' e f = rw (z, e, f, set-set (set l i a') 0 b c')

  alone : t ≡ 0 → (a b c c' : A) → a ≡ get_or l i d → c ≡ c' → set l 0 c ≡ set (set (set l i a) t b) 0 c'
  alone z a b c c' e f = rw (z, e, set-get_or l i d, f, set-set l 0 b c')

  -- all
  top-only : i ≡ 0 → t ≡ 0 → (a b c c' : A) → c ≡ c' → set l i c ≡ set (set (set l i a) t b) 0 c'
  top-only e z a b c c' f = rw (e, z, f, set-set (set l 0 a) 0 b c', set-set l 0 a c')

  -- of two
  two : t ≡ 0 → (b c c' : A) → c ≡ c' → set l 0 c ≡ set (set l t b) 0 c'
  two z b c c' f = rw (z, f, set-set l 0 b c')

  same : t ≡ 0 → (b c : A) → c ≡ get_or l 0 d → l ≡ set (set l t b) 0 c
  same z b c f = sym (rw (z, set-set l 0 b c, f) (set-get_or l 0 d))

module _ (lent : Lent) (before : List Bool) (i m0 : ℕ) (h : Following lent before i m0) where
  abbrev m : Marks
  m = lent.marks

  abbrev w : List ℕ
  w = lent.words

  abbrev kept : List ℕ
  kept = lent.kept

  abbrev modes : List Bool
  modes = lent.modes

  abbrev needs : List ℕ
  needs = lent.needs

  abbrev excess : List ℕ
  excess = lent.excess

  abbrev t : ℕ
  t = get_or m.tm i 0

  abbrev x : Past
  x = past_in m w kept needs i m0

  abbrev under : ℕ
  under = get_or needs i 0 - m0

  abbrev old : Due
  old = due_of m0 under (get_or excess i 0) (get_or kept i 0)

  abbrev new : Due
  new = due_of (word_at w 9 i) under (get_or excess i 0) (collateral_in w i)

  abbrev own_needs : List ℕ
  own_needs = pick (leb (get_or m.sort i 0) 1) (set needs i (word_at w 9 i + under)) needs

  abbrev own_modes : List Bool
  own_modes = pick (leb (get_or m.sort i 0) 1) (set modes i (mode_after (10 * word_at w 9 i + get_or excess i 0) (collateral_in w i) (get_or before i false))) modes

  before-own : margin_before w i m0 i ≡ m0
  before-own = pick_yes (eqb i i) _ _ (eq-eqb i i refl)

  before-other : (j : ℕ) → (j ≡ i → ⊥) → margin_before w i m0 j ≡ word_at w 9 j
  before-other j e = pick_no (eqb j i) _ _ (ne_eqb j i e)

  -- what the three equations say
  abbrev pub Since : List ℕ → List ℕ → List Bool → Type 0
  Since needs' excess' modes' = (needs' ≡ needed_since m w needs x) × (excess' ≡ excess_since m w excess x) × (modes' ≡ looked_since m w excess before modes x)

  -- the accounts before and after it, in tenths or as they are
  abbrev a : Bool → Account
  a q = account_as q x.own

  abbrev b : Bool → Account
  b q = account_as q (account_in m w i)

  abbrev c : Bool → Account
  c q = account_as q x.its

  -- a look at the CM
  look-top : (v : ℕ) → get_or (excess_since m w excess x) 0 0 ≡ v → look_in m w (excess_since m w excess x) 0 (get_or before 0 false) ≡ mode_after (10 * word_at w 9 0 + v) (collateral_in w 0) (get_or before 0 false)
  look-top v e = ap (λ n. mode_after (10 * word_at w 9 0 + n) (collateral_in w 0) (get_or before 0 false)) e

  -- and at one that has no mode
  look_none : (n : ℕ) → (i ≡ 0 → ⊥) → get_or m.sort i 0 ≡ n → eqb n 1 ≡ false → look_in m w (excess_since m w excess x) i (get_or before i false) ≡ false
  look_none n z e f = rw (ne_eqb i 0 z, e, f)

  look-tm : (j v : ℕ) → (j ≡ 0 → ⊥) → get_or m.sort j 0 ≡ 1 → get_or (excess_since m w excess x) j 0 ≡ v
      → look_in m w (excess_since m w excess x) j (get_or before j false) ≡ mode_after (10 * word_at w 9 j + v) (collateral_in w j) (get_or before j false)
  look-tm j v z e f = rw (ne_eqb j 0 z, e, f)

  -- the CM's own record
  module _ (e : i ≡ 0) where
    z : t ≡ 0
    z = ap (λ j. get_or m.tm j 0) e ∙ h.top.1

    sort-own : get_or m.sort i 0 ≡ 0
    sort-own = ap (λ j. get_or m.sort j 0) e ∙ h.top.0

    sort-its : get_or m.sort t 0 ≡ 0
    sort-its = ap (λ j. get_or m.sort j 0) z ∙ h.top.0

    has-own : leb (get_or m.sort i 0) 1 ≡ true
    has-own = rw sort-own

    all_own : x.all ≡ under
    all_own = ap₂ ◌-◌ (ap (λ j. get_or needs j 0) (sym e)) (pick_yes (eqb 0 i) _ _ (eq-eqb 0 i (sym e)))

    over-own : excess ≡ excess_since m w excess x
    over-own = same excess 0 i t z _ _ (cm-of-cm (a true) (b true) (c true) (get_or excess i 0) (get_or excess t 0) (get_or excess 0 0) sort-own sort-own sort-its)

    pub since-own : Since own_needs excess own_modes
    since-own = (
      pick_yes _ _ _ has-own ∙ top-only needs 0 i t e z _ _ _ _ (ap₂ ◌+◌ (ap (word_at w 9) e) (sym (cm-of-cm (a false) (b false) (c false) under x.clients x.all sort-own sort-own sort-its ∙ all_own))),
      over-own,
      pick_yes _ _ _ has-own ∙ top-only modes false i t e z _ _ _ _ (ap (λ j. mode_after (10 * word_at w 9 j + get_or excess j 0) (collateral_in w j) (get_or before j false)) e ∙ sym (look-top _ (ap (λ l. get_or l 0 0) (sym over-own)))),
    )

  -- a TM's or a CP's
  abbrev pub Rises : Type 0
  Rises = Since (set own_needs 0 (need_risen w needs 0 old new)) (set excess 0 (excess_risen excess 0 old new)) (set own_modes 0 (mode_risen w kept excess before 0 old new))

  module _ (n : i ≡ 0 → ⊥) (z : t ≡ 0) (s : Steady lent before 0)
      (plain : deemed_under_cm (a false) (b false) under (c false) x.clients x.all ≡ x.all + new.plain - old.plain)
      (tenths : deemed_under_cm (a true) (b true) (get_or excess i 0) (c true) (get_or excess t 0) (get_or excess 0 0) ≡ excess_risen excess 0 old new) where
    top-need : need_risen w needs 0 old new ≡ (account_in m w 0).margin + (deemed_under_since m w x).cm
    top-need = sym (ap (λ k. word_at w 9 0 + k) (plain ∙ ap (λ k. get_or needs 0 0 - k + new.plain - old.plain) (before-other 0 (λ q. n (sym q)))))

    list-is : set excess 0 (excess_risen excess 0 old new) ≡ excess_since m w excess x
    list-is = two excess 0 i t z _ _ _ (sym tenths)

    top-mode : mode_risen w kept excess before 0 old new ≡ look_in m w (excess_since m w excess x) 0 (get_or before 0 false)
    top-mode =
        ap (λ k. mode_after (10 * word_at w 9 0 + excess_risen excess 0 old new) k (get_or before 0 false)) s.own
        ∙ sym (look-top _ (ap (λ l. get_or l 0 0) (sym list-is) ∙ get_or-set_same excess 0 _ 0 (omega (arith, h.long))))

    by-tm : get_or m.sort i 0 ≡ 1 → Rises
    by-tm e =
        let has : leb (get_or m.sort i 0) 1 ≡ true = rw e in (
          ap (λ l. set l 0 (need_risen w needs 0 old new)) (pick_yes _ _ _ has) ∙ over needs 0 i t z _ _ _ _ _ (rw e) top-need,
          list-is,
          ap (λ l. set l 0 (mode_risen w kept excess before 0 old new)) (pick_yes _ _ _ has) ∙ over modes false i t z _ _ _ _ _ (sym (look-tm i _ n e (ap (λ l. get_or l i 0) (sym list-is) ∙ get_or-set_other excess 0 i _ 0 n))) top-mode,
        )

    by-cp : get_or m.sort i 0 ≡ 3 → Bare lent i → Rises
    by-cp e k =
        let has : leb (get_or m.sort i 0) 1 ≡ false = rw e in (
          ap (λ l. set l 0 (need_risen w needs 0 old new)) (pick_no _ _ _ has) ∙ alone needs 0 i t z _ _ _ _ (rw e (sym k.need)) top-need,
          list-is,
          ap (λ l. set l 0 (mode_risen w kept excess before 0 old new)) (pick_no _ _ _ has) ∙ alone modes false i t z _ _ _ _ (look_none 3 n e refl ∙ sym k.mode) top-mode,
        )

  module _ (n : i ≡ 0 → ⊥) (z : t ≡ 0) (s : Steady lent before 0) where
    its-top : get_or m.sort t 0 ≡ 0
    its-top = ap (λ j. get_or m.sort j 0) z ∙ h.top.0

    pub since-tm : get_or m.sort i 0 ≡ 1 → Rises
    since-tm e =
        by-tm n z s (cm-of-tm (a false) (b false) (c false) under x.clients x.all e e its-top)
        (cm-of-tm (a true) (b true) (c true) (get_or excess i 0) (get_or excess t 0) (get_or excess 0 0) e e its-top) e

    pub since-cp : get_or m.sort i 0 ≡ 3 → Bare lent i → Rises
    since-cp e k =
        by-cp n z s (cm-of-cp (a false) (b false) (c false) under x.clients x.all e e its-top (rw k.need (omega arith)))
        (cm-of-cp (a true) (b true) (c true) (get_or excess i 0) (get_or excess t 0) (get_or excess 0 0) e e its-top k.over) e k

  -- a client's
  abbrev its : Due
  its = due_at lent t

  abbrev after : Due
  after = due_risen lent t old new

  abbrev pub Lifts : Type 0
  Lifts =
      Since (set (set own_needs t (need_risen w needs t old new)) 0 (need_risen w needs 0 its after))
      (set (set excess t (excess_risen excess t old new)) 0 (excess_risen excess 0 its after))
      (set (set own_modes t (mode_risen w kept excess before t old new)) 0 (mode_risen w kept excess before 0 its after))

  module _ (n : i ≡ 0 → ⊥) (p : 0 < t) (q : t < i) (e : get_or m.sort i 0 ≡ 2) (f : get_or m.sort t 0 ≡ 1) (k : Bare lent i)
      (g : Steady lent before t) (s : Steady lent before 0) where
    before-top : margin_before w i m0 0 ≡ word_at w 9 0
    before-top = before-other 0 (λ r. n (sym r))

    before-its : margin_before w i m0 t ≡ word_at w 9 t
    before-its = before-other t (λ r. omega arith)

    low : t < 256
    low = g.fits.inside

    -- nothing is under it
    none : under ≡ 0
    none = rw k.need (omega arith)

    tm-plain : deemed_under_tm (a false) (b false) x.clients ≡ get_or needs t 0 - word_at w 9 t + new.plain - old.plain
    tm-plain =
        tm-of-client (a false) (b false) (c false) under x.clients x.all e e low low
        ∙ rw (before-its, none, right_zero (word_at w 9 i), right_zero m0)

    tm-tenths : deemed_under_tm (a true) (b true) (get_or excess t 0) ≡ excess_risen excess t old new
    tm-tenths =
        tm-of-client (a true) (b true) (c true) (get_or excess i 0) (get_or excess t 0) (get_or excess 0 0) e e low low
        ∙ rw (k.over, right_zero (10 * word_at w 9 i), right_zero (10 * m0))

    cm-plain : deemed_under_cm (a false) (b false) under (c false) x.clients x.all ≡ get_or needs 0 0 - word_at w 9 0 + after.plain - its.plain
    cm-plain = cm-of-client (a false) (b false) (c false) under x.clients x.all e e f tm-plain ∙ rw (before-its, before-top)

    cm-tenths : deemed_under_cm (a true) (b true) (get_or excess i 0) (c true) (get_or excess t 0) (get_or excess 0 0) ≡ excess_risen excess 0 its after
    cm-tenths = cm-of-client (a true) (b true) (c true) (get_or excess i 0) (get_or excess t 0) (get_or excess 0 0) e e f tm-tenths ∙ rw before-its

    two_is : set (set excess t (excess_risen excess t old new)) 0 (excess_risen excess 0 its after) ≡ excess_since m w excess x
    two_is = ap₂ (λ v u. set (set excess t v) 0 u) (sym tm-tenths) (sym cm-tenths)

    pub since-client : Lifts
    since-client =
        let has : leb (get_or m.sort i 0) 1 ≡ false = rw e in (
          ap (λ l. set (set l t (need_risen w needs t old new)) 0 (need_risen w needs 0 its after)) (pick_no _ _ _ has) ∙ bare needs 0 i t _ _ _ _ _ (rw e (sym k.need)) (rw f (ap₂ ◌+◌ (sym before-its) (sym tm-plain))) (ap (λ v. word_at w 9 0 + v) (sym cm-plain)),
          two_is,
          ap (λ l. set (set l t (mode_risen w kept excess before t old new)) 0 (mode_risen w kept excess before 0 its after)) (pick_no _ _ _ has)
              ∙ bare modes false i t _ _ _ _ _ (look_none 2 n e refl ∙ sym k.mode)
              (ap (λ v. mode_after (10 * word_at w 9 t + excess_risen excess t old new) v (get_or before t false)) g.own
              ∙ sym (look-tm t _ (λ r. omega arith) f (ap (λ l. get_or l t 0) (sym two_is) ∙ get_or-set_other (set excess t (excess_risen excess t old new)) 0 t _ 0 (λ r. omega arith) ∙ get_or-set_same excess t _ 0 (omega (arith, h.long)))))
              (ap (λ v. mode_after (10 * word_at w 9 0 + excess_risen excess 0 its after) v (get_or before 0 false)) s.own
              ∙ sym (look-top _ (ap (λ l. get_or l 0 0) (sym two_is) ∙ get_or-set_same (set excess t (excess_risen excess t old new)) 0 _ 0 (omega (arith, length-set excess t (excess_risen excess t old new), h.long))))),
        )
