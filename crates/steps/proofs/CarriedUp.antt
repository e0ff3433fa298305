-- `steps::following::follow` comes to the three equations, whatever the account's sort, and also where it stops on its way up.
use Rattle.std.proofs.Common.{◌≡◌, ℕ, ◌+◌, ◌-◌, ◌*◌, ◌<◌, ◌≤◌, Bool, true, false, leb, ◌⊎◌, List, length, get_or, set, sym, refl, ap, ◌∙◌, ap₂, inl, inr, arith, length-set, get_or-set_other}
use lib.Seq.{set-get_or}
use Rattle.sums.specs.Choice.{pick}
use Rattle.rows.specs.declared.Rule.TheVariants.{New}
use Rattle.rows.proofs.Counted.{counted-most}
use Rattle.rows.specs.Modes.{mode_after}
use Rattle.table.specs.declared.Marks.{Marks}
use Rattle.table.specs.Words.{word_at}
use Rattle.steps.specs.declared.Lent.{Lent}
use Rattle.steps.specs.declared.following.Due.{Due}
use Rattle.steps.specs.Steps.{modes_in}
use Rattle.steps.specs.Dues.{Small, Fits, Steady, Stands, Following, Risen, Lifted, Followed, collateral_in, due_of, excess_risen, due_at, due_risen, cm, tm, client, cp}
use Rattle.steps.proofs.Lifting.{mode-aside, need-stays, excess-stays, mode-stays, no_more}
use Rattle.steps.proofs.Followed.{Since, Rises, Lifts, since-own, since-tm, since-cp, since-client}

module _ {A : Type 0} (l : List A) (d : A) where
  -- what is put is what was there
  unmoved : (j : ℕ) (v : A) → v ≡ get_or l j d → l ≡ set l j v
  unmoved j v e = sym (ap (set l j) e ∙ set-get_or l j d)

  unmoved-two : (j k : ℕ) (v u : A) → v ≡ get_or l j d → u ≡ get_or l k d → l ≡ set (set l j v) k u
  unmoved-two j k v u e f = sym (ap₂ (λ p q. set (set l j p) k q) e f ∙ ap (λ q. set q k (get_or l k d)) (set-get_or l j d) ∙ set-get_or l k d)

  -- a place beside the one that may have been put
  aside : (q : Bool) (i j : ℕ) (v : A) → (j ≡ i → ⊥) → get_or (pick q (set l i v) l) j d ≡ get_or l j d
  unfolding pick
  aside true i j v n = get_or-set_other l i j v d n
  aside false i j v n = refl

  put-size : (q : Bool) (i : ℕ) (v : A) → length (pick q (set l i v) l) ≡ length l
  unfolding pick
  put-size true i v = length-set l i v
  put-size false i v = refl

module _ (lent : Lent) (waiting : Bool) (was : List Bool) (i m0 : ℕ) (h : Following lent (modes_in waiting was lent.modes) i m0) where
  abbrev m : Marks
  m = lent.marks

  abbrev w : List ℕ
  w = lent.words

  abbrev kept : List ℕ
  kept = lent.kept

  abbrev modes : List Bool
  modes = lent.modes

  abbrev needs : List ℕ
  needs = lent.needs

  abbrev excess : List ℕ
  excess = lent.excess

  abbrev before : List Bool
  before = modes_in waiting was modes

  abbrev place : ℕ
  place = get_or m.tm i 0

  abbrev pub gone : Due
  gone = due_of m0 (get_or needs i 0 - m0) (get_or excess i 0) (get_or kept i 0)

  abbrev pub come : Due
  come = due_of (word_at w 9 i) (get_or needs i 0 - m0) (get_or excess i 0) (collateral_in w i)

  -- the lists with the account's own place put
  abbrev pub kept1 : List ℕ
  kept1 = set kept i (collateral_in w i)

  abbrev pub needs1 : List ℕ
  needs1 = pick (leb (get_or m.sort i 0) 1) (set needs i (word_at w 9 i + (get_or needs i 0 - m0))) needs

  abbrev pub modes1 : List Bool
  modes1 = pick (leb (get_or m.sort i 0) 1) (set modes i (mode_after (10 * word_at w 9 i + get_or excess i 0) (collateral_in w i) (get_or before i false))) modes

  abbrev pub put1 : Lent
  put1 = record lent { kept = kept1; needs = needs1; modes = modes1 }

  abbrev Comes : List ℕ → List ℕ → List Bool → Type 0
  Comes n e k = Since lent before i m0 h n e k

  need-aside : (j : ℕ) → (j ≡ i → ⊥) → get_or needs1 j 0 ≡ get_or needs j 0
  need-aside j n = aside needs 0 (leb (get_or m.sort i 0) 1) i j _ n

  kept-aside : (j : ℕ) → (j ≡ i → ⊥) → get_or kept1 j 0 ≡ get_or kept j 0
  kept-aside j n = get_or-set_other kept i j _ 0 n

  own-aside : (j : ℕ) → (j ≡ i → ⊥) → get_or modes1 j false ≡ get_or modes j false
  own-aside j n = aside modes false (leb (get_or m.sort i 0) 1) i j _ n

  before-aside : (j : ℕ) → (j ≡ i → ⊥) → get_or (modes_in waiting was modes1) j false ≡ get_or before j false
  before-aside j n = mode-aside waiting was modes modes1 j (own-aside j n)

  steady-aside : (j : ℕ) → (j ≡ i → ⊥) → Steady lent before j → Steady put1 (modes_in waiting was modes1) j
  steady-aside j n s = record {
    fits = record {
      inside = s.fits.inside;
      collaterals = length-set kept i _ ∙ h.collaterals;
      wide = put-size needs 0 (leb (get_or m.sort i 0) 1) i _ ∙ h.wide;
      long = h.long;
      margin = s.fits.margin;
      collateral = rw (kept-aside j n) s.fits.collateral;
      under = rw (need-aside j n) s.fits.under;
      over = s.fits.over;
    };
    own = kept-aside j n ∙ s.own;
    need = rw (need-aside j n) s.need;
    look = own-aside j n ∙ s.look ∙ ap₂ (mode_after (10 * word_at w 9 j + get_or excess j 0)) (sym (kept-aside j n)) (sym (before-aside j n));
  }

  pub collateral-fits : collateral_in w i ≤ 100_000_000_000_000
  collateral-fits = let r = h.ranging in omega (arith, r, counted-most New (word_at w 7 i))

  come-small : Small 200_000_000_000_000_000 come
  come-small = record { plain = omega (arith, h.margin, h.under); tenths = omega (arith, h.margin, h.over) }

  -- who answers for it is in step
  top-steady : (i ≡ 0 → ⊥) → Steady lent before 0
  top-steady n = by h.stands
    where
      by : Stands lent before i → Steady lent before 0
      by (cm e) = absurd (n e)
      by (tm _ e z s) = s
      by (client _ e p q f k g s) = s
      by (cp _ e z k s) = s

  -- as far as the CM
  rises : (i ≡ 0 → ⊥) → place ≡ 0 → Rises lent before i m0 h
  rises n z = by h.stands
    where
      by : Stands lent before i → Rises lent before i m0 h
      by (cm e) = absurd (n e)
      by (tm _ e _ s) = since-tm lent before i m0 h n z s e
      by (client _ e p q f k g s) = absurd (omega arith)
      by (cp _ e _ k s) = since-cp lent before i m0 h n z s e k

  -- by way of its TM
  tm-steady : (i ≡ 0 → ⊥) → (place ≡ 0 → ⊥) → (0 < place) × (place < i) × Steady lent before place
  tm-steady n y = by h.stands
    where
      by : Stands lent before i → (0 < place) × (place < i) × Steady lent before place
      by (cm e) = absurd (n e)
      by (tm _ e z s) = absurd (y z)
      by (client _ e p q f k g s) = (p, q, g)
      by (cp _ e z k s) = absurd (y z)

  lifted : (i ≡ 0 → ⊥) → (place ≡ 0 → ⊥) → Lifts lent before i m0 h
  lifted n y = by h.stands
    where
      by : Stands lent before i → Lifts lent before i m0 h
      by (cm e) = absurd (n e)
      by (tm _ e z s) = absurd (y z)
      by (client _ e p q f k g s) = since-client lent before i m0 h n p q e f k g s
      by (cp _ e z k s) = absurd (y z)

  -- nothing moves above it
  stays : (i ≡ 0) ⊎ (gone ≡ come) → Comes needs1 excess modes1
  stays (inl e) = since-own lent before i m0 h e
  stays (inr u) = by h.stands
    where
      beside : (i ≡ 0 → ⊥) → 0 ≡ i → ⊥
      beside n q = n (sym q)

      alone : (n : i ≡ 0 → ⊥) → place ≡ 0 → Steady lent before 0 → Comes needs1 excess modes1
      alone n z s =
          let r = rises n z in (
            unmoved needs1 0 0 _ (need-stays lent before 0 s gone come u ∙ sym (need-aside 0 (beside n))) ∙ r.0,
            unmoved excess 0 0 _ (excess-stays lent before 0 s gone come u) ∙ r.1,
            unmoved modes1 false 0 _ (mode-stays lent before 0 s gone come u ∙ sym (own-aside 0 (beside n))) ∙ r.2,
          )

      by : Stands lent before i → Comes needs1 excess modes1
      by (cm e) = since-own lent before i m0 h e
      by (tm n e z s) = alone n z s
      by (cp n e z k s) = alone n z s
      by (client n e p q f k g s) =
          let r = lifted n (λ z. omega arith) in
          let apart : place ≡ i → ⊥ = λ z. omega arith in
          let same : due_at lent place ≡ due_risen lent place gone come =
          sym (ap₂ (λ v y. due_of (word_at w 9 place) v y (get_or kept place 0)) (ap (λ (y : Due). get_or needs place 0 - word_at w 9 place + come.plain - y.plain) u ∙ no_more (get_or needs place 0 - word_at w 9 place) come.plain) (excess-stays lent before place g gone come u)) in (
            unmoved-two needs1 0 place 0 _ _ (need-stays lent before place g gone come u ∙ sym (need-aside place apart)) (need-stays lent before 0 s _ _ same ∙ sym (need-aside 0 (beside n))) ∙ r.0,
            unmoved-two excess 0 place 0 _ _ (excess-stays lent before place g gone come u) (excess-stays lent before 0 s _ _ same) ∙ r.1,
            unmoved-two modes1 false place 0 _ _ (mode-stays lent before place g gone come u ∙ sym (own-aside place apart)) (mode-stays lent before 0 s _ _ same ∙ sym (own-aside 0 (beside n))) ∙ r.2,
          )

  -- from the lists with its own place put
  goes-up : (i ≡ 0 → ⊥) → place ≡ 0 → (to : Lent) → Risen put1 (modes_in waiting was modes1) 0 gone come to → Comes to.needs to.excess to.modes
  goes-up n z to k =
      let r = rises n z in
      let y : 0 ≡ i → ⊥ = λ q. n (sym q) in (
        k.need ∙ ap (λ v. set needs1 0 (word_at w 9 0 + (v - word_at w 9 0 + come.plain - gone.plain))) (need-aside 0 y) ∙ r.0,
        k.over ∙ r.1,
        k.mode ∙ ap₂ (λ v u. set modes1 0 (mode_after (10 * word_at w 9 0 + excess_risen excess 0 gone come) v u)) (kept-aside 0 y) (before-aside 0 y) ∙ r.2,
      )

  goes_further : (i ≡ 0 → ⊥) → (place ≡ 0 → ⊥) → (to : Lent) → Lifted put1 (modes_in waiting was modes1) place gone come to → Comes to.needs to.excess to.modes
  goes_further n z to k =
      let r = lifted n z in
      let y : 0 ≡ i → ⊥ = λ q. n (sym q) in
      let g = tm-steady n z in
      let x : place ≡ i → ⊥ = λ q. omega (arith, g.1) in (
        k.need ∙ (rw (kept-aside place x, need-aside place x, need-aside 0 y)) ∙ r.0,
        k.over ∙ (rw (kept-aside place x)) ∙ r.1,
        k.mode ∙ (rw (kept-aside place x, kept-aside 0 y, before-aside place x, before-aside 0 y)) ∙ r.2,
      )

  -- the same for what the function has at hand then
  module _ {k : Lent} {g d : Due} (e1 : k ≡ put1) (eg : g ≡ gone) (ed : d ≡ come) where
    steady-put : (j : ℕ) → (j ≡ i → ⊥) → Steady lent before j → Steady k (modes_in waiting was k.modes) j
    steady-put j n s = rw e1 (steady-aside j n s)

    pub top-put : (i ≡ 0 → ⊥) → Steady k (modes_in waiting was k.modes) 0
    top-put n = steady-put 0 (λ q. n (sym q)) (top-steady n)

    pub its-put : (i ≡ 0 → ⊥) → {t1 : ℕ} → t1 ≡ place → (t1 ≡ 0 → ⊥) → Fits 100_000_000_000_000_000 k t1 × (0 < t1)
    its-put n {t1} e z =
        let g = tm-steady n (λ q. z (e ∙ q)) in
        let f : Fits 100_000_000_000_000_000 k place = (steady-put place (λ q. omega (arith, g.1)) g.2).fits in
        (rw e f, omega (arith, e, g.0))

    pub small_put : Small 200_000_000_000_000_000 d
    small_put = rw ed come-small

    pub stay : (i ≡ 0) ⊎ (g ≡ d) → Followed lent before i m0 k
    stay q = let r = stays (by q) in rw e1 record { own = refl; need = r.0; over = r.1; mode = r.2; rest = refl }
      where
        by : (i ≡ 0) ⊎ (g ≡ d) → (i ≡ 0) ⊎ (gone ≡ come)
        by (inl e) = inl e
        by (inr e) = inr (sym eg ∙ e ∙ ed)

    pub up : (i ≡ 0 → ⊥) → place ≡ 0 → {to : Lent} → Risen k (modes_in waiting was k.modes) 0 g d to → Followed lent before i m0 to
    up n z {to} h =
        let k' = rw (e1, eg, ed) at h in
        let r = goes-up n z to k' in
        record { own = ap (λ q. q.kept) k'.rest; need = r.0; over = r.1; mode = r.2; rest = k'.rest ∙ ap (λ v. record lent { kept = v; modes = to.modes; needs = to.needs; excess = to.excess }) (sym (ap (λ q. q.kept) k'.rest)) }

    pub further : (i ≡ 0 → ⊥) → {t1 : ℕ} → t1 ≡ place → (t1 ≡ 0 → ⊥) → {to : Lent} → Lifted k (modes_in waiting was k.modes) t1 g d to → Followed lent before i m0 to
    further n e z {to} h =
        let k' = rw (e1, eg, ed, e) at h in
        let r = goes_further n (λ q. z (e ∙ q)) to k' in
        record { own = ap (λ q. q.kept) k'.rest; need = r.0; over = r.1; mode = r.2; rest = k'.rest ∙ ap (λ v. record lent { kept = v; modes = to.modes; needs = to.needs; excess = to.excess }) (sym (ap (λ q. q.kept) k'.rest)) }
