-- A sound book is sound rows, good modes and kept needs. After any look the modes are good (K2), and needs worked out afresh are kept (K3): neither needs a law of its own.
use mathlib.Core.Path.{◌≡◌, refl, sym, ◌∙◌, ap}
use mathlib.Core.Bool.{Bool, true, false}
use mathlib.Core.List.{List, []}
use mathlib.Core.Logic.{inl, inr}
use Prim.Native.Nat.{ℕ, ◌<◌}
use native.Mathlib.Omega.{arith}
use native.Mathlib.Decide.{ℕ_discrete, dec_lt}
use lib.Dec.{eqb}
use borrow.Author.Tests.{eqb-true, ne_eqb}
use Rattle.sums.specs.Sum.{only}
use Rattle.sums.proofs.Sums.{sum-zero, only_zero}
use Rattle.sums.proofs.Choices.{and_left, test-clash, pick_no}
use Rattle.rows.specs.declared.Book.{Book}
use Rattle.rows.specs.View.{is_tm, is_client_of, own_deemed, need_tm, need}
use Rattle.rows.specs.Facts.{NoneBeyond, NeedsKept}
use Rattle.rows.specs.Rows.{row_at, mode_at, view, with_modes}
use Rattle.rows.specs.Modes.{use_tm, use_cm, has_mode, use_of, look_at, looked}
use Rattle.rows.specs.DeemedUnder.{DeemedUnder, deemed_under_by}
use Rattle.rows.specs.Inner.{view_as}
use Rattle.rows.specs.KeptNeeds.{needs_afresh, settled}
use Rattle.rows.proofs.BySort.{Sort, cm, tm, client, cp, sort-of, client-sort, client-tm, need-TM, need-client, need-CP}
use Rattle.rows.proofs.Tenths.{TM's-use}
use Rattle.rows.proofs.Looks.{looked-at, no-use}
use Rattle.rows.proofs.KeptNeeds.{afresh-at, kept_under}
use Rattle.book.specs.Facts.{SoundRows, MayBeOn, Sound}
use Rattle.book.proofs.RowFacts.{amounts→}

pub sound-rows : (b : Book) → Sound b → SoundRows b
sound-rows b s = record {
  table = s.table;
  most = s.most;
  top-live = s.top-live;
  blank = s.blank;
  shaped = s.shaped;
  no-tm = s.no-tm;
  tm-live = s.tm-live;
  retired = s.retired;
  ranges = s.ranges;
  numbered = s.numbered;
}

-- what the list says of rows and numbers looks neither at the serial nor at modes and kept needs
pub rows-alone : (b : Book) (n : ℕ) (modes : List Bool) (needs : List ℕ) → SoundRows b
    → SoundRows (record { count = b.count; serial = n; rows = b.rows; modes = modes; needs = needs; next = b.next; numbers = b.numbers })
rows-alone b n modes needs s = record {
  table = s.table;
  most = s.most;
  top-live = s.top-live;
  blank = s.blank;
  shaped = s.shaped;
  no-tm = s.no-tm;
  tm-live = s.tm-live;
  retired = s.retired;
  ranges = s.ranges;
  numbered = s.numbered;
}

pub with_rest : (b : Book) → SoundRows b → ((i : ℕ) → i < 256 → mode_at b i ≡ true → MayBeOn b i) → NeedsKept (view b) b.needs → Sound b
with_rest b s modes kept = record {
  table = s.table;
  most = s.most;
  top-live = s.top-live;
  blank = s.blank;
  shaped = s.shaped;
  no-tm = s.no-tm;
  tm-live = s.tm-live;
  retired = s.retired;
  ranges = s.ranges;
  numbered = s.numbered;
  modes = modes;
  kept = kept;
}

-- a sound book is sound with no mode on
pub all-off : (b : Book) → Sound b → Sound (with_modes b [])
all-off b s = with_rest (with_modes b []) (rows-alone b b.serial [] b.needs (sound-rows b s)) (λ i l e. test-clash e refl) s.kept

module _ (b : Book) (s : SoundRows b) where
  pub none-beyond : NoneBeyond (view b)
  none-beyond i l = ap (λ r. eqb r.sort 1) (s.blank i l)

  -- a retired account is deemed nothing, in tenths too
  none-deemed : (tenths : Bool) (i : ℕ) → i < b.count → (row_at b i).live ≡ false → own_deemed (view_as tenths (view b)) i ≡ 0
  none-deemed true i m e = omega (arith, amounts→ (row_at b i) (s.retired i m e))
  none-deemed false i m e = omega (arith, amounts→ (row_at b i) (s.retired i m e))

  -- a retired TM's clients are retired, so its need is 0, and its use
  module _ (t : ℕ) (l : t < b.count) (gone : (row_at b t).live ≡ false) where
    client-gone : (i : ℕ) → i < b.count → is_client_of (view b) t i ≡ true → (row_at b i).live ≡ false
    client-gone i m e = by (row_at b i).live refl
      where
        by : (x : Bool) → (row_at b i).live ≡ x → (row_at b i).live ≡ false
        by true q = test-clash (s.tm-live i m (client-sort (view b) t i e) q) (ap (λ j. (row_at b j).live) (client-tm (view b) t i e) ∙ gone)
        by false q = q

    its-margin : (tenths : Bool) → (view_as tenths (view b)).margin t ≡ 0
    its-margin true = omega (arith, amounts→ (row_at b t) (s.retired t l gone))
    its-margin false = omega (arith, amounts→ (row_at b t) (s.retired t l gone))

    retired-TM : (tenths : Bool) → need_tm (view_as tenths (view b)) t ≡ 0
    unfolding need_tm
    retired-TM tenths =
        omega (
          arith,
          its-margin tenths,
          sum-zero b.count (λ i. only (is_client_of (view b) t i) (own_deemed (view_as tenths (view b)) i))
              (λ i m. only_zero (is_client_of (view b) t i) (own_deemed (view_as tenths (view b)) i) (λ e. none-deemed tenths i m (client-gone i m e))),
        )

    retired-use : use_tm (view b) t ≡ 0
    retired-use = sym (TM's-use (view b) t) ∙ retired-TM true

    -- and any retired account's need is 0
    pub retired-need : need (view b) t ≡ 0
    retired-need = by (sort-of (view b) s.shaped t l)
      where
        by : Sort (view b) t → need (view b) t ≡ 0
        by (cm e c) = test-clash (ap (λ j. (row_at b j).live) e ∙ s.top-live) gone
        by (tm g c) = need-TM (view b) t c ∙ retired-TM false
        by (client g c) = need-client (view b) t c ∙ its-margin false
        by (cp g c) = need-CP (view b) t c ∙ its-margin false

  -- so whatever the modes were, those after a look are good
  pub looked-good : (modes : List Bool) (i : ℕ) → look_at (view b) modes i ≡ true → MayBeOn b i
  unfolding use_of
  looked-good modes i e = by (ℕ_discrete i 0) (dec_lt i b.count) (row_at b i).live refl
    where
      its-sort : (i ≡ 0 → ⊥) → is_tm (view b) i ≡ true
      its-sort n = rw (ne_eqb i 0 n) at (and_left (has_mode (view b) i) _ e)

      by : Dec (i ≡ 0) → Dec (i < b.count) → (x : Bool) → (row_at b i).live ≡ x → MayBeOn b i
      by (yes z) d x y = inl z
      by (no n) (yes l) true y = inr (eqb-true _ _ (its-sort n), y)
      by (no n) (yes l) false y =
          test-clash e (no-use (view b) modes i (λ h. pick_no (eqb i 0) (use_cm (view b)) (use_tm (view b) i) (ne_eqb i 0 n) ∙ retired-use i l y))
      by (no n) (no l) x y = test-clash (its-sort n) (none-beyond i (omega arith))

  -- "It is looked at after every record carried out."; "bring it up to date"
  pub settled-sound : Sound (settled b)
  settled-sound =
      with_rest (settled b) (rows-alone b b.serial (looked (view b) b.modes) (needs_afresh (view b)) s)
      (λ i l e. looked-good b.modes i (sym (looked-at (view b) b.modes i l) ∙ e)) (afresh-at (view b))

-- what is deemed under each account of a sound book, by its kept needs
pub sound-under : (b : Book) → Sound b → (margin : ℕ → ℕ) → ((i : ℕ) → i < 256 → margin i ≡ (row_at b i).margin) → DeemedUnder (view b) (deemed_under_by margin b.needs)
sound-under b s margin same = kept_under (view b) s.shaped (none-beyond b (sound-rows b s)) margin same b.needs s.kept s.most
