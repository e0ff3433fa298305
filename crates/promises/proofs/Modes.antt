-- K2, risk reduction mode: document 02's sentences as theorems. Its case, Annexure 5's table, is among the figures (Claim).
use mathlib.Core.Bool.{Bool, true, false}
use mathlib.Core.List.{List, [], ◌∷◌}
use mathlib.Core.Logic.{◌⊎◌, inl, inr}
use mathlib.Core.Path.{◌≡◌, refl, sym, ap, ◌∙◌}
use Prim.Native.Nat.{ℕ, zero, suc, ◌<◌}
use native.Mathlib.Omega.{arith}
use native.Mathlib.Decide.{ℕ_discrete}
use lib.Dec.{leb}
use lib.ListN.{get_or}
use borrow.Author.Tests.{ltb-true}
use Rattle.sums.specs.Choice.{pick, unless_refused}
use Rattle.sums.specs.Listed.{list_to}
use Rattle.sums.specs.Sum.{sum}
use Rattle.sums.proofs.Choices.{test-clash, and_left}
use Rattle.sums.proofs.Lists.{get_d-same}
use Rattle.rows.specs.declared.Book.{Book}
use Rattle.rows.specs.View.{View, need_tm, need_cm, need, deemed}
use Rattle.rows.specs.Rows.{place_of, row_at, mode_at, view, fresh_book, with_modes, with_needs, is_live}
use Rattle.rows.specs.Modes.{own_excess, use_tm, excess_tm, use_cm, use_of, mode_after, look_at, looked}
use Rattle.rows.specs.KeptNeeds.{needs_afresh, settled}
use Rattle.rows.specs.Inner.{in_tenths}
use Rattle.rows.proofs.BySort.{need-TM, need-CM, deemed-client, deemed-TM, deemed-CP}
use Rattle.rows.proofs.Tenths.{own-excess, TM's-use, TM's-excess, CM's-use}
use Rattle.rows.proofs.Looks.{look_twice}
use Rattle.book.specs.Sound.{sound_b}
use Rattle.book.specs.Asked.{standing_refusal, no_figures, figures_of, standing_of}
use Rattle.book.proofs.SoundTest.{sound→}
use Rattle.book.proofs.StandingRefusals.{unsound-refused, dead-refused, standing-number}
use Rattle.dayfile.specs.declared.Record.{Record}
use Rattle.rules.specs.Effects.{moved_on, book_after}
use Rattle.rules.specs.declared.Change.{Change}
use Rattle.rules.specs.declared.Change.TheVariants.{Refuse, Put, Open}
use Rattle.rules.specs.Numbered.{placed, row_named, verdict_of, act_of}
use Rattle.rules.proofs.ModesAside.{same-verdict, same-but-17, same-change}
use Rattle.desk.specs.Answers.{answer_of}
use Rattle.desk.specs.Steps.{step_of}
use Rattle.desk.proofs.ModesAfter.{mode-after, modes-stay, looked-after, been-looked, others-stay-in}
use Rattle.closeout.specs.Closing.{close_out_refusal, closed_of, room_of}
use Rattle.closeout.specs.Columns.{four}
use Rattle.promises.specs.Sequences.{after_all}
use Rattle.promises.specs.Standings.{all_but_mode}

-- "Figures as 004 Annexure 5, in tenths": in the view with ten margins and nine collaterals for each account (`in_tenths`) a use is a need, and an
-- excess is what is deemed. Sorts: 0 is the CM, 1 a TM, 2 a client, 3 a CP.
module _ (v : View) where
  -- "a client's or CP's excess is ten margins less nine collaterals, or 0."
  pub excess-of-a-client-or-CP : (i : ℕ) → (v.sort i ≡ 2) ⊎ (v.sort i ≡ 3) → own_excess v i ≡ deemed (in_tenths v) i
  excess-of-a-client-or-CP i (inl e) = sym (deemed-client (in_tenths v) i e ∙ own-excess v i)
  excess-of-a-client-or-CP i (inr e) = sym (deemed-CP (in_tenths v) i e ∙ own-excess v i)

  -- "A TM's use is ten of its margins plus its clients' excess;"
  pub use-of-a-TM : (t : ℕ) → v.sort t ≡ 1 → use_tm v t ≡ need (in_tenths v) t
  use-of-a-TM t e = sym (need-TM (in_tenths v) t e ∙ TM's-use v t)

  -- "its own excess is use less nine collaterals, or 0."
  pub excess-of-a-TM : (t : ℕ) → v.sort t ≡ 1 → excess_tm v t ≡ deemed (in_tenths v) t
  excess-of-a-TM t e = sym (deemed-TM (in_tenths v) t e ∙ TM's-excess v t)

  -- "The CM's use is ten margins plus the excess of TMs and CPs (CPs are house)."
  pub use-of-the-CM : v.sort 0 ≡ 0 → use_cm v ≡ need (in_tenths v) 0
  use-of-the-CM e = sym (need-CM (in_tenths v) 0 e ∙ CM's-use v)

-- A second look at the same figures changes nothing (nor do needs worked out once more, which `settled` does too: K3).
pub a-second-look : (b : Book) → settled (settled b) ≡ settled b
a-second-look b = ap (λ l. with_needs (with_modes b l) (needs_afresh (view b))) (look_twice (view b) b.modes)

-- "off at first": in a fresh book no account is in the mode, ..
pub off-at-first : (i : ℕ) → mode_at fresh_book i ≡ false
unfolding fresh_book
off-at-first i = get_d-same 256 i false

-- .. as a look at it would leave it.
pub fresh-book-is-looked-at : settled fresh_book ≡ fresh_book
unfolding fresh_book looked list_to use_of use_cm use_tm needs_afresh need_cm need_tm sum pick mode_after
fresh-book-is-looked-at = refl

module _ (b : Book) (r : Record) where
  -- "It is looked at after every record carried out.": the mode after is told by the figures after the record and the mode before it.
  pub looked-at-after-every-record : verdict_of b r ≡ 0 → (i : ℕ) → i < 256
      → mode_at (step_of b r).book i ≡ look_at (view (step_of b r).book) b.modes i
  looked-at-after-every-record = mode-after b r

  -- A refusal doesn't look: the modes stay.
  pub a-refusal-changes-no-mode : 0 < verdict_of b r → (step_of b r).book.modes ≡ b.modes
  a-refusal-changes-no-mode = modes-stay b r

  -- After any record carried out the book has been looked at: a look at its own figures changes nothing.
  pub then-it-has-been-looked-at : verdict_of b r ≡ 0 → settled (step_of b r).book ≡ (step_of b r).book
  then-it-has-been-looked-at = looked-after b r

  -- A book that has been looked at is so after every record, refused ones too.
  pub every-record-leaves-it-looked-at : settled b ≡ b → settled (step_of b r).book ≡ (step_of b r).book
  every-record-leaves-it-looked-at = been-looked b r

  -- "a record may change modes besides its row": where the modes are those that a look leaves, those of the account named, its TM (0, the CM, for any
  -- account but a client) and the CM, and no other.
  pub no-other-mode-changes : looked (view b) b.modes ≡ b.modes → (i : ℕ) → (i ≡ place_of b r.account → ⊥) → (i ≡ (row_named b r).tm → ⊥) → (i ≡ 0 → ⊥)
      → mode_at (step_of b r).book i ≡ mode_at b i
  no-other-mode-changes = others-stay-in b r

-- So every book that records make from a fresh one has been looked at.
pub every-sequence-is-looked-at : (rs : List Record) → settled (after_all fresh_book rs) ≡ after_all fresh_book rs
unfolding after_all
every-sequence-is-looked-at rs = from fresh_book rs fresh-book-is-looked-at
  where
    from : (b : Book) (rs : List Record) → settled b ≡ b → settled (after_all b rs) ≡ after_all b rs
    from b [] been = been
    from b (r ∷ rs) been = from (step_of b r).book rs (been-looked b r been)

-- "Blocking doesn't look at it.": of two books that differ in their modes alone ..
module _ (b : Book) (modes : List Bool) where
  -- .. each account's need is the same, ..
  pub same-needs : (i : ℕ) → need (view (with_modes b modes)) i ≡ need (view b) i
  same-needs i = refl

  -- .. and so are a close-out's four amounts of each account.
  pub same-columns : (loss : ℕ → ℕ) (i : ℕ) → four (view (with_modes b modes)) loss i ≡ four (view b) loss i
  same-columns loss i = refl

-- Where both are sound, the same are ..
module _ (b : Book) (modes : List Bool) (s : sound_b b ≡ true) (t : sound_b (with_modes b modes) ≡ true) where
  standing-refusal : (account : ℕ) → standing_refusal (with_modes b modes) account ≡ standing_refusal b account
  unfolding standing_refusal
  standing-refusal account = rw (s, t)

  -- .. every standing's refusal, five figures and shortfall, ..
  pub same-figures : (account : ℕ) → all_but_mode (standing_of (with_modes b modes) account) ≡ all_but_mode (standing_of b account)
  unfolding standing_of
  same-figures account = rw (standing-refusal account) (by (standing_refusal b account))
    where
      by : (n : ℕ) → all_but_mode (unless_refused n (figures_of (view b) (get_or modes (place_of b account) false) (place_of b account)) no_figures)
          ≡ all_but_mode (unless_refused n (figures_of (view b) (mode_at b (place_of b account)) (place_of b account)) no_figures)
      by zero = refl
      by (suc n) = refl

  -- .. every close-out's answer, with its total, and its room, ..
  pub same-close-out : (losses room : List ℕ)
      → (closed_of (with_modes b modes) losses room ≡ closed_of b losses room) × (room_of (with_modes b modes) losses room ≡ room_of b losses room)
  unfolding closed_of room_of close_out_refusal
  same-close-out losses room = (rw (s, t), rw (s, t))

  -- .. and each record's refusal, K5's 17 excepted: it is the same where neither is 17, ..
  pub same-verdict-but-17 : (r : Record) → (verdict_of (with_modes b modes) r ≡ 17 → ⊥) → (verdict_of b r ≡ 17 → ⊥) → verdict_of (with_modes b modes) r ≡ verdict_of b r
  same-verdict-but-17 r = same-but-17 b modes (sound→ b s) (sound→ (with_modes b modes) t) (placed b r)

  -- .. and where the account named has the same mode in both: no other account's is asked for.
  pub only-the-named-account's-mode : (r : Record) → get_or modes (place_of b r.account) false ≡ mode_at b (place_of b r.account) → verdict_of (with_modes b modes) r ≡ verdict_of b r
  only-the-named-account's-mode r = same-verdict b modes (sound→ b s) (sound→ (with_modes b modes) t) (placed b r)

  -- Where the refusal is the same so are the effect and the answer, and the books after the record differ in their modes alone.
  pub same-but-for-modes : (r : Record) → verdict_of (with_modes b modes) r ≡ verdict_of b r
      → (act_of (with_modes b modes) r ≡ act_of b r)
      × ((step_of (with_modes b modes) r).answer ≡ (step_of b r).answer)
      × ((step_of (with_modes b modes) r).book ≡ with_modes (step_of b r).book (step_of (with_modes b modes) r).book.modes)
  unfolding step_of pick
  same-but-for-modes r same =
      let e = same-change b modes (sound→ b s) (sound→ (with_modes b modes) t) (placed b r) same in
      (e, ap (answer_of b.next r) e, rw e (by (act_of b r)))
    where
      refusing : (x : Bool) (c : Book) → pick x (with_modes b modes) (with_modes c modes) ≡ with_modes (pick x b c) (pick x (with_modes b modes) (with_modes c modes)).modes
      refusing true c = refl
      refusing false c = refl

      by : (c : Change) → book_after (with_modes b modes) (place_of b r.account) c ≡ with_modes (book_after b (place_of b r.account) c) (book_after (with_modes b modes) (place_of b r.account) c).modes
      by (Refuse n) = refusing (leb n 3) (moved_on b)
      by (Put x) = refl
      by (Open x) = refl

-- "In a sound book only a live TM or the CM can be in the mode.": sort 1 is a TM, and account 0 the CM; ..
pub only-a-live-TM-or-the-CM : (b : Book) → sound_b b ≡ true → (i : ℕ) → i < 256 → mode_at b i ≡ true
    → (i ≡ 0) ⊎ (((row_at b i).sort ≡ 1) × ((row_at b i).live ≡ true))
only-a-live-TM-or-the-CM b s = (sound→ b s).modes

-- .. any other account is off.
pub any-other-is-off : (b : Book) → sound_b b ≡ true → (i : ℕ) → i < 256 → (i ≡ 0 → ⊥) → ((row_at b i).sort ≡ 1 → (row_at b i).live ≡ false) → mode_at b i ≡ false
any-other-is-off b s i l n gone = by (mode_at b i) refl
  where
    not_on : (i ≡ 0) ⊎ (((row_at b i).sort ≡ 1) × ((row_at b i).live ≡ true)) → mode_at b i ≡ false
    not_on (inl e) = absurd (n e)
    not_on (inr e) = test-clash e.1 (gone e.0)

    by : (x : Bool) → mode_at b i ≡ x → mode_at b i ≡ false
    by true e = not_on (only-a-live-TM-or-the-CM b s i l e)
    by false e = e

-- "Mode is .. shown in a standing":
module _ (b : Book) (account : ℕ) where
  -- one that isn't refused shows the account's mode, ..
  pub a-standing-shows-the-mode : (standing_of b account).refusal ≡ 0 → (standing_of b account).mode ≡ mode_at b (place_of b account)
  unfolding standing_of
  a-standing-shows-the-mode e =
      ap (λ n. (unless_refused n (figures_of (view b) (mode_at b (place_of b account)) (place_of b account)) no_figures).mode) (sym (standing-number b account) ∙ e)

  -- .. one that is refused shows off, ..
  pub a-refused-standing-shows-off : 0 < (standing_of b account).refusal → (standing_of b account).mode ≡ false
  unfolding standing_of
  a-refused-standing-shows-off = by (standing_refusal b account)
    where
      by : (n : ℕ) → 0 < (unless_refused n (figures_of (view b) (mode_at b (place_of b account)) (place_of b account)) no_figures).refusal
          → (unless_refused n (figures_of (view b) (mode_at b (place_of b account)) (place_of b account)) no_figures).mode ≡ false
      by zero p = absurd (omega arith)
      by (suc n) p = refl

  -- .. and a client's (sort 2) or CP's (sort 3) shows off.
  pub a-client's-or-CP's-standing-shows-off : ((row_at b (place_of b account)).sort ≡ 2) ⊎ ((row_at b (place_of b account)).sort ≡ 3) → (standing_of b account).mode ≡ false
  a-client's-or-CP's-standing-shows-off c = by (ℕ_discrete (standing_of b account).refusal 0) (sound_b b) refl (is_live b (place_of b account)) refl
    where
      no-TM : ((row_at b (place_of b account)).sort ≡ 2) ⊎ ((row_at b (place_of b account)).sort ≡ 3) → (row_at b (place_of b account)).sort ≡ 1 → ⊥
      no-TM (inl e) q = omega arith
      no-TM (inr e) q = omega arith

      by : Dec ((standing_of b account).refusal ≡ 0) → (x : Bool) → sound_b b ≡ x → (y : Bool) → is_live b (place_of b account) ≡ y → (standing_of b account).mode ≡ false
      by (no e) x p y q = a-refused-standing-shows-off (omega arith)
      by (yes e) false p y q = absurd (omega (arith, standing-number b account, unsound-refused b account p))
      by (yes e) true p false q = absurd (omega (arith, standing-number b account, dead-refused b account p q))
      by (yes e) true p true q =
          a-standing-shows-the-mode e
          ∙ any-other-is-off b p (place_of b account) (omega (arith, ltb-true (place_of b account) b.count (and_left _ _ q), (sound→ b p).most)) (top c) (λ one. absurd (no-TM c one))
        where
          top : ((row_at b (place_of b account)).sort ≡ 2) ⊎ ((row_at b (place_of b account)).sort ≡ 3) → place_of b account ≡ 0 → ⊥
          top (inl k) z = omega (arith, (sound→ b p).shaped.top, ap (λ j. (row_at b j).sort) z)
          top (inr k) z = omega (arith, (sound→ b p).shaped.top, ap (λ j. (row_at b j).sort) z)
