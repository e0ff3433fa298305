-- Demand 3. Every sequence of records leaves a sound book sound, and a fresh book is sound; what a client or CP pays in a
-- close-out; the fund's bound.
use mathlib.Core.Bool.{true}
use mathlib.Core.List.{List}
use mathlib.Core.Logic.{◌⊎◌, inl, inr}
use mathlib.Core.Path.{◌≡◌, sym, ap, ◌∙◌}
use Prim.Native.Nat.{ℕ, ◌+◌, ◌≤◌, ◌<◌, min}
use native.Mathlib.Omega.{arith}
use Rattle.sums.specs.Sum.{sum, only}
use Rattle.sums.proofs.Sums.{sum-zero, only_zero}
use Rattle.rows.specs.declared.Book.{Book}
use Rattle.rows.specs.View.{is_client_of, of_clients, blocked}
use Rattle.rows.specs.Rows.{row_at, collateral, view, fresh_book}
use Rattle.book.specs.Sound.{sound_b}
use Rattle.book.specs.Facts.{Sound}
use Rattle.book.specs.Asked.{shortfall}
use Rattle.rows.proofs.BySort.{client-sort, client-tm}
use Rattle.book.proofs.FreshSound.{fresh-test}
use Rattle.book.proofs.SoundTest.{sound→, sound←}
use Rattle.dayfile.specs.declared.Record.{Record}
use Rattle.desk.specs.Steps.{step_of, next_of}
use Rattle.records.specs.Runs.{ran_of}
use Rattle.records.proofs.SoundRun.{step-sound, next-sound, ran-keeps}
use Rattle.closeout.specs.Round.{own, from_tm, from_cm}
use Rattle.closeout.specs.Columns.{is_client_or_cp, purses₁, part₁, own_column, tm_column, cm_column}
use Rattle.closeout.specs.Bound.{beyond, cell_of}
use Rattle.closeout.specs.Closing.{loss_at, close_out_refusal, closed_of}
use Rattle.closeout.proofs.RoundOne.{TM-blocked, CM-blocked}
use Rattle.closeout.proofs.TwoRounds.{TM-has, CM-has, none_within}
use Rattle.closeout.proofs.Carried.{carried-sound, carried-total, carried-own, carried-each, own-paid-alone, total-bound}
use Rattle.promises.specs.Sequences.{after_all}
use Rattle.promises.proofs.Quick.{all_sound}

-- The test of refusal 1 holds exactly of a sound book.
pub sound-exactly : (b : Book) → (sound_b b ≡ true → Sound b) × (Sound b → sound_b b ≡ true)
sound-exactly b = (sound→ b, sound← b)

-- Every record, carried out or refused, leaves a sound book sound.
pub every-record : (b : Book) (r : Record) → sound_b b ≡ true → sound_b (step_of b r).book ≡ true
every-record b r e = sound← (step_of b r).book (step-sound b r (sound→ b e))

-- So do whatever bytes stand at a place of a piece: a record, too few bytes, or none.
pub every-place : (b : Book) (piece : List ℕ) (place : ℕ) → sound_b b ≡ true → sound_b (next_of b piece place).book ≡ true
every-place b piece place e = sound← (next_of b piece place).book (next-sound b piece place (sound→ b e))

-- Every sequence of records, handed over as values, leaves a sound book sound, ..
pub every-sequence : (b : Book) (rs : List Record) → sound_b b ≡ true → sound_b (after_all b rs) ≡ true
every-sequence b rs e = sound← (after_all b rs) (all_sound b rs (sound→ b e))

-- .. and so do any bytes at all, up to any number of records: over a book that a day left, and over one taken over (K7: `a-book-taken-over-is-sound` of Haircut), too.
pub any-bytes : (b : Book) (piece : List ℕ) (most : ℕ) → sound_b b ≡ true → sound_b (ran_of b piece most).book ≡ true
any-bytes b piece most e = sound← (ran_of b piece most).book (ran-keeps b piece most (sound→ b e))

-- A fresh book is sound. So every sequence of records from a fresh book leaves a sound book, ..
pub every-sequence-from-a-fresh-book : (rs : List Record) → sound_b (after_all fresh_book rs) ≡ true
every-sequence-from-a-fresh-book rs = every-sequence fresh_book rs fresh-test

-- .. and so do any bytes over one.
pub any-bytes-over-a-fresh-book : (piece : List ℕ) (most : ℕ) → sound_b (ran_of fresh_book piece most).book ≡ true
any-bytes-over-a-fresh-book piece most = any-bytes fresh_book piece most fresh-test

client-or-CP : (b : Book) (i : ℕ) → ((row_at b i).sort ≡ 2) ⊎ ((row_at b i).sort ≡ 3) → is_client_or_cp (view b) i ≡ true
client-or-CP b i (inl e) = rw e
client-or-CP b i (inr e) = rw e

module _ (b : Book) (losses room : List ℕ) (carried : close_out_refusal b losses room ≡ 0) where
  -- A client (sort 2) and a CP (sort 3) pay for their own loss exactly the lesser of that loss and their own collateral (the first of their
  -- four amounts).
  pub pays-the-lesser : (i : ℕ) → i < b.count → ((row_at b i).sort ≡ 2) ⊎ ((row_at b i).sort ≡ 3)
      → cell_of b losses room i 0 ≡ min (loss_at losses i) (collateral (row_at b i))
  pays-the-lesser i m s = carried-own b losses room carried i m (client-or-CP b i s)

  -- Where the shortfall is 0 each account's uncovered part (the fourth amount) is at most its own loss beyond its own margin.
  pub each-at-most-its-own : shortfall (view b) ≡ 0 → (i : ℕ) → i < b.count → cell_of b losses room i 3 ≤ beyond (view b) (loss_at losses) i
  each-at-most-its-own none = carried-each b losses room carried (omega arith)

  -- Nobody else's loss is paid from the collateral of a client (sort 2) or a CP (sort 3): losses of others are paid from a TM's,
  -- where they are its clients' (the second amount, stated here), and from the CM's. That a client or CP pays exactly that lesser and nothing else, added up
  -- over all losses: WhoPays.
  pub nobody-takes-from-a-client-or-CP : (i : ℕ) → ((row_at b i).sort ≡ 2) ⊎ ((row_at b i).sort ≡ 3)
      → of_clients (view b) i (tm_column (view b) (loss_at losses)) ≡ 0
  nobody-takes-from-a-client-or-CP i s =
      sum-zero b.count (λ j. only (is_client_of (view b) i j) (tm_column (view b) (loss_at losses) j))
      (λ j l. only_zero (is_client_of (view b) i j) (tm_column (view b) (loss_at losses) j) (λ q. absurd (no-client j l q s)))
    where
      no-client : (j : ℕ) → j < b.count → is_client_of (view b) i j ≡ true → ((row_at b i).sort ≡ 2) ⊎ ((row_at b i).sort ≡ 3) → ⊥
      no-client j l q s =
          let t = ((carried-sound b losses room carried).shaped.tms j l (client-sort (view b) i j q)).1 in
          let k : (row_at b i).sort ≡ 1 = ap (λ n. (row_at b n).sort) (sym (client-tm (view b) i j q)) ∙ t in
          none k s
        where
          none : (row_at b i).sort ≡ 1 → ((row_at b i).sort ≡ 2) ⊎ ((row_at b i).sort ≡ 3) → ⊥
          none k (inl e) = omega arith
          none k (inr e) = omega arith

  -- Where the shortfall is 0 and no loss passes its margin, nothing is left uncovered, and the fund pays nothing.
  pub within-margins-the-fund-pays-nothing : shortfall (view b) ≡ 0 → ((i : ℕ) → i < b.count → loss_at losses i ≤ (row_at b i).margin) → (closed_of b losses room).total ≡ 0
  within-margins-the-fund-pays-nothing none h =
      rw (carried-total b losses room carried) (none_within (view b) (carried-sound b losses room carried).shaped (loss_at losses) (omega arith) h)

-- However others stand: two close-outs that agree on one client's or CP's loss and collateral have it pay the same for its own loss (the
-- first amount).
pub however-others-stand : (b b' : Book) (losses losses' room room' : List ℕ) → close_out_refusal b losses room ≡ 0 → close_out_refusal b' losses' room' ≡ 0
    → (i : ℕ) → i < b.count → i < b'.count → ((row_at b i).sort ≡ 2) ⊎ ((row_at b i).sort ≡ 3) → ((row_at b' i).sort ≡ 2) ⊎ ((row_at b' i).sort ≡ 3)
    → loss_at losses i ≡ loss_at losses' i → collateral (row_at b i) ≡ collateral (row_at b' i)
    → cell_of b losses room i 0 ≡ cell_of b' losses' room' i 0
however-others-stand b b' losses losses' room room' p q i m n s s' =
    own-paid-alone b b' losses losses' room room' p q i m n (client-or-CP b i s) (client-or-CP b' i s')

-- Nobody's collateral pays more than there is, whatever the losses: a TM's pays its own loss and its clients' in both rounds, ..
pub TM-pays-what-it-has : (b : Book) (losses : List ℕ) → Sound b → (t : ℕ) → (row_at b t).sort ≡ 1
    → own_column (view b) (loss_at losses) t + of_clients (view b) t (tm_column (view b) (loss_at losses)) ≤ collateral (row_at b t)
TM-pays-what-it-has b losses s t e = TM-has (view b) s.shaped (loss_at losses) t e

-- .. and the CM's pays its own loss and all others'.
pub CM-pays-what-it-has : (b : Book) (losses : List ℕ) → Sound b
    → own_column (view b) (loss_at losses) 0 + sum b.count (cm_column (view b) (loss_at losses)) ≤ collateral (row_at b 0)
CM-pays-what-it-has b losses s = CM-has (view b) s.shaped (loss_at losses)

-- Round one takes no more than is blocked of a TM's collateral, so that what is free stays for round two, ..
pub round-one-within-the-TM's-blocked : (b : Book) (losses : List ℕ) → Sound b → (t : ℕ) → (row_at b t).sort ≡ 1
    → own (purses₁ (view b)) (part₁ (view b) (loss_at losses)) t + of_clients (view b) t (from_tm (purses₁ (view b)) (part₁ (view b) (loss_at losses))) ≤ blocked (view b) t
round-one-within-the-TM's-blocked b losses s t e = TM-blocked (view b) s.shaped (loss_at losses) t e

-- .. and of the CM's.
pub round-one-within-the-CM's-blocked : (b : Book) (losses : List ℕ) → Sound b
    → own (purses₁ (view b)) (part₁ (view b) (loss_at losses)) 0 + sum b.count (from_cm (purses₁ (view b)) (part₁ (view b) (loss_at losses))) ≤ blocked (view b) 0
round-one-within-the-CM's-blocked b losses s = CM-blocked (view b) s.shaped (loss_at losses)

-- What is left uncovered, which the fund pays, is at most the shortfall plus the losses beyond the margins, added up account by account: for every book
-- and whatever was asked, since a refusal gives a total of 0.
pub the-fund-pays-at-most : (b : Book) (losses room : List ℕ)
    → (closed_of b losses room).total ≤ shortfall (view b) + sum b.count (beyond (view b) (loss_at losses))
the-fund-pays-at-most = total-bound
