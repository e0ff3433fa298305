-- A record at a book and at the thinned one, its account told by place: the one book after it is the other thinned.
use mathlib.Core.Bool.{Bool, true, false}
use mathlib.Core.Path.{◌≡◌, refl, ◌∙◌}
use Prim.Native.Nat.{ℕ, zero, suc, ◌<◌}
use lib.Dec.{eqb, leb}
use borrow.Author.Tests.{lt-ltb, leb-false}
use Rattle.sums.specs.Choice.{pick, unless_refused}
use Rattle.sums.proofs.Choices.{and-fails, and-join, or-fails, test-clash}
use Rattle.rows.specs.declared.Row.{Row}
use Rattle.rows.specs.declared.Book.{Book}
use Rattle.rows.specs.Rows.{row_at, opened_row}
use Rattle.book.specs.Facts.{SoundRows, Sound}
use Rattle.dayfile.specs.declared.Record.{Record}
use Rattle.rules.specs.declared.Change.TheVariants.{Refuse, Put, Open}
use Rattle.rules.specs.Refusals.{is_opening, named_row, no_number_left, refusal_of}
use Rattle.rules.specs.Effects.{amended, effect_of, change_of, moved_on, changed_by, book_after}
use Rattle.rules.specs.Numbered.{naming}
use Rattle.rules.proofs.Passing.{passes-all}
use Rattle.rules.proofs.SoundChange.{change-rows}
use Rattle.gaps.specs.Gaps.{place_after, moved_row}
use Rattle.thinned.proofs.Thinned.{Thinned}
use Rattle.thinned.proofs.Verdicts.{Meant, kept, none, same-verdict}
use Rattle.thinned.proofs.Putting.{Amends, thinned-moved, thinned-put, thinned-open}
use Rattle.thinned.proofs.Looking.{thinned-settled}

pick-both : (P : Row → Row → Type 0) (t : Bool) {a b a' b' : Row} → P a a' → P b b' → P (pick t a b) (pick t a' b')
unfolding pick
pick-both P true x y = x
pick-both P false x y = y

-- a row amended at either side
amends : (keep : ℕ → Bool) (row : Row) (p : ℕ) (r : Record) → Amends keep row (amended row r) (amended (moved_row keep row) (naming p r))
unfolding amended
amends keep row p r =
    on 4 (record { moved = refl; sort = refl; tm = refl })
    (on 5 (record { moved = refl; sort = refl; tm = refl })
    (on 6 (record { moved = refl; sort = refl; tm = refl })
    (on 7 (record { moved = refl; sort = refl; tm = refl })
    (on 8 (record { moved = refl; sort = refl; tm = refl })
    (on 9 (record { moved = refl; sort = refl; tm = refl })
    (on 10 (record { moved = refl; sort = refl; tm = refl })
    (on 12 (record { moved = refl; sort = refl; tm = refl })
    (on 13 (record { moved = refl; sort = refl; tm = refl }) (record { moved = refl; sort = refl; tm = refl })))))))))
  where
    on : (n : ℕ) {a b a' b' : Row} → Amends keep row a a' → Amends keep row b b' → Amends keep row (pick (eqb r.code n) a b) (pick (eqb r.code n) a' b')
    on n = pick-both (Amends keep row) (eqb r.code n)

module _ {keep : ℕ → Bool} {b c : Book} (s : Sound b) (t : Sound c) (d : Thinned keep b c) (r : Record) (p : ℕ) (mean : Meant keep b c r.account p)
    (ne : refusal_of b r ≡ 9 → ⊥) where
  abbrev q : Record
  q = naming p r

  pub same-refusal : refusal_of c q ≡ refusal_of b r
  same-refusal = same-verdict s t d r p mean ne

  -- the account of a record that is carried out is a kept one
  carried-kept : refusal_of b r ≡ 0 → (r.account < b.count) × (keep r.account ≡ true) × (p ≡ place_after keep r.account)
  carried-kept e = by mean
    where
      by : Meant keep b c r.account p → (r.account < b.count) × (keep r.account ≡ true) × (p ≡ place_after keep r.account)
      by (kept l k z) = (l, k, z)
      by (none x y) = let h = passes-all b r e in test-clash (and-join (lt-ltb _ _ h.account) h.live) x

  -- an opening that is carried out finds a row
  a-row : (x : Book) → no_number_left x.count x.next r ≡ false → is_opening r ≡ true → x.count < 256
  a-row x z o = leb-false _ _ (or-fails (leb 256 x.count) (leb 65536 x.next) (and-fails o z)).0

  effect : (n : ℕ) → refusal_of b r ≡ n
      → Thinned keep (changed_by b r.account (unless_refused n (effect_of (named_row b r) r.account r) Refuse)) (changed_by c p (unless_refused n (effect_of (named_row c q) p q) Refuse))
  unfolding pick
  effect zero e = by (is_opening r) refl
    where
      k : (r.account < b.count) × (keep r.account ≡ true) × (p ≡ place_after keep r.account)
      k = carried-kept e

      by : (o : Bool) → is_opening r ≡ o
          → Thinned keep (changed_by b r.account (pick o (Open (opened_row r.code r.account)) (Put (amended (named_row b r) r))))
          (changed_by c p (pick o (Open (opened_row r.code p)) (Put (amended (named_row c q) q))))
      by true o =
          rw k.2
          (thinned-moved
          (thinned-open d s t (opened_row r.code r.account) (a-row b (passes-all b r e).number o) (a-row c (passes-all c q (same-refusal ∙ e)).number o) (λ z. k.1)))
      by false o =
          rw k.2
          (thinned-moved
          (thinned-put d s t r.account (amended (named_row b r) r) (amended (row_at c (place_after keep r.account)) (naming (place_after keep r.account) r)) k.0 k.1
          (rw (d.rows r.account k.0 k.1) (amends keep (named_row b r) (place_after keep r.account) r))))
  effect (suc n) e = by (leb (suc n) 3)
    where
      by : (o : Bool) → Thinned keep (pick o b (moved_on b)) (pick o c (moved_on c))
      by true = d
      by false = thinned-moved d

  settles : (n : ℕ) → refusal_of b r ≡ n
      → Thinned keep (book_after b r.account (unless_refused n (effect_of (named_row b r) r.account r) Refuse)) (book_after c p (unless_refused n (effect_of (named_row c q) p q) Refuse))
  unfolding change_of pick
  settles zero e = by (is_opening r) _ _ _ _ (effect zero e) (rw e at (change-rows b r s))
    where
      by : (o : Bool) (x x' y y' : Row) → Thinned keep (changed_by b r.account (pick o (Open x) (Put y))) (changed_by c p (pick o (Open x') (Put y')))
          → SoundRows (changed_by b r.account (pick o (Open x) (Put y)))
          → Thinned keep (book_after b r.account (pick o (Open x) (Put y))) (book_after c p (pick o (Open x') (Put y')))
      by true x x' y y' h z = thinned-settled h z
      by false x x' y y' h z = thinned-settled h z
  settles (suc n) e = effect (suc n) e

  -- THE LAW of one record
  pub after-thinned : Thinned keep (book_after b r.account (change_of b r)) (book_after c p (change_of c q))
  unfolding change_of
  after-thinned = rw same-refusal (settles (refusal_of b r) refl)
