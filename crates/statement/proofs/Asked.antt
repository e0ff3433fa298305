-- What a check finds before a statement's records are looked at; and that its records see a book's rows and numbers alone.
use mathlib.Core.Bool.{Bool, true, false, not}
use mathlib.Core.List.{List, [], ◌∷◌}
use mathlib.Core.Path.{◌≡◌, refl, sym, ap, ◌∙◌}
use Prim.Native.Nat.{ℕ, zero, suc, ◌+◌}
use lib.Dec.{eqb}
use lib.ListN.{drop}
use borrow.Author.Tests.{eq-eqb, ne_eqb}
use Rattle.sums.specs.Choice.{pick, unless_refused}
use Rattle.sums.specs.Table.{Line, ◌when◌, first}
use Rattle.sums.proofs.Tables.{first-here, first-later}
use Rattle.rows.specs.declared.Book.{Book}
use Rattle.rows.specs.Rows.{row_at, number_at, place_of, is_live, is_live_client_of}
use Rattle.table.specs.declared.Marks.{Marks}
use Rattle.table.specs.Words.{book_from}
use Rattle.book.specs.Sound.{sound_b}
use Rattle.statement.specs.Forms.{size_in}
use Rattle.statement.specs.Statements.{clients_from, live_clients, record_faults, found, finding_from, asked_refusals, statement_finding}

module _ (b : Book) (tm : ℕ) (s : List ℕ) where
  pub by_number : (n : ℕ) → first (asked_refusals b tm) ≡ suc n → found (suc n) 0 0 ≡ statement_finding b tm s
  unfolding statement_finding
  by_number n e = sym (ap (λ k. unless_refused k (finding_from b 0 (live_clients b (place_of b tm)) s) (λ m. found m 0 0)) e)

  abbrev eight : List Line
  eight = (8 when not (eqb (row_at b (place_of b tm)).sort 1)) ∷ []

  pub refused-1 : sound_b b ≡ false → found 1 0 0 ≡ statement_finding b tm s
  refused-1 e = by_number 0 (first-here 1 (not (sound_b b)) ((7 when not (is_live b (place_of b tm))) ∷ eight) (ap not e))

  module _ (sound : sound_b b ≡ true) where
    past-1 : first (asked_refusals b tm) ≡ first ((7 when not (is_live b (place_of b tm))) ∷ eight)
    past-1 = first-later 1 (not (sound_b b)) ((7 when not (is_live b (place_of b tm))) ∷ eight) (ap not sound)

    pub refused-7 : is_live b (place_of b tm) ≡ false → found 7 0 0 ≡ statement_finding b tm s
    refused-7 e = by_number 6 (past-1 ∙ first-here 7 (not (is_live b (place_of b tm))) eight (ap not e))

    module _ (live : is_live b (place_of b tm) ≡ true) where
      past-7 : first (asked_refusals b tm) ≡ first eight
      past-7 = past-1 ∙ first-later 7 (not (is_live b (place_of b tm))) eight (ap not live)

      pub refused-8 : ((row_at b (place_of b tm)).sort ≡ 1 → ⊥) → found 8 0 0 ≡ statement_finding b tm s
      refused-8 h = by_number 7 (past-7 ∙ first-here 8 (not (eqb (row_at b (place_of b tm)).sort 1)) [] (ap not (ne_eqb _ _ h)))

      pub none-asked : (row_at b (place_of b tm)).sort ≡ 1 → finding_from b 0 (live_clients b (place_of b tm)) s ≡ statement_finding b tm s
      unfolding statement_finding first
      none-asked e =
          sym (ap (λ k. unless_refused k (finding_from b 0 (live_clients b (place_of b tm)) s) (λ m. found m 0 0))
          (past-7 ∙ first-later 8 (not (eqb (row_at b (place_of b tm)).sort 1)) [] (ap not (eq-eqb _ _ e))))

-- neither the serial, the modes and kept needs nor the next number are seen
module _ (count serial : ℕ) (m : Marks) (w : List ℕ) (modes : List Bool) (needs : List ℕ) (next : ℕ) (numbers : List ℕ) where
  abbrev seen : Book
  seen = book_from count 0 m w [] [] 0 numbers

  abbrev whole : Book
  whole = book_from count serial m w modes needs next numbers

  clients-seen : (t n i : ℕ) → clients_from seen t n i ≡ clients_from whole t n i
  unfolding clients_from
  clients-seen t zero i = refl
  clients-seen t (suc n) i = ap (λ l. pick (is_live_client_of whole t i) (i ∷ l) l) (clients-seen t n (i + 1))

  records-seen : (k : ℕ) (is l : List ℕ) → finding_from seen k is l ≡ finding_from whole k is l
  unfolding finding_from
  records-seen k [] [] = refl
  records-seen k [] (x ∷ l) = refl
  records-seen k (i ∷ is) [] = refl
  records-seen k (i ∷ is) (x ∷ l) =
      ap (λ f. unless_refused (first (record_faults whole i (x ∷ l))) f (λ n. found n k (number_at whole i))) (records-seen (k + 1) is (drop (size_in (x ∷ l)) (x ∷ l)))

  pub statement-seen : (t : ℕ) (s : List ℕ) → finding_from seen 0 (live_clients seen t) s ≡ finding_from whole 0 (live_clients whole t) s
  statement-seen t s = ap (λ is. finding_from seen 0 is s) (clients-seen t count 0) ∙ records-seen 0 (live_clients whole t) s
