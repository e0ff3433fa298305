-- A word put in its place is its account's row put anew.
use mathlib.Core.Bool.{Bool, false}
use mathlib.Core.List.{List}
use mathlib.Core.Path.{◌≡◌, ap, ◌∙◌}
use Prim.Native.Nat.{ℕ, ◌+◌, ◌*◌, ◌<◌}
use native.Mathlib.Omega.{arith}
use native.Mathlib.Decide.{ℕ_discrete}
use lib.Dec.{eqb}
use lib.ListN.{get_or, set, length-set}
use lib.Seq.{get_or-set_same, get_or-set_other, set-set}
use borrow.Author.Tests.{eq-eqb, ne_eqb}
use Rattle.sums.specs.Choice.{pick}
use Rattle.rows.specs.declared.Row.{Row}
use Rattle.table.specs.declared.Marks.{Marks}
use Rattle.table.specs.Words.{word_at, amount_of, row_from, marks_from, row_in, rows_of}
use Rattle.table.specs.Facts.{Sized}
use Rattle.table.specs.Inner.{Anew}
use Rattle.table.proofs.Gathered.{rows-but-one, row-eq}

-- a row with amount k put anew
abbrev pub with_amount : ℕ → ℕ → Row → Row
with_amount k x r = row_from r.sort r.live r.tm (λ j. pick (eqb j k) x (amount_of r j))

-- put anew once more, by what the first time made of the row
pub anew-again : {m n p : Marks} {w u v : List ℕ} {i : ℕ} {r : Row} (f : Row → Row) → Anew m w i r n u → Anew n u i (f (row_in n u i)) p v → Anew m w i (f r) p v
anew-again {m} {n} {p} {w} {u} {v} {i} {r} f h g = record {
  rows = g.rows ∙ ap (λ l. set l i (f (row_in n u i))) h.rows ∙ set-set (rows_of m w) i r (f (row_in n u i)) ∙ ap (λ q. set (rows_of m w) i (f q)) h.row;
  row = g.row ∙ ap f h.row;
  size = g.size;
}

module _ (m : Marks) (w : List ℕ) (i : ℕ) (s : Sized m w) (l : i < 256) where
  -- THE LAW: amount k of account i put in its place is row i with that amount put anew
  pub amount-put : (k x : ℕ) → k < 10 → Anew m w i (with_amount k x (row_in m w i)) m (set w (256 * k + i) x)
  unfolding pick
  amount-put k x lk = record {
    rows = rows-but-one m m w (set w (256 * k + i) x) i l others ∙ ap (set (rows_of m w) i) own;
    row = own;
    size = record { sorts = s.sorts; lives = s.lives; tms = s.tms; words = length-set w (256 * k + i) x ∙ s.words };
  }
    where
      by : (j : ℕ) → Dec (j ≡ k) → word_at (set w (256 * k + i) x) j i ≡ pick (eqb j k) x (word_at w j i)
      by j (yes e) = rw (eq-eqb j k e, e) (get_or-set_same w (256 * k + i) x 0 (omega (arith, s.words)))
      by j (no e) = rw (ne_eqb j k e) (get_or-set_other w (256 * k + i) (256 * j + i) x 0 (λ q. e (omega arith)))

      own : row_in m (set w (256 * k + i) x) i ≡ with_amount k x (row_in m w i)
      own =
          row-eq (get_or m.sort i 0) (get_or m.live i false) (get_or m.tm i 0) _ (λ j. pick (eqb j k) x (word_at w j i))
          (λ j q. by j (ℕ_discrete j k))

      others : (a : ℕ) → a < 256 → (a ≡ i → ⊥) → row_in m (set w (256 * k + i) x) a ≡ row_in m w a
      others a q ne =
          row-eq (get_or m.sort a 0) (get_or m.live a false) (get_or m.tm a 0) _ _
          (λ j p. get_or-set_other w (256 * k + i) (256 * j + a) x 0 (λ z. ne (omega arith)))

  -- what is no amount put in its place
  pub marks-put : (a : ℕ) (v : Bool) (t : ℕ)
      → Anew m w i (row_from a v t (λ k. word_at w k i)) (marks_from (set m.sort i a) (set m.live i v) (set m.tm i t)) w
  marks-put a v t = record {
    rows = rows-but-one m _ w w i l others ∙ ap (set (rows_of m w) i) own;
    row = own;
    size = record {
      sorts = length-set m.sort i a ∙ s.sorts;
      lives = length-set m.live i v ∙ s.lives;
      tms = length-set m.tm i t ∙ s.tms;
      words = s.words;
    };
  }
    where
      own : row_in (marks_from (set m.sort i a) (set m.live i v) (set m.tm i t)) w i ≡ row_from a v t (λ k. word_at w k i)
      own = rw (
        get_or-set_same m.sort i a 0 (omega (arith, s.sorts)),
        get_or-set_same m.live i v false (omega (arith, s.lives)),
        get_or-set_same m.tm i t 0 (omega (arith, s.tms)),
      )

      others : (b : ℕ) → b < 256 → (b ≡ i → ⊥) → row_in (marks_from (set m.sort i a) (set m.live i v) (set m.tm i t)) w b ≡ row_in m w b
      others b q ne = rw (
        get_or-set_other m.sort i b a 0 ne,
        get_or-set_other m.live i b v false ne,
        get_or-set_other m.tm i b t 0 ne,
      )
