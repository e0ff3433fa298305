-- Several words put in their places: what each setter of a row is by words, and a whole row put.
use mathlib.Core.Bool.{Bool}
use mathlib.Core.List.{List}
use Prim.Native.Nat.{ℕ, ◌+◌, ◌*◌, ◌<◌}
use native.Mathlib.Omega.{arith}
use lib.ListN.{get_or, set}
use lib.Seq.{set-get_or}
use Rattle.sums.specs.Choice.{pick}
use Rattle.rows.specs.declared.Kinds.{Kinds}
use Rattle.rows.specs.declared.Row.{Row}
use Rattle.rows.specs.Rows.{with_live, with_received, with_allocated, with_pledged, with_margin}
use Rattle.table.specs.declared.Marks.{Marks}
use Rattle.table.specs.Words.{marks_from, row_in}
use Rattle.table.specs.Inner.{put_kinds, put_row, Anew}
use Rattle.table.specs.Facts.{Sized}
use Rattle.table.proofs.InPlace.{with_amount, anew-again, amount-put, marks-put}

-- one amount more
pub then-amount : {m n : Marks} {w u : List ℕ} {i : ℕ} {r : Row} (k x : ℕ) → k < 10 → i < 256 → Anew m w i r n u
    → Anew m w i (with_amount k x r) n (set u (256 * k + i) x)
then-amount {m} {n} {w} {u} {i} k x lk l h = anew-again (with_amount k x) h (amount-put n u i h.size l k x lk)

module _ (m : Marks) (w : List ℕ) (i : ℕ) (s : Sized m w) (l : i < 256) where
  pub received-put : (x : Kinds) → Anew m w i (with_received (row_in m w i) x) m (put_kinds w 0 i x)
  unfolding pick
  received-put x =
      then-amount 3 x.securities (omega arith) l (then-amount 2 x.guarantees (omega arith) l
      (then-amount 1 x.deposits (omega arith) l (amount-put m w i s l 0 x.cash (omega arith))))

  pub allocated-put : (x : Kinds) → Anew m w i (with_allocated (row_in m w i) x) m (put_kinds w 4 i x)
  unfolding pick
  allocated-put x =
      then-amount 7 x.securities (omega arith) l (then-amount 6 x.guarantees (omega arith) l
      (then-amount 5 x.deposits (omega arith) l (amount-put m w i s l 4 x.cash (omega arith))))

  pub pledged-put : (x : ℕ) → Anew m w i (with_pledged (row_in m w i) x) m (set w (256 * 8 + i) x)
  unfolding pick
  pledged-put x = amount-put m w i s l 8 x (omega arith)

  pub margin-put : (x : ℕ) → Anew m w i (with_margin (row_in m w i) x) m (set w (256 * 9 + i) x)
  unfolding pick
  margin-put x = amount-put m w i s l 9 x (omega arith)

  pub live-put : (v : Bool) → Anew m w i (with_live (row_in m w i) v) (marks_from m.sort (set m.live i v) m.tm) w
  live-put v =
      rw (set-get_or m.sort i 0, set-get_or m.tm i 0) at (marks-put m w i s l (get_or m.sort i 0) v (get_or m.tm i 0))

-- a whole row put
pub row_put : (m : Marks) (w : List ℕ) (i : ℕ) → Sized m w → i < 256 → (r : Row)
    → Anew m w i r (marks_from (set m.sort i r.sort) (set m.live i r.live) (set m.tm i r.tm)) (put_row w i r)
row_put m w i s l r =
    let received = received-put m w i s l r.received in
    let allocated = anew-again (λ q. with_allocated q r.allocated) received (allocated-put m _ i received.size l r.allocated) in
    let pledged = anew-again (λ q. with_pledged q r.pledged) allocated (pledged-put m _ i allocated.size l r.pledged) in
    let margin = anew-again (λ q. with_margin q r.margin) pledged (margin-put m _ i pledged.size l r.margin) in
    anew-again (λ q. record { sort = r.sort; live = r.live; tm = r.tm; received = q.received; allocated = q.allocated; pledged = q.pledged; margin = q.margin })
    margin (marks-put m _ i margin.size l r.sort r.live r.tm)
