-- What a code's function shows where it returns: a line of its own that applies, or its words put.
use mathlib.Core.Bool.{Bool, true, false}
use mathlib.Core.List.{List, [], ◌∷◌}
use mathlib.Core.Path.{◌≡◌, refl, sym, ap, ◌∙◌}
use Prim.Native.Nat.{ℕ, ◌+◌, ◌-◌, ◌*◌, ◌≤◌, ◌<◌}
use native.Mathlib.Omega.{arith}
use lib.Dec.{ltb}
use lib.ListN.{get_or, set}
use Rattle.sums.specs.Choice.{pick}
use Rattle.sums.specs.Table.{Line, ◌when◌, first}
use Rattle.sums.proofs.Lists.{at-list_to}
use Rattle.rows.specs.declared.Kinds.{Kinds}
use Rattle.rows.specs.declared.Row.{Row}
use Rattle.rows.specs.declared.Account.{Account}
use Rattle.rows.specs.Rows.{ceiling, less_kinds, account_of, with_received, with_allocated, with_pledged, with_margin}
use Rattle.rows.specs.Facts.{InRange}
use Rattle.table.specs.declared.Marks.{Marks}
use Rattle.table.specs.Words.{row_in}
use Rattle.table.specs.Facts.{Sized}
use Rattle.table.specs.Inner.{put_kinds, Anew}
use Rattle.table.proofs.RowsPut.{received-put, allocated-put, pledged-put, margin-put}
use Rattle.rows.proofs.NeedSums.{deemed-under-cm-most, due-most}
use Rattle.rules.specs.Inner.{top_margin}
use Rattle.codes.specs.declared.settling.DeemedUnderAfter.{DeemedUnderAfter}
use Rattle.codes.specs.Own.{account_in, deemed_under_at, deemed_under_in, need_passes_in, deemed_under_after, deemed_under_after_in, Held, Answers}

-- the first line of two or of one
pub first-line-holds : (k : ℕ) (t : Bool) (rest : List Line) → t ≡ true → k ≡ first ((k when t) ∷ rest)
unfolding first pick
first-line-holds k t rest e = rw e

pub first-line-fails : (k : ℕ) (t : Bool) (rest : List Line) (n : ℕ) → t ≡ false → n ≡ first rest → n ≡ first ((k when t) ∷ rest)
unfolding first pick
first-line-fails k t rest n e h = rw e h

pub no-line-gives-0 : 0 ≡ first []
unfolding first
no-line-gives-0 = refl

module _ {m : Marks} {w : List ℕ} {i : ℕ} {x : Row} {own : List Line} where
  pub opens_not : (k : ℕ) → k ≡ first own → (k ≡ 0 → ⊥) → Answers m w i x own k m w
  opens_not k e ne = record { number = e; puts = λ z. absurd (ne z); stays = λ z. (refl, refl) }

  pub opened-answers : {n : Marks} {u : List ℕ} → 0 ≡ first own → Anew m w i x n u → Answers m w i x own 0 n u
  opened-answers e h = record { number = e; puts = λ z. h; stays = λ ne. absurd (ne refl) }

module _ {m : Marks} {w : List ℕ} {i : ℕ} where
  pub refused-answers : {x : Row} (k : ℕ) (own : Row → List Line) (row : Row) → row ≡ row_in m w i → k ≡ first (own row) → (k ≡ 0 → ⊥)
      → Answers m w i x (own (row_in m w i)) k m w
  refused-answers k own row er e ne = record { number = e ∙ ap (λ q. first (own q)) er; puts = λ z. absurd (ne z); stays = λ z. (refl, refl) }

  pub put-answers : {x : Row} {n : Marks} {u : List ℕ} (own : Row → List Line) (row : Row) → row ≡ row_in m w i → 0 ≡ first (own row) → Anew m w i x n u
      → Answers m w i x (own (row_in m w i)) 0 n u
  put-answers own row er e h = record { number = e ∙ ap (λ q. first (own q)) er; puts = λ z. h; stays = λ ne. absurd (ne refl) }

  -- what the sum after a change asks of the two accounts
  pub change-in-range : {under : List ℕ} (row new : Row) (a b : Account) → Held m w under i → row ≡ row_in m w i → a ≡ account_of row → b ≡ account_of new → InRange new
      → Held m w under i × (a.tm < 256) × (a.margin ≤ ceiling) × (b.margin ≤ ceiling)
  change-in-range row new a b h er ea eb g =
      (h, rw (ea, er) h.tm, rw (ea, er) (h.ranges i h.inside).margin, rw eb g.margin)

  pub held-in-range : {under : List ℕ} (row : Row) → Held m w under i → row ≡ row_in m w i → InRange row
  held-in-range row h er = rw er (h.ranges i h.inside)

  -- the words that each setter puts
  module _ (s : Sized m w) (l : i < 256) (new : Row) {u : List ℕ} where
    pub received-anew : (x : Kinds) → new ≡ with_received (row_in m w i) x → u ≡ put_kinds w 0 i new.received → Anew m w i (with_received (row_in m w i) x) m u
    received-anew x en eu = rw (eu, en) (received-put m w i s l x)

    pub allocated-anew : (x : Kinds) → new ≡ with_allocated (row_in m w i) x → u ≡ put_kinds w 4 i new.allocated → Anew m w i (with_allocated (row_in m w i) x) m u
    allocated-anew x en eu = rw (eu, en) (allocated-put m w i s l x)

    pub pledged-anew : (x : ℕ) → new ≡ with_pledged (row_in m w i) x → u ≡ set w (256 * 8 + i) new.pledged → Anew m w i (with_pledged (row_in m w i) x) m u
    pledged-anew x en eu = rw (eu, en) (pledged-put m w i s l x)

    pub margin-anew : (x : ℕ) → new ≡ with_margin (row_in m w i) x → u ≡ set w (256 * 9 + i) new.margin → Anew m w i (with_margin (row_in m w i) x) m u
    margin-anew x en eu = rw (eu, en) (margin-put m w i s l x)

-- what is under an account, by its word and its kept need
pub under-is : (w needs : List ℕ) (j : ℕ) → j < 256 → get_or (deemed_under_in w needs) j 0 ≡ deemed_under_at w needs j
under-is w needs j l = at-list_to (deemed_under_at w needs) 256 j 0 l

-- part by part
pub deemed-under-eq : {own own' clients clients' all all' : ℕ} {its its' : Account} (old new : Account) → own ≡ own' → clients ≡ clients' → all ≡ all' → its ≡ its'
    → deemed_under_after own clients all old new its ≡ deemed_under_after own' clients' all' old new its'
deemed-under-eq old new e₁ e₂ e₃ e₄ = rw (e₁, e₂, e₃, e₄)

-- the cover test of a new margin, part by part
pub need-passes-is : (m : Marks) (w under : List ℕ) (i y : ℕ) (row new : Row) (a b top : Account) (d : DeemedUnderAfter) (t : Bool) → row ≡ row_in m w i → new ≡ with_margin row y
    → a ≡ account_of row → b ≡ account_of new → top ≡ account_in m w 0 → d ≡ deemed_under_after_in m w under i a b → t ≡ ltb top.collateral (top_margin a top y + d.cm)
    → need_passes_in m w under i y ≡ t
need-passes-is m w under i y row new a b top d t er en ea eb ep ed et = rw (et, ed, ep, eb, ea, en, er)

-- no word passes
pub deemed-under-most : {m : Marks} {w under : List ℕ} {i : ℕ} (a b : Account) (d : DeemedUnderAfter) → Held m w under i → a.tm < 256 → b.margin ≤ ceiling → d ≡ deemed_under_after_in m w under i a b
    → (d.tm ≤ 10_000_000_000_000_000_000) × (d.cm ≤ 10_000_000_000_000_000_000)
deemed-under-most {m} {w} {under} {i} a b d h l g e =
    rw e (
      omega (arith, due-most b, h.most a.tm),
      omega (arith, deemed-under-cm-most a b (account_in m w a.tm) (get_or under i 0) (get_or under a.tm 0) (get_or under 0 0), h.most i, h.most a.tm, h.most 0, (h.ranges a.tm l).margin),
    )

-- a row after a release, after an unpledge, with a new margin is in range
pub released-in : (q : Row) (k : Kinds) → InRange q → InRange (with_allocated q (less_kinds q.allocated k))
released-in q k h = omega (arith, h)

pub unpledged-in : (q : Row) (y : ℕ) → InRange q → InRange (with_pledged q (q.pledged - y))
unpledged-in q y h = omega (arith, h)

pub margin-in : (q : Row) (y : ℕ) → InRange q → y ≤ ceiling → InRange (with_margin q y)
margin-in q y h l = omega (arith, h)

-- the same answer to the same table
pub as-amended : {m n : Marks} {w : List ℕ} {i k : ℕ} {x y : Row} {own table : List Line} {u : List ℕ} → y ≡ x → first table ≡ first own
    → Answers m w i x own k n u → Answers m w i y table k n u
as-amended ex eo a = record { number = a.number ∙ sym eo; puts = λ z. rw ex (a.puts z); stays = a.stays }
