-- Kinds of amount 0 pass each test and stay: where one kind alone is named, that kind's words decide and are put.
use mathlib.Core.Bool.{true, not, and-true}
use mathlib.Core.List.{List}
use mathlib.Core.Path.{◌≡◌, refl, sym, ap, subst, ◌∙◌}
use Prim.Native.Nat.{ℕ, ◌+◌, ◌-◌, ◌*◌, ◌≤◌, ◌<◌}
use native.Mathlib.Omega.{arith}
use lib.Dec.{leb}
use lib.ListN.{set}
use borrow.Author.Tests.{le-leb, lt-leb}
use Rattle.sums.specs.Choice.{pick}
use Rattle.rows.specs.declared.Kinds.{Kinds}
use Rattle.rows.specs.declared.Row.{Row}
use Rattle.rows.specs.Rows.{ceiling, plus_kinds, less_kinds, with_received, with_allocated}
use Rattle.rows.specs.Ranges.{ceilings, kinds_capped, kinds_within}
use Rattle.rows.specs.Facts.{InRange, KindsWithin}
use Rattle.table.specs.declared.Marks.{Marks}
use Rattle.table.specs.Words.{word_at, row_in}
use Rattle.table.specs.Facts.{Sized}
use Rattle.table.specs.Inner.{Anew}
use Rattle.table.proofs.InPlace.{amount-put}
use Rattle.codes.specs.declared.one_kind.Kind.{Kind}
use Rattle.codes.specs.declared.one_kind.Kind.TheVariants.{Cash, Deposits, Guarantees, Securities}
use Rattle.codes.specs.Own.{Receives, HandsBack, Allocates}
use Rattle.codes.specs.OneKind.{number_of, kind_in, with_kind, only_kind}
use Rattle.codes.proofs.Made.{first-line-holds, first-line-fails, no-line-gives-0, opens_not, opened-answers}

-- ---- one kind among four

plus-zero : (n : ℕ) → n + 0 ≡ n
plus-zero n = omega arith

less_zero : (n : ℕ) → n - 0 ≡ n
less_zero n = omega arith

zero-below : (n : ℕ) → leb 0 n ≡ true
zero-below n = le-leb 0 n (omega arith)

pub put_back : (k : Kinds) (kind : Kind) (x : ℕ) → kind_in (with_kind k kind x) kind ≡ x
put_back k Cash x = refl
put_back k Deposits x = refl
put_back k Guarantees x = refl
put_back k Securities x = refl

pub plus-only : (k : Kinds) (kind : Kind) (x : ℕ) → plus_kinds k (only_kind kind x) ≡ with_kind k kind (kind_in k kind + x)
plus-only k Cash x = simp plus-zero
plus-only k Deposits x = simp plus-zero
plus-only k Guarantees x = simp plus-zero
plus-only k Securities x = simp plus-zero

pub less-only : (k : Kinds) (kind : Kind) (x : ℕ) → less_kinds k (only_kind kind x) ≡ with_kind k kind (kind_in k kind - x)
less-only k Cash x = simp less_zero
less-only k Deposits x = simp less_zero
less-only k Guarantees x = simp less_zero
less-only k Securities x = simp less_zero

pub within-only : (k : Kinds) (kind : Kind) (x : ℕ) → kinds_within (only_kind kind x) k ≡ leb x (kind_in k kind)
within-only k Cash x = simp (zero-below, and-true)
within-only k Deposits x = simp (zero-below, and-true)
within-only k Guarantees x = simp (zero-below, and-true)
within-only k Securities x = simp (zero-below, and-true)

pub capped-with : (k : Kinds) (kind : Kind) (x : ℕ) → KindsWithin k ceilings → kinds_capped (with_kind k kind x) ≡ leb x ceiling
capped-with k Cash x h = rw (le-leb _ _ h.1, le-leb _ _ h.2, le-leb _ _ h.3) (simp and-true)
capped-with k Deposits x h = rw (le-leb _ _ h.0, le-leb _ _ h.2, le-leb _ _ h.3) (simp and-true)
capped-with k Guarantees x h = rw (le-leb _ _ h.0, le-leb _ _ h.1, le-leb _ _ h.3) (simp and-true)
capped-with k Securities x h = rw (le-leb _ _ h.0, le-leb _ _ h.1, le-leb _ _ h.2)

pub kind-most : (k : Kinds) (kind : Kind) → KindsWithin k ceilings → kind_in k kind ≤ ceiling
kind-most k Cash h = h.0
kind-most k Deposits h = h.1
kind-most k Guarantees h = h.2
kind-most k Securities h = h.3

pub only-most : (kind : Kind) (x : ℕ) → KindsWithin (only_kind kind x) ceilings → x ≤ ceiling
only-most kind x h = subst (λ n. n ≤ ceiling) (put_back _ kind x) (kind-most (only_kind kind x) kind h)

pub kind-less : (a b : Kinds) (kind : Kind) → kind_in (less_kinds a b) kind ≡ kind_in a kind - kind_in b kind
kind-less a b Cash = refl
kind-less a b Deposits = refl
kind-less a b Guarantees = refl
kind-less a b Securities = refl

-- ---- its words

module _ (m : Marks) (w : List ℕ) (i : ℕ) where
  abbrev row : Row
  row = row_in m w i

  pub received-word : (kind : Kind) → kind_in row.received kind ≡ word_at w (number_of kind) i
  received-word Cash = refl
  received-word Deposits = refl
  received-word Guarantees = refl
  received-word Securities = refl

  pub allocated-word : (kind : Kind) → kind_in row.allocated kind ≡ word_at w (4 + number_of kind) i
  allocated-word Cash = refl
  allocated-word Deposits = refl
  allocated-word Guarantees = refl
  allocated-word Securities = refl

  module _ (s : Sized m w) (l : i < 256) where
    received-anew : (kind : Kind) (x : ℕ) → Anew m w i (with_received row (with_kind row.received kind x)) m (set w (256 * number_of kind + i) x)
    unfolding pick
    received-anew Cash x = amount-put m w i s l 0 x (omega arith)
    received-anew Deposits x = amount-put m w i s l 1 x (omega arith)
    received-anew Guarantees x = amount-put m w i s l 2 x (omega arith)
    received-anew Securities x = amount-put m w i s l 3 x (omega arith)

    allocated-anew : (kind : Kind) (x : ℕ) → Anew m w i (with_allocated row (with_kind row.allocated kind x)) m (set w (256 * (4 + number_of kind) + i) x)
    unfolding pick
    allocated-anew Cash x = amount-put m w i s l 4 x (omega arith)
    allocated-anew Deposits x = amount-put m w i s l 5 x (omega arith)
    allocated-anew Guarantees x = amount-put m w i s l 6 x (omega arith)
    allocated-anew Securities x = amount-put m w i s l 7 x (omega arith)

    pub released-anew : (kind : Kind) (x y : ℕ) → y ≡ kind_in row.allocated kind - x → (u : List ℕ) → u ≡ set w (256 * (4 + number_of kind) + i) y
        → Anew m w i (with_allocated row (less_kinds row.allocated (only_kind kind x))) m u
    released-anew kind x y ey u e = rw (e, less-only row.allocated kind x, ← ey) (allocated-anew kind y)

    -- ---- what each code's function answers; v and a are the words that it read
    module _ (kind : Kind) (x v : ℕ) (ev : v ≡ word_at w (number_of kind) i) where
      received : kind_in row.received kind ≡ v
      received = received-word kind ∙ sym ev

      module _ (h : InRange row) where
        pub word-most : v ≤ ceiling
        word-most = subst (λ n. n ≤ ceiling) received (kind-most row.received kind h.received)

        capped : kinds_capped (plus_kinds row.received (only_kind kind x)) ≡ leb (v + x) ceiling
        capped = ap kinds_capped (plus-only row.received kind x ∙ ap (λ n. with_kind row.received kind (n + x)) received) ∙ capped-with row.received kind (v + x) h.received

        pub receives-not : ceiling < v + x → Receives m w i (only_kind kind x) 10 w
        receives-not c = opens_not 10 (first-line-holds 10 _ _ (ap not (capped ∙ lt-leb _ _ c))) (λ z. omega arith)

        pub receives-only : v + x ≤ ceiling → (u : List ℕ) → u ≡ set w (256 * number_of kind + i) (v + x) → Receives m w i (only_kind kind x) 0 u
        receives-only c u e = opened-answers (first-line-fails 10 _ _ 0 (ap not (capped ∙ le-leb _ _ c)) no-line-gives-0)
            (rw (e, plus-only row.received kind x, received) (received-anew kind (v + x)))

      module _ (a : ℕ) (ea : a ≡ word_at w (4 + number_of kind) i) where
        allocated : kind_in row.allocated kind ≡ a
        allocated = allocated-word kind ∙ sym ea

        left : kinds_within (only_kind kind x) (less_kinds row.received row.allocated) ≡ leb x (v - a)
        left = within-only _ kind x ∙ ap (leb x) (kind-less row.received row.allocated kind ∙ ap (λ n. n - kind_in row.allocated kind) received ∙ ap (λ n. v - n) allocated)

        pub hands-back-not : v - a < x → HandsBack m w i (only_kind kind x) 11 w
        hands-back-not c = opens_not 11 (first-line-holds 11 _ _ (ap not (left ∙ lt-leb _ _ c))) (λ z. omega arith)

        pub hands-back-only : x ≤ v - a → (u : List ℕ) → u ≡ set w (256 * number_of kind + i) (v - x) → HandsBack m w i (only_kind kind x) 0 u
        hands-back-only c u e = opened-answers (first-line-fails 11 _ _ 0 (ap not (left ∙ le-leb _ _ c)) no-line-gives-0)
            (rw (e, less-only row.received kind x, received) (received-anew kind (v - x)))

        pub allocates-not : v - a < x → Allocates m w i (only_kind kind x) 11 w
        allocates-not c = opens_not 11 (first-line-holds 11 _ _ (ap not (left ∙ lt-leb _ _ c))) (λ z. omega arith)

        pub allocates-only : x ≤ v - a → (u : List ℕ) → u ≡ set w (256 * (4 + number_of kind) + i) (a + x) → Allocates m w i (only_kind kind x) 0 u
        allocates-only c u e = opened-answers (first-line-fails 11 _ _ 0 (ap not (left ∙ le-leb _ _ c)) no-line-gives-0)
            (rw (e, plus-only row.allocated kind x, allocated) (allocated-anew kind (a + x)))
