-- K2's look after one row's amounts change, over any view: three places move, the row's, its TM's and the CM's. After an opening none does.
use mathlib.Core.Path.{◌≡◌, refl, sym, ◌∙◌}
use mathlib.Core.Bool.{Bool, true, false}
use mathlib.Core.List.{List}
use Prim.Native.Nat.{ℕ, ◌≤◌, ◌<◌}
use native.Mathlib.Omega.{arith}
use native.Mathlib.Decide.{ℕ_discrete, dec_lt}
use lib.ListN.{set}
use Rattle.sums.proofs.Lists.{list_to-three}
use Rattle.rows.specs.View.{View, is_client_of}
use Rattle.rows.specs.Facts.{Shaped, NoneBeyond}
use Rattle.rows.specs.Modes.{use_of, look_at, looked}
use Rattle.rows.specs.Inner.{Slot, in_tenths}
use Rattle.rows.proofs.BySort.{client-sort, client-tm}
use Rattle.rows.proofs.Tenths.{use-CM, use-TM, shaped_in}
use Rattle.rows.proofs.Looks.{look-same, no_mode, no-use}
use Rattle.book.proofs.Differences.{RowChanged, changed-in, need_tm-aside}
use Rattle.book.proofs.Opens.{Opened, opened_in, need_tm-same, need_tm-new, need_cm-same}

-- row k changes, and p is the place of the TM that it names
module _ (v w : View) (k : ℕ) (o : RowChanged v w k) (s : Shaped v) (most : v.count ≤ 256) (p : ℕ) (sl : Slot (v.tm k) p) where
  -- row k is no client of an account that is not at p
  pub client-apart : (i : ℕ) → (i ≡ p → ⊥) → is_client_of v i k ≡ false
  client-apart i n = by (is_client_of v i k) refl
    where
      by : (x : Bool) → is_client_of v i k ≡ x → is_client_of v i k ≡ false
      by true e =
          let its = s.tms k o.inside (client-sort v i k e) in
          absurd (n (sym (client-tm v i k e) ∙ sym (sl.named (omega (arith, o.inside)))))
      by false e = e

  pub use-aside : (i : ℕ) → (i ≡ k → ⊥) → (i ≡ p → ⊥) → (i ≡ 0 → ⊥) → use_of w i ≡ use_of v i
  use-aside i n m z = use-TM w i z ∙ need_tm-aside (in_tenths v) (in_tenths w) k (changed-in true o) i n (client-apart i m) ∙ sym (use-TM v i z)

  pub look-aside : (modes : List Bool) (i : ℕ) → (i ≡ k → ⊥) → (i ≡ p → ⊥) → (i ≡ 0 → ⊥) → look_at w modes i ≡ look_at v modes i
  look-aside modes i n m z = rw (o.sort i, use-aside i n m z, o.collateral i n)

  -- so a look after is the look before with three places put anew
  pub look-put : (modes : List Bool)
      → looked w modes ≡ set (set (set (looked v modes) k (look_at w modes k)) p (look_at w modes p)) 0 (look_at w modes 0)
  unfolding looked
  look-put modes =
      list_to-three (look_at v modes) (look_at w modes) 256 k p 0 (omega (arith, o.inside)) sl.inside (omega arith) (λ i l. look-aside modes i)

module _ (v w : View) (o : Opened v w) (s : Shaped v) (none-v : NoneBeyond v) (none-w : NoneBeyond w) (modes : List Bool) where
  use-same : (i : ℕ) → i < v.count → use_of w i ≡ use_of v i
  use-same i l = by (ℕ_discrete i 0)
    where
      by : Dec (i ≡ 0) → use_of w i ≡ use_of v i
      by (yes e) = rw e (use-CM w ∙ need_cm-same (in_tenths v) (in_tenths w) (opened_in true o) (shaped_in true s) ∙ sym (use-CM v))
      by (no e) = use-TM w i e ∙ need_tm-same (in_tenths v) (in_tenths w) (opened_in true o) (shaped_in true s) i l ∙ sym (use-TM v i e)

  open-look : (i : ℕ) → look_at w modes i ≡ look_at v modes i
  open-look i = by (dec_lt i v.count) (ℕ_discrete i v.count)
    where
      far : v.count ≤ i → i ≡ 0 → ⊥
      far l e = omega (arith, s.some)

      -- nothing is used of an account just opened
      new : i ≡ v.count → use_of w i ≡ 0
      new e = use-TM w i (far (omega arith)) ∙ rw e (need_tm-new (in_tenths v) (in_tenths w) (opened_in true o) (shaped_in true s))

      by : Dec (i < v.count) → Dec (i ≡ v.count) → look_at w modes i ≡ look_at v modes i
      by (yes l) d = rw (o.sort i l, use-same i l, o.collateral i l)
      by (no l) (yes e) = no-use w modes i (λ h. new e) ∙ sym (no_mode v modes i (far (omega arith)) (none-v i (omega arith)))
      by (no l) (no e) = no_mode w modes i (far (omega arith)) (none-w i (omega (arith, o.count))) ∙ sym (no_mode v modes i (far (omega arith)) (none-v i (omega arith)))

  pub look-open : looked w modes ≡ looked v modes
  look-open = look-same v w modes (λ i l. open-look i)
