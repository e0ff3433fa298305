-- Only for internal functions: no promise of a public call cites it.
use Rattle.std.specs.Prelude.{◌≡◌, Bool, true, false, List, ℕ, ◌+◌, ◌*◌, ◌≤◌, ◌<◌, eqb, leb, length, get_or}
use Rattle.sums.specs.Sum.{sum, only}
use Rattle.sums.specs.Choice.{pick}
use Rattle.rows.specs.declared.Account.{Account}
use Rattle.rows.specs.declared.Book.{Book}
use Rattle.rows.specs.View.{View, is_client_of, own_deemed, deemed_tm, members}
use Rattle.rows.specs.Rows.{places, row_at}
use Rattle.rows.specs.Facts.{InRange}
use Rattle.rows.specs.DeemedUnder.{account_at, need_to_keep}

-- what the sums need of a book so that none of them passes a word: part of `Sound`
pub record Ranged (b : Book) : Type 0 where
  pub table : places b ≡ 256
  pub most : b.count ≤ 256
  pub ranges : (i : ℕ) → i < b.count → InRange (row_at b i)

-- s is the place of a TM, and some place where the table has no such place
pub record Slot (tm s : ℕ) : Type 0 where
  pub inside : s < 256
  pub named : tm < 256 → s ≡ tm

-- what t's clients with a number below n are deemed
unfoldable pub clients_below : View → ℕ → ℕ → ℕ
clients_below v t n = sum n (λ i. only (is_client_of v t i) (own_deemed v i))

-- what the TMs and CPs with a number below n are deemed
unfoldable pub members_below : View → ℕ → ℕ
members_below v n = sum n (members v (deemed_tm v) (own_deemed v))

-- the list holds what each account's clients are deemed
pub record ClientSums (v : View) (under : List ℕ) : Type 0 where
  pub size : length under ≡ 256
  pub each : (t : ℕ) → t < 256 → get_or under t 0 ≡ clients_below v t v.count

-- the need to keep at place i, where so much is deemed under the account
abbrev pub kept_with : View → ℕ → ℕ → ℕ
kept_with v i under = pick (leb v.count i) 0 (pick (eqb i 0) (v.margin 0 + under) (need_to_keep (account_at v i) under))

-- so many of an amount in tenths, and the amount itself otherwise
abbrev pub times : Bool → ℕ → ℕ → ℕ
times true n x = n * x
times false n x = x

-- an account in tenths, ten margins against nine collaterals, or as it is
abbrev pub account_as : Bool → Account → Account
account_as tenths a = record { sort = a.sort; tm = a.tm; margin = times tenths 10 a.margin; collateral = times tenths 9 a.collateral }

-- all accounts in tenths, or as they are
abbrev pub view_as : Bool → View → View
view_as tenths v = record {
  count = v.count;
  sort = v.sort;
  tm = v.tm;
  collateral = λ i. times tenths 9 (v.collateral i);
  margin = λ i. times tenths 10 (v.margin i);
}

-- in tenths: K2's use is the need in this view, and its excess what is deemed (laws of rows.Tenths)
abbrev pub in_tenths : View → View
in_tenths v = view_as true v
