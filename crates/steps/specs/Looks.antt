-- K2's look and K3's needs at three places, on the words in place: only for internal functions.
use Rattle.std.specs.Prelude.{◌≡◌, ℕ, ◌+◌, ◌*◌, ◌<◌, Bool, true, false, ◌&&◌, ◌||◌, List, set, ◌==◌, slice_index, slice_index_or, slice_set}
use Rattle.rows.specs.declared.Account.{Account}
use Rattle.rows.specs.Facts.{InRange}
use Rattle.rows.specs.Modes.{mode_after}
use Rattle.rows.specs.Inner.{account_as}
use Rattle.table.specs.declared.Marks.{Marks}
use Rattle.table.specs.Words.{row_in}
use Rattle.table.specs.Facts.{Sized}
use Rattle.rows.specs.DeemedUnder.{need_to_keep}
use Rattle.codes.specs.declared.settling.DeemedUnderAfter.{DeemedUnderAfter}
use Rattle.codes.specs.Own.{account_in, deemed_under_at, deemed_under_after}

-- what a look, and the needs brought up to date, ask of the words
pub record Placed (m : Marks) (w : List ℕ) : Type 0 where
  pub size : Sized m w
  pub ranges : (j : ℕ) → j < 256 → InRange (row_in m w j)
  pub tms : (j : ℕ) → j < 256 → slice_index m.tm j < 256

-- the account named and its TM's, before the record, the place of the first, and what is deemed under each of them and under the CM
pub record Past : Type 0 where
  pub place : ℕ
  pub own : Account
  pub its : Account
  pub under : ℕ
  pub clients : ℕ
  pub all : ℕ

-- what stood before the record that names account a
pub record PastOf (m : Marks) (w needs : List ℕ) (a : ℕ) (x : Past) : Type 0 where
  pub inside : x.place < 256
  pub named : a < 256 → x.place ≡ a
  pub own : x.own ≡ account_in m w x.place
  pub its : x.its ≡ account_in m w x.own.tm
  pub under : x.under ≡ deemed_under_at w needs x.place
  pub clients : x.clients ≡ deemed_under_at w needs x.own.tm
  pub all : x.all ≡ deemed_under_at w needs 0

-- two places of a list put anew, its TM's and the CM's
abbrev pub deemed_under_put : List ℕ → ℕ → DeemedUnderAfter → List ℕ
deemed_under_put excess t d = slice_set (slice_set excess t d.tm) 0 d.cm

-- the list of what is in excess, brought up to date
abbrev pub excess_after : List ℕ → ℕ → Account → Account → Account → List ℕ
excess_after excess i old new its =
    deemed_under_put excess old.tm (deemed_under_after (slice_index excess i) (slice_index excess old.tm) (slice_index excess 0) (account_as true old) (account_as true new) (account_as true its))

abbrev pub excess_since : Marks → List ℕ → List ℕ → Past → List ℕ
excess_since m w excess x = excess_after excess x.place x.own (account_in m w x.place) x.its

-- a look at place j
abbrev pub look_in : Marks → List ℕ → List ℕ → ℕ → Bool → Bool
look_in m w excess j before =
    (j == 0 || (account_in m w j).sort == 1) && mode_after (10 * (account_in m w j).margin + slice_index excess j) (account_in m w j).collateral before

-- the modes with three places looked at
abbrev pub looked_on : Marks → List ℕ → List ℕ → List Bool → List Bool → ℕ → ℕ → List Bool
looked_on m w excess before modes i t =
    slice_set (slice_set (slice_set modes i (look_in m w excess i (slice_index_or before i false))) t (look_in m w excess t (slice_index_or before t false))) 0 (look_in m w excess 0 (slice_index_or before 0 false))

abbrev pub looked_since : Marks → List ℕ → List ℕ → List Bool → List Bool → Past → List Bool
looked_since m w excess before modes x = looked_on m w (excess_since m w excess x) before modes x.place x.own.tm

-- what is deemed under its TM and under the CM after the record
abbrev pub deemed_under_since : Marks → List ℕ → Past → DeemedUnderAfter
deemed_under_since m w x = deemed_under_after x.under x.clients x.all x.own (account_in m w x.place) x.its

-- K3, "bring it up to date from the one row that changed": the kept needs with three places put anew
abbrev pub needed_since : Marks → List ℕ → List ℕ → Past → List ℕ
needed_since m w needs x =
    set (slice_set (slice_set needs x.place (need_to_keep (account_in m w x.place) x.under)) x.own.tm (need_to_keep x.its (deemed_under_since m w x).tm))
    0 ((account_in m w 0).margin + (deemed_under_since m w x).cm)
