-- Only for internal functions: no promise of a public call cites it.
use Rattle.std.specs.Prelude.{Bool, false, not, ◌&&◌, ◌||◌, ◌≡◌, List, [], ◌∷◌, ◌++◌, ℕ, ◌+◌, ◌-◌, ◌*◌, ◌≤◌, ◌<◌, min, eqb, leb, length, get_or, take, drop}
use Rattle.sums.specs.Sum.{only}
use Rattle.rows.specs.declared.Account.{Account}
use Rattle.rows.specs.declared.Book.{Book}
use Rattle.rows.specs.View.{View, free_of}
use Rattle.rows.specs.Rows.{ceiling}
use Rattle.book.specs.Facts.{Sound}
use Rattle.closeout.specs.declared.pays.Paid.{Paid}
use Rattle.closeout.specs.declared.pays.Both.{Both}
use Rattle.closeout.specs.declared.pays.Purses.{Purses}
use Rattle.closeout.specs.Round.{own, from_tm, from_cm, unpaid}
use Rattle.closeout.specs.Closing.{loss_at}

-- what an account pays in one round, and what its purse keeps after its own part
unfoldable pub paid_of : View → (ℕ → ℕ) → ℕ → Paid
paid_of v l i = record {
  own = own v l i;
  tm = from_tm v l i;
  cm = from_cm v l i;
  unpaid = unpaid v l i;
  left = v.collateral i - own v l i;
}

-- The same from its sort, its purse and what it is asked for, where its TM's purse has tm left, and the CM's has cm.

-- what its own purse can't pay
abbrev pub short_by : ℕ → ℕ → ℕ
short_by purse ask = ask - min ask purse

abbrev pub tm_by : ℕ → ℕ → ℕ → ℕ → ℕ
tm_by sort purse ask tm = only (eqb sort 2) (min (short_by purse ask) tm)

-- what neither its own purse nor the TM's can pay
abbrev pub asked_by : ℕ → ℕ → ℕ → ℕ → ℕ
asked_by sort purse ask tm = short_by purse ask - tm_by sort purse ask tm

unfoldable pub paid_by : ℕ → ℕ → ℕ → ℕ → ℕ → Paid
paid_by sort purse ask tm cm = record {
  own = min ask purse;
  tm = tm_by sort purse ask tm;
  cm = min (asked_by sort purse ask tm) cm;
  unpaid = asked_by sort purse ask tm - cm;
  left = purse - min ask purse;
}

-- what an account with so much deemed under it has for the rounds: own payment, what round one is asked for, and its purse in each
abbrev pub client_or_cp_by : Account → Bool
client_or_cp_by a = eqb a.sort 2 || eqb a.sort 3

abbrev pub own_payment_by : Account → ℕ → ℕ
own_payment_by a loss = only (client_or_cp_by a) (min loss a.collateral)

abbrev pub part₁by : Account → ℕ → ℕ
part₁by a loss = min loss a.margin - own_payment_by a loss

abbrev pub purse_by : Account → ℕ
purse_by a = only (not (client_or_cp_by a)) a.collateral

abbrev pub free_by : Account → ℕ → ℕ
free_by a under = only (not (client_or_cp_by a)) (free_of (a.margin + under) a.collateral)

-- what round two is asked for after round one paid p
abbrev pub part₂by : Account → ℕ → Paid → ℕ
part₂by a loss p = loss - own_payment_by a loss - (p.own + p.tm + p.cm)

-- an account's four amounts, from own payment and both rounds
abbrev pub both_of : ℕ → Paid → Paid → Both
both_of own_payment p q = record {
  own = own_payment + p.own + q.own;
  tm = p.tm + q.tm;
  cm = p.cm + q.cm;
  first = p;
  second = q;
}

-- both rounds of an account, where its TM's purse has tm left in round one and tm₂ in round two, and the CM's cm and cm₂
unfoldable pub rounds_by : Account → ℕ → ℕ → ℕ → ℕ → ℕ → ℕ → Both
rounds_by a loss under tm cm tm₂ cm₂ =
    both_of (own_payment_by a loss) (paid_by a.sort (purse_by a) (part₁by a loss) tm cm)
    (paid_by a.sort (free_by a under) (part₂by a loss (paid_by a.sort (purse_by a) (part₁by a loss) tm cm)) tm₂ cm₂)

-- what the CM has left for others in each round, after its own parts
unfoldable pub after_own : Account → ℕ → ℕ → Purses
after_own a loss under = record {
  left = a.collateral - min (min loss a.margin) a.collateral;
  free = free_of (a.margin + under) a.collateral - min (loss - min (min loss a.margin) a.collateral) (free_of (a.margin + under) a.collateral);
}

abbrev pub four_of : Both → List ℕ
four_of p = p.own ∷ p.tm ∷ p.cm ∷ p.second.unpaid ∷ []

-- the room with four amounts put in from place at on
abbrev pub put_at : List ℕ → ℕ → List ℕ → List ℕ
put_at room at amounts = take at room ++ amounts ++ drop (at + 4) room

-- account i's loss is good, where it is known who is live
abbrev pub good_in : List Bool → List ℕ → ℕ → Bool
good_in live losses i = leb (loss_at losses i) ceiling && (get_or live i false || eqb (loss_at losses i) 0)

-- the checks have passed
pub record Checked (b : Book) (losses room : List ℕ) : Type 0 where
  pub sound : Sound b
  pub each : length losses ≡ b.count
  pub wide : length room ≡ 4 * b.count
  pub small : (i : ℕ) → i < b.count → loss_at losses i ≤ ceiling
