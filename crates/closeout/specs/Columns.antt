-- Document 02, K1: "what was blocked for a client is deemed that client's, so a neighbour with a lower number can't use it up." The four
-- amounts of each account, for losses l over a view of a book: own payment of clients and CPs, and two rounds.
use Rattle.std.specs.Prelude.{Bool, not, ◌||◌, List, [], ◌∷◌, ◌++◌, ℕ, zero, suc, ◌+◌, ◌-◌, min}
use Rattle.sums.specs.Sum.{sum, only}
use Rattle.rows.specs.View.{View, is_client, is_cp, free}
use Rattle.closeout.specs.Round.{own, from_tm, from_cm}

abbrev pub is_client_or_cp : View → ℕ → Bool
is_client_or_cp v i = is_client v i || is_cp v i

-- "own payment of clients and CPs stays": "A client or CP pays the lesser of loss and collateral from its own."
abbrev pub own_payment : View → (ℕ → ℕ) → ℕ → ℕ
own_payment v l i = only (is_client_or_cp v i) (min (l i) (v.collateral i))

-- the same accounts, of which a TM and the CM have f to pay with in a round, and a client or CP has nothing more
abbrev pub with_purses : View → (ℕ → ℕ) → View
with_purses v f = record {
  count = v.count;
  sort = v.sort;
  tm = v.tm;
  collateral = λ i. only (not (is_client_or_cp v i)) (f i);
  margin = v.margin;
}

-- Round one pays "from the TM's and then the CM's collateral", all of it; the order is Round's. It never takes more than is blocked.
abbrev pub purses₁ : View → View
purses₁ v = with_purses v v.collateral

-- "for each account, the part of its loss within its margin (for a client or CP, less what its own paid, or 0)"
abbrev pub part₁ : View → (ℕ → ℕ) → ℕ → ℕ
part₁ v l i = min (l i) (v.margin i) - own_payment v l i

-- what round one pays of an account's loss
unfoldable pub paid₁ : View → (ℕ → ℕ) → ℕ → ℕ
paid₁ v l i = own (purses₁ v) (part₁ v l) i + from_tm (purses₁ v) (part₁ v l) i + from_cm (purses₁ v) (part₁ v l) i

-- Round two pays "from free collateral only, of the TM and then the CM", free as in a standing; "same order": the same Round.
abbrev pub purses₂ : View → View
purses₂ v = with_purses v (free v)

-- "what is left"
unfoldable pub part₂ : View → (ℕ → ℕ) → ℕ → ℕ
part₂ v l i = l i - own_payment v l i - paid₁ v l i

-- From own collateral. What a TM and the CM pay of their own losses stands here in both rounds.
unfoldable pub own_column : View → (ℕ → ℕ) → ℕ → ℕ
own_column v l i = own_payment v l i + own (purses₁ v) (part₁ v l) i + own (purses₂ v) (part₂ v l) i

-- From the TM's. "The TM column of a TM, a CP and the CM is 0"
unfoldable pub tm_column : View → (ℕ → ℕ) → ℕ → ℕ
tm_column v l i = from_tm (purses₁ v) (part₁ v l) i + from_tm (purses₂ v) (part₂ v l) i

-- From the CM's. "the CM's own payment stands in its first column and its third is 0"
unfoldable pub cm_column : View → (ℕ → ℕ) → ℕ → ℕ
cm_column v l i = from_cm (purses₁ v) (part₁ v l) i + from_cm (purses₂ v) (part₂ v l) i

-- "The rest is uncovered."
unfoldable pub uncovered : View → (ℕ → ℕ) → ℕ → ℕ
uncovered v l i = l i - own_column v l i - tm_column v l i - cm_column v l i

-- "The four amounts are: from own collateral, from the TM's, from the CM's, uncovered."
unfoldable pub four : View → (ℕ → ℕ) → ℕ → List ℕ
four v l i = own_column v l i ∷ tm_column v l i ∷ cm_column v l i ∷ uncovered v l i ∷ []

-- account by account, those below n
unfoldable pub rows_to : (ℕ → List ℕ) → ℕ → List ℕ
rows_to f zero = []
rows_to f (suc n) = rows_to f n ++ f n

-- "The total left uncovered is given beside the list."
abbrev pub total : View → (ℕ → ℕ) → ℕ
total v l = sum v.count (uncovered v l)
